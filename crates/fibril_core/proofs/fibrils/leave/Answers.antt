use Rattle.std.proofs.Common.{rules, ◌≡◌, length, sym, ◌∙◌}
use Rattle.std.specs.VecDeque.{deque_len}
use Rattle.fibril_core.proofs.Searches.{on_some}
use Rattle.fibril_core.proofs.Queues.{leaves, stands}
use Rattle.fibril_core.proofs.fibrils.leave.Goals as goal

pub returns-in-Some-place_in-clause-queue : goal.returns-in-Some-place_in-clause-queue
returns-in-Some-place_in-clause-queue c =
    let q = c.args.waiting.now.items in
    let gone = leaves c.args.live.now.order c.args.f q c.in-Some-place_in.i (sym c.place_in.ensures ∙ c.in-Some-place_in.is) c.requires.queue in
    let same : length q ≡ deque_len c.args.waiting.now = search rules in
    rw (on_some c.remove.result (c.remove.ensures.variant.1 (rw (← same) gone.0)) c.remove.ensures.items) gone.1

pub returns-in_default-place_in-clause-queue : goal.returns-in_default-place_in-clause-queue
returns-in_default-place_in-clause-queue c =
    absurd (stands c.args.live.now.order c.args.f c.args.waiting.now.items c.in-Some.why (sym c.why.ensures ∙ c.in-Some.is) (sym c.waits.ensures ∙ c.if-waits.true) c.requires.queue (sym c.place_in.ensures ∙ c.in_default-place_in.is))
