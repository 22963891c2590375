use Rattle.std.proofs.Common.{rules, ◌≡◌, ◌<◌, length, Some, refl, ap, sym, ◌∙◌, arith}
use Rattle.std.specs.VecDeque.{deque_len}
use Rattle.std.proofs.lemmas.Option.{slice_get-get_or}
use Rattle.fibril_core.specs.Fibrils.{FibrilsState, current}
use Rattle.fibril_core.proofs.Queues.{queue_current, none_in_front}
use Rattle.fibril_core.proofs.fibrils.Fibrils.current.Goals as goal

pub returns-in-Some : goal.returns-in-Some
returns-in-Some c =
    let q = c.self.inside.ready.items in
    let same : length q ≡ deque_len c.self.inside.ready = search rules in
    let some : 0 < deque_len c.self.inside.ready = c.in-Some.ensures.variant.0 refl in
    let less : 0 < length q = omega arith in
    ap Some c.in-Some.ensures.lookup ∙ sym (slice_get-get_or q 0 c.in-Some.f.now less)
    ∙ sym (queue_current c.self.inside.live.order q _ _ c.self.invariant)
    ∙ ap (λ (s : FibrilsState). current s.order) c.self.view_is

pub returns-in-None : goal.returns-in-None
returns-in-None c =
    let q = c.self.inside.ready.items in
    let same : length q ≡ deque_len c.self.inside.ready = search rules in
    sym (none_in_front q (λ h. cc (c.in-None.ensures.variant.1 (rw (← same) h))))
    ∙ sym (queue_current c.self.inside.live.order q _ _ c.self.invariant)
    ∙ ap (λ (s : FibrilsState). current s.order) c.self.view_is
