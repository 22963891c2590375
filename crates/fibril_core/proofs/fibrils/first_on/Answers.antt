use Rattle.std.proofs.Common.{rules, ◌≡◌, length, refl, sym, ◌∙◌, arith}
use Rattle.std.specs.VecDeque.{deque_len}
use Rattle.std.proofs.lemmas.Option.{slice_get_read}
use Rattle.fibril_core.proofs.Queues.{is_on, not_on, one_further, queue_first, queue_none}
use Rattle.fibril_core.proofs.fibrils.first_on.Goals as goal

pub returns-then-eq : goal.returns-then-eq
returns-then-eq c =
    let q = c.args.waiting.now.items in
    let same : length q ≡ deque_len c.args.waiting.now = search rules in
    let end = c.len-i-end.ensures in
    let there = slice_get_read q (length q) c.loop-i.i c.index-f.result.now refl (omega arith) c.index-f.ensures in
    let on = is_on _ (λ v w. search rules) c.why.result c.args.why (sym c.if-eq.ensures) in
    sym (queue_first c.args.live.now.order c.args.why q c.loop-i.i c.index-f.result.now c.requires.sound c.requires.queue c.requires.waits there (sym c.why.ensures ∙ on) c.loop-i.invariant)

pub loop-i-preserved : goal.loop-i-preserved
loop-i-preserved c =
    let q = c.args.waiting.now.items in
    let same : length q ≡ deque_len c.args.waiting.now = search rules in
    let end = c.len-i-end.ensures in
    let there = slice_get_read q (length q) c.loop-i.i c.index-f.result.now refl (omega arith) c.index-f.ensures in
    let off = not_on _ (λ v w. search rules) c.why.result c.args.why (sym c.if-eq.ensures) in
    one_further c.args.live.now.order c.args.why q c.loop-i.i c.index-f.result.now there (λ h. off (c.why.ensures ∙ h)) c.loop-i.invariant

pub returns : goal.returns
returns c =
    let q = c.args.waiting.now.items in
    let o = c.args.live.now.order in
    let same : length q ≡ deque_len c.args.waiting.now = search rules in
    let end = c.len-i-end.ensures in
    sym (queue_none o c.args.why q c.requires.sound c.requires.queue c.requires.waits (record { before = λ k g less there. c.loop-i.invariant.before k g (omega arith) there }))
