use Rattle.std.proofs.Common.{rules, ◌≡◌, ◌<◌, length, sym, arith}
use Rattle.std.specs.VecDeque.{deque_len}
use Rattle.std.proofs.lemmas.List.Sorted.{answers_always}
use Rattle.fibril_core.proofs.ConnIndex.{rising_here, rising_nowhere}
use Rattle.fibril_core.proofs.conns.place_among_rising.Goals as goal

pub returns-in-Ok-clause-place : goal.returns-in-Ok-clause-place
returns-in-Ok-clause-place c =
    let equal = c.in-Ok.ensures.position (λ x. x.fibril.0) (answers_always _ _ _ (λ f a r g called. search rules)) in
    let same : length c.args.conns.now.items ≡ deque_len c.args.conns.now = search rules in
    let bound = c.in-Ok.ensures.bound in
    let less : c.in-Ok.i < length c.args.conns.now.items = omega arith in
    sym (rising_here c.args.conns.now.items c.args.f c.in-Ok.i c.requires.rise less equal)

pub returns-in-Err-clause-place : goal.returns-in-Err-clause-place
returns-in-Err-clause-place c =
    let parts = c.in-Err.ensures.position (λ x. x.fibril.0) (answers_always _ _ _ (λ f a r g called. search rules)) in
    sym (rising_nowhere c.args.conns.now.items c.args.f c.in-Err.field-0 c.requires.rise parts)
