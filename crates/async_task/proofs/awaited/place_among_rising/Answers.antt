use Rattle.std.proofs.Common.{rules, ◌≡◌, length, sym, arith}
use Rattle.std.specs.VecDeque.{deque_len}
use Rattle.std.proofs.lemmas.Cmp.{ranked}
use Rattle.std.proofs.lemmas.List.Sorted.{answers_always}
use Rattle.async_task.proofs.Rising.{found_nowhere}
use Rattle.async_task.proofs.awaited.place_among_rising.Goals as goal

pub returns-in-Ok : goal.returns-in-Ok
returns-in-Ok c =
    let equal =
    c.in-Ok.ensures.position (λ w. w.call.0)
    (answers_always _ _ _ (λ f a r g called. search rules)) in
    let same : length c.args.calls.now.items ≡ deque_len c.args.calls.now = search rules in
    let bound = c.in-Ok.ensures.bound in
    (omega arith, λ d. ranked _ c.args.call.0 _ (sym (equal d)))

pub returns-in-Err : goal.returns-in-Err
returns-in-Err c =
    found_nowhere (λ w. w.call.0) c.args.calls.now.items c.args.call.0 c.in-Err.field-0
    c.requires.rise
    (c.in-Err.ensures.position (λ w. w.call.0)
    (answers_always _ _ _ (λ f a r g called. search rules)))
