use Rattle.std.proofs.Common.{rules, ◌≡◌, ◌<◌, length, arith}
use Rattle.std.specs.VecDeque.{deque_len}
use Rattle.std.proofs.lemmas.Bool.Decides.{nat_tests}
use Rattle.std.proofs.lemmas.List.Quantifiers.{all_pairs_push}
use Rattle.async_task.proofs.Rising.{below_new}
use Rattle.async_task.proofs.awaited.rise_with.Goals as goal

pub returns-then-rising : goal.returns-then-rising
returns-then-rising c less =
    let ws = c.args.calls.now.items in
    let w = c.args.awaited in
    let last = c.in-Some.last.now in
    let rise = c.requires.rise c.if-rising.true in
    let same : length ws ≡ deque_len c.args.calls.now = search rules in
    let below : last.call.0 < w.call.0 = grind (arith, nat_tests, less) in
    all_pairs_push (λ u v. u.call.0 < v.call.0) ws w rise
    (below_new (λ v. v.call.0) ws w last rise (rw same (rw c.in-Some.ensures.lookup at below)))
