use Rattle.std.proofs.Common.{ℕ, ◌<◌, ◌≤◌, ◌∙◌, true, false, ap, subst}
use Rattle.answerbox.specs.Calls.{CallTable}
use Rattle.search_core.proofs.Going.{told}
use Rattle.schedule_search.proofs.Losses.{one_more, none_of_all}
use Rattle.schedule_search.proofs.lost_calls.has_lost_call.Goals as goal

pub loop-n-preserved : goal.loop-n-preserved
loop-n-preserved c =
    one_more c.args.replay.now.state c.loop-n.n c.loop-n.invariant
    (c.in_ok-lost.ensures.answered (told _ c.in-Some.lost false c.in-Some.is c.if-lost.false))

pub returns-then-lost-clause-lost : goal.returns-then-lost-clause-lost
returns-then-lost-clause-lost c =
    let l : c.loop-n.n < c.args.replay.now.state.kernel.calls.next_number =
    subst (λ (z : ℕ). c.loop-n.n < z) (c.next_number-next.ensures.number ∙ ap (λ (z : CallTable). z.next_number) c.all_calls.ensures) c.loop-n-test.true in
    λ is. (c.loop-n.n, l, c.in_ok-lost.ensures.lost (told _ c.in-Some.lost true c.in-Some.is c.if-lost.true))

pub returns-clause-none : goal.returns-clause-none
returns-clause-none c =
    let l : c.args.replay.now.state.kernel.calls.next_number ≤ c.loop-n.n =
    subst (λ (z : ℕ). z ≤ c.loop-n.n) (c.next_number-next.ensures.number ∙ ap (λ (z : CallTable). z.next_number) c.all_calls.ensures) c.loop-n-test.false in
    λ is. none_of_all c.args.replay.now.state c.loop-n.n l c.loop-n.invariant
