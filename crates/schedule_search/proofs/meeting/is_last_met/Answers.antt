use Rattle.std.proofs.Common.{◌≡◌, true, false, sym, ◌∙◌, subst}
use Rattle.std.specs.Prelude.{Some, IfOk}
use Rattle.search_goals.specs.GoalText.{Asked, said}
use Rattle.schedule_search.specs.Meeting.{IsMet}
use Rattle.schedule_search.proofs.Turns.{loses_call}
use Rattle.schedule_search.proofs.Visiting.{last_met, last_unmet}
use Rattle.schedule_search.proofs.meeting.is_last_met.Goals as goal

pub returns-then-not-may_precede-clause-met : goal.returns-then-not-may_precede-clause-met
returns-then-not-may_precede-clause-met c =
    subst
    (λ (z : Asked). IfOk c.has_lost_call.result
    (λ o. o ≡ Some true → IsMet z c.args.replay.now.state c.args.told.now.entries))
    (sym (loses_call (said c.args.problem.now.goal.now) (sym c.may_precede.ensures ∙ c.if-not-may_precede.true)))
    c.has_lost_call.ensures.lost

pub returns-then-not-may_precede-clause-unmet : goal.returns-then-not-may_precede-clause-unmet
returns-then-not-may_precede-clause-unmet c =
    subst
    (λ (z : Asked). IfOk c.has_lost_call.result
    (λ o. o ≡ Some false → IsMet z c.args.replay.now.state c.args.told.now.entries → ⊥))
    (sym (loses_call (said c.args.problem.now.goal.now) (sym c.may_precede.ensures ∙ c.if-not-may_precede.true)))
    c.has_lost_call.ensures.none

pub returns-clause-met : goal.returns-clause-met
returns-clause-met c =
    last_met (said c.args.problem.now.goal.now) c.args.replay.now.state c.args.told.now.entries c.in_ok-met.met
    (sym c.may_precede.ensures ∙ c.if-not-may_precede.false) c.in_ok-met.ensures

pub returns-clause-unmet : goal.returns-clause-unmet
returns-clause-unmet c =
    last_unmet (said c.args.problem.now.goal.now) c.args.replay.now.state c.args.told.now.entries c.in_ok-met.met
    (sym c.may_precede.ensures ∙ c.if-not-may_precede.false) c.in_ok-met.ensures
