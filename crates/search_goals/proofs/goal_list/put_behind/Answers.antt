use Rattle.std.proofs.Common.{◌+◌, Ok, Err, sym, ap, subst, ◌∙◌, arith}
use Rattle.search_goals.specs.declared.goal_list.GoalsFault.{GoalsFault}
use Rattle.search_goals.specs.GoalList.{Sought, with_goal, sought_by, AnswersGoals}
use Rattle.search_goals.proofs.GoalLists.{goal_read, goal_fault}
use Rattle.search_goals.proofs.goal_list.put_behind.Goals as goal

pub returns-in-Ok-put_last : goal.returns-in-Ok-put_last
returns-in-Ok-put_last c =
    let count = c.len-count.ensures in
    let few = c.if-count-ge-MOST_GOALS.false in
    goal_read c.args.names.now c.args.tasks.now c.args.goals.now c.args.text.now
    (sym c.may_precede.ensures ∙ c.if-not-may_precede.false) (omega (arith, count, few)) c.in-Ok.last c.in-Ok.ensures
    ∙ ap (λ (z : Sought). Ok z) (sym c.in-Ok-put_last.ensures)

pub returns-in-Err : goal.returns-in-Err
returns-in-Err c =
    let count = c.len-count.ensures in
    let few = c.if-count-ge-MOST_GOALS.false in
    let told = with_goal c.args.names.now c.args.tasks.now (sought_by c.args.goals.now) c.args.text.now in
    subst (λ (z : GoalsFault). AnswersGoals (Err z) told) (sym c.fault_in.ensures)
    (goal_fault c.args.names.now c.args.tasks.now c.args.goals.now c.args.text.now
    (sym c.may_precede.ensures ∙ c.if-not-may_precede.false) (omega (arith, count, few))
    (c.len-count.result + 2) c.in-Err.fault (omega (arith, count)) c.in-Err.ensures)
