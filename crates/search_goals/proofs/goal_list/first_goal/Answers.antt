use Rattle.std.proofs.Common.{Err, sym, subst}
use Rattle.search_goals.specs.declared.goal_list.GoalsFault.{GoalsFault}
use Rattle.search_goals.specs.GoalList.{first_goal, AnswersGoals}
use Rattle.search_goals.proofs.GoalLists.{fault_alone}
use Rattle.search_goals.proofs.goal_list.first_goal.Goals as goal

pub returns-in-Err : goal.returns-in-Err
returns-in-Err c =
    let told = first_goal c.args.names.now c.args.tasks.now c.args.text.now in
    subst (λ (z : GoalsFault). AnswersGoals (Err z) told) (sym c.fault_in.ensures)
    (fault_alone c.args.names.now c.args.tasks.now c.args.text.now c.in-Err.fault c.in-Err.ensures)
