use Rattle.std.proofs.Common.{◌≡◌, drop}
use Rattle.script_lines.specs.Text.{texts}
use Rattle.search_goals.specs.GoalList.{with_goals, goals_of, sought_by}
use Rattle.search_goals.proofs.goal_list.read_goals_for.Given as goal

-- what was read, and the texts that are left, say what all say
abbrev pub invariant-loop-text : goal.invariant-loop-text
invariant-loop-text l =
    with_goals l.names l.tasks (sought_by l.goals) (texts (drop l.text-index l.later))
    ≡ goals_of l.names l.tasks l.first (texts l.later)
