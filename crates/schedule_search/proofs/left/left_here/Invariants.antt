use Rattle.std.proofs.Common.{◌≡◌, drop}
use Rattle.search_goals.specs.GoalList.{said_all}
use Rattle.schedule_search.specs.Left.{left_here}
use Rattle.schedule_search.proofs.left.left_here.Given as goal

-- of the goals that are not looked at yet as much is left as of all
abbrev pub invariant-loop-i : goal.invariant-loop-i
invariant-loop-i l =
    left_here (said_all (drop l.i l.goals)) l.replay.state l.told.entries
    ≡ left_here (said_all l.goals) l.replay.state l.fn.told.entries
