use Rattle.std.proofs.Common.{◌≡◌, ◌≤◌, ◌+◌, take}
use Rattle.search_goals.specs.GoalList.{said_all}
use Rattle.schedule_search.specs.Search.{state_behind}
use Rattle.schedule_search.specs.Left.{left_behind}
use Rattle.schedule_search.specs.Problem.{search_of}
use Rattle.schedule_search.proofs.left.goals_left.Given as goal

-- the state and what is left are those behind the events so far
abbrev pub invariant-loop-i : goal.invariant-loop-i
invariant-loop-i l =
    record {
      state : l.replay.state ≡ state_behind (search_of l.problem) (take l.i l.events);
      left : record { goals = said_all l.left; told = l.told.entries } ≡ left_behind (search_of l.problem) (take l.i l.events);
      few : l.replay.state.kernel.events ≤ 65536 + l.i;
    }
