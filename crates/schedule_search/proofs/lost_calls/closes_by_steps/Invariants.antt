use Rattle.std.proofs.Common.{◌≤◌, ◌+◌, length}
use Rattle.schedule_search.specs.Search.{state_behind}
use Rattle.schedule_search.specs.Problem.{search_of}
use Rattle.schedule_search.proofs.Steps.{IsLed}
use Rattle.schedule_search.proofs.lost_calls.closes_by_steps.Given as goal

abbrev pub invariant-loop-i : goal.invariant-loop-i
invariant-loop-i l =
    record {
      led : IsLed (state_behind (search_of l.problem) l.events) l.replay.state;
      few : l.replay.state.kernel.events ≤ 65536 + length l.events + l.i;
    }
