use Rattle.std.proofs.Common.{◌≡◌, ◌≤◌, ◌+◌, ◌++◌, drop}
use Rattle.task_system.specs.Run.{run_from, MayAllHappen}
use Rattle.schedule_search.proofs.told.told_from.Given as goal

-- what is told, and what the events that are left tell, is the whole
abbrev pub invariant-loop-event : goal.invariant-loop-event
invariant-loop-event l =
    record {
      tells : l.told.entries ++ run_from l.replay.state (drop l.event-index l.events) ≡ run_from l.fn.replay.state l.events;
      may : MayAllHappen l.replay.state (drop l.event-index l.events);
      few : l.replay.state.kernel.events ≤ l.fn.replay.state.kernel.events + l.event-index;
    }
