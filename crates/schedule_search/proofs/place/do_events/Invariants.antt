use Rattle.std.proofs.Common.{◌≡◌, ◌≤◌, ◌+◌, drop}
use Rattle.task_system.specs.Run.{state_after, MayAllHappen}
use Rattle.schedule_search.proofs.place.do_events.Given as goal

-- where what is left leads is where the whole leads
abbrev pub invariant-loop-event : goal.invariant-loop-event
invariant-loop-event l =
    record {
      leads : state_after l.replay.state (drop l.event-index l.events) ≡ state_after l.fn.replay.state l.events;
      may : MayAllHappen l.replay.state (drop l.event-index l.events);
      few : l.replay.state.kernel.events ≤ l.fn.replay.state.kernel.events + l.event-index;
    }
