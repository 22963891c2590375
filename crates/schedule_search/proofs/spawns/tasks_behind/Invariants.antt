use Rattle.std.proofs.Common.{◌≡◌, ◌≤◌, ◌+◌, drop}
use Rattle.search_goals.specs.Writing.{tasks_behind}
use Rattle.schedule_search.proofs.spawns.tasks_behind.Given as goal

abbrev pub invariant-loop-event : goal.invariant-loop-event
invariant-loop-event l =
    record {
      leads : tasks_behind l.count (drop l.event-index l.events) ≡ tasks_behind l.tasks l.events;
      few : l.count ≤ l.tasks + l.event-index;
    }
