use Rattle.std.proofs.Common.{◌≡◌, ◌≤◌, ◌+◌, drop}
use Rattle.schedule_search.specs.Search.{may_all_come}
use Rattle.schedule_search.proofs.spawns.may_all_come.Given as goal

abbrev pub invariant-loop-event : goal.invariant-loop-event
invariant-loop-event l =
    record {
      leads : may_all_come l.count l.templates (drop l.event-index l.events) ≡ may_all_come l.tasks l.templates l.events;
      few : l.count ≤ l.tasks + l.event-index;
    }
