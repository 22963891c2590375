use Rattle.std.proofs.Common.{◌≡◌, map, take}
use Rattle.search_core.specs.Survey.{moves_of}
use Rattle.schedule_search.specs.Search.{events_of}
use Rattle.schedule_search.specs.Survey.{schedules_of}
use Rattle.schedule_search.proofs.at_rest.schedules_by.Given as goal

abbrev pub invariant-loop-path : goal.invariant-loop-path
invariant-loop-path l = schedules_of l.schedules.items ≡ map (events_of l.moves) (moves_of (take l.path-index l.paths))
