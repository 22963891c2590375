use Rattle.std.proofs.Common.{◌≡◌, take, reverse}
use Rattle.schedule_search.specs.Search.{events_of}
use Rattle.schedule_search.proofs.path.events_by.Given as goal

abbrev pub invariant-loop-m : goal.invariant-loop-m
invariant-loop-m l = l.events.items ≡ events_of l.moves (reverse (take l.m-index l.path))
