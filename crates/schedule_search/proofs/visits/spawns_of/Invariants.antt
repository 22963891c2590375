use Rattle.std.proofs.Common.{◌≡◌, take}
use Rattle.run_words.specs.Reached.{spawns_of}
use Rattle.schedule_search.proofs.visits.spawns_of.Given as goal

abbrev pub invariant-loop-event : goal.invariant-loop-event
invariant-loop-event l = l.spawned.items ≡ spawns_of (take l.event-index l.events)
