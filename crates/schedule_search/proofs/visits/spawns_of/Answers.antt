use Rattle.std.proofs.Common.{refl}
use Rattle.schedule_search.proofs.Doing.{spawns_later, spawns_there}
use Rattle.schedule_search.proofs.visits.spawns_of.Goals as goal

pub loop-event-preserved : goal.loop-event-preserved
loop-event-preserved c =
    spawns_later c.args.events.now c.loop-event.event-index _ _ c.loop-event-test.true refl c.loop-event.spawned.items
    c.push_spawn.new.spawned.items c.loop-event.invariant c.in_ok-push_spawn.ensures

pub returns : goal.returns
returns c = spawns_there c.args.events.now c.loop-event.event-index c.loop-event-test.false c.loop-event.spawned.items c.loop-event.invariant
