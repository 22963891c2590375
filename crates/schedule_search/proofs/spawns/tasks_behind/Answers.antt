use Rattle.std.proofs.Common.{refl, arith}
use Rattle.schedule_search.proofs.Doing.{tasks_later, tasks_there}
use Rattle.schedule_search.proofs.spawns.tasks_behind.Goals as goal

pub loop-event-preserved : goal.loop-event-preserved
loop-event-preserved c =
    let few = c.loop-event.invariant.few in
    let more = c.tasks_after-count.ensures.few in
    record {
      leads = tasks_later c.args.events.now c.loop-event.event-index _ _ c.loop-event-test.true refl c.loop-event.count
          c.tasks_after-count.result _ c.tasks_after-count.ensures.value c.loop-event.invariant.leads;
      few = omega (arith, few, more);
    }

pub returns-clause-value : goal.returns-clause-value
returns-clause-value c =
    tasks_there c.args.events.now c.loop-event.event-index c.loop-event-test.false c.loop-event.count _ c.loop-event.invariant.leads
