use Rattle.std.proofs.Common.{refl, sym, ◌∙◌, arith}
use Rattle.schedule_search.proofs.Doing.{come_later, come_not, come_there}
use Rattle.schedule_search.proofs.spawns.may_all_come.Goals as goal

pub loop-event-preserved : goal.loop-event-preserved
loop-event-preserved c =
    let few = c.loop-event.invariant.few in
    let more = c.tasks_after-count.ensures.few in
    record {
      leads = come_later c.args.events.now c.loop-event.event-index _ _ c.loop-event-test.true refl c.loop-event.count
          c.tasks_after-count.result c.args.templates _ c.tasks_after-count.ensures.value
          (sym c.may_come.ensures ∙ c.if-not-may_come.false) c.loop-event.invariant.leads;
      few = omega (arith, few, more);
    }

pub returns-then-not-may_come : goal.returns-then-not-may_come
returns-then-not-may_come c =
    come_not c.args.events.now c.loop-event.event-index _ _ c.loop-event-test.true refl c.loop-event.count c.args.templates _
    (sym c.may_come.ensures ∙ c.if-not-may_come.true) c.loop-event.invariant.leads

pub returns : goal.returns
returns c =
    come_there c.args.events.now c.loop-event.event-index c.loop-event-test.false c.loop-event.count c.args.templates _
    c.loop-event.invariant.leads
