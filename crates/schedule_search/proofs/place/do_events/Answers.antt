use Rattle.std.proofs.Common.{ℕ, refl, arith}
use Rattle.schedule_search.proofs.Doing.{may_first, may_later, state_later, state_there}
use Rattle.schedule_search.proofs.place.do_events.Goals as goal

pub do_event-requires-clause-may : goal.do_event-requires-clause-may
do_event-requires-clause-may c =
    may_first c.args.events.now c.loop-event.event-index _ _ c.loop-event-test.true refl c.loop-event.replay.state c.loop-event.invariant.may

pub loop-event-preserved : goal.loop-event-preserved
loop-event-preserved c =
    let i : ℕ = c.loop-event.event-index in
    let now = c.loop-event.replay.state in
    let next = c.do_event.new.replay.state in
    record {
      leads = state_later c.args.events.now i _ _ c.loop-event-test.true refl now next _ c.in_ok-do_event.ensures.state c.loop-event.invariant.leads;
      may = may_later c.args.events.now i _ _ c.loop-event-test.true refl now next c.in_ok-do_event.ensures.state c.loop-event.invariant.may;
      few = omega (arith, c.in_ok-do_event.ensures.count, c.loop-event.invariant.few);
    }

pub returns-clause-state : goal.returns-clause-state
returns-clause-state c = state_there c.args.events.now c.loop-event.event-index c.loop-event-test.false _ _ c.loop-event.invariant.leads
