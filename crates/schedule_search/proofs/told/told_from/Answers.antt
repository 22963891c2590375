use Rattle.std.proofs.Common.{ℕ, ◌++◌, List, refl, ap, arith}
use Rattle.ipc_ids.specs.declared.entry.Entry.{Entry}
use Rattle.task_system.specs.Run.{run_from}
use Rattle.schedule_search.proofs.Doing.{may_first, may_later}
use Rattle.schedule_search.proofs.Runs.{tells_later, tells_there}
use Rattle.schedule_search.proofs.told.told_from.Goals as goal

pub loop-event-init : goal.loop-event-init
loop-event-init c =
    record {
      tells = ap (λ (z : List Entry). z ++ run_from c.args.replay.now.state c.args.events.now) c.new-told.ensures;
      may = c.requires.may;
      few = omega arith;
    }

pub tell_event-requires-clause-may : goal.tell_event-requires-clause-may
tell_event-requires-clause-may c =
    may_first c.args.events.now c.loop-event.event-index _ _ c.loop-event-test.true refl c.loop-event.replay.state
    c.loop-event.invariant.may

pub loop-event-preserved : goal.loop-event-preserved
loop-event-preserved c =
    let i : ℕ = c.loop-event.event-index in
    let now = c.loop-event.replay.state in
    let next = c.tell_event.new.replay.state in
    record {
      tells = tells_later c.args.events.now i _ _ c.loop-event-test.true refl now next _ _ _
          c.in_ok-tell_event.ensures.state c.in_ok-tell_event.ensures.entries c.loop-event.invariant.tells;
      may = may_later c.args.events.now i _ _ c.loop-event-test.true refl now next c.in_ok-tell_event.ensures.state
          c.loop-event.invariant.may;
      few = omega (arith, c.in_ok-tell_event.ensures.count, c.loop-event.invariant.few);
    }

pub returns : goal.returns
returns c =
    tells_there c.args.events.now c.loop-event.event-index c.loop-event-test.false _ _ _ c.loop-event.invariant.tells
