use Rattle.std.proofs.Common.{◌∙◌, ap, sym, arith}
use Rattle.std.specs.Prelude.{None}
use Rattle.std.proofs.lemmas.Nat.{mod_below}
use Rattle.answerbox.specs.Calls.{CallTable, call_at}
use Rattle.task_system.specs.Run.{RunState}
use Rattle.schedule_search.specs.Search.{state_behind}
use Rattle.schedule_search.specs.OpenCalls.{is_open}
use Rattle.schedule_search.specs.Problem.{search_of}
use Rattle.schedule_search.proofs.Steps.{IsLed, led_nowhere, led_on_by, led_there, led_closed}
use Rattle.schedule_search.proofs.lost_calls.closes_by_steps.Goals as goal

pub loop-i-init : goal.loop-i-init
loop-i-init c =
    record {
      led = led_nowhere (state_behind (search_of c.args.problem.now) c.args.events.now) c.lead.new.replay.state
          c.in_ok-lead.ensures.state;
      few = omega (arith, c.in_ok-lead.ensures.count);
    }

pub do_event-requires-clause-few : goal.do_event-requires-clause-few
do_event-requires-clause-few c = omega (arith, c.requires.can.few, c.loop-i.invariant.few)

pub do_event-requires-clause-may : goal.do_event-requires-clause-may
do_event-requires-clause-may c =
    led_there (state_behind (search_of c.args.problem.now) c.args.events.now) c.loop-i.replay.state c.args.tasks _
    c.loop-i.invariant.led c.requires.count (omega arith, omega (arith, mod_below))

pub returns-then-not-is_open : goal.returns-then-not-is_open
returns-then-not-is_open c =
    let base : RunState = state_behind (search_of c.args.problem.now) c.args.events.now in
    let led : IsLed base c.do_event.new.replay.state =
    led_on_by base c.loop-i.replay.state c.do_event.new.replay.state _ c.args.tasks c.loop-i.invariant.led
    c.requires.count (omega arith) c.in_ok-do_event.ensures.state in
    λ is. led_closed base c.do_event.new.replay.state c.args.call.0 led
    (ap (λ (z : CallTable). is_open None (call_at z c.args.call.0)) (sym c.all_calls.ensures)
    ∙ ap (is_open None) (sym c.get.ensures.call) ∙ sym c.is_open.ensures ∙ c.if-not-is_open.true)

pub loop-i-preserved : goal.loop-i-preserved
loop-i-preserved c =
    let base : RunState = state_behind (search_of c.args.problem.now) c.args.events.now in
    record {
      led = led_on_by base c.loop-i.replay.state c.do_event.new.replay.state _ c.args.tasks c.loop-i.invariant.led
          c.requires.count (omega arith) c.in_ok-do_event.ensures.state;
      few = omega (arith, c.in_ok-do_event.ensures.count, c.loop-i.invariant.few);
    }
