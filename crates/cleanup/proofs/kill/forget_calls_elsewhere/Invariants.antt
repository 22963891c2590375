use Rattle.std.proofs.Common.{◌-◌}
use Rattle.answerbox.specs.Calls.{calls_by}
use Rattle.cleanup.specs.Kill.{first_call_of, forget_calls_elsewhere}
use Rattle.switchboard.specs.Joins.{forget_call}
use Rattle.switchboard.specs.State.{drain}
use Rattle.switchboard.specs.Rooms.{UsesRoom}
use Rattle.switchboard.specs.Serving.{Completes}
use Rattle.cleanup.proofs.kill.forget_calls_elsewhere.Given as goal

-- what is done and what is left make the whole
abbrev pub invariant-loop : goal.invariant-loop
invariant-loop l =
    record {
      step : Completes l.board l.fn.out l.out (drain (first_call_of l.who) forget_call (calls_by l.fn.board.state.calls l.who - l.counter) l.board.state) (forget_calls_elsewhere l.who l.fn.board.state);
      room : UsesRoom l.fn.board l.board l.fn.out l.out 0 0 l.counter;
    }
