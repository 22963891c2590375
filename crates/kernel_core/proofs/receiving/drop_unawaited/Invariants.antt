use Rattle.std.proofs.Common.{◌-◌, ◌*◌}
use Rattle.call_slab.specs.declared.call.Place.TheVariants.{Answers}
use Rattle.answerbox.specs.Calls.{calls_at}
use Rattle.switchboard.specs.Joins.{drop_answer}
use Rattle.switchboard.specs.State.{drain}
use Rattle.switchboard.specs.Rooms.{UsesRoom}
use Rattle.switchboard.specs.Serving.{Completes}
use Rattle.kernel_core.specs.Receiving.{next_unawaited, drop_unawaited}
use Rattle.kernel_core.proofs.receiving.drop_unawaited.Given as goal

-- what was dropped and what is still to be dropped make the whole
abbrev pub invariant-loop : goal.invariant-loop
invariant-loop l =
    record {
      step : Completes l.board l.fn.out l.out (drain (next_unawaited l.who) (drop_answer l.who) (calls_at l.fn.board.state.calls (Answers l.who) - l.counter) l.board.state) (drop_unawaited l.who l.fn.board.state);
      room : UsesRoom l.fn.board l.board l.fn.out l.out 0 0 (2 * l.counter);
    }
