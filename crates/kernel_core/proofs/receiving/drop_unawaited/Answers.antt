use Rattle.std.proofs.Common.{◌∙◌, arith}
use Rattle.answerbox.specs.Calls.{call_at}
use Rattle.switchboard.specs.Joins.{drop_answer}
use Rattle.kernel_core.specs.Receiving.{next_unawaited}
use Rattle.switchboard.proofs.Lookups.{record_of}
use Rattle.switchboard.proofs.Turns.{drained, uses_both, uses_less}
use Rattle.kernel_core.proofs.receiving.drop_unawaited.Goals as goal

pub loop-preserved : goal.loop-preserved
loop-preserved c =
    let found = record_of (call_at c.loop.board.state.calls c.in-Some.found.number.0) c.in-Some.ensures.live in
    record {
      step = drained (next_unawaited c.args.who) (drop_answer c.args.who) found.0 (omega arith) (c.in-Some.ensures.some ∙ found.1) (rw found.1 at c.drop_answer.ensures.step) c.loop.invariant.step;
      room = uses_less (uses_both c.loop.invariant.room c.drop_answer.ensures.room) (omega arith) (omega arith) (omega arith);
    }
