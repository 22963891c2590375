use Rattle.std.proofs.Common.{◌∙◌, arith}
use Rattle.answerbox.specs.Calls.{call_at}
use Rattle.cleanup.specs.Kill.{first_call_of}
use Rattle.switchboard.specs.Joins.{forget_call}
use Rattle.switchboard.proofs.Lookups.{record_of}
use Rattle.switchboard.proofs.Turns.{drained, uses_both}
use Rattle.cleanup.proofs.kill.forget_calls_elsewhere.Goals as goal

pub loop-preserved : goal.loop-preserved
loop-preserved c =
    let found = record_of (call_at c.loop.board.state.calls c.in-Some.found.number.0) c.in-Some.ensures.live in
    record {
      step = drained (first_call_of c.args.who) forget_call found.0 (omega arith) (c.in-Some.ensures.some ∙ found.1) (rw found.1 at c.forget.ensures.step) c.loop.invariant.step;
      room = uses_both c.loop.invariant.room c.forget.ensures.room;
    }
