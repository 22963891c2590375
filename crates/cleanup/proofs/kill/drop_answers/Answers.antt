use Rattle.std.proofs.Common.{◌∙◌, arith}
use Rattle.answerbox.specs.Calls.{call_at}
use Rattle.call_slab.specs.declared.call.Place.TheVariants.{Answers}
use Rattle.cleanup.specs.Kill.{first_at}
use Rattle.switchboard.specs.Joins.{drop_answer}
use Rattle.switchboard.proofs.Lookups.{record_of}
use Rattle.switchboard.proofs.Turns.{drained, uses_both, uses_less}
use Rattle.cleanup.proofs.kill.drop_answers.Goals as goal

pub loop-preserved : goal.loop-preserved
loop-preserved c =
    let found = record_of (call_at c.loop.board.state.calls c.in-Some.found.number.0) c.in-Some.ensures.live in
    record {
      step = drained (first_at (Answers c.args.who)) (drop_answer c.args.who) found.0 (omega arith) (c.in-Some.ensures.some ∙ found.1) (rw found.1 at c.drop_answer.ensures.step) c.loop.invariant.step;
      room = uses_less (uses_both c.loop.invariant.room c.drop_answer.ensures.room) (omega arith) (omega arith) (omega arith);
    }
