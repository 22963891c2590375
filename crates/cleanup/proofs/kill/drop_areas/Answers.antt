use Rattle.std.proofs.Common.{arith}
use Rattle.cleanup.specs.Kill.{drop_first_area}
use Rattle.switchboard.proofs.Turns.{turned, uses_both}
use Rattle.cleanup.proofs.kill.drop_areas.Goals as goal

pub loop-preserved : goal.loop-preserved
loop-preserved c = record {
  step = turned (drop_first_area c.args.who) (omega arith) c.lose_first_area.ensures.step c.loop.invariant.step;
  room = uses_both c.loop.invariant.room c.lose_first_area.ensures.room;
}
