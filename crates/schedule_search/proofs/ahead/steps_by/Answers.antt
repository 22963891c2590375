use Rattle.std.proofs.Common.{refl}
use Rattle.schedule_search.proofs.Steps.{step_more}
use Rattle.schedule_search.proofs.ahead.steps_by.Goals as goal

pub loop-m-preserved : goal.loop-m-preserved
loop-m-preserved c =
    step_more c.args.path.now c.loop-m.m-index 0 c.loop-m.steps.items c.push.new.self.items _ c.loop-m-test.true c.loop-m.invariant
    refl c.in_ok-push.ensures.items
