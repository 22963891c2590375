use Rattle.std.proofs.Common.{arith}
use Rattle.task_system.proofs.Beginning.{one_more}
use Rattle.task_system.proofs.starting.programs_of.Goals as goal

pub loop-task-preserved : goal.loop-task-preserved
loop-task-preserved c =
    let number = c.loop-task.invariant.number in
    record {
      programs =
          one_more c.args.tasks.now c.loop-task.task-index c.loop-task.number _ _ _ _ _ _ c.loop-task-test.true c.task-item.is
          c.loop-task.invariant.programs c.in_ok-program.ensures c.in_ok-push.ensures.items;
      number = omega (arith, number);
    }
