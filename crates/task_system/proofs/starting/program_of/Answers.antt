use Rattle.task_system.proofs.Bodies.{few_here, blocks_within}
use Rattle.task_system.proofs.starting.program_of.Goals as goal

pub new-requires-in-Async : goal.new-requires-in-Async
new-requires-in-Async c = record { few = few_here c.args.task.now _ c.as_slice-bodies.ensures c.requires.sound c.in-Async.is }

pub new-requires-in-Block : goal.new-requires-in-Block
new-requires-in-Block c = let it = blocks_within c.args.task.now c.requires.sound c.in-Block.is in record { some = it.0; few = it.1 }
