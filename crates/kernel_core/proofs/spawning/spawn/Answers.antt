use Rattle.kernel_core.proofs.SpawnedHistories.{new_free}
use Rattle.kernel_core.proofs.spawning.spawn.Goals as goal

pub wire-requires-clause-free : goal.wire-requires-clause-free
wire-requires-clause-free c =
    new_free c.args.board.now.state c.add_task.new.self.state c.args.limit c.in-Ok.task c.in-Ok.ensures.ok c.in-Ok.ensures.number c.requires.paired c.requires.limit.some
