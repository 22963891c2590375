use Rattle.std.proofs.Common.{◌+◌}
use Rattle.task_system.proofs.OpenWires.{next_wire}
use Rattle.task_system.proofs.starting.wire_to_service.Goals as goal

pub loop-task-preserved : goal.loop-task-preserved
loop-task-preserved c =
    let next = next_wire (c.args.tasks + 1) c.loop-task.task c.loop-task-test.true in
    record {
      state = rw (c.wire.ensures.state) (rw next at c.loop-task.invariant.state);
      free = rw (c.wire.ensures.state) ((rw next at c.loop-task.invariant.free).1);
      no_event = rw (c.wire.ensures.state) c.loop-task.invariant.no_event;
    }
