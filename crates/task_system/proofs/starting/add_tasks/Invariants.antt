use Rattle.std.proofs.Common.{◌≡◌, ◌+◌, ◌≤◌, drop, length}
use Rattle.task_system.specs.Run.{with_tasks}
use Rattle.task_system.proofs.starting.add_tasks.Given as goal

abbrev pub invariant-loop-task : goal.invariant-loop-task
invariant-loop-task l = record {
  state : with_tasks l.kernel (drop l.task-index l.tasks) ≡ with_tasks l.fn.kernel l.tasks;
  few : length l.kernel.tasks.alive + length (drop l.task-index l.tasks) ≤ 64;
  no_event : l.kernel.events ≡ 0;
}
