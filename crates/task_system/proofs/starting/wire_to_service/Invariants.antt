use Rattle.std.proofs.Common.{◌≡◌, ◌+◌, ◌-◌}
use Rattle.task_system.specs.Wiring.{service_wires, with_wires, AreOpen}
use Rattle.task_system.proofs.starting.wire_to_service.Given as goal

-- the wires of the tasks that are left
abbrev pub invariant-loop-task : goal.invariant-loop-task
invariant-loop-task l = record {
  state : with_wires l.kernel (service_wires (l.tasks + 1 - l.task) l.task) ≡ with_wires l.fn.kernel (service_wires (l.tasks - 1) 2);
  free : AreOpen l.kernel (service_wires (l.tasks + 1 - l.task) l.task);
  no_event : l.kernel.events ≡ 0;
}
