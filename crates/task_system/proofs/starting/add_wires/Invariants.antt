use Rattle.std.proofs.Common.{◌≡◌, drop}
use Rattle.task_system.specs.Wiring.{with_wires, AreOpen}
use Rattle.task_system.proofs.starting.add_wires.Given as goal

abbrev pub invariant-loop-wire : goal.invariant-loop-wire
invariant-loop-wire l = record {
  state : with_wires l.kernel (drop l.wire-index l.wires) ≡ with_wires l.fn.kernel l.wires;
  free : AreOpen l.kernel (drop l.wire-index l.wires);
  no_event : l.kernel.events ≡ 0;
}
