use Rattle.task_system.proofs.OpenWires.{service_wires_are_open, wires_are_open}
use Rattle.task_system.proofs.starting.kernel_of.Goals as goal

pub add_service_wires-requires-clause-free : goal.add_service_wires-requires-clause-free
add_service_wires-requires-clause-free c =
    rw
    (c.in-Ok.ensures.state, c.as_slice-tasks.ensures, c.new-kernel.ensures.state)
    (service_wires_are_open (record { tasks = c.script.inside.tasks; wires = c.script.inside.wires; templates = c.script.inside.templates }) c.script.invariant)

pub add_wires-requires-clause-free : goal.add_wires-requires-clause-free
add_wires-requires-clause-free c =
    rw
    (c.as_slice.ensures, c.add_service_wires.ensures.state, c.in-Ok.ensures.state, c.as_slice-tasks.ensures, c.new-kernel.ensures.state)
    (wires_are_open (record { tasks = c.script.inside.tasks; wires = c.script.inside.wires; templates = c.script.inside.templates }) c.script.invariant)
