use Rattle.task_system.proofs.Taking.{took_none}
use Rattle.task_system.proofs.system.System.new.Goals as goal

pub invariant_of-result : goal.invariant_of-result
invariant_of-result c = (
  rw (c.in_ok-programs.ensures) (took_none c.in_ok-kernel.kernel.events 1 c.as_slice-tasks.result.now),
  rw (c.in_ok-templates.ensures, c.as_slice.ensures) c.script.invariant.sound_templates,
)
