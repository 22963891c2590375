use Rattle.std.proofs.Common.{◌≡◌, take}
use Rattle.script_lines.specs.Names.{task_names}
use Rattle.script_lines.proofs.names.add_names.Given as goal

abbrev pub invariant-loop-task : goal.invariant-loop-task
invariant-loop-task l = l.names ≡ task_names (take l.task-index l.tasks)
