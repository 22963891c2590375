use Rattle.std.proofs.Common.{◌≡◌, ◌+◌, ◌++◌, drop}
use Rattle.task_system.specs.Run.{programs_from}
use Rattle.task_system.proofs.starting.programs_of.Given as goal

-- with those of the tasks that are left, the programs are whole
abbrev pub invariant-loop-task : goal.invariant-loop-task
invariant-loop-task l = record {
  programs : l.programs.items ++ programs_from l.number (drop l.task-index l.tasks) ≡ programs_from 1 l.tasks;
  number : l.number ≡ l.task-index + 1;
}
