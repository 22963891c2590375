use Rattle.std.proofs.Common.{◌≡◌, take}
use Rattle.script_lines.specs.Names.{task_names}
use Rattle.search_goals.specs.Goals.{listed}
use Rattle.search_goals.proofs.names.push_words.Given as goal

abbrev pub invariant-loop-task : goal.invariant-loop-task
invariant-loop-task l = listed l.known.items ≡ task_names (take l.task-index l.tasks)
