use Rattle.script_lines.specs.Text.{texts}
use Rattle.script_lines.proofs.TaskHeads.{task_head_fits}
use Rattle.script_lines.proofs.line.add_task.Goals as goal

pub add_new-requires-clause-not_naming : goal.add_new-requires-clause-not_naming
add_new-requires-clause-not_naming c = (task_head_fits (texts c.args.words.now) c.task_of.result c.in_ok-head.head c.task_of.ensures c.in_ok-head.was).0

pub add_new-requires-clause-fits : goal.add_new-requires-clause-fits
add_new-requires-clause-fits c = (task_head_fits (texts c.args.words.now) c.task_of.result c.in_ok-head.head c.task_of.ensures c.in_ok-head.was).1
