use Rattle.script_reader.proofs.RecentSteps.{recent_says}
use Rattle.script_reader.proofs.recent.RecentTasks.steps_in.Goals as goal

pub returns : goal.returns
returns c = λ names known.
    recent_says names c.args.text.now c.in_ok-behind_step.field-0.now c.in_ok-task.rest.now
    (record { task = c.in_ok-task.task; count = c.in_ok-count.count; others = c.in_ok-count.others })
    c.in_ok-behind_step.ensures (c.in_ok-task.ensures names known) c.in_ok-count.ensures
