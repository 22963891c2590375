use Rattle.std.proofs.Common.{codes}
use Rattle.trace_print.specs.Text.{task_text}
use Rattle.trace_print.proofs.Parts.{two}
use Rattle.trace_print.proofs.effect.push_state.Goals as goal

pub returns-in-Connected-clause-text : goal.returns-in-Connected-clause-text
returns-in-Connected-clause-text g c =
    let a = c.in-Connected in
    rw (a.is)
    (two g.P.Pen.mark _ (codes "connected ") (task_text a.task) c.word-in-Connected.ensures.text c.push_task.ensures.text)
