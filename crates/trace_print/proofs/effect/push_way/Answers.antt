use Rattle.std.proofs.Common.{codes}
use Rattle.trace_print.specs.Text.{task_text, way_text}
use Rattle.trace_print.proofs.Parts.{two}
use Rattle.trace_print.proofs.effect.push_way.Goals as goal

pub returns-in-Some-clause-text : goal.returns-in-Some-clause-text
unfolding way_text
returns-in-Some-clause-text g c =
    let a = c.in-Some in
    rw (a.is)
    (two g.P.Pen.mark _ (codes " to ") (task_text a.task) c.word-in-Some.ensures.text c.push_task.ensures.text)
