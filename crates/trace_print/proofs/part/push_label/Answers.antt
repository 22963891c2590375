use Rattle.std.proofs.Common.{codes, decimal}
use Rattle.trace_print.specs.Text.{task_text}
use Rattle.trace_print.proofs.Parts.{three}
use Rattle.trace_print.proofs.part.push_label.Goals as goal

pub returns-clause-text : goal.returns-clause-text
returns-clause-text g c =
    let a = c.args in
    three g.P.Pen.mark _ (task_text a.label.task) (codes ".") (decimal a.label.phone.0)
    c.push_task.ensures.text c.byte.ensures.text c.number.ensures.text
