use Rattle.std.proofs.Common.{codes, decimal}
use Rattle.trace_print.specs.Text.{fibril_text, task_text}
use Rattle.trace_print.proofs.Parts.{four}
use Rattle.trace_print.proofs.fibril.push_fibril.Goals as goal

pub returns-clause-text : goal.returns-clause-text
unfolding fibril_text
returns-clause-text g c =
    let a = c.args in
    four g.P.Pen.mark _ (task_text a.task) (codes "/") (decimal a.fibril.0) a.what.now
    c.push_task.ensures.text c.byte.ensures.text c.number.ensures.text c.word.ensures.text
