use Rattle.std.proofs.Common.{codes, decimal}
use Rattle.trace_print.proofs.Parts.{two}
use Rattle.trace_print.proofs.part.push_task.Goals as goal

pub returns-clause-text : goal.returns-clause-text
returns-clause-text g c =
    let a = c.args in
    two g.P.Pen.mark _ (codes "t") (decimal a.task.0) c.byte.ensures.text c.number.ensures.text
