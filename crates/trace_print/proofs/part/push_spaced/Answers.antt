use Rattle.std.proofs.Common.{codes, decimal}
use Rattle.trace_print.proofs.Parts.{two}
use Rattle.trace_print.proofs.part.push_spaced.Goals as goal

pub returns-clause-text : goal.returns-clause-text
returns-clause-text g c =
    let a = c.args in
    two g.P.Pen.mark _ (codes " ") (decimal a.number) c.byte.ensures.text c.number.ensures.text
