use Rattle.std.proofs.Common.{decimal}
use Rattle.trace_print.proofs.Parts.{two}
use Rattle.trace_print.proofs.part.push_numbered.Goals as goal

pub returns-clause-text : goal.returns-clause-text
returns-clause-text g c =
    let a = c.args in
    two g.P.Pen.mark _ a.word.now (decimal a.number) c.word.ensures.text c.number.ensures.text
