use Rattle.std.proofs.Common.{◌++◌, codes, decimal}
use Rattle.trace_print.proofs.Parts.{joined}
use Rattle.trace_print.proofs.head.push_area.Goals as goal

pub returns-clause-text : goal.returns-clause-text
returns-clause-text g c =
    let a = c.args in
    let both = joined g.P.Pen.mark _ (codes "area " ++ decimal a.base) (codes " ") (decimal a.pages)
    c.push_numbered.ensures.text c.push_spaced.ensures.text in
    joined g.P.Pen.mark _ (codes "area " ++ decimal a.base ++ codes " " ++ decimal a.pages) (codes " ") (decimal a.rights) both
    c.push_spaced-2.ensures.text
