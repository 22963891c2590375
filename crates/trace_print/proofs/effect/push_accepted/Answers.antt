use Rattle.std.proofs.Common.{◌++◌, codes, decimal}
use Rattle.trace_print.specs.Text.{call_text, label_text, way_text}
use Rattle.trace_print.proofs.Parts.{two, joined}
use Rattle.trace_print.proofs.effect.push_accepted.Goals as goal

pub returns-clause-text : goal.returns-clause-text
returns-clause-text g c =
    let a = c.args in
    let first = two g.P.Pen.mark _ (codes "  " ++ call_text a.call ++ codes " accepted ") (label_text a.from)
    c.push_call.ensures.text c.push_label.ensures.text in
    let both = joined g.P.Pen.mark _ (codes "  " ++ call_text a.call ++ codes " accepted " ++ label_text a.from) (codes " method ")
    (decimal a.method) first c.push_numbered.ensures.text in
    two g.P.Pen.mark _ (codes "  " ++ call_text a.call ++ codes " accepted " ++ label_text a.from ++ codes " method " ++ decimal a.method)
    (way_text a.to) both c.push_way.ensures.text
