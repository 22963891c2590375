use Rattle.std.proofs.Common.{◌++◌, codes, decimal}
use Rattle.trace_print.specs.Text.{exchange_mode_text, terms_text}
use Rattle.trace_print.proofs.Parts.{two, joined}
use Rattle.trace_print.proofs.fibril.push_terms.Goals as goal

pub returns-clause-text : goal.returns-clause-text
unfolding terms_text
returns-clause-text g c =
    let a = c.args in
    let first = two g.P.Pen.mark _ (codes " ") (exchange_mode_text a.mode) c.byte.ensures.text c.push_exchange_mode.ensures.text in
    let both = joined g.P.Pen.mark _ (codes " " ++ exchange_mode_text a.mode) (codes " session ") (decimal a.session) first
    c.push_numbered.ensures.text in
    joined g.P.Pen.mark _ (codes " " ++ exchange_mode_text a.mode ++ codes " session " ++ decimal a.session) (codes " phone ")
    (decimal a.phone) both c.push_numbered-2.ensures.text
