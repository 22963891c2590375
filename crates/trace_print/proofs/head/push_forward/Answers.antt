use Rattle.std.proofs.Common.{◌++◌, codes, decimal}
use Rattle.trace_print.specs.Text.{change_text, mode_text}
use Rattle.trace_print.proofs.Parts.{four, joined}
use Rattle.trace_print.proofs.head.push_forward.Goals as goal

pub returns-clause-text : goal.returns-clause-text
returns-clause-text g c =
    let a = c.args in
    let both = joined g.P.Pen.mark _ (codes "forward " ++ decimal a.call) (codes " ") (decimal a.phone)
    c.push_numbered.ensures.text c.push_spaced.ensures.text in
    four g.P.Pen.mark _ (codes "forward " ++ decimal a.call ++ codes " " ++ decimal a.phone) (codes " ") (mode_text a.mode)
    (change_text a.change.now) both c.byte.ensures.text c.push_mode.ensures.text c.push_change.ensures.text
