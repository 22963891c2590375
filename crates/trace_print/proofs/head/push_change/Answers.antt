use Rattle.std.proofs.Common.{codes}
use Rattle.trace_print.specs.Text.{msg_text}
use Rattle.trace_print.proofs.Parts.{two}
use Rattle.trace_print.proofs.head.push_change.Goals as goal

pub returns-in-Some-clause-text : goal.returns-in-Some-clause-text
returns-in-Some-clause-text g c =
    let a = c.in-Some in
    rw (a.is)
    (two g.P.Pen.mark _ (codes " ") (msg_text a.msg) c.byte.ensures.text c.push_msg.ensures.text)
