use Rattle.std.proofs.Common.{◌++◌, codes, decimal}
use Rattle.trace_print.specs.Text.{code_text, fibril_text, label_text, slot_text, why_text}
use Rattle.trace_print.proofs.Parts.{two, three}
use Rattle.trace_print.proofs.fibril.push_fibril_effect.Goals as goal

pub returns-in-Sent-clause-text : goal.returns-in-Sent-clause-text
returns-in-Sent-clause-text g c =
    let a = c.in-Sent in
    rw (a.is)
    (three g.P.Pen.mark _ (fibril_text a.task a.fibril ++ codes " sent ") (decimal a.call.0) (slot_text a.slot)
    c.push_fibril.ensures.text c.number.ensures.text c.push_slot.ensures.text)

pub returns-in-Blocks-clause-text : goal.returns-in-Blocks-clause-text
returns-in-Blocks-clause-text g c =
    let a = c.in-Blocks in
    rw (a.is)
    (two g.P.Pen.mark _ (fibril_text a.task a.fibril ++ codes " blocks ") (why_text a.why)
    c.push_fibril-in-Blocks.ensures.text c.push_why.ensures.text)

pub returns-in-Starts-clause-text : goal.returns-in-Starts-clause-text
returns-in-Starts-clause-text g c =
    let a = c.in-Starts in
    rw (a.is)
    (two g.P.Pen.mark _ (fibril_text a.task a.fibril ++ codes " starts ") (label_text a.label)
    c.push_fibril-in-Starts.ensures.text c.push_label.ensures.text)

pub returns-in-RefusedOp-clause-text : goal.returns-in-RefusedOp-clause-text
returns-in-RefusedOp-clause-text g c =
    let a = c.in-RefusedOp in
    rw (a.is)
    (two g.P.Pen.mark _ (fibril_text a.task a.fibril ++ codes " refused ") (code_text a.code)
    c.push_fibril-in-RefusedOp.ensures.text c.push_code.ensures.text)

pub returns-in-Gets-clause-text : goal.returns-in-Gets-clause-text
returns-in-Gets-clause-text g c = rw (c.in-Gets.is) c.push_gets.ensures.text

pub returns-in-Ends-clause-text : goal.returns-in-Ends-clause-text
returns-in-Ends-clause-text g c = rw (c.in-Ends.is) c.push_fibril-in-Ends.ensures.text
