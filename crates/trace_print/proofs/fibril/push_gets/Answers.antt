use Rattle.std.proofs.Common.{◌++◌, codes, decimal}
use Rattle.trace_print.specs.Text.{fibril_text, reply_text, slot_text}
use Rattle.trace_print.proofs.Parts.{five}
use Rattle.trace_print.proofs.fibril.push_gets.Goals as goal

pub returns-clause-text : goal.returns-clause-text
returns-clause-text g c =
    let a = c.args in
    five g.P.Pen.mark _ (fibril_text a.task a.fibril ++ codes " gets ") (decimal a.call.0) (slot_text a.slot) (codes " ")
    (reply_text a.reply.now) c.push_fibril.ensures.text
    c.number.ensures.text c.push_slot.ensures.text c.byte.ensures.text c.push_reply.ensures.text
