use Rattle.std.proofs.Common.{◌++◌, codes, decimal}
use Rattle.trace_print.specs.Text.{bytes_text, label_text, msg_text, reply_text}
use Rattle.trace_print.proofs.Parts.{two, three, five}
use Rattle.trace_print.proofs.head.push_outcome.Goals as goal

pub returns-in-Received-clause-text : goal.returns-in-Received-clause-text
returns-in-Received-clause-text g c =
    let a = c.in-Received in
    rw (a.is)
    (five g.P.Pen.mark _ (codes "received " ++ decimal a.call.0) (codes " ") (msg_text a.msg) (codes " from ") (label_text a.label)
    c.push_numbered-in-Received.ensures.text c.byte.ensures.text
    c.push_msg.ensures.text c.word-in-Received.ensures.text c.push_label.ensures.text)

pub returns-in-Answered-clause-text : goal.returns-in-Answered-clause-text
returns-in-Answered-clause-text g c =
    let a = c.in-Answered in
    rw (a.is)
    (three g.P.Pen.mark _ (codes "answer " ++ decimal a.call.0) (codes " ") (reply_text a.reply)
    c.push_numbered-in-Answered.ensures.text c.byte-in-Answered.ensures.text c.push_reply.ensures.text)

pub returns-in-Bytes-clause-text : goal.returns-in-Bytes-clause-text
returns-in-Bytes-clause-text g c =
    let a = c.in-Bytes in
    rw (a.is, ← c.as_slice.ensures.bytes)
    (two g.P.Pen.mark _ (codes "bytes ") (bytes_text c.as_slice.result.now) c.word-in-Bytes.ensures.text c.bytes.ensures.text)

pub returns-in-Done-clause-text : goal.returns-in-Done-clause-text
returns-in-Done-clause-text g c = rw (c.in-Done.is) c.word.ensures.text

pub returns-in-Refused-clause-text : goal.returns-in-Refused-clause-text
returns-in-Refused-clause-text g c = rw (c.in-Refused.is) c.push_code.ensures.text

pub returns-in-Accepted-clause-text : goal.returns-in-Accepted-clause-text
returns-in-Accepted-clause-text g c = rw (c.in-Accepted.is) c.push_numbered.ensures.text

pub returns-in-Empty-clause-text : goal.returns-in-Empty-clause-text
returns-in-Empty-clause-text g c = rw (c.in-Empty.is) c.word-in-Empty.ensures.text
