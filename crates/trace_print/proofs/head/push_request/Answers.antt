use Rattle.std.proofs.Common.{◌++◌, codes, decimal}
use Rattle.trace_print.specs.Text.{bytes_text, msg_text, reply_text}
use Rattle.trace_print.proofs.Parts.{three, joined}
use Rattle.trace_print.proofs.head.push_request.Goals as goal

pub returns-in-Call-clause-text : goal.returns-in-Call-clause-text
returns-in-Call-clause-text g c =
    let a = c.in-Call in
    rw (a.is)
    (three g.P.Pen.mark _ (codes "call " ++ decimal a.phone) (codes " ") (msg_text a.msg)
    c.push_numbered.ensures.text c.byte.ensures.text c.push_msg.ensures.text)

pub returns-in-Answer-clause-text : goal.returns-in-Answer-clause-text
returns-in-Answer-clause-text g c =
    let a = c.in-Answer in
    rw (a.is)
    (three g.P.Pen.mark _ (codes "answer " ++ decimal a.call) (codes " ") (reply_text a.reply)
    c.push_numbered-in-Answer.ensures.text c.byte-in-Answer.ensures.text c.push_reply.ensures.text)

pub returns-in-Poke-clause-text : goal.returns-in-Poke-clause-text
returns-in-Poke-clause-text g c =
    let a = c.in-Poke in
    rw (a.is, ← c.as_slice.ensures.bytes)
    (three g.P.Pen.mark _ (codes "poke " ++ decimal a.at) (codes " ") (bytes_text c.as_slice.result.now)
    c.push_numbered-in-Poke.ensures.text c.byte-in-Poke.ensures.text c.bytes.ensures.text)

pub returns-in-Peek-clause-text : goal.returns-in-Peek-clause-text
returns-in-Peek-clause-text g c =
    let a = c.in-Peek in
    rw (a.is)
    (joined g.P.Pen.mark _ (codes "peek " ++ decimal a.at) (codes " ") (decimal a.count)
    c.push_numbered-in-Peek.ensures.text c.push_spaced.ensures.text)

pub returns-in-Receive-clause-text : goal.returns-in-Receive-clause-text
returns-in-Receive-clause-text g c = rw (c.in-Receive.is) c.word.ensures.text

pub returns-in-Forward-clause-text : goal.returns-in-Forward-clause-text
returns-in-Forward-clause-text g c = rw (c.in-Forward.is) c.push_forward.ensures.text

pub returns-in-Hangup-clause-text : goal.returns-in-Hangup-clause-text
returns-in-Hangup-clause-text g c = rw (c.in-Hangup.is) c.push_numbered-in-Hangup.ensures.text

pub returns-in-AreaMake-clause-text : goal.returns-in-AreaMake-clause-text
returns-in-AreaMake-clause-text g c = rw (c.in-AreaMake.is) c.push_area.ensures.text

pub returns-in-AreaDrop-clause-text : goal.returns-in-AreaDrop-clause-text
returns-in-AreaDrop-clause-text g c = rw (c.in-AreaDrop.is) c.push_numbered-in-AreaDrop.ensures.text

pub returns-in-Nothing-clause-text : goal.returns-in-Nothing-clause-text
returns-in-Nothing-clause-text g c = rw (c.in-Nothing.is) c.word-in-Nothing.ensures.text
