use Rattle.std.proofs.Common.{◌++◌, Some, codes}
use Rattle.trace_print.specs.Text.{answerer_text, call_text, label_text, reply_text, task_text, way_text}
use Rattle.trace_print.proofs.Parts.{two, three, five}
use Rattle.trace_print.proofs.effect.push_effect.Goals as goal

pub returns-in-Received-clause-text : goal.returns-in-Received-clause-text
returns-in-Received-clause-text g c =
    let a = c.in-Received in
    rw (a.is)
    (two g.P.Pen.mark _ (codes "  " ++ call_text a.call ++ codes " received ") (task_text a.by)
    c.push_call.ensures.text c.push_task.ensures.text)

pub returns-in-Forwarded-clause-text : goal.returns-in-Forwarded-clause-text
returns-in-Forwarded-clause-text g c =
    let a = c.in-Forwarded in
    rw (a.is)
    (five g.P.Pen.mark _ (codes "  " ++ call_text a.call ++ codes " forwarded ") (task_text a.by) (way_text (Some a.to)) (codes " label ")
    (label_text a.label) c.push_call-in-Forwarded.ensures.text
    c.push_task-in-Forwarded.ensures.text c.push_way.ensures.text c.word.ensures.text c.push_label.ensures.text)

pub returns-in-Answered-clause-text : goal.returns-in-Answered-clause-text
returns-in-Answered-clause-text g c =
    let a = c.in-Answered in
    rw (a.is)
    (three g.P.Pen.mark _ (codes "  " ++ call_text a.call ++ codes " answered ") (reply_text a.reply) (answerer_text a.by)
    c.push_call-in-Answered.ensures.text c.push_reply.ensures.text c.push_answerer.ensures.text)

pub returns-in-Delivered-clause-text : goal.returns-in-Delivered-clause-text
returns-in-Delivered-clause-text g c =
    let a = c.in-Delivered in
    rw (a.is)
    (two g.P.Pen.mark _ (codes "  " ++ call_text a.call ++ codes " delivered ") (task_text a.to)
    c.push_call-in-Delivered.ensures.text c.push_task-in-Delivered.ensures.text)

pub returns-in-Dropped-clause-text : goal.returns-in-Dropped-clause-text
returns-in-Dropped-clause-text g c =
    let a = c.in-Dropped in
    rw (a.is)
    (two g.P.Pen.mark _ (codes "  " ++ call_text a.call ++ codes " dropped ") (task_text a.at)
    c.push_call-in-Dropped.ensures.text c.push_task-in-Dropped.ensures.text)

pub returns-in-Accepted-clause-text : goal.returns-in-Accepted-clause-text
returns-in-Accepted-clause-text g c = rw (c.in-Accepted.is) c.push_accepted.ensures.text

pub returns-in-Vanished-clause-text : goal.returns-in-Vanished-clause-text
returns-in-Vanished-clause-text g c = rw (c.in-Vanished.is) c.push_call-in-Vanished.ensures.text

pub returns-in-Forgotten-clause-text : goal.returns-in-Forgotten-clause-text
returns-in-Forgotten-clause-text g c = rw (c.in-Forgotten.is) c.push_call-in-Forgotten.ensures.text
