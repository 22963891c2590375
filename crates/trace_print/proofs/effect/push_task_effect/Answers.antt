use Rattle.std.proofs.Common.{codes}
use Rattle.trace_print.specs.Text.{label_text, phone_state_text, spaced_text, store_text, task_text}
use Rattle.trace_print.proofs.Parts.{three, four, five, six}
use Rattle.trace_print.proofs.effect.push_task_effect.Goals as goal

pub returns-in-PhoneIs-clause-text : goal.returns-in-PhoneIs-clause-text
returns-in-PhoneIs-clause-text g c =
    let a = c.in-PhoneIs in
    rw (a.is)
    (four g.P.Pen.mark _ (codes "phone ") (label_text a.phone) (codes " ") (phone_state_text a.state)
    c.word.ensures.text c.push_label.ensures.text c.byte.ensures.text c.push_state.ensures.text)

pub returns-in-AreaMade-clause-text : goal.returns-in-AreaMade-clause-text
returns-in-AreaMade-clause-text g c =
    let a = c.in-AreaMade in
    rw (a.is)
    (six g.P.Pen.mark _ (codes "area ") (task_text a.task) (spaced_text a.base) (spaced_text a.pages) (spaced_text a.rights)
    (store_text a.store) c.word-in-AreaMade.ensures.text c.push_task.ensures.text
    c.push_spaced.ensures.text c.push_spaced-in-AreaMade.ensures.text c.push_spaced-in-AreaMade-2.ensures.text c.push_store.ensures.text)

pub returns-in-AreaGone-clause-text : goal.returns-in-AreaGone-clause-text
returns-in-AreaGone-clause-text g c =
    let a = c.in-AreaGone in
    rw (a.is)
    (three g.P.Pen.mark _ (codes "unarea ") (task_text a.task) (spaced_text a.base)
    c.word-in-AreaGone.ensures.text c.push_task-in-AreaGone.ensures.text c.push_spaced-in-AreaGone.ensures.text)

pub returns-in-Wrote-clause-text : goal.returns-in-Wrote-clause-text
returns-in-Wrote-clause-text g c =
    let a = c.in-Wrote in
    rw (a.is)
    (five g.P.Pen.mark _ (codes "write ") (task_text a.task) (spaced_text a.at) (spaced_text a.count) (store_text a.store)
    c.word-in-Wrote.ensures.text c.push_task-in-Wrote.ensures.text
    c.push_spaced-in-Wrote.ensures.text c.push_spaced-in-Wrote-2.ensures.text c.push_store-in-Wrote.ensures.text)
