use Rattle.std.proofs.Common.{ap, sym, ◌∙◌}
use Rattle.search_goals.specs.Goals.{fits, begins, text_words, listed}
use Rattle.search_goals.proofs.Beginnings.{begins_on, begins_not, begins_short, begins_all}
use Rattle.search_goals.proofs.meeting.begins.Goals as goal

pub loop-word-preserved : goal.loop-word-preserved
loop-word-preserved c =
    begins_on c.args.asked.now c.loop-word.word-index c.word-item.result c.in-Some.found.now (text_words c.in-Some.others.now)
    (text_words c.loop-word.rest.now) (begins (listed c.args.asked.now) (text_words c.args.text.now))
    c.loop-word-test.true c.word-item.is c.in-Some.ensures.some
    (ap (λ word. fits word c.in-Some.found.now) (sym c.as_slice.ensures.value) ∙ sym c.if-not-fits.ensures)
    c.loop-word.invariant

pub returns-then-not-fits : goal.returns-then-not-fits
returns-then-not-fits c =
    begins_not c.args.asked.now c.loop-word.word-index c.word-item.result c.in-Some.found.now
    (text_words c.in-Some.others.now) (text_words c.loop-word.rest.now)
    (begins (listed c.args.asked.now) (text_words c.args.text.now)) c.loop-word-test.true c.word-item.is c.in-Some.ensures.some
    (ap (λ word. fits word c.in-Some.found.now) (sym c.as_slice.ensures.value) ∙ sym c.if-not-fits.ensures)
    c.loop-word.invariant

pub returns-in-None : goal.returns-in-None
returns-in-None c =
    begins_short c.args.asked.now c.loop-word.word-index c.word-item.result (text_words c.loop-word.rest.now)
    (begins (listed c.args.asked.now) (text_words c.args.text.now)) c.loop-word-test.true c.in-None.ensures.none
    c.loop-word.invariant

pub returns : goal.returns
returns c =
    begins_all c.args.asked.now c.loop-word.word-index (text_words c.loop-word.rest.now)
    (begins (listed c.args.asked.now) (text_words c.args.text.now)) c.loop-word-test.false c.loop-word.invariant
