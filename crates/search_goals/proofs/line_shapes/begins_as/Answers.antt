use Rattle.std.proofs.Common.{ap, sym, ◌∙◌}
use Rattle.search_goals.specs.Goals.{text_words, listed}
use Rattle.search_goals.specs.LineShapes.{may_be, begins_as}
use Rattle.search_goals.proofs.Beginnings.{begins_as_on, begins_as_not, begins_as_short, begins_as_all}
use Rattle.search_goals.proofs.line_shapes.begins_as.Goals as goal

pub loop-word-preserved : goal.loop-word-preserved
loop-word-preserved c =
    begins_as_on c.args.asked.now c.loop-word.word-index c.word-item.result c.in-Some.kind.now
    (text_words c.in-Some.others.now) (text_words c.loop-word.rest.now)
    (begins_as (listed c.args.asked.now) (text_words c.args.shape.now))
    c.loop-word-test.true c.word-item.is c.in-Some.ensures.some
    (ap (λ word. may_be word c.in-Some.kind.now) (sym c.as_slice.ensures.value) ∙ sym c.if-not-may_be.ensures)
    c.loop-word.invariant

pub returns-then-not-may_be : goal.returns-then-not-may_be
returns-then-not-may_be c =
    begins_as_not c.args.asked.now c.loop-word.word-index c.word-item.result c.in-Some.kind.now
    (text_words c.in-Some.others.now) (text_words c.loop-word.rest.now)
    (begins_as (listed c.args.asked.now) (text_words c.args.shape.now)) c.loop-word-test.true c.word-item.is c.in-Some.ensures.some
    (ap (λ word. may_be word c.in-Some.kind.now) (sym c.as_slice.ensures.value) ∙ sym c.if-not-may_be.ensures)
    c.loop-word.invariant

pub returns-in-None : goal.returns-in-None
returns-in-None c =
    begins_as_short c.args.asked.now c.loop-word.word-index c.word-item.result (text_words c.loop-word.rest.now)
    (begins_as (listed c.args.asked.now) (text_words c.args.shape.now)) c.loop-word-test.true c.in-None.ensures.none
    c.loop-word.invariant

pub returns : goal.returns
returns c =
    begins_as_all c.args.asked.now c.loop-word.word-index (text_words c.loop-word.rest.now)
    (begins_as (listed c.args.asked.now) (text_words c.args.shape.now)) c.loop-word-test.false c.loop-word.invariant
