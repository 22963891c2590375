use Rattle.std.proofs.Common.{sym, subst, ap, ◌∙◌}
use Rattle.search_goals.specs.Goals.{text_words}
use Rattle.search_goals.specs.GoalText.{said, goal_by, Answers}
use Rattle.search_goals.proofs.FirstWords.{says_lost, says_rest, says_stuck, says_when, says_line}
use Rattle.search_goals.proofs.goal.goal_from.Goals as goal

pub returns-then-is_word : goal.returns-then-is_word
returns-then-is_word c =
    subst (Answers said c.goal_alone.result)
    (says_lost c.args.names.now c.args.tasks.now c.args.first.now (text_words c.args.others.now)
    (sym c.is_word.ensures ∙ c.if-is_word.true)) c.goal_alone.ensures

pub returns-then-is_word-2 : goal.returns-then-is_word-2
returns-then-is_word-2 c =
    subst (Answers said c.goal_alone-then-is_word-2.result)
    (says_rest c.args.names.now c.args.tasks.now c.args.first.now (text_words c.args.others.now)
    (sym c.is_word.ensures ∙ c.if-is_word.false) (sym c.is_word-2.ensures ∙ c.if-is_word-2.true))
    c.goal_alone-then-is_word-2.ensures

pub returns-then-is_word-3 : goal.returns-then-is_word-3
returns-then-is_word-3 c =
    subst (Answers said c.stuck_of.result)
    (says_stuck c.args.names.now c.args.tasks.now c.args.first.now (text_words c.args.others.now)
    (sym c.is_word.ensures ∙ c.if-is_word.false) (sym c.is_word-2.ensures ∙ c.if-is_word-2.false)
    (sym c.is_word-3.ensures ∙ c.if-is_word-3.true)) c.stuck_of.ensures

pub returns-then-is_word-4 : goal.returns-then-is_word-4
returns-then-is_word-4 c =
    subst (Answers said c.when_of.result)
    (says_when c.args.names.now c.args.tasks.now c.args.first.now (text_words c.args.others.now)
    (sym c.is_word.ensures ∙ c.if-is_word.false) (sym c.is_word-2.ensures ∙ c.if-is_word-2.false)
    (sym c.is_word-3.ensures ∙ c.if-is_word-3.false) (sym c.is_word-4.ensures ∙ c.if-is_word-4.true)) c.when_of.ensures

pub returns : goal.returns
returns c =
    subst (Answers said c.goal_by.result)
    (ap (λ owner. goal_by c.args.names.now owner c.args.first.now (text_words c.args.others.now)) c.owner_of.ensures
    ∙ says_line c.args.names.now c.args.tasks.now c.args.first.now (text_words c.args.others.now)
    (sym c.is_word.ensures ∙ c.if-is_word.false) (sym c.is_word-2.ensures ∙ c.if-is_word-2.false)
    (sym c.is_word-3.ensures ∙ c.if-is_word-3.false) (sym c.is_word-4.ensures ∙ c.if-is_word-4.false)) c.goal_by.ensures
