use Rattle.std.proofs.Common.{◌≤◌, ℕ, List, length, sym, ◌∙◌}
use Rattle.search_goals.proofs.GoalWords.{some, no_word, word_then, others_shorter}
use Rattle.search_goals.proofs.meeting.next_word.Goals as goal

pub returns-then-is_empty-clause-none : goal.returns-then-is_empty-clause-none
returns-then-is_empty-clause-none c =
    no_word c.args.text.now c.cut_at.result.1.now c.cut_at-2.result.0.now c.cut_at-2.result.1.now
    c.cut_at.ensures.behind c.cut_at-2.ensures.front c.cut_at-2.ensures.behind
    (sym c.is_empty.ensures ∙ c.if-is_empty.true)

pub returns : goal.returns
returns c =
    let word : List ℕ = c.cut_at-2.result.0.now in
    let least : 1 ≤ length word = some (length word) (sym c.is_empty.ensures ∙ c.if-is_empty.false) in
    record {
      some = word_then c.args.text.now c.cut_at.result.1.now word c.cut_at-2.result.1.now
          c.cut_at.ensures.behind c.cut_at-2.ensures.front c.cut_at-2.ensures.behind least;
      none = tt;
      shorter = others_shorter c.args.text.now c.cut_at.result.1.now word c.cut_at-2.result.1.now
          c.cut_at.ensures.behind c.cut_at-2.ensures.front c.cut_at-2.ensures.behind least;
    }
