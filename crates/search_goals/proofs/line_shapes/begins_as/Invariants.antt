use Rattle.std.proofs.Common.{◌≡◌, drop}
use Rattle.search_goals.specs.Goals.{text_words, listed}
use Rattle.search_goals.specs.LineShapes.{begins_as}
use Rattle.search_goals.proofs.line_shapes.begins_as.Given as goal

-- the words that are left decide, against what is left of the shape
abbrev pub invariant-loop-word : goal.invariant-loop-word
invariant-loop-word l =
    begins_as (listed (drop l.word-index l.asked)) (text_words l.rest) ≡ begins_as (listed l.asked) (text_words l.shape)
