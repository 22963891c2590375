use Rattle.std.proofs.Common.{◌≡◌, drop}
use Rattle.search_goals.specs.Goals.{text_words, begins, listed}
use Rattle.search_goals.proofs.meeting.begins.Given as goal

abbrev pub invariant-loop-word : goal.invariant-loop-word
invariant-loop-word l = begins (listed (drop l.word-index l.asked)) (text_words l.rest) ≡ begins (listed l.asked)
    (text_words l.text)
