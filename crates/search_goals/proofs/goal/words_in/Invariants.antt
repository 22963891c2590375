use Rattle.std.proofs.Common.{◌≡◌, ◌≤◌, ◌+◌, length}
use Rattle.script_reader.specs.Reading.{lines_from}
use Rattle.search_goals.specs.Goals.{text_words, listed}
use Rattle.search_goals.specs.GoalText.{with_word, words_in}
use Rattle.search_goals.proofs.goal.words_in.Given as goal

abbrev pub invariant-loop-word : goal.invariant-loop-word
invariant-loop-word l =
    record {
      told : lines_from (with_word l.names) l.number (listed l.words.items)
          (text_words l.rest) ≡ words_in l.names l.place (text_words l.text);
      short : l.number + length l.rest ≤ l.place + length l.text;
    }

abbrev pub decreases-loop-word : goal.decreases-loop-word
decreases-loop-word l = length l.rest
