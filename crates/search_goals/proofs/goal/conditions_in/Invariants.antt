use Rattle.std.proofs.Common.{◌≡◌, ◌≤◌, ◌+◌, length}
use Rattle.script_reader.specs.Reading.{lines_from}
use Rattle.search_goals.specs.Goals.{text_words}
use Rattle.search_goals.specs.GoalText.{with_condition, conditions_in}
use Rattle.search_goals.proofs.goal.conditions_in.Given as goal

-- what was read, and what is left, say what all words say
abbrev pub invariant-loop-word : goal.invariant-loop-word
invariant-loop-word l =
    record {
      told :
          lines_from (with_condition l.names l.tasks) l.number l.conditions.items (text_words l.rest)
          ≡ conditions_in l.names l.tasks (text_words l.text);
      short : l.number + length l.rest ≤ 2 + length l.text;
    }

abbrev pub decreases-loop-word : goal.decreases-loop-word
decreases-loop-word l = length l.rest
