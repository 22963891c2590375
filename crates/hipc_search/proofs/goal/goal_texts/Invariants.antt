use Rattle.std.proofs.Common.{◌≡◌, ◌++◌, length}
use Rattle.command_line.specs.Command.{texts}
use Rattle.script_lines.specs.Text.{texts as line_words}
use Rattle.hipc_search.specs.Command.{goals_in}
use Rattle.hipc_search.proofs.goal.goal_texts.Given as goal

-- the texts so far, and those that are left, are all
abbrev pub invariant-loop-pair : goal.invariant-loop-pair
invariant-loop-pair l = line_words l.goals.items ++ goals_in (texts l.left) ≡ goals_in (texts l.words)

abbrev pub decreases-loop-pair : goal.decreases-loop-pair
decreases-loop-pair l = length l.left
