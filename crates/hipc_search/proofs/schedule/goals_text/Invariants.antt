use Rattle.std.proofs.Common.{◌≡◌, length}
use Rattle.command_line.specs.Command.{texts}
use Rattle.hipc_search.specs.Command.{goals_in, goals_text}
use Rattle.hipc_search.proofs.schedule.goals_text.Given as goal

-- the text so far, with the goals that are left, is that of all
abbrev pub invariant-loop-pair : goal.invariant-loop-pair
invariant-loop-pair l =
    goals_text l.text.items (goals_in (texts l.left)) ≡ goals_text l.first (goals_in (texts l.later))

abbrev pub decreases-loop-pair : goal.decreases-loop-pair
decreases-loop-pair l = length l.left
