use Rattle.std.proofs.Common.{◌≡◌, ◌++◌}
use Rattle.hipc_search.specs.Moves.{living_steps}
use Rattle.hipc_search.proofs.moves.push_living.Given as goal

-- what was added so far
abbrev pub invariant-loop-place : goal.invariant-loop-place
invariant-loop-place l = l.events.items ≡ l.fn.events.items ++ living_steps l.first l.later l.place
