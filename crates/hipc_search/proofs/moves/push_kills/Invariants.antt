use Rattle.std.proofs.Common.{◌≡◌, ◌++◌}
use Rattle.hipc_search.specs.Moves.{kill_of, is_killed, for_chosen}
use Rattle.hipc_search.proofs.moves.push_kills.Given as goal

-- what was added so far
abbrev pub invariant-loop-place : goal.invariant-loop-place
invariant-loop-place l = l.events.items ≡ l.fn.events.items ++ for_chosen kill_of (is_killed l.killed) l.place
