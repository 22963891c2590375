use Rattle.std.proofs.Common.{◌≡◌, ◌++◌, take}
use Rattle.hipc_search.specs.Moves.{spawns_in}
use Rattle.hipc_search.proofs.moves.push_spawns.Given as goal

-- what was added so far
abbrev pub invariant-loop-bound : goal.invariant-loop-bound
invariant-loop-bound l = l.events.items ≡ l.fn.events.items ++ spawns_in (take l.bound-index l.bounds)
