use Rattle.std.proofs.Common.{◌≡◌, ◌++◌, map, take}
use Rattle.fibril_core.specs.Conns.{hung_up}
use Rattle.fibril_core.proofs.conn.hang_up_each.Given as goal

-- the answers to those that the loop saw are added
abbrev pub invariant-loop-queued : goal.invariant-loop-queued
invariant-loop-queued l = l.owed ≡ l.fn.owed ++ map hung_up (take l.queued-index l.calls)
