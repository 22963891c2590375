use Rattle.std.proofs.Common.{arith, refl}
use Rattle.switchboard.proofs.Switched.{switched_start}
use Rattle.switchboard.proofs.board.Switchboard.new.Goals as goal

pub invariant_of-result : goal.invariant_of-result
invariant_of-result c = rw (c.new.ensures.items, c.new-2.ensures, c.new-3.ensures.calls, c.new-3.ensures.tasks, c.new-4.ensures) (switched_start, record { calls = record { covers = omega arith; enough = omega arith; no_more = omega arith }; memory = refl })
