use Rattle.std.proofs.Common.{◌≡◌}
use Rattle.cleanup.specs.KillRoom.{total, leading_at}
use Rattle.cleanup.proofs.kill_room.leading.Given as goal

-- what was counted so far
abbrev pub invariant-loop-i : goal.invariant-loop-i
invariant-loop-i l = l.slams ≡ total (leading_at l.who l.phones.states) l.i 0
