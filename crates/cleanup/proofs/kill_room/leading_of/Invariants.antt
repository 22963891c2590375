use Rattle.std.proofs.Common.{◌≡◌, ◌≤◌}
use Rattle.phone_table.specs.Phones.{state_at}
use Rattle.cleanup.specs.KillRoom.{total}
use Rattle.switchboard.specs.Rooms.{leads_to}
use Rattle.cleanup.proofs.kill_room.leading_of.Given as goal

-- what was counted so far
abbrev pub invariant-loop-phone : goal.invariant-loop-phone
invariant-loop-phone l = record { sum : l.slams ≡ total (λ p. leads_to l.who (state_at l.phones.states l.other.0 p)) l.phone 0; few : l.slams ≤ l.phone }
