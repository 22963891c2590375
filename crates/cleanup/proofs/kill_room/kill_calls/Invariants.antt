use Rattle.std.proofs.Common.{◌≡◌, ◌≤◌}
use Rattle.phone_table.specs.Phones.{state_at}
use Rattle.switchboard.specs.Rooms.{calls_of_hangup}
use Rattle.cleanup.specs.KillRoom.{total}
use Rattle.cleanup.proofs.kill_room.kill_calls.Given as goal

-- what was counted so far
abbrev pub invariant-loop-phone : goal.invariant-loop-phone
invariant-loop-phone l = record { sum : l.calls ≡ total (λ p. calls_of_hangup (state_at l.phones.states l.who.0 p)) l.phone 0; few : l.calls ≤ l.phone }
