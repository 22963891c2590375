use Rattle.std.proofs.Common.{◌-◌, ◌≤◌, length}
use Rattle.switchboard.proofs.phones.width.Given as goal

abbrev pub invariant-loop-row : goal.invariant-loop-row
invariant-loop-row l = record { within : l.number ≤ length l.row.states; few : l.number ≤ 64 }

abbrev pub decreases-loop-row : goal.decreases-loop-row
decreases-loop-row l = 64 - l.number
