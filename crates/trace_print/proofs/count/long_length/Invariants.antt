use Rattle.std.proofs.Common.{◌≡◌, ◌+◌, length, decimal}
use Rattle.trace_print.proofs.count.long_length.Given as goal

-- the digits that are counted and those of what is left, which has one at least
abbrev pub invariant-loop-left : goal.invariant-loop-left
invariant-loop-left l = l.length + length (decimal l.left) ≡ 1 + length (decimal l.number)

abbrev pub decreases-loop-left : goal.decreases-loop-left
decreases-loop-left l = l.left
