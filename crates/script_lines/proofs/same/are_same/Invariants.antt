use Rattle.std.proofs.Common.{◌≡◌, ◌*◌, take}
use Rattle.script_lines.proofs.same.are_same.Given as goal

abbrev pub invariant-loop-i : goal.invariant-loop-i
invariant-loop-i l = take (4 * l.i) l.left ≡ take (4 * l.i) l.right
