use Rattle.std.proofs.Common.{◌≡◌, take}
use Rattle.trace_print.proofs.comparison.begins_with.Given as goal

abbrev pub invariant-loop-i : goal.invariant-loop-i
invariant-loop-i l = take l.i l.line ≡ take l.i l.word
