use Rattle.std.proofs.Common.{◌≡◌}
use Rattle.crate_tests.proofs.answerbox_tests.even_leave.Given as goal

abbrev pub invariant-loop-i : goal.invariant-loop-i
invariant-loop-i l = l.boxes.tasks ≡ 3
