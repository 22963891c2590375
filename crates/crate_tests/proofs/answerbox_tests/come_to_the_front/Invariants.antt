use Rattle.std.proofs.Common.{◌≡◌}
use Rattle.crate_tests.proofs.answerbox_tests.come_to_the_front.Given as goal

abbrev pub invariant-loop-i : goal.invariant-loop-i
invariant-loop-i l = l.boxes.tasks ≡ 3
