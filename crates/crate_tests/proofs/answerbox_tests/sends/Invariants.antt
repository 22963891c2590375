use Rattle.std.proofs.Common.{◌≡◌}
use Rattle.crate_tests.proofs.answerbox_tests.sends.Given as goal

abbrev pub invariant-loop : goal.invariant-loop
invariant-loop l = l.boxes.tasks ≡ 3
