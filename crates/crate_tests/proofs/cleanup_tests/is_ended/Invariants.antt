use Rattle.std.proofs.Common.{false, ◌∷◌, []}
use Rattle.crate_tests.proofs.cleanup_tests.is_ended.Given as goal

abbrev pub ghost-end_task : goal.ghost-end_task
ghost-end_task a = false ∷ []
