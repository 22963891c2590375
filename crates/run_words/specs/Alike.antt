-- States of a run that are the same but for counts and for the stamps of calls.
use Rattle.std.specs.Prelude.{◌≡◌}
use Rattle.task_system.specs.Run.{RunState}
use Rattle.run_words.specs.AlikeStates.{uncounted_programs}
use Rattle.run_words.specs.Kernel.{AreAlikeKernels}

-- two states of a run differ in counts, and in stamps of calls that stand in one order within each place, alone
pub record AreAlikeRuns (a b : RunState) : Type 0 where
  pub kernel : AreAlikeKernels a.kernel b.kernel
  pub programs : uncounted_programs a.programs ≡ uncounted_programs b.programs
  pub templates : a.templates ≡ b.templates
  pub names : a.names ≡ b.names
