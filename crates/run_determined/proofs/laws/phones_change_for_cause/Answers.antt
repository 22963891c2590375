use Rattle.run_determined.proofs.CauseRuns.{run_is_caused}
use Rattle.run_determined.proofs.laws.phones_change_for_cause.Goals as goal

pub returns : goal.returns
returns c = run_is_caused
