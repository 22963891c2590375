use Rattle.run_determined.proofs.LiveRuns.{waits_are_live}
use Rattle.run_determined.proofs.laws.waits_are_for_live_calls.Goals as goal

pub returns : goal.returns
returns c = waits_are_live
