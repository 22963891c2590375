use Rattle.kernel_determined.proofs.KillSo.{kill_is_so, kill_is_killed}
use Rattle.kernel_determined.proofs.requests.kills_are_determined.Goals as goal

pub returns-clause-kept : goal.returns-clause-kept
returns-clause-kept c = kill_is_so

pub returns-clause-determined : goal.returns-clause-determined
returns-clause-determined c = kill_is_killed
