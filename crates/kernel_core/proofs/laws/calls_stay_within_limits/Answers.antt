use Rattle.cleanup.proofs.Limits.{active_within}
use Rattle.kernel_core.proofs.ServedLimits.{accepted_few, serve_within}
use Rattle.kernel_core.proofs.SpawnedHistories.{spawn_within}
use Rattle.kernel_core.proofs.laws.calls_stay_within_limits.Goals as goal

pub returns-clause-accepted : goal.returns-clause-accepted
returns-clause-accepted c = accepted_few

pub returns-clause-kept : goal.returns-clause-kept
returns-clause-kept c = serve_within

pub returns-clause-spawned : goal.returns-clause-spawned
returns-clause-spawned c = λ k limit names sound some within. spawn_within k limit names some sound within

pub returns-clause-most : goal.returns-clause-most
returns-clause-most c = λ h k t p fits. active_within k fits.limits t p
