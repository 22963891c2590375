use Rattle.kernel_laws.proofs.ActiveCalls.{has_active}
use Rattle.kernel_determined.proofs.StateLaws.{as_many}
use Rattle.kernel_determined.proofs.states.active_calls_have_one_count.Goals as goal

pub returns-clause-counted : goal.returns-clause-counted
returns-clause-counted c = has_active

pub returns-clause-one : goal.returns-clause-one
returns-clause-one c = as_many
