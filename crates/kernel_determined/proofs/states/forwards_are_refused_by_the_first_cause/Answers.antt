use Rattle.kernel_determined.proofs.ForwardCauses.{forwards_are_told}
use Rattle.kernel_determined.proofs.states.forwards_are_refused_by_the_first_cause.Goals as goal

pub returns : goal.returns
returns c = forwards_are_told
