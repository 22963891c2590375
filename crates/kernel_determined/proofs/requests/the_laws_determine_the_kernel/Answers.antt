use Rattle.kernel_determined.proofs.Machines.{one_kernel}
use Rattle.kernel_determined.proofs.requests.the_laws_determine_the_kernel.Goals as goal

pub returns : goal.returns
returns c = one_kernel
