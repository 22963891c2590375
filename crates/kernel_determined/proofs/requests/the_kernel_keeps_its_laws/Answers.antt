use Rattle.kernel_determined.proofs.Machines.{kernel_is_lawful}
use Rattle.kernel_determined.proofs.requests.the_kernel_keeps_its_laws.Goals as goal

pub returns : goal.returns
returns c = kernel_is_lawful
