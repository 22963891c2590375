use Rattle.kernel_laws.proofs.CarriedCalls.{serve_carries, kill_carries}
use Rattle.kernel_laws.proofs.carrying.calls_keep_what_they_carry.Goals as goal

pub returns-clause-serves : goal.returns-clause-serves
returns-clause-serves c = serve_carries

pub returns-clause-kills : goal.returns-clause-kills
returns-clause-kills c = kill_carries
