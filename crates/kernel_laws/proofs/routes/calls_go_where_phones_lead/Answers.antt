use Rattle.kernel_laws.proofs.CallRoutes.{serve_goes}
use Rattle.kernel_laws.proofs.KillRoutes.{kill_goes}
use Rattle.kernel_laws.proofs.routes.calls_go_where_phones_lead.Goals as goal

pub returns-clause-serves : goal.returns-clause-serves
returns-clause-serves c = serve_goes

pub returns-clause-kills : goal.returns-clause-kills
returns-clause-kills c = kill_goes
