use Rattle.kernel_laws.proofs.KillRoutes.{kill_leads}
use Rattle.kernel_laws.proofs.PhoneRoutes.{serve_leads}
use Rattle.kernel_laws.proofs.routes.phones_lead_where_they_are_connected.Goals as goal

pub returns-clause-serves : goal.returns-clause-serves
returns-clause-serves c = serve_leads

pub returns-clause-kills : goal.returns-clause-kills
returns-clause-kills c = kill_leads
