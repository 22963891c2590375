use Rattle.kernel_core.proofs.HonestEvents.{serve_is_honest, kill_is_honest, kill_delivers_none}
use Rattle.kernel_laws.proofs.laws.events_are_honest.Goals as goal

pub returns-clause-serves : goal.returns-clause-serves
returns-clause-serves c = serve_is_honest

pub returns-clause-kills : goal.returns-clause-kills
returns-clause-kills c = kill_is_honest

pub returns-clause-answers : goal.returns-clause-answers
returns-clause-answers c = kill_delivers_none
