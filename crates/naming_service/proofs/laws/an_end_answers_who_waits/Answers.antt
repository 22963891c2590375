use Rattle.naming_service.proofs.EndLaws.{answers_waits}
use Rattle.naming_service.proofs.laws.an_end_answers_who_waits.Goals as goal

pub returns : goal.returns
returns c = answers_waits
