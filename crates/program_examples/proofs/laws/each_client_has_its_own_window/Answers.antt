use Rattle.program_examples.proofs.BlockLaws.{shares, connects}
use Rattle.program_examples.proofs.laws.each_client_has_its_own_window.Goals as goal

pub returns-clause-shares : goal.returns-clause-shares
returns-clause-shares c = shares

pub returns-clause-connects : goal.returns-clause-connects
returns-clause-connects c = connects
