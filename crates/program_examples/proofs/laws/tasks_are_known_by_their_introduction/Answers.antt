use Rattle.program_examples.proofs.NamingLaws.{introductions, leaves, waits, services}
use Rattle.program_examples.proofs.laws.tasks_are_known_by_their_introduction.Goals as goal

pub returns-clause-introduced : goal.returns-clause-introduced
returns-clause-introduced c = introductions

pub returns-clause-left : goal.returns-clause-left
returns-clause-left c = leaves

pub returns-clause-waits : goal.returns-clause-waits
returns-clause-waits c = waits

pub returns-clause-services : goal.returns-clause-services
returns-clause-services c = services
