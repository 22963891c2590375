use Rattle.program_examples.proofs.FibrilLaws.{asks}
use Rattle.program_examples.proofs.FibrilRefusals.{calls, sends}
use Rattle.program_examples.proofs.RawLaws.{asks as raw_asks}
use Rattle.program_examples.proofs.laws.programs_ask_what_their_operation_says.Goals as goal

pub returns-clause-asks : goal.returns-clause-asks
returns-clause-asks c = asks

pub returns-clause-calls : goal.returns-clause-calls
returns-clause-calls c = calls

pub returns-clause-sends : goal.returns-clause-sends
returns-clause-sends c = sends

pub returns-clause-raw : goal.returns-clause-raw
returns-clause-raw c = raw_asks
