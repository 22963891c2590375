use Rattle.program_examples.proofs.ProgramArguments.{raw_asks, fibrils_ask, naming_asks, server_asks}
use Rattle.program_examples.proofs.arguments.programs_ask_with_five_arguments.Goals as goal

pub returns-clause-raw : goal.returns-clause-raw
returns-clause-raw c = raw_asks

pub returns-clause-fibrils : goal.returns-clause-fibrils
returns-clause-fibrils c = fibrils_ask

pub returns-clause-naming : goal.returns-clause-naming
returns-clause-naming c = naming_asks

pub returns-clause-blocks : goal.returns-clause-blocks
returns-clause-blocks c = server_asks
