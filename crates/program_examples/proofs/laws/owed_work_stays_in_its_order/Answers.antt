use Rattle.program_examples.proofs.NamingLaws.{owed}
use Rattle.program_examples.proofs.BlockLaws.{answered_transfers, owed as blocks_owed}
use Rattle.program_examples.proofs.FibrilRefusals.{owed as tasks_owe}
use Rattle.program_examples.proofs.laws.owed_work_stays_in_its_order.Goals as goal

pub returns-clause-naming : goal.returns-clause-naming
returns-clause-naming c = owed

pub returns-clause-blocks : goal.returns-clause-blocks
returns-clause-blocks c = blocks_owed

pub returns-clause-transfers : goal.returns-clause-transfers
returns-clause-transfers c = answered_transfers

pub returns-clause-tasks : goal.returns-clause-tasks
returns-clause-tasks c = tasks_owe
