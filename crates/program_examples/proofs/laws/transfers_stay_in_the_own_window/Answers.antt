use Rattle.program_examples.proofs.BlockLaws.{read_refusals, write_refusals, reads, writes, places}
use Rattle.program_examples.proofs.laws.transfers_stay_in_the_own_window.Goals as goal

pub returns-clause-reads_refused : goal.returns-clause-reads_refused
returns-clause-reads_refused c = read_refusals

pub returns-clause-writes_refused : goal.returns-clause-writes_refused
returns-clause-writes_refused c = write_refusals

pub returns-clause-reads : goal.returns-clause-reads
returns-clause-reads c = reads

pub returns-clause-writes : goal.returns-clause-writes
returns-clause-writes c = writes

pub returns-clause-within : goal.returns-clause-within
returns-clause-within c = places
