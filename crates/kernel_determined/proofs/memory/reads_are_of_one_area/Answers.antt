use Rattle.kernel_laws.proofs.LawfulReads.{read_is_lawful, peek_is_lawful}
use Rattle.kernel_determined.proofs.memory.reads_are_of_one_area.Goals as goal

pub returns-clause-read : goal.returns-clause-read
returns-clause-read c = λ m t at count sound. read_is_lawful m t at count sound

pub returns-clause-peek : goal.returns-clause-peek
returns-clause-peek c = λ m t at count sound. peek_is_lawful m t at count sound
