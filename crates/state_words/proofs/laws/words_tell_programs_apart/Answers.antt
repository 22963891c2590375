use Rattle.state_words.proofs.ProgramSplits.{raw_same, naming_same, block_same}
use Rattle.state_words.proofs.laws.words_tell_programs_apart.Goals as goal

pub returns-clause-raw : goal.returns-clause-raw
returns-clause-raw c = raw_same

pub returns-clause-naming : goal.returns-clause-naming
returns-clause-naming c = naming_same

pub returns-clause-block : goal.returns-clause-block
returns-clause-block c = block_same
