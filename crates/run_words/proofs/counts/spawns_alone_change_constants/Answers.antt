use Rattle.run_words.proofs.KeptConstants.{program_keeps, events_keep, alike_constants}
use Rattle.run_words.proofs.counts.spawns_alone_change_constants.Goals as goal

pub returns-clause-program : goal.returns-clause-program
returns-clause-program c = program_keeps

pub returns-clause-events : goal.returns-clause-events
returns-clause-events c = events_keep

pub returns-clause-alike : goal.returns-clause-alike
returns-clause-alike c = alike_constants
