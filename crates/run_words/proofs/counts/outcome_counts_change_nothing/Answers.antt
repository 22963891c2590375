use Rattle.run_words.proofs.ProgramCounts.{alike_wanted, alike_entries, alike_after}
use Rattle.run_words.proofs.counts.outcome_counts_change_nothing.Goals as goal

pub returns-clause-asked : goal.returns-clause-asked
returns-clause-asked c = alike_wanted

pub returns-clause-entries : goal.returns-clause-entries
returns-clause-entries c = alike_entries

pub returns-clause-became : goal.returns-clause-became
returns-clause-became c = alike_after
