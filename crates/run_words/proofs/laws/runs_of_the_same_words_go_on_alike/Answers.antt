use Rattle.run_words.proofs.GoingOn.{same_entries, same_words}
use Rattle.run_words.proofs.laws.runs_of_the_same_words_go_on_alike.Goals as goal

pub returns-clause-entries : goal.returns-clause-entries
returns-clause-entries c = same_entries

pub returns-clause-words : goal.returns-clause-words
returns-clause-words c = same_words
