use Rattle.run_words.proofs.GoingOn.{told_apart}
use Rattle.run_words.proofs.laws.words_tell_runs_apart.Goals as goal

pub returns : goal.returns
returns c = told_apart
