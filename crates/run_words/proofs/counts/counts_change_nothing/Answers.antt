use Rattle.run_words.proofs.TurnCounts.{turns_alike, runs_alike, ends_alike}
use Rattle.run_words.proofs.counts.counts_change_nothing.Goals as goal

pub returns-clause-turns : goal.returns-clause-turns
returns-clause-turns c = turns_alike

pub returns-clause-runs : goal.returns-clause-runs
returns-clause-runs c = runs_alike

pub returns-clause-ends : goal.returns-clause-ends
returns-clause-ends c = ends_alike
