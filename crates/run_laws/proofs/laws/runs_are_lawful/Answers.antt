use Rattle.run_laws.proofs.LawfulRuns.{run_is_lawful}
use Rattle.run_laws.proofs.laws.runs_are_lawful.Goals as goal

pub returns : goal.returns
returns c = run_is_lawful
