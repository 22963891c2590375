use Rattle.run_determined.proofs.TaskPrograms.{tasks_run_their_plans}
use Rattle.run_determined.proofs.laws.tasks_run_their_plans.Goals as goal

pub returns : goal.returns
returns c = tasks_run_their_plans
