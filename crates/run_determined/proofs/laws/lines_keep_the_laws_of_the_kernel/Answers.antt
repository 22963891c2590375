use Rattle.run_determined.proofs.ScheduleLines.{steps_serve, kills_kill}
use Rattle.run_determined.proofs.laws.lines_keep_the_laws_of_the_kernel.Goals as goal

pub returns-clause-steps : goal.returns-clause-steps
returns-clause-steps c = steps_serve

pub returns-clause-kills : goal.returns-clause-kills
returns-clause-kills c = kills_kill
