use Rattle.run_determined.proofs.ScheduleLines.{spawns_make}
use Rattle.run_determined.proofs.laws.spawns_make_their_template.Goals as goal

pub returns : goal.returns
returns c = spawns_make
