use Rattle.schedule_search.proofs.Alike.{fits}
use Rattle.schedule_search.proofs.laws.codes_stand_for_schedules.Goals as goal

pub returns : goal.returns
returns c = fits
