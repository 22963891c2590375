use Rattle.schedule_search.proofs.Stuck.{stuck_has_lost}
use Rattle.schedule_search.proofs.laws.stuck_states_have_lost_a_call.Goals as goal

pub returns : goal.returns
returns c = stuck_has_lost
