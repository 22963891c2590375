use Rattle.schedule_search.proofs.AlikeHolding.{one_alike, all_alike}
use Rattle.schedule_search.proofs.laws.alike_states_hold_alike.Goals as goal

pub returns-clause-one : goal.returns-clause-one
returns-clause-one c = one_alike

pub returns-clause-all : goal.returns-clause-all
returns-clause-all c = all_alike
