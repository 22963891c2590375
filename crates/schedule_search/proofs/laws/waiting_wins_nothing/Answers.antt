use Rattle.schedule_search.proofs.Turns.{nothing_left, all_met}
use Rattle.schedule_search.proofs.laws.waiting_wins_nothing.Goals as goal

pub returns-clause-over : goal.returns-clause-over
returns-clause-over c = nothing_left

pub returns-clause-meets : goal.returns-clause-meets
returns-clause-meets c = all_met
