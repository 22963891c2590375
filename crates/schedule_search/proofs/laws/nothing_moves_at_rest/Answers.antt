use Rattle.schedule_search.proofs.Resting.{rests, at_rest}
use Rattle.schedule_search.proofs.laws.nothing_moves_at_rest.Goals as goal

pub returns-clause-rests : goal.returns-clause-rests
returns-clause-rests c = rests

pub returns-clause-at_rest : goal.returns-clause-at_rest
returns-clause-at_rest c = at_rest
