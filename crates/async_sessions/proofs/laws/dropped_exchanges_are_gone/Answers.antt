use Rattle.async_sessions.proofs.Answers.{drop_loses, session_lost}
use Rattle.async_sessions.proofs.laws.dropped_exchanges_are_gone.Goals as goal

pub returns-clause-begun : goal.returns-clause-begun
returns-clause-begun c = λ o f s m e phone. drop_loses o e

pub returns-clause-closed : goal.returns-clause-closed
returns-clause-closed c = λ o s e phone. drop_loses o e

pub returns-clause-last : goal.returns-clause-last
returns-clause-last c = λ o s phone few. session_lost o s few
