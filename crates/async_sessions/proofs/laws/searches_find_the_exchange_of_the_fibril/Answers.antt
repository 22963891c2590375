use Rattle.async_sessions.proofs.Answers.{finds_held}
use Rattle.async_sessions.proofs.laws.searches_find_the_exchange_of_the_fibril.Goals as goal

pub returns : goal.returns
returns c = λ o f e. finds_held f e o.exchanges
