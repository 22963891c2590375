use Rattle.async_sessions.proofs.Answers.{ends_one}
use Rattle.async_sessions.proofs.laws.ends_change_one_exchange.Goals as goal

pub returns : goal.returns
returns c = ends_one
