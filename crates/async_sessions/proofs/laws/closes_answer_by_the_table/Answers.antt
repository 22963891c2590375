use Rattle.async_sessions.specs.Sessions.{session_at}
use Rattle.async_sessions.proofs.Answers.{close_answers}
use Rattle.async_sessions.proofs.laws.closes_answer_by_the_table.Goals as goal

pub returns : goal.returns
returns c = λ o s waiting. close_answers o s waiting (session_at o s)
