use Rattle.async_sessions.specs.Sessions.{session_at}
use Rattle.async_sessions.proofs.Answers.{begin_answers}
use Rattle.async_sessions.proofs.laws.begins_answer_by_the_table.Goals as goal

pub returns : goal.returns
returns c = λ o s short. begin_answers o s short (session_at o s)
