use Rattle.kernel_determined.proofs.AnswerSo.{answer_is_so, answer_is_served}
use Rattle.kernel_determined.proofs.requests.answers_are_determined.Goals as goal

pub returns-clause-kept : goal.returns-clause-kept
returns-clause-kept c = answer_is_so

pub returns-clause-determined : goal.returns-clause-determined
returns-clause-determined c = answer_is_served
