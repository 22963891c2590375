use Rattle.kernel_laws.specs.DataLaws.{first}
use Rattle.kernel_laws.proofs.LawfulData.{copy_is_lawful, asking_is_lawful, cut_is_lawful, taking_is_lawful}
use Rattle.kernel_determined.proofs.AnswerSo.{placing_is_whole}
use Rattle.kernel_determined.proofs.TakesSo.{write_is_whole}
use Rattle.kernel_determined.proofs.memory.data_calls_move_what_they_name.Goals as goal

pub returns-clause-copied : goal.returns-clause-copied
returns-clause-copied c = λ m caller args used sound. copy_is_lawful m caller args used sound

pub returns-clause-placed : goal.returns-clause-placed
returns-clause-placed c = placing_is_whole

pub returns-clause-asked : goal.returns-clause-asked
returns-clause-asked c = asking_is_lawful

pub returns-clause-cut : goal.returns-clause-cut
returns-clause-cut c = cut_is_lawful

pub returns-clause-taken : goal.returns-clause-taken
returns-clause-taken c = λ m answerer args reply used sound. taking_is_lawful m answerer args reply used sound

pub returns-clause-delivered : goal.returns-clause-delivered
returns-clause-delivered c = λ m caller args bytes sound. write_is_whole m caller (first args) bytes sound
