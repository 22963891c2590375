use Rattle.kernel_laws.specs.DataLaws.{first, second, third}
use Rattle.kernel_laws.proofs.LawfulShares.{offer_is_lawful, wish_is_lawful}
use Rattle.kernel_determined.proofs.ShareDetermined.{share_is_whole}
use Rattle.kernel_determined.proofs.memory.shares_give_what_they_name.Goals as goal

pub returns-clause-offered : goal.returns-clause-offered
returns-clause-offered c = λ m caller args sound. offer_is_lawful m caller args sound

pub returns-clause-wished : goal.returns-clause-wished
returns-clause-wished c = wish_is_lawful

pub returns-clause-given : goal.returns-clause-given
returns-clause-given c = λ m caller answerer args reply sound added.
    share_is_whole m caller (first args) answerer (first reply.args) (second args) (third args) sound added

pub returns-clause-taken : goal.returns-clause-taken
returns-clause-taken c = λ m caller answerer args reply sound added.
    share_is_whole m answerer (first reply.args) caller (first args) (second args) (third args) sound added
