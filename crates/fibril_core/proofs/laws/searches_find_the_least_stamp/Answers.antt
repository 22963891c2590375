use Rattle.fibril_core.specs.declared.fibrils.Status.TheVariants.{Ready, Blocked}
use Rattle.fibril_core.proofs.Orders.{first_number, no_number}
use Rattle.fibril_core.proofs.laws.searches_find_the_least_stamp.Goals as goal

pub returns-clause-current : goal.returns-clause-current
returns-clause-current c = λ o f sound e. first_number o Ready f sound e

pub returns-clause-no_current : goal.returns-clause-no_current
returns-clause-no_current c = λ o e. no_number o Ready e

pub returns-clause-blocked : goal.returns-clause-blocked
returns-clause-blocked c = λ o w f sound e. first_number o (Blocked w) f sound e

pub returns-clause-no_blocked : goal.returns-clause-no_blocked
returns-clause-no_blocked c = λ o w e. no_number o (Blocked w) e
