use Rattle.fibril_core.specs.declared.fibrils.Status.TheVariants.{Ready, Blocked}
use Rattle.fibril_core.proofs.Orders.{found_becomes, ready_becomes}
use Rattle.fibril_core.proofs.laws.calls_change_one_fibril.Goals as goal

pub returns-clause-blocked : goal.returns-clause-blocked
returns-clause-blocked c = λ o w f sound e. found_becomes o Ready (Blocked w) f sound e

pub returns-clause-yielded : goal.returns-clause-yielded
returns-clause-yielded c = λ o f sound e. found_becomes o Ready Ready f sound e

pub returns-clause-ready : goal.returns-clause-ready
returns-clause-ready c = ready_becomes

pub returns-clause-first : goal.returns-clause-first
returns-clause-first c = λ o w f sound e. found_becomes o (Blocked w) Ready f sound e
