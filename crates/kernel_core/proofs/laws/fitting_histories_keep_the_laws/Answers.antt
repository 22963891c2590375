use Rattle.kernel_core.proofs.WholeHistories.{laws_of_history, area_law_of_history}
use Rattle.kernel_core.proofs.laws.fitting_histories_keep_the_laws.Goals as goal

pub returns-clause-life : goal.returns-clause-life
returns-clause-life c = λ h k fits. (laws_of_history h k fits).0

pub returns-clause-answers : goal.returns-clause-answers
returns-clause-answers c = λ h k fits. (laws_of_history h k fits).1

pub returns-clause-kills : goal.returns-clause-kills
returns-clause-kills c = λ h k fits. (laws_of_history h k fits).2

pub returns-clause-areas : goal.returns-clause-areas
returns-clause-areas c = area_law_of_history
