use Rattle.kernel_laws.proofs.LawfulAreas.{make_is_lawful, one_base}
use Rattle.kernel_determined.proofs.AreasDetermined.{make_is_whole}
use Rattle.kernel_determined.proofs.DropDetermined.{drop_is_whole}
use Rattle.kernel_determined.proofs.ShareDetermined.{share_is_whole}
use Rattle.kernel_determined.proofs.memory.areas_are_refused_by_the_first_cause.Goals as goal

pub returns-clause-make : goal.returns-clause-make
returns-clause-make c = λ m t base pages rights sound added.
    make_is_whole m t base pages rights (make_is_lawful m t base pages rights sound added)

pub returns-clause-share : goal.returns-clause-share
returns-clause-share c = λ m from base to target pages rights sound added.
    share_is_whole m from base to target pages rights sound added

pub returns-clause-drop : goal.returns-clause-drop
returns-clause-drop c = drop_is_whole

pub returns-clause-one : goal.returns-clause-one
returns-clause-one c = one_base
