use Rattle.fibril_core.proofs.Waking.{wakes_all}
use Rattle.fibril_core.proofs.laws.wakes_keep_the_order_of_blocking.Goals as goal

pub returns : goal.returns
returns c = wakes_all
