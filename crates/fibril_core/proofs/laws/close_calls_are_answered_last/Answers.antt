use Rattle.fibril_core.proofs.Connections.{owes_in_order}
use Rattle.fibril_core.proofs.laws.close_calls_are_answered_last.Goals as goal

pub returns : goal.returns
returns c = owes_in_order
