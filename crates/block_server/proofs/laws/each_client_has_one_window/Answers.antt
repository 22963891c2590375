use Rattle.block_server.proofs.Windows.{slots_differ, slots_differ_at_first}
use Rattle.block_server.proofs.laws.each_client_has_one_window.Goals as goal

pub returns-clause-start : goal.returns-clause-start
returns-clause-start c = slots_differ_at_first

pub returns-clause-step : goal.returns-clause-step
returns-clause-step c = slots_differ
