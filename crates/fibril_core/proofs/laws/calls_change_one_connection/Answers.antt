use Rattle.fibril_core.proofs.Connections.{starts, route_changes, take_changes, finish_ends}
use Rattle.fibril_core.proofs.laws.calls_change_one_connection.Goals as goal

pub returns-clause-started : goal.returns-clause-started
returns-clause-started c = starts

pub returns-clause-routed : goal.returns-clause-routed
returns-clause-routed c = route_changes

pub returns-clause-taken : goal.returns-clause-taken
returns-clause-taken c = take_changes

pub returns-clause-finished : goal.returns-clause-finished
returns-clause-finished c = finish_ends
