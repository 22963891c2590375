use Rattle.fibril_core.proofs.Connections.{sound_no_conns, sound_started, sound_routed, sound_taken, sound_finished}
use Rattle.fibril_core.proofs.laws.calls_keep_connections_sound.Goals as goal

pub returns-clause-none : goal.returns-clause-none
returns-clause-none c = sound_no_conns

pub returns-clause-started : goal.returns-clause-started
returns-clause-started c = sound_started

pub returns-clause-routed : goal.returns-clause-routed
returns-clause-routed c = sound_routed

pub returns-clause-taken : goal.returns-clause-taken
returns-clause-taken c = sound_taken

pub returns-clause-finished : goal.returns-clause-finished
returns-clause-finished c = sound_finished
