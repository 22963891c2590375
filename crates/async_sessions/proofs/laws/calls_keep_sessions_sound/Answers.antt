use Rattle.async_sessions.proofs.Sound.{sound_none, sound_made, sound_begun}
use Rattle.async_sessions.proofs.Sound.{sound_connected, sound_ended, sound_closed}
use Rattle.async_sessions.proofs.laws.calls_keep_sessions_sound.Goals as goal

pub returns-clause-none : goal.returns-clause-none
returns-clause-none c = sound_none

pub returns-clause-made : goal.returns-clause-made
returns-clause-made c = sound_made

pub returns-clause-begun : goal.returns-clause-begun
returns-clause-begun c = sound_begun

pub returns-clause-connected : goal.returns-clause-connected
returns-clause-connected c = sound_connected

pub returns-clause-ended : goal.returns-clause-ended
returns-clause-ended c = sound_ended

pub returns-clause-closed : goal.returns-clause-closed
returns-clause-closed c = sound_closed
