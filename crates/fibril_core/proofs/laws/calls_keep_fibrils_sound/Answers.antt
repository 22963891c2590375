use Rattle.fibril_core.specs.declared.fibrils.Status.TheVariants.{Ready, Blocked}
use Rattle.fibril_core.proofs.Orders.{sound_none, sound_spawned, sound_found, sound_ended, sound_ready}
use Rattle.fibril_core.proofs.Waking.{sound_wakes}
use Rattle.fibril_core.proofs.laws.calls_keep_fibrils_sound.Goals as goal

pub returns-clause-none : goal.returns-clause-none
returns-clause-none c = sound_none

pub returns-clause-spawned : goal.returns-clause-spawned
returns-clause-spawned c = sound_spawned

pub returns-clause-blocked : goal.returns-clause-blocked
returns-clause-blocked c = λ o w sound. sound_found o Ready (Blocked w) sound

pub returns-clause-yielded : goal.returns-clause-yielded
returns-clause-yielded c = λ o sound. sound_found o Ready Ready sound

pub returns-clause-ended : goal.returns-clause-ended
returns-clause-ended c = sound_ended

pub returns-clause-ready : goal.returns-clause-ready
returns-clause-ready c = sound_ready

pub returns-clause-first : goal.returns-clause-first
returns-clause-first c = λ o w sound. sound_found o (Blocked w) Ready sound

pub returns-clause-all : goal.returns-clause-all
returns-clause-all c = sound_wakes
