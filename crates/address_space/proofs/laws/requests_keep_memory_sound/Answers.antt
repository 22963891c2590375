use Rattle.address_space.proofs.Soundness.{sound_task, sound_make, sound_drop, sound_write, sound_share}
use Rattle.address_space.proofs.laws.requests_keep_memory_sound.Goals as goal

pub returns-clause-task : goal.returns-clause-task
returns-clause-task c = sound_task

pub returns-clause-make : goal.returns-clause-make
returns-clause-make c = sound_make

pub returns-clause-drop_area : goal.returns-clause-drop_area
returns-clause-drop_area c = sound_drop

pub returns-clause-write : goal.returns-clause-write
returns-clause-write c = sound_write

pub returns-clause-share : goal.returns-clause-share
returns-clause-share c = sound_share
