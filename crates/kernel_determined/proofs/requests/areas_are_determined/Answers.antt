use Rattle.switchboard.proofs.SoundMemory.{from_one}
use Rattle.kernel_determined.proofs.AreasDetermined.{area_make_is_so, area_make_is_determined}
use Rattle.kernel_determined.proofs.DropDetermined.{area_drop_is_so, area_drop_is_determined}
use Rattle.kernel_determined.proofs.requests.areas_are_determined.Goals as goal

pub returns-clause-made : goal.returns-clause-made
returns-clause-made c = area_make_is_so

pub returns-clause-one_made : goal.returns-clause-one_made
returns-clause-one_made c = area_make_is_determined

pub returns-clause-dropped : goal.returns-clause-dropped
returns-clause-dropped c = area_drop_is_so

pub returns-clause-one_dropped : goal.returns-clause-one_dropped
returns-clause-one_dropped c = λ k t base a b sound alive.
    area_drop_is_determined k t base a b sound.memory.spaces (from_one k.tasks.alive t alive)
