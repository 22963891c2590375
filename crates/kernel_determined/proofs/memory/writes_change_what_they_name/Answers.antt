use Rattle.kernel_determined.proofs.TakesSo.{write_is_whole}
use Rattle.kernel_determined.proofs.memory.writes_change_what_they_name.Goals as goal

pub returns : goal.returns
returns c = write_is_whole
