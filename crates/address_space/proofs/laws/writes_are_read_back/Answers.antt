use Rattle.address_space.proofs.ReadingBack.{reads_back}
use Rattle.address_space.proofs.laws.writes_are_read_back.Goals as goal

pub returns : goal.returns
returns c = reads_back
