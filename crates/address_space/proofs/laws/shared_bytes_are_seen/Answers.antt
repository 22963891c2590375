use Rattle.address_space.proofs.Sharing.{seen}
use Rattle.address_space.proofs.laws.shared_bytes_are_seen.Goals as goal

pub returns : goal.returns
returns c = seen
