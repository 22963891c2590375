use Rattle.address_space.proofs.Staying.{stays}
use Rattle.address_space.proofs.laws.stores_stay_while_used.Goals as goal

pub returns : goal.returns
returns c = stays
