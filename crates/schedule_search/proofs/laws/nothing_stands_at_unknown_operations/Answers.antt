use Rattle.schedule_search.proofs.Past.{no_state}
use Rattle.schedule_search.proofs.laws.nothing_stands_at_unknown_operations.Goals as goal

pub returns : goal.returns
returns c = no_state
