use Rattle.program_examples.proofs.FibrilRefusals.{short_ends}
use Rattle.program_examples.proofs.laws.begins_end_what_they_keep_in_mind.Goals as goal

pub returns : goal.returns
returns c = short_ends
