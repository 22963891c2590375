use Rattle.program_examples.proofs.FibrilRefusals.{begins, closes, others}
use Rattle.program_examples.proofs.laws.begins_and_closes_are_refused_by_their_causes.Goals as goal

pub returns-clause-begins : goal.returns-clause-begins
returns-clause-begins c = begins

pub returns-clause-closes : goal.returns-clause-closes
returns-clause-closes c = closes

pub returns-clause-others : goal.returns-clause-others
returns-clause-others c = others
