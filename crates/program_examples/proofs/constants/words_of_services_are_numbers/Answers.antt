use Rattle.std.proofs.Common.{refl}
use Rattle.program_examples.proofs.constants.words_of_services_are_numbers.Goals as goal

pub returns-clause-ends : goal.returns-clause-ends
returns-clause-ends c = record { with_value = λ n. refl; without = λ n. refl; none = refl; no_phone_is = refl }

pub returns-clause-windows : goal.returns-clause-windows
returns-clause-windows c = record {
  first = refl;
  third = refl;
  last = refl;
  each = λ n. refl;
  bytes = refl;
  refused = λ n. refl;
  done = refl;
  accepted = refl;
  received = refl;
  answered = refl;
  empty = refl;
  peeked = refl;
}
