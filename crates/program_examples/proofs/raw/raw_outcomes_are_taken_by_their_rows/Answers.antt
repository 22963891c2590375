use Rattle.std.proofs.Common.{refl}
use Rattle.program_examples.proofs.raw.raw_outcomes_are_taken_by_their_rows.Goals as goal

pub returns-clause-outcomes : goal.returns-clause-outcomes
returns-clause-outcomes c = record {
  done = refl;
  refused = refl;
  accepted = refl;
  received = refl;
  answered = refl;
  bytes = refl;
  empty = refl;
  at_the_end = refl;
}

pub returns-clause-refusals : goal.returns-clause-refusals
returns-clause-refusals c = record {
  call = refl;
  answer = refl;
  forward = refl;
  forward_with = refl;
  hangup = refl;
  area = refl;
  unarea = refl;
  poke = refl;
  peek = refl;
}

pub returns-clause-jumps : goal.returns-clause-jumps
returns-clause-jumps c = record {
  set = refl;
  set_no_register = refl;
  jump = refl;
  equal = refl;
  not_equal = refl;
  differ = refl;
  not_differ = refl;
}

pub returns-clause-start : goal.returns-clause-start
returns-clause-start c = refl
