use Rattle.std.proofs.Common.{refl}
use Rattle.program_examples.proofs.services.the_naming_service_does_by_its_rows.Goals as goal

pub returns-clause-registrations : goal.returns-clause-registrations
returns-clause-registrations c = record {
  taken = refl;
  of_a_phone_that_comes_again = refl;
  of_the_same_service = refl;
  of_a_known_service = refl;
  without_a_phone = refl;
}

pub returns-clause-connections : goal.returns-clause-connections
returns-clause-connections c = record { there = refl; waiting = refl; not_waiting = refl }

pub returns-clause-ends : goal.returns-clause-ends
returns-clause-ends c = record {
  introduced = refl;
  introduced_again = refl;
  introduced_after_its_end = refl;
  leaves = refl;
  leaves_again = refl;
  leaves_over_another_phone = refl;
  leaves_after_its_end = refl;
  leaves_unknown = refl;
  waits_for_it = refl;
  waits_for_ended = refl;
  waits_for_ended_without_a_value = refl;
  waits_for_unknown = refl;
}

pub returns-clause-hangups : goal.returns-clause-hangups
returns-clause-hangups c = record {
  ends = refl;
  ends_without_a_value = refl;
  of_another_phone = refl;
  of_one_that_has_ended = refl;
  of_unknown = refl;
  other_method = refl;
  data_method = refl;
}

pub returns-clause-work : goal.returns-clause-work
returns-clause-work c = record {
  answer = refl;
  forward = refl;
  none = refl;
  done = refl;
  refused = refl;
  nothing_came = refl;
  answer_came = refl;
  start = refl;
}
