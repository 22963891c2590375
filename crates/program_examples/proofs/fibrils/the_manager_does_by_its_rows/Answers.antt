use Rattle.std.proofs.Common.{refl}
use Rattle.program_examples.proofs.fibrils.the_manager_does_by_its_rows.Goals as goal

pub returns-clause-answers : goal.returns-clause-answers
returns-clause-answers c = record { to_who_waits = refl; to_a_slot = refl; to_nobody = refl }

pub returns-clause-connects : goal.returns-clause-connects
returns-clause-connects c = record { begins = refl; refused = refl; limited = refl; of_a_session_that_is_gone = refl }

pub returns-clause-calls : goal.returns-clause-calls
returns-clause-calls c = record {
  queued_last = refl;
  to_who_waits = refl;
  closes = refl;
  stray = refl;
  starts = refl;
  starts_again = refl;
  closes_who_waits = refl;
  closes_again = refl;
  connects_without_a_body = refl;
  nothing = refl;
}

pub returns-clause-ends : goal.returns-clause-ends
returns-clause-ends c = record { owed = refl; fibril_ends = refl }

pub returns-clause-start : goal.returns-clause-start
returns-clause-start c = refl
