use Rattle.std.proofs.Common.{refl}
use Rattle.program_examples.proofs.fibrils.operations_on_sessions_do_by_their_rows.Goals as goal

pub returns-clause-opens : goal.returns-clause-opens
returns-clause-opens c = record { made = refl; in_use = refl }

pub returns-clause-begins : goal.returns-clause-begins
returns-clause-begins c = record {
  atomic = refl;
  serialize = refl;
  serialize_where_one_is_begun = refl;
  parallel_idle = refl;
  of_none = refl;
  of_none_under_a_used_handle = refl;
  under_a_used_handle = refl;
}

pub returns-clause-connects : goal.returns-clause-connects
returns-clause-connects c = record {
  sent = refl;
  refused = refl;
  limited = refl;
  hangs_up = refl;
  hangs_up_what_is_refused = refl;
  waits = refl;
  takes_an_idle_one = refl;
  ends_refused = refl;
}

pub returns-clause-ends : goal.returns-clause-ends
returns-clause-ends c = record {
  parallel = refl;
  serialize = refl;
  atomic = refl;
  of_another_fibril = refl;
  of_none = refl;
}

pub returns-clause-closes : goal.returns-clause-closes
returns-clause-closes c = record {
  idle = refl;
  last = refl;
  last_refused = refl;
  with_a_begun_one = refl;
  with_waiting_fibrils = refl;
  of_none = refl;
}
