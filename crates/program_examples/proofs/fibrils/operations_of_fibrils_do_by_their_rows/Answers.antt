use Rattle.std.proofs.Common.{refl}
use Rattle.program_examples.proofs.fibrils.operations_of_fibrils_do_by_their_rows.Goals as goal

pub returns-clause-calls : goal.returns-clause-calls
returns-clause-calls c = record {
  call = refl;
  call_refused = refl;
  call_where_one_is_sent = refl;
  call_where_one_is_answered = refl;
  send = refl;
  send_refused = refl;
  send_where_one_is_sent = refl;
  send_where_one_is_answered = refl;
  send_over_that_of_another_fibril = refl;
  send_over_none = refl;
  send_over_none_where_one_is_sent = refl;
}

pub returns-clause-waits : goal.returns-clause-waits
returns-clause-waits c = record {
  wait_answered = refl;
  wait_sent = refl;
  wait_for_none = refl;
  next = refl;
  next_where_it_is_closed = refl;
  next_where_none_has_come = refl;
  next_without_a_connection = refl;
  yield = refl;
}

pub returns-clause-raw : goal.returns-clause-raw
returns-clause-raw c = record {
  answer = refl;
  answer_refused = refl;
  forward = refl;
  forward_refused = refl;
  forward_with = refl;
  forward_with_refused = refl;
  area = refl;
  area_refused = refl;
  unarea = refl;
  unarea_refused = refl;
  poke = refl;
  poke_refused = refl;
  peek = refl;
  peek_refused = refl;
}

pub returns-clause-jumps : goal.returns-clause-jumps
returns-clause-jumps c = record {
  set = refl;
  set_no_register = refl;
  jump = refl;
  equal = refl;
  not_equal = refl;
  differ = refl;
  not_differ = refl;
}
