use Rattle.std.proofs.Common.{refl}
use Rattle.program_examples.proofs.fibrils.fibrils_ask_by_their_rows.Goals as goal

pub returns-clause-calls : goal.returns-clause-calls
returns-clause-calls c = record {
  call = refl;
  call_where_one_is_sent = refl;
  call_where_one_is_answered = refl;
  send = refl;
  send_over_the_other = refl;
  send_where_one_is_sent = refl;
  send_where_one_is_answered = refl;
  send_over_that_of_another_fibril = refl;
  send_over_none = refl;
}

pub returns-clause-sessions : goal.returns-clause-sessions
returns-clause-sessions c = record {
  open_session = refl;
  begin_atomic = refl;
  begin_serialize = refl;
  begin_idle = refl;
  begin_connects = refl;
  begin_short = refl;
  begin_short_and_idle = refl;
  begin_short_and_busy = refl;
  begin_of_none = refl;
  begin_under_a_used_handle = refl;
  end_exchange = refl;
  close_with_an_idle_one = refl;
  close_with_none = refl;
  close_with_a_begun_one = refl;
  close_with_waiting_fibrils = refl;
  close_of_none = refl;
}

pub returns-clause-requests : goal.returns-clause-requests
returns-clause-requests c = record {
  answer = refl;
  forward = refl;
  forward_plain = refl;
  forward_with = refl;
  area = refl;
  unarea = refl;
  poke = refl;
  peek = refl;
}

pub returns-clause-silence : goal.returns-clause-silence
returns-clause-silence c = record {
  wait = refl;
  next = refl;
  yield = refl;
  set = refl;
  jump = refl;
  jump_equal = refl;
  jump_differ = refl;
  raw_call = refl;
  raw_receive = refl;
  raw_hangup = refl;
}

pub returns-clause-turns : goal.returns-clause-turns
returns-clause-turns c = record { owed_first = refl; ready_longest = refl; at_the_end = refl; none_ready = refl }
