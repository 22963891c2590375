use Rattle.std.proofs.Common.{refl}
use Rattle.program_examples.proofs.raw.raw_operations_ask_by_their_rows.Goals as goal

pub returns-clause-requests : goal.returns-clause-requests
returns-clause-requests c = record {
  call = refl;
  receive = refl;
  answer = refl;
  forward = refl;
  forward_plain = refl;
  forward_with = refl;
  hangup = refl;
  area = refl;
  unarea = refl;
  poke = refl;
  peek = refl;
  set = refl;
  jump = refl;
  jump_equal = refl;
  jump_differ = refl;
  no_register = refl;
  last_register = refl;
  at_the_end = refl;
}

pub returns-clause-silence : goal.returns-clause-silence
returns-clause-silence c = record {
  call_slot = refl;
  send = refl;
  wait = refl;
  next = refl;
  yield = refl;
  open_session = refl;
  begin = refl;
  end = refl;
  close = refl;
}
