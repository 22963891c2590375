use Rattle.async_laws.proofs.TakenCalls.{next_takes_the_first, next_tells_the_closing}
use Rattle.async_laws.proofs.TakenCalls.{waiters_take_at_once, waiters_hear_hangups}
use Rattle.async_laws.proofs.TakenCalls.{started_ones_know_their_call}
use Rattle.async_laws.proofs.laws.next_tells_the_first_call.Goals as goal

pub returns : goal.returns
returns c = record {
  first = next_takes_the_first;
  closed = next_tells_the_closing;
  waiting = waiters_take_at_once;
  hung_up = waiters_hear_hangups;
  started = started_ones_know_their_call;
}
