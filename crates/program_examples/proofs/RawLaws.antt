-- The law of what raw programs ask, over the definitions.
use Rattle.std.proofs.Common.{refl}
use Rattle.program_examples.specs.FibrilLaws.{RawProgramsAskAsGiven}
use Rattle.program_examples.proofs.FibrilLaws.{value_is, message_is, reply_is}

pub asks : RawProgramsAskAsGiven
asks = record {
  call = λ r phone method args p msg does over message.
      rw (does, value_is r.registers phone p over, message_is r.registers method args msg message) refl;
  receive = λ r does. rw does refl;
  answer = λ r call coded args n said does number saying.
      rw (does, value_is r.registers call n number, reply_is r.registers coded args said saying) refl;
  forward = λ r call phone mode n p does number over.
      rw (does, value_is r.registers call n number, value_is r.registers phone p over) refl;
  forward_with = λ r call phone method mode args n p msg does number over message. rw (
    does,
    value_is r.registers call n number,
    value_is r.registers phone p over,
    message_is r.registers method args msg message,
  ) refl;
  hangup = λ r phone p does over. rw (does, value_is r.registers phone p over) refl;
  area = λ r base pages rights b p i does one two three. rw (
    does,
    value_is r.registers base b one,
    value_is r.registers pages p two,
    value_is r.registers rights i three,
  ) refl;
  unarea = λ r base b does one. rw (does, value_is r.registers base b one) refl;
  poke = λ r address bytes n does one. rw (does, value_is r.registers address n one) refl;
  peek = λ r address count n m does one two.
      rw (does, value_is r.registers address n one, value_is r.registers count m two) refl;
}
