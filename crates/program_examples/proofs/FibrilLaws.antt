-- The laws of what fibrils and raw programs ask, over the definitions.
use Rattle.std.proofs.Common.{◌≡◌, ℕ, List, [], ◌∷◌, map, refl}
use Rattle.std.proofs.lemmas.Option.{get_or_from_slice_get}
use Rattle.ipc_ids.specs.declared.message.Msg.{Msg}
use Rattle.ipc_ids.specs.declared.message.Reply.{Reply}
use Rattle.ipc_ids.specs.declared.op.Value.{Value}
use Rattle.ipc_ids.specs.declared.op.Value.TheVariants.{Number, Register}
use Rattle.registers.specs.Registers.{value_in, msg_in, reply_in}
use Rattle.program_examples.specs.FibrilLaws.{Is, Are, IsMessage, IsReply, FibrilsAskAsGiven}

-- ---- values

pub value_is : (registers : List ℕ) (v : Value) (n : ℕ) → Is registers v n → value_in registers v ≡ n
value_is registers (Number m) n is = is
value_is registers (Register k) n is = get_or_from_slice_get registers k n 0 is

pub values_are : (registers : List ℕ) (vs : List Value) (ns : List ℕ) → Are registers vs ns
    → map (value_in registers) vs ≡ ns
values_are registers [] [] are = refl
values_are registers [] (n ∷ ns) are = absurd are
values_are registers (v ∷ vs) [] are = absurd are
values_are registers (v ∷ vs) (n ∷ ns) are = rw (value_is registers v n are.0, values_are registers vs ns are.1) refl

pub message_is : (registers : List ℕ) (method : Value) (args : List Value) (msg : Msg)
    → IsMessage registers method args msg → msg_in registers method args ≡ msg
message_is registers method args msg is = rw (
  value_is registers method msg.method is.method_is,
  values_are registers args msg.args is.args_are,
) refl

pub reply_is : (registers : List ℕ) (coded : Value) (args : List Value) (said : Reply)
    → IsReply registers coded args said → reply_in registers coded args ≡ said
reply_is registers coded args said is = rw (
  value_is registers coded said.code.0 is.code_is,
  values_are registers args said.args is.args_are,
) refl

pub asks : FibrilsAskAsGiven
asks = record {
  answer = λ a f t call coded args n said does number saying.
      rw (does, value_is t.registers call n number, reply_is t.registers coded args said saying) refl;
  forward = λ a f t call phone mode n p does number over.
      rw (does, value_is t.registers call n number, value_is t.registers phone p over) refl;
  forward_with = λ a f t call phone method mode args n p msg does number over message. rw (
    does,
    value_is t.registers call n number,
    value_is t.registers phone p over,
    message_is t.registers method args msg message,
  ) refl;
  area = λ a f t base pages rights b p r does one two three. rw (
    does,
    value_is t.registers base b one,
    value_is t.registers pages p two,
    value_is t.registers rights r three,
  ) refl;
  unarea = λ a f t base b does one. rw (does, value_is t.registers base b one) refl;
  poke = λ a f t address bytes n does one. rw (does, value_is t.registers address n one) refl;
  peek = λ a f t address count n m does one two.
      rw (does, value_is t.registers address n one, value_is t.registers count m two) refl;
}
