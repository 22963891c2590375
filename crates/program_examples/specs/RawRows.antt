-- What a raw program asks and what an outcome makes of it, a row for each operation and each outcome. Registers r0 to
-- r31 hold 100 to 131, the operation stands at place 2, and 40 outcomes came before.
use Rattle.std.specs.Prelude.{◌≡◌, ℕ, List, [], ◌∷◌, ◌++◌, None, Some}
use Rattle.ipc_ids.specs.declared.message.Mode.TheVariants.{Plain, Route}
use Rattle.ipc_ids.specs.declared.message.ExchangeMode.TheVariants.{Atomic}
use Rattle.ipc_ids.specs.declared.message.Request.TheVariants as ask
use Rattle.ipc_ids.specs.declared.message.Outcome.TheVariants as got
use Rattle.ipc_ids.specs.declared.op.Value.TheVariants.{Number, Register}
use Rattle.ipc_ids.specs.declared.op.Op.{Op}
use Rattle.ipc_ids.specs.declared.op.Op.TheVariants as op
use Rattle.raw_program.specs.Raw.{RawState, started, wanted, after}
use Rattle.program_examples.specs.Apart.{from, five, five_values, call_number, code, message, reply, label}

-- a program of three operations, at this place
abbrev pub placed : Op → ℕ → List ℕ → ℕ → RawState
placed o place registers taken =
    record { ops = op.Yield ∷ op.Receive ∷ o ∷ []; place = place; registers = registers; taken = taken }

-- before the third of them
abbrev pub before : Op → RawState
before o = placed o 2 (from 100 32) 40

-- at this place after one outcome more, with these registers
abbrev pub then_at : Op → ℕ → List ℕ → RawState
then_at o place registers = placed o place registers 41

-- at the end of the body
abbrev pub ended : RawState
ended = placed op.Receive 3 (from 100 32) 40

-- what the operations ask that raw tasks have
pub record RawRequests : Type 0 where
  pub call : wanted (before (op.Call (Register 21) (Register 22) five_values))
      ≡ ask.Call 121 (message 122 (five 111 52 113 54 115))
  pub receive : wanted (before op.Receive) ≡ ask.Receive
  pub answer : wanted (before (op.Answer (Register 21) (Register 22) five_values))
      ≡ ask.Answer 121 (reply 122 (five 111 52 113 54 115))
  pub forward : wanted (before (op.Forward (Register 21) (Register 22) Route)) ≡ ask.Forward 121 122 Route None
  pub forward_plain : wanted (before (op.Forward (Number 7) (Number 8) Plain)) ≡ ask.Forward 7 8 Plain None
  pub forward_with : wanted (before (op.ForwardWith (Register 21) (Register 22) Route (Register 23) five_values))
      ≡ ask.Forward 121 122 Route (Some (message 123 (five 111 52 113 54 115)))
  pub hangup : wanted (before (op.Hangup (Register 21))) ≡ ask.Hangup 121
  pub area : wanted (before (op.Area (Register 21) (Register 22) (Register 23))) ≡ ask.AreaMake 121 122 123
  pub unarea : wanted (before (op.Unarea (Register 21))) ≡ ask.AreaDrop 121
  pub poke : wanted (before (op.Poke (Register 21) (10 ∷ 255 ∷ []))) ≡ ask.Poke 121 (10 ∷ 255 ∷ [])
  pub peek : wanted (before (op.Peek (Register 21) (Register 22))) ≡ ask.Peek 121 122
  pub set : wanted (before (op.Set 21 (Register 22))) ≡ ask.Nothing
  pub jump : wanted (before (op.Jump 7)) ≡ ask.Nothing
  pub jump_equal : wanted (before (op.JumpEqual (Register 21) (Number 121) 7)) ≡ ask.Nothing
  pub jump_differ : wanted (before (op.JumpDiffer (Register 21) (Number 121) 7)) ≡ ask.Nothing
  -- there is no register r32, and none at the end asks anything
  pub no_register : wanted (before (op.Hangup (Register 32))) ≡ ask.Hangup 0
  pub last_register : wanted (before (op.Hangup (Register 31))) ≡ ask.Hangup 131
  pub at_the_end : wanted ended ≡ ask.Nothing

-- the operations of fibrils ask nothing
pub record RawSilence : Type 0 where
  pub call_slot : wanted (before (op.CallSlot 3 (Register 21) (Register 22) five_values)) ≡ ask.Nothing
  pub send : wanted (before (op.Send 3 4 (Register 22) five_values)) ≡ ask.Nothing
  pub wait : wanted (before (op.Wait 3)) ≡ ask.Nothing
  pub next : wanted (before op.Next) ≡ ask.Nothing
  pub yield : wanted (before op.Yield) ≡ ask.Nothing
  pub open_session : wanted (before (op.OpenSession 5 (Register 21) Atomic)) ≡ ask.Nothing
  pub begin : wanted (before (op.Begin 3 5)) ≡ ask.Nothing
  pub end : wanted (before (op.End 3)) ≡ ask.Nothing
  pub close : wanted (before (op.Close 5)) ≡ ask.Nothing

-- what each outcome makes of the registers and of the place
pub record RawOutcomes : Type 0 where
  pub done : after (before op.Receive) got.Done ≡ then_at op.Receive 3 (0 ∷ from 101 31)
  pub refused : after (before op.Receive) (got.Refused (code 77)) ≡ then_at op.Receive 3 (77 ∷ from 101 31)
  pub accepted : after (before op.Receive) (got.Accepted (call_number 61))
      ≡ then_at op.Receive 3 (0 ∷ 61 ∷ from 102 30)
  pub received : after (before op.Receive)
      (got.Received (call_number 61) (message 62 (five 71 72 73 74 75)) (label 81 82))
      ≡ then_at op.Receive 3 (0 ∷ 101 ∷ 61 ∷ 62 ∷ five 71 72 73 74 75 ++ from 109 7 ++ 81 ∷ 82 ∷ from 118 14)
  pub answered : after (before op.Receive) (got.Answered (call_number 61) (reply 62 (five 71 72 73 74 75)))
      ≡ then_at op.Receive 3 (0 ∷ from 101 8 ++ 61 ∷ 62 ∷ five 71 72 73 74 75 ++ from 116 16)
  pub bytes : after (before op.Receive) (got.Bytes (10 ∷ 255 ∷ [])) ≡ then_at op.Receive 3 (0 ∷ from 101 31)
  pub empty : after (before op.Receive) got.Empty ≡ then_at op.Receive 2 (from 100 32)
  pub at_the_end : after ended (got.Refused (code 77)) ≡ then_at op.Receive 3 (from 100 32)

-- a program that goes on behind this operation where it is refused, and is told so
abbrev pub IsTold : Op → Type 0
IsTold o = after (before o) (got.Refused (code 77)) ≡ then_at o 3 (77 ∷ from 101 31)

-- so it is with each operation that asks
pub record RawRefusals : Type 0 where
  pub call : IsTold (op.Call (Register 21) (Register 22) five_values)
  pub answer : IsTold (op.Answer (Register 21) (Register 22) five_values)
  pub forward : IsTold (op.Forward (Register 21) (Register 22) Route)
  pub forward_with : IsTold (op.ForwardWith (Register 21) (Register 22) Route (Register 23) five_values)
  pub hangup : IsTold (op.Hangup (Register 21))
  pub area : IsTold (op.Area (Register 21) (Register 22) (Register 23))
  pub unarea : IsTold (op.Unarea (Register 21))
  pub poke : IsTold (op.Poke (Register 21) (10 ∷ 255 ∷ []))
  pub peek : IsTold (op.Peek (Register 21) (Register 22))

-- what the operations do that ask nothing
pub record RawJumps : Type 0 where
  pub set : after (before (op.Set 21 (Register 22))) got.Done
      ≡ then_at (op.Set 21 (Register 22)) 3 (from 100 21 ++ 122 ∷ from 122 10)
  pub set_no_register : after (before (op.Set 32 (Register 22))) got.Done
      ≡ then_at (op.Set 32 (Register 22)) 3 (from 100 32)
  pub jump : after (before (op.Jump 7)) got.Done ≡ then_at (op.Jump 7) 7 (from 100 32)
  pub equal : after (before (op.JumpEqual (Register 21) (Number 121) 7)) got.Done
      ≡ then_at (op.JumpEqual (Register 21) (Number 121) 7) 7 (from 100 32)
  pub not_equal : after (before (op.JumpEqual (Register 21) (Register 22) 7)) got.Done
      ≡ then_at (op.JumpEqual (Register 21) (Register 22) 7) 3 (from 100 32)
  pub differ : after (before (op.JumpDiffer (Register 21) (Register 22) 7)) got.Done
      ≡ then_at (op.JumpDiffer (Register 21) (Register 22) 7) 7 (from 100 32)
  pub not_differ : after (before (op.JumpDiffer (Register 21) (Number 121) 7)) got.Done
      ≡ then_at (op.JumpDiffer (Register 21) (Number 121) 7) 3 (from 100 32)

-- before the first operation
abbrev pub RawStart : Type 0
RawStart = started (op.Yield ∷ op.Receive ∷ [])
    ≡ record {
      ops = op.Yield ∷ op.Receive ∷ [];
      place = 0;
      registers =
          0 ∷ 0 ∷ 0 ∷ 0 ∷ 0 ∷ 0 ∷ 0 ∷ 0 ∷ 0 ∷ 0 ∷ 0 ∷ 0 ∷ 0 ∷ 0 ∷ 0 ∷ 0
          ∷ 0 ∷ 0 ∷ 0 ∷ 0 ∷ 0 ∷ 0 ∷ 0 ∷ 0 ∷ 0 ∷ 0 ∷ 0 ∷ 0 ∷ 0 ∷ 0 ∷ 0 ∷ 0 ∷ [];
      taken = 0;
    }
