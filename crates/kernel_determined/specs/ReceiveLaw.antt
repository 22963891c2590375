-- All that a receive does: first the answers of hangups are dropped that came before every awaited one; then the first
-- answer that is left is delivered, or else the first call that waits is received.
use Rattle.std.specs.Prelude.{◌≡◌, ℕ, ◌+◌, ◌<◌, ◌⊎◌, List, [], ◌∷◌, ◌++◌, length, Option, None, Some}
use Rattle.ipc_ids.specs.declared.numbers.Label.{Label}
use Rattle.ipc_ids.specs.declared.numbers.StoreNo.{StoreNo}
use Rattle.ipc_ids.specs.declared.numbers.TaskNo.{TaskNo}
use Rattle.ipc_ids.specs.declared.message.Msg.{Msg}
use Rattle.ipc_ids.specs.declared.message.Reply.{Reply}
use Rattle.ipc_ids.specs.declared.message.PhoneState.TheVariants.{Free, Connecting}
use Rattle.ipc_ids.specs.declared.message.Outcome.TheVariants as outcome
use Rattle.ipc_ids.specs.declared.entry.Entry.{Entry}
use Rattle.ipc_ids.specs.declared.entry.Entry.TheVariants as entry
use Rattle.ipc_ids.specs.Codes.{eok}
use Rattle.ipc_ids.specs.Methods.{connect_to_me, connect_me_to}
use Rattle.call_slab.specs.declared.call.Call.{Call}
use Rattle.call_slab.specs.declared.call.Place.TheVariants.{Incoming, Dispatched, Answers}
use Rattle.answerbox.specs.Calls.{CallTable, call_at}
use Rattle.address_space.specs.Memory.{Memory, Step}
use Rattle.switchboard.specs.State.{KernelState, label_of}
use Rattle.switchboard.specs.Serving.{Served}
use Rattle.kernel_laws.specs.DataLaws.{code_after, first, IsBrought}
use Rattle.kernel_laws.specs.Connecting.{IsUnconnected}
use Rattle.kernel_laws.specs.MemoryRequests.{written}
use Rattle.kernel_laws.specs.ReceiveLaws.{IsAwaited, IsHangupAnswer, IsFirst, HasNone}
use Rattle.kernel_laws.specs.UsablePhones.{IsUsable}
use Rattle.kernel_determined.specs.Frames.{IsOneEvent, PhonesStay, PhoneComesTo, CameBefore, NothingHappens, HasFifth}
use Rattle.kernel_determined.specs.MemoryLaw.{IsWholeWrite}
use Rattle.kernel_determined.specs.SettleLaw.{DropsAnswer}
use Rattle.kernel_determined.specs.Turns.{EachInTurn}

-- ---- answers that are dropped

-- call n is the answer of a hangup at task t, and came before every answer that is awaited there
pub record IsDropped (t : TaskNo) (calls : CallTable) (n : ℕ) : Type 0 where
  pub call : Call
  pub live : call_at calls n ≡ Some call
  pub answer : IsHangupAnswer t call
  pub early : (m : ℕ) (d : Call) → call_at calls m ≡ Some d → IsAwaited t d → call.stamp < d.stamp

-- each such answer is dropped, and no other, in the order in which they came
abbrev pub DropsHangups : TaskNo → KernelState → KernelState → List Entry → Type 0
DropsHangups t before after told =
    EachInTurn (IsDropped t before.calls) (CameBefore before.calls) (DropsAnswer t) before after told

-- ---- an answer that is delivered

-- call c is over, and its task is told this reply; the memory is this one, and the entry is followed by these
pub record Delivers (t : TaskNo) (before : KernelState) (c : Call) (reply : Reply) (memory : Memory)
    (note : List Entry) (done : Served) : Type 0 where
  pub told : done.outcome ≡ outcome.Answered c.number reply
  pub event : IsOneEvent before done.state
  pub gone : call_at done.state.calls c.number.0 ≡ None
  pub others : (n : ℕ) → (n ≡ c.number.0 → ⊥) → call_at done.state.calls n ≡ call_at before.calls n
  pub numbers : done.state.calls.next_number ≡ before.calls.next_number
  pub arrivals : done.state.calls.next_stamp ≡ before.calls.next_stamp
  pub memory_after : done.state.memory ≡ memory
  pub entries : done.entries ≡ entry.Delivered c.number t ∷ note

-- the bytes of a DATA_READ that was accepted are written where it asked for them, or its code tells why not
pub record DeliversBytes (t : TaskNo) (before : KernelState) (c : Call) (done : Served) : Type 0 where
  pub brought : IsBrought c
  pub step : Step (Option StoreNo)
  pub write : IsWholeWrite before.memory t (first c.request.args) c.buffer step
  pub phones : PhonesStay before done.state
  pub delivers : Delivers t before c (record { code = code_after step.told; args = c.reply.args }) step.memory
      (written t (first c.request.args) (length c.buffer) step.told) done

-- the phone that was kept for a CONNECT_ME_TO is free, as it was not accepted
pub record DeliversRefusal (t : TaskNo) (before : KernelState) (c : Call) (done : Served) : Type 0 where
  pub phone : Label
  pub unconnected : IsUnconnected c phone
  pub refused : c.reply.code ≡ eok → ⊥
  pub free : PhoneComesTo phone.task phone.phone.0 Free before done.state
  pub delivers : Delivers t before c c.reply before.memory (entry.PhoneIs phone Free ∷ []) done

-- or argument 5 of its answer names the phone, as it was
pub record DeliversPhone (t : TaskNo) (before : KernelState) (c : Call) (done : Served) : Type 0 where
  pub asks : c.request.method ≡ connect_me_to
  pub accepted : c.reply.code ≡ eok
  pub phone : Label
  pub kept : c.reserved ≡ Some phone
  pub args : List ℕ
  pub names : HasFifth phone.phone.0 c.reply.args args
  pub phones : PhonesStay before done.state
  pub delivers : Delivers t before c (record { code = c.reply.code; args = args }) before.memory [] done

-- every other answer is delivered as it was given
pub record DeliversAsGiven (t : TaskNo) (before : KernelState) (c : Call) (done : Served) : Type 0 where
  pub bare : IsBrought c → ⊥
  pub unkept : c.request.method ≡ connect_me_to → c.reserved ≡ None
  pub phones : PhonesStay before done.state
  pub delivers : Delivers t before c c.reply before.memory [] done

-- one of these
abbrev pub IsDelivery : TaskNo → KernelState → Call → Served → Type 0
IsDelivery t before c done =
    DeliversBytes t before c done
    ⊎ (DeliversRefusal t before c done ⊎ (DeliversPhone t before c done ⊎ DeliversAsGiven t before c done))

-- ---- a call that is received

-- task t holds call c from then on, with these arguments and this phone, behind all that came before
pub record Receives (t : TaskNo) (before : KernelState) (c : Call) (args : List ℕ) (kept : Option Label)
    (note : List Entry) (done : Served) : Type 0 where
  pub told : done.outcome ≡ outcome.Received c.number (record { method = c.msg.method; args = args }) c.label
  pub event : IsOneEvent before done.state
  pub held : call_at done.state.calls c.number.0 ≡ Some (record c {
    msg = record { method = c.msg.method; args = args };
    reserved = kept;
    place = Dispatched t;
    stamp = before.calls.next_stamp;
  })
  pub others : (n : ℕ) → (n ≡ c.number.0 → ⊥) → call_at done.state.calls n ≡ call_at before.calls n
  pub numbers : done.state.calls.next_number ≡ before.calls.next_number
  pub arrivals : done.state.calls.next_stamp ≡ before.calls.next_stamp + 1
  pub memory : done.state.memory ≡ before.memory
  pub entries : done.entries ≡ entry.Received c.number t ∷ note

-- for a CONNECT_TO_ME the usable phone of t with the least number is kept, and argument 5 names it
pub record ReceivesWithPhone (t : TaskNo) (before : KernelState) (c : Call) (done : Served) : Type 0 where
  pub asks : c.request.method ≡ connect_to_me
  pub phone : ℕ
  pub usable : IsUsable before before.calls t phone
  pub least : (q : ℕ) → q < phone → IsUsable before before.calls t q → ⊥
  pub args : List ℕ
  pub names : HasFifth phone c.msg.args args
  pub waits : PhoneComesTo t phone Connecting before done.state
  pub receives : Receives t before c args (Some (label_of t phone))
      (entry.PhoneIs (label_of t phone) Connecting ∷ []) done

-- or argument 5 is 64, where none is usable
pub record ReceivesWithout (t : TaskNo) (before : KernelState) (c : Call) (done : Served) : Type 0 where
  pub asks : c.request.method ≡ connect_to_me
  pub none : (q : ℕ) → IsUsable before before.calls t q → ⊥
  pub args : List ℕ
  pub names : HasFifth 64 c.msg.args args
  pub phones : PhonesStay before done.state
  pub receives : Receives t before c args None [] done

-- every other call is received as it is
pub record ReceivesAsSent (t : TaskNo) (before : KernelState) (c : Call) (done : Served) : Type 0 where
  pub others : c.request.method ≡ connect_to_me → ⊥
  pub phones : PhonesStay before done.state
  pub receives : Receives t before c c.msg.args c.reserved [] done

-- one of these
abbrev pub IsReception : TaskNo → KernelState → Call → Served → Type 0
IsReception t before c done =
    ReceivesWithPhone t before c done ⊎ (ReceivesWithout t before c done ⊎ ReceivesAsSent t before c done)

-- ---- a receive

-- the call stands at the answers of task t
abbrev pub IsAnswerAt : TaskNo → Call → Type 0
IsAnswerAt t c = c.place ≡ Answers t

-- the call waits at task t
abbrev pub IsWaitingAt : TaskNo → Call → Type 0
IsWaitingAt t c = c.place ≡ Incoming t

-- the first answer is delivered
pub record TakesAnswer (t : TaskNo) (before : KernelState) (done : Served) : Type 0 where
  pub call : Call
  pub first : IsFirst before.calls (IsAnswerAt t) call
  pub delivery : IsDelivery t before call done

-- without one the first call is received
pub record TakesCall (t : TaskNo) (before : KernelState) (done : Served) : Type 0 where
  pub none : HasNone before.calls (IsAnswerAt t)
  pub call : Call
  pub first : IsFirst before.calls (IsWaitingAt t) call
  pub reception : IsReception t before call done

-- without either nothing happens
pub record TakesNothing (t : TaskNo) (before : KernelState) (done : Served) : Type 0 where
  pub none : HasNone before.calls (IsAnswerAt t)
  pub neither : HasNone before.calls (IsWaitingAt t)
  pub told : done.outcome ≡ outcome.Empty
  pub nothing : NothingHappens before done

-- one of these
abbrev pub Takes : TaskNo → KernelState → Served → Type 0
Takes t before done = TakesAnswer t before done ⊎ (TakesCall t before done ⊎ TakesNothing t before done)

-- what is done, with these entries
abbrev pub with_entries : Served → List Entry → Served
with_entries done told = record { state = done.state; outcome = done.outcome; entries = told }

-- a receive by task t
pub record IsReceive (t : TaskNo) (before : KernelState) (done : Served) : Type 0 where
  pub left : KernelState
  pub dropped : List Entry
  pub drops : DropsHangups t before left dropped
  pub told : List Entry
  pub takes : Takes t left (with_entries done told)
  pub entries : done.entries ≡ dropped ++ told

-- so the first answer is told that is awaited, or else the first call that waits, and nothing just where there is
-- neither
pub record TellsTheFirst (t : TaskNo) (before : KernelState) (done : Served) : Type 0 where
  pub answer : (c : Call) → IsFirst before.calls (IsAwaited t) c
      → (reply : Reply) × (done.outcome ≡ outcome.Answered c.number reply)
  pub call : (c : Call) → HasNone before.calls (IsAwaited t) → IsFirst before.calls (IsWaitingAt t) c
      → (msg : Msg) × (done.outcome ≡ outcome.Received c.number msg c.label)
  pub nothing : HasNone before.calls (IsAwaited t) → HasNone before.calls (IsWaitingAt t)
      → done.outcome ≡ outcome.Empty
  pub empty : done.outcome ≡ outcome.Empty
      → HasNone before.calls (IsAwaited t) × HasNone before.calls (IsWaitingAt t)
