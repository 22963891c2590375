-- What an event leaves as it was, and what a call is as it is made, in the words of tasks, phones and calls.
use Rattle.std.specs.Prelude.{◌≡◌, ℕ, ◌+◌, ◌<◌, Bool, List, [], ◌∷◌, length, slice_get, Option, None, Some}
use Rattle.ipc_ids.specs.declared.numbers.Code.{Code}
use Rattle.ipc_ids.specs.declared.numbers.Label.{Label}
use Rattle.ipc_ids.specs.declared.numbers.TaskNo.{TaskNo}
use Rattle.ipc_ids.specs.declared.message.Msg.{Msg}
use Rattle.ipc_ids.specs.declared.message.PhoneState.{PhoneState}
use Rattle.ipc_ids.specs.declared.message.Outcome.{Outcome}
use Rattle.ipc_ids.specs.declared.message.Outcome.TheVariants as outcome
use Rattle.ipc_ids.specs.declared.entry.Entry.{Entry}
use Rattle.ipc_ids.specs.declared.entry.Entry.TheVariants as entry
use Rattle.ipc_ids.specs.Codes.{eok}
use Rattle.call_slab.specs.declared.call.Call.{Call}
use Rattle.call_slab.specs.declared.call.Place.{Place}
use Rattle.answerbox.specs.Calls.{CallTable, call_at}
use Rattle.switchboard.specs.State.{KernelState, phone_at, label_of}
use Rattle.switchboard.specs.Serving.{Served}
use Rattle.kernel_laws.specs.CallCodes.{own_reply}

-- a request is one event more; no task is made and none ends
pub record IsOneEvent (before after : KernelState) : Type 0 where
  pub counted : after.events ≡ before.events + 1
  pub alive : after.tasks.alive ≡ before.tasks.alive
  pub tasks : length after.tasks.phones ≡ length before.tasks.phones

-- every phone is as it was
abbrev pub PhonesStay : KernelState → KernelState → Type 0
PhonesStay before after = (u : TaskNo) (q : ℕ) → phone_at after u q ≡ phone_at before u q

-- phone p of task t is in this state, and every other one as it was
pub record PhoneComesTo (t : TaskNo) (p : ℕ) (state : PhoneState) (before after : KernelState) : Type 0 where
  pub this : phone_at after t p ≡ Some state
  pub others : (u : TaskNo) (q : ℕ) → ((u.0 ≡ t.0) × (q ≡ p) → ⊥) → phone_at after u q ≡ phone_at before u q

-- every call is as it was, and none came
pub record CallsStay (before after : CallTable) : Type 0 where
  pub each : (n : ℕ) → call_at after n ≡ call_at before n
  pub numbers : after.next_number ≡ before.next_number
  pub arrivals : after.next_stamp ≡ before.next_stamp

-- one call more was made: it is the last that came, it has the next number, and every other one is as it was
pub record OneCallMore (before after : CallTable) (c : Call) : Type 0 where
  pub made : call_at after before.next_number ≡ Some c
  pub last : c.stamp ≡ before.next_stamp
  pub others : (n : ℕ) → (n ≡ before.next_number → ⊥) → call_at after n ≡ call_at before n
  pub numbers : after.next_number ≡ before.next_number + 1
  pub arrivals : after.next_stamp ≡ before.next_stamp + 1

-- a call of task t over its phone p as it is made: it has no answer, no bytes and no phone yet
pub record IsMade (k : KernelState) (t : TaskNo) (p : ℕ) (asked : Msg) (unawaited : Bool) (at : Place)
    (c : Call) : Type 0 where
  pub number : c.number.0 ≡ k.calls.next_number
  pub caller : c.caller ≡ Some t
  pub from : c.from ≡ label_of t p
  pub label : c.label ≡ label_of t p
  pub request : c.request ≡ asked
  pub msg : c.msg ≡ asked
  pub reply : c.reply ≡ own_reply eok
  pub discard : c.discard ≡ unawaited
  pub bytes : c.buffer ≡ []
  pub reserved : c.reserved ≡ None
  pub place : c.place ≡ at

-- the phone, where there is one, comes to this state, and this entry tells of it; every other one is as it was
abbrev pub MayCome : Option Label → PhoneState → KernelState → KernelState → List Entry → Type 0
MayCome None state before after note = PhonesStay before after × (note ≡ [])
MayCome (Some l) state before after note =
    PhoneComesTo l.task l.phone.0 state before after × (note ≡ entry.PhoneIs l state ∷ [])

-- call m came before call n
abbrev pub CameBefore : CallTable → ℕ → ℕ → Type 0
CameBefore calls m n =
    (c : Call) × (d : Call) × (call_at calls m ≡ Some c) × (call_at calls n ≡ Some d) × (c.stamp < d.stamp)

-- call n goes behind all that came before, with this record, and every other call is as it was
pub record Moves (before after : CallTable) (n : ℕ) (c : Call) : Type 0 where
  pub moved : call_at after n ≡ Some c
  pub last : c.stamp ≡ before.next_stamp
  pub others : (m : ℕ) → (m ≡ n → ⊥) → call_at after m ≡ call_at before m
  pub numbers : after.next_number ≡ before.next_number
  pub arrivals : after.next_stamp ≡ before.next_stamp + 1

-- call n is over, and every other call is as it was
pub record IsOver (before after : CallTable) (n : ℕ) : Type 0 where
  pub gone : call_at after n ≡ None
  pub others : (m : ℕ) → (m ≡ n → ⊥) → call_at after m ≡ call_at before m
  pub numbers : after.next_number ≡ before.next_number
  pub arrivals : after.next_stamp ≡ before.next_stamp

-- call n has this record from now on, at its old place in the order, and every other call is as it was
pub record IsNow (before after : CallTable) (n : ℕ) (c : Call) : Type 0 where
  pub now : call_at after n ≡ Some c
  pub others : (m : ℕ) → (m ≡ n → ⊥) → call_at after m ≡ call_at before m
  pub numbers : after.next_number ≡ before.next_number
  pub arrivals : after.next_stamp ≡ before.next_stamp

-- a step within an event: no task is made or ends, no memory changes, and the event is counted once for all steps
pub record IsStep (before after : KernelState) : Type 0 where
  pub alive : after.tasks.alive ≡ before.tasks.alive
  pub tasks : length after.tasks.phones ≡ length before.tasks.phones
  pub memory : after.memory ≡ before.memory
  pub counted : after.events ≡ before.events

-- a request that changes no memory, and what its task is told
pub record IsQuietEvent (told : Outcome) (before : KernelState) (done : Served) : Type 0 where
  pub answer : done.outcome ≡ told
  pub event : IsOneEvent before done.state
  pub memory : done.state.memory ≡ before.memory

-- nothing happens but that an event is counted
pub record NothingHappens (before : KernelState) (done : Served) : Type 0 where
  pub event : IsOneEvent before done.state
  pub phones : PhonesStay before done.state
  pub calls : CallsStay before.calls done.state.calls
  pub memory : done.state.memory ≡ before.memory
  pub entries : done.entries ≡ []

-- the request is refused with this code, and nothing happens
pub record IsRefusal (code : Code) (before : KernelState) (done : Served) : Type 0 where
  pub told : done.outcome ≡ outcome.Refused code
  pub nothing : NothingHappens before done

-- of these arguments the fifth, where there is one, is this number, and the others are as they were
pub record HasFifth (number : ℕ) (given told : List ℕ) : Type 0 where
  pub many : length told ≡ length given
  pub fifth : 4 < length given → slice_get told 4 ≡ Some number
  pub others : (i : ℕ) → (i ≡ 4 → ⊥) → slice_get told i ≡ slice_get given i
