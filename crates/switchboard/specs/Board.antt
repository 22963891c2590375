-- What a switchboard keeps, and what it asks of a task and of a new call.
use Rattle.std.specs.Prelude.{◌≡◌, ℕ, ◌+◌, ◌≤◌, ◌<◌, ◌^◌, Bool, List, Option, None, Some, IsSome, Result, Ok, Err, length, ⊤}
use Rattle.std.specs.Option.{option_map_or}
use Rattle.ipc_ids.specs.declared.numbers.TaskNo.{TaskNo}
use Rattle.ipc_ids.specs.declared.numbers.Label.{Label}
use Rattle.ipc_ids.specs.declared.numbers.Code.{Code}
use Rattle.ipc_ids.specs.declared.message.PhoneState.{PhoneState}
use Rattle.ipc_ids.specs.declared.message.PhoneState.TheVariants.{Connected, Free, Connecting, HungUp, Slammed}
use Rattle.ipc_ids.specs.declared.message.Msg.{Msg}
use Rattle.ipc_ids.specs.declared.message.Reply.{Reply}
use Rattle.ipc_ids.specs.declared.methods.MethodKind.{MethodKind}
use Rattle.ipc_ids.specs.Methods.{kind_of}
use Rattle.call_slab.specs.declared.call.Call.{Call}
use Rattle.call_slab.specs.declared.call.Place.{Place}
use Rattle.call_slab.specs.declared.call.Place.TheVariants.{Incoming, Dispatched, Answers}
use Rattle.answerbox.specs.Calls.{CallTable, call_at, put_at, task_of, active_calls, used}
use Rattle.ipc_ids.specs.Tables.{most_buffered}
use Rattle.phone_table.specs.Phones.{state_at}
use Rattle.phone_table.specs.declared.hung.Hung.{Hung}
use Rattle.phone_table.specs.declared.hung.Hung.TheVariants.{Sent, Silent}
use Rattle.switchboard.specs.State.{KernelState, phone_at, with_state_at, label_of}
use Rattle.switchboard.specs.Counts.{HasCounts}
use Rattle.switchboard.specs.Kept.{AreKept, IsLoose, kept_phone}
use Rattle.switchboard.specs.Joins.{declined_call, passed_call}

-- each task has phones and places, each phone leads to one of them, the counts are right, and the phones that calls
-- keep wait
pub record IsSwitched (alive : List Bool) (phones : List (List PhoneState)) (counts : List (List ℕ)) (calls : CallTable) (tasks : ℕ) : Type 0 where
  pub paired : length phones ≡ length alive
  pub places : length alive ≤ tasks
  pub leads : (t p : ℕ) (u : TaskNo) → state_at phones t p ≡ Some (Connected u) → u.0 ≤ length alive
  pub has_counts : HasCounts phones counts calls
  pub kept : AreKept phones calls

-- an addition that wanted memory half way leaves one place more than there are tasks
pub record HasPlaces (tasks places added : ℕ) : Type 0 where
  pub covers : tasks ≤ places
  pub enough : places ≤ added
  pub no_more : places ≤ tasks + 1

-- likewise, and each task has a list of areas
pub record IsHoused (tasks places added areas : ℕ) : Type 0 where
  pub calls : HasPlaces tasks places added
  pub memory : areas ≡ tasks

-- a phone in this state leads to a task that was added, where it leads to one
abbrev pub LeadsToAdded : KernelState → PhoneState → Type 0
LeadsToAdded k Free = ⊤
LeadsToAdded k Connecting = ⊤
LeadsToAdded k (Connected u) = u.0 ≤ length k.tasks.alive
LeadsToAdded k HungUp = ⊤
LeadsToAdded k Slammed = ⊤

-- a task has 1 to 64 phones
pub record IsLimit (limit : ℕ) : Type 0 where
  pub some : 1 ≤ limit
  pub few : limit ≤ 64

-- the task was added
pub record IsAdded (k : KernelState) (t : TaskNo) : Type 0 where
  pub from_one : 1 ≤ t.0
  pub task : t.0 ≤ length k.tasks.alive

-- a call that is not yet accepted
pub record IsNewCall (k : KernelState) (c : Call) : Type 0 where
  pub number : c.number.0 ≡ k.calls.next_number
  pub caller : c.caller ≡ Some c.from.task
  pub phone : IsSome (phone_at k c.from.task c.from.phone.0)
  pub place : task_of c.place ≤ length k.tasks.alive
  pub few : active_calls k.calls c.from < 2 ^ 31
  pub kept : IsLoose k (kept_phone c)
  pub bytes : used k.calls + length c.buffer ≤ most_buffered

-- the live call is one of this caller
abbrev pub IsCallOf : Option Call → TaskNo → Type 0
IsCallOf None caller = ⊥
IsCallOf (Some c) caller = c.caller ≡ Some caller

-- the live call was not answered yet
abbrev pub IsPendingAt : Place → Type 0
IsPendingAt (Incoming t) = ⊤
IsPendingAt (Dispatched t) = ⊤
IsPendingAt (Answers t) = ⊥

abbrev pub IsPending : Option Call → Type 0
IsPending None = ⊥
IsPending (Some c) = IsPendingAt c.place

-- the live call is of this kind, task t holds it, and it is one of this caller
pub record IsHeldCall (c : Call) (wanted : MethodKind) (t u : TaskNo) : Type 0 where
  pub kind : kind_of c.request.method ≡ wanted
  pub place : c.place ≡ Dispatched t
  pub caller : c.caller ≡ Some u

abbrev pub IsHeldBy : Option Call → MethodKind → TaskNo → TaskNo → Type 0
IsHeldBy None kind t caller = ⊥
IsHeldBy (Some c) kind t caller = IsHeldCall c kind t caller

-- the calls after the live call with number n was answered, was answered with these bytes, was declined, and went on
abbrev pub with_reply : CallTable → ℕ → Reply → TaskNo → CallTable
with_reply calls n reply caller = option_map_or (λ c. put_at calls (record c { reply = reply }) (Answers caller)) (call_at calls n) calls

abbrev pub with_bytes : CallTable → ℕ → Reply → List ℕ → TaskNo → CallTable
with_bytes calls n reply bytes caller = option_map_or (λ c. put_at calls (record c { reply = reply; buffer = bytes }) (Answers caller)) (call_at calls n) calls

abbrev pub with_declined : CallTable → ℕ → Reply → TaskNo → CallTable
with_declined calls n reply caller = option_map_or (λ c. put_at calls (declined_call c reply) (Answers caller)) (call_at calls n) calls

abbrev pub with_passed : CallTable → ℕ → Msg → Label → TaskNo → CallTable
with_passed calls n msg label to = option_map_or (λ c. put_at calls (passed_call msg label c) (Incoming to)) (call_at calls n) calls

-- the rows of phones after the answer of a hangup
abbrev pub hung_rows : List (List PhoneState) → ℕ → ℕ → Result Hung Code → List (List PhoneState)
hung_rows rows t p (Ok _) = with_state_at rows t p HungUp
hung_rows rows t p (Err _) = rows

-- the state after the answer of a hangup
abbrev pub with_hung : KernelState → TaskNo → ℕ → Result Hung Code → KernelState
with_hung k t p answer = record k { tasks = record { alive = k.tasks.alive; phones = hung_rows k.tasks.phones t.0 p answer } }

-- whom a hangup tells was added
abbrev pub TellsAdded : KernelState → Result Hung Code → Type 0
TellsAdded k (Ok (Sent u)) = u.0 ≤ length k.tasks.alive
TellsAdded k (Ok Silent) = ⊤
TellsAdded k (Err _) = ⊤

-- no phone has more active calls than can be counted
abbrev pub FewActive : KernelState → Type 0
FewActive k = (l : Label) → active_calls k.calls l < 2 ^ 31

-- nor has a phone of this task, from this number on
abbrev pub FewFrom : KernelState → TaskNo → ℕ → Type 0
FewFrom k t p = (q : ℕ) → p ≤ q → active_calls k.calls (label_of t q) < 2 ^ 31
