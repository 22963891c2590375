-- What a kill of task t comes to, in the words of calls, phones, areas and entries.
use Rattle.std.specs.Prelude.{◌≡◌, ℕ, ◌≤◌, ◌⊎◌, ◌++◌, true, false, ⊤, List, [], ◌∷◌, Option, None, Some}
use Rattle.std.specs.List.{list_any}
use Rattle.std.specs.FinMap.{get}
use Rattle.ipc_ids.specs.declared.numbers.TaskNo.{TaskNo}
use Rattle.ipc_ids.specs.declared.message.PhoneState.{PhoneState}
use Rattle.ipc_ids.specs.declared.message.PhoneState.TheVariants.{Free, Connecting, Connected, HungUp, Slammed}
use Rattle.ipc_ids.specs.declared.entry.Entry.{Entry}
use Rattle.ipc_ids.specs.declared.entry.Entry.TheVariants as entry
use Rattle.ipc_ids.specs.Codes.{ehangup}
use Rattle.ipc_ids.specs.Methods.{phone_hungup}
use Rattle.call_slab.specs.declared.call.Call.{Call}
use Rattle.call_slab.specs.declared.call.Place.{Place}
use Rattle.call_slab.specs.declared.call.Place.TheVariants.{Incoming, Dispatched, Answers}
use Rattle.answerbox.specs.Calls.{call_at, task_of}
use Rattle.phone_table.specs.Phones.{state_at}
use Rattle.address_space.specs.Areas.{stands_over}
use Rattle.address_space.specs.Memory.{areas_of}
use Rattle.switchboard.specs.State.{KernelState, is_alive, phone_at, label_of}
use Rattle.switchboard.specs.Joins.{bare_reply}

-- task t has ended, and each other task is alive just where it was
pub record EndsTask (t : TaskNo) (before after : KernelState) : Type 0 where
  pub ended : is_alive after t ≡ false
  pub others : (u : TaskNo) → (u.0 ≡ t.0 → ⊥) → is_alive after u ≡ is_alive before u

-- nothing is left of task t: no call stands at it, none is its own, and no phone leads to it
pub record LeavesNothingOf (t : TaskNo) (k : KernelState) : Type 0 where
  pub places : (n : ℕ) (c : Call) → call_at k.calls n ≡ Some c → task_of c.place ≡ t.0 → ⊥
  pub callers : (n : ℕ) (c : Call) → call_at k.calls n ≡ Some c → c.caller ≡ Some t → ⊥
  pub phones : (u p : ℕ) → state_at k.tasks.phones u p ≡ Some (Connected t) → ⊥

-- the entry ends call n: the call is answered, or vanishes
abbrev pub Ends : ℕ → Entry → Type 0
Ends n (entry.Answered m reply by) = m.0 ≡ n
Ends n (entry.Vanished m) = m.0 ≡ n
Ends n _ = ⊥

-- one of these entries ends call n
abbrev pub HasEnd : ℕ → List Entry → Type 0
HasEnd n [] = ⊥
HasEnd n (e ∷ es) = Ends n e ⊎ HasEnd n es

-- an end of call m comes before each end of call n
abbrev pub EndsBefore : ℕ → ℕ → List Entry → Type 0
EndsBefore m n es =
    (one two : List Entry) (e : Entry) → es ≡ one ++ (e ∷ two) → Ends n e → HasEnd m one

-- each call that waits at t in the state k ends before each that t holds
abbrev pub EndsWaitingFirst : TaskNo → KernelState → List Entry → Type 0
EndsWaitingFirst t k es = (m n : ℕ) (c d : Call) →
    call_at k.calls m ≡ Some c → c.place ≡ Incoming t →
    call_at k.calls n ≡ Some d → d.place ≡ Dispatched t → EndsBefore m n es

-- a phone that leads or led to a task
abbrev pub IsOpen : PhoneState → Type 0
IsOpen Free = ⊥
IsOpen Connecting = ⊥
IsOpen (Connected u) = ⊤
IsOpen HungUp = ⊥
IsOpen Slammed = ⊤

-- what becomes of each open phone while t ends, from one state to another
pub record ClosesPhones (t : TaskNo) (before after : KernelState) : Type 0 where
  -- its own are hung up
  pub own : (p : ℕ) (state : PhoneState) → phone_at before t p ≡ Some state → IsOpen state →
      phone_at after t p ≡ Some HungUp
  -- those of others that lead to it are slammed
  pub leading : (u : TaskNo) (p : ℕ) → (u.0 ≡ t.0 → ⊥) → phone_at before u p ≡ Some (Connected t) →
      phone_at after u p ≡ Some Slammed
  -- and all others stay open as they are
  pub others : (u : TaskNo) (p : ℕ) (state : PhoneState) → (u.0 ≡ t.0 → ⊥) →
      phone_at before u p ≡ Some state → IsOpen state → (state ≡ Connected t → ⊥) →
      phone_at after u p ≡ Some state

-- the call waits at task t, or t holds it
abbrev pub IsWith : TaskNo → Place → Type 0
IsWith t (Incoming u) = u.0 ≡ t.0
IsWith t (Dispatched u) = u.0 ≡ t.0
IsWith t (Answers u) = ⊥

-- the record d is of the same call as c
abbrev pub IsStill : Call → Call → Type 0
IsStill c d = (d.number ≡ c.number) × (d.from ≡ c.from) × (d.request ≡ c.request)

-- call c is answered by the kernel, and its caller u has the answer
abbrev pub HasHangup : Call → TaskNo → Option Call → Type 0
HasHangup c u None = ⊥
HasHangup c u (Some d) =
    IsStill c d × (d.caller ≡ Some u) × (d.place ≡ Answers u) × (d.reply ≡ bare_reply ehangup)

-- call c stands where it stood, and has no caller
abbrev pub HasNoCaller : Call → Option Call → Type 0
HasNoCaller c None = ⊥
HasNoCaller c (Some d) = IsStill c d × (d.caller ≡ None) × (d.place ≡ c.place)

-- what becomes of each call while t ends, from one state to another
pub record ClosesCalls (t : TaskNo) (before after : KernelState) : Type 0 where
  -- one that t had, and that another task made, is answered
  pub answered : (n : ℕ) (c : Call) (u : TaskNo) → call_at before.calls n ≡ Some c →
      IsWith t c.place → c.caller ≡ Some u → (u.0 ≡ t.0 → ⊥) → HasHangup c u (call_at after.calls n)
  -- one that stood at t, and whose answer no other task waits for, is over
  pub over : (n : ℕ) (c : Call) → call_at before.calls n ≡ Some c → task_of c.place ≡ t.0 →
      ((u : TaskNo) → c.caller ≡ Some u → u.0 ≡ t.0) → call_at after.calls n ≡ None
  -- one of t that stood elsewhere goes on without it
  pub forgotten : (n : ℕ) (c : Call) → call_at before.calls n ≡ Some c →
      (task_of c.place ≡ t.0 → ⊥) → c.caller ≡ Some t → HasNoCaller c (call_at after.calls n)
  -- and each other call stays as it is
  pub others : (n : ℕ) (c : Call) → call_at before.calls n ≡ Some c → (task_of c.place ≡ t.0 → ⊥) →
      (c.caller ≡ Some t → ⊥) → call_at after.calls n ≡ Some c

-- an area of task u stands over that store
abbrev pub HasAreaOver : KernelState → TaskNo → ℕ → Type 0
HasAreaOver k u store = list_any (stands_over store) (areas_of k.memory u) ≡ true

-- what becomes of each area and each store while t ends, from one state to another
pub record ClosesAreas (t : TaskNo) (before after : KernelState) : Type 0 where
  -- its own areas are dropped
  pub own : areas_of after.memory t ≡ []
  -- those of others stay as they are
  pub others : (u : TaskNo) → 1 ≤ u.0 → (u.0 ≡ t.0 → ⊥) →
      areas_of after.memory u ≡ areas_of before.memory u
  -- a store that an area of another task stands over keeps its bytes
  pub bytes : (u : TaskNo) (store : ℕ) → 1 ≤ u.0 → (u.0 ≡ t.0 → ⊥) → HasAreaOver before u store →
      get after.memory.stores store ≡ get before.memory.stores store
  -- and one that areas of t alone stood over is gone
  pub gone : (store : ℕ) → HasAreaOver before t store →
      ((u : TaskNo) → 1 ≤ u.0 → (u.0 ≡ t.0 → ⊥) → HasAreaOver before u store → ⊥) →
      get after.memory.stores store ≡ None

-- a call that waits at task u tells it that phone p of task t was hung up
pub record TellsOfHangup (t : TaskNo) (p : ℕ) (u : TaskNo) (c : Call) : Type 0 where
  pub place : c.place ≡ Incoming u
  pub asks : c.request.method ≡ phone_hungup
  pub label : c.label ≡ label_of t p

-- call n came to be live, with this record
abbrev pub HasCome : KernelState → KernelState → ℕ → Call → Type 0
HasCome before after n c = (call_at before.calls n ≡ None) × (call_at after.calls n ≡ Some c)

-- who is told of the phones of t while t ends, from one state to another
pub record TellsWhereItLed (t : TaskNo) (before after : KernelState) : Type 0 where
  -- each other task that a phone of t led to
  pub told : (p : ℕ) (u : TaskNo) → phone_at before t p ≡ Some (Connected u) → (u.0 ≡ t.0 → ⊥) →
      (n : ℕ) × (c : Call) × HasCome before after n c × TellsOfHangup t p u c
  -- by one call for each phone: no two that came to wait have one label
  pub once : (m n : ℕ) (c d : Call) (u v : TaskNo) → HasCome before after m c → HasCome before after n d →
      c.place ≡ Incoming u → d.place ≡ Incoming v → c.label ≡ d.label → m ≡ n
