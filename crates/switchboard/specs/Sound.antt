-- What every state of the kernel keeps between two events.
use Rattle.std.specs.Prelude.{◌≡◌, ℕ, ◌<◌, ◌≤◌, ◌==◌, ⊤, Bool, true, false, List, [], Option, None, Some, IsSome, length, slice_index}
use Rattle.ipc_ids.specs.declared.numbers.TaskNo.{TaskNo}
use Rattle.ipc_ids.specs.declared.numbers.Label.{Label}
use Rattle.ipc_ids.specs.declared.numbers.Code.{Code}
use Rattle.ipc_ids.specs.declared.message.PhoneState.{PhoneState}
use Rattle.ipc_ids.specs.declared.message.PhoneState.TheVariants.{Free, Connecting, Connected, HungUp, Slammed}
use Rattle.ipc_ids.specs.declared.methods.MethodKind.{MethodKind}
use Rattle.ipc_ids.specs.declared.methods.MethodKind.TheVariants.{DataWrite}
use Rattle.ipc_ids.specs.Methods.{phone_hungup, kind_of}
use Rattle.call_slab.specs.declared.call.Call.{Call}
use Rattle.call_slab.specs.declared.call.Place.{Place}
use Rattle.call_slab.specs.declared.call.Place.TheVariants.{Incoming, Dispatched, Answers}
use Rattle.answerbox.specs.Calls.{CallTable, call_at, used}
use Rattle.ipc_ids.specs.Tables.{most_buffered}
use Rattle.phone_table.specs.Phones.{state_at}
use Rattle.address_space.specs.Memory.{Memory, areas_of}
use Rattle.address_space.specs.Sound as spaces
use Rattle.address_space.specs.Sound.{AreHeld}
use Rattle.switchboard.specs.declared.kept.Keeper.{Keeper}
use Rattle.switchboard.specs.declared.kept.Keeper.TheVariants.{Nobody, Receiver, Caller}
use Rattle.switchboard.specs.State.{Tasks, KernelState, alive_in}
use Rattle.switchboard.specs.Counts.{label_at}
use Rattle.switchboard.specs.Kept.{AreKept, accepts, kept_by, who_keeps}

-- a call waits at a task that is alive, and an answer at its caller
abbrev pub IsPlaced : Tasks → Option TaskNo → Place → Type 0
IsPlaced tasks caller (Incoming t) = alive_in tasks.alive t.0 ≡ true
IsPlaced tasks caller (Dispatched t) = alive_in tasks.alive t.0 ≡ true
IsPlaced tasks caller (Answers t) = caller ≡ Some t

-- a caller that has not ended is alive, and is the task of the phone that it called over
abbrev pub IsCaller : Tasks → Label → Option TaskNo → Type 0
IsCaller tasks from None = ⊤
IsCaller tasks from (Some u) = (u ≡ from.task) × (alive_in tasks.alive u.0 ≡ true)

-- a receiver keeps this phone for a call at this place, or kept it
abbrev pub IsLentAt : Place → Label → Type 0
IsLentAt (Incoming t) l = ⊥
IsLentAt (Dispatched t) l = l.task ≡ t
IsLentAt (Answers t) l = ⊤

-- a call with this keeper, from this task and at this place, may have this phone reserved
abbrev pub IsReservedAt : Keeper → TaskNo → Place → Label → Type 0
IsReservedAt Nobody from place l = ⊥
IsReservedAt Receiver from place l = IsLentAt place l
IsReservedAt Caller from place l = l.task ≡ from

-- a call at this place, with this code of its reply, may still connect a phone, or has connected one
abbrev pub IsOpenAt : Place → Code → Type 0
IsOpenAt (Incoming t) code = ⊤
IsOpenAt (Dispatched t) code = ⊤
IsOpenAt (Answers t) code = accepts code ≡ true

-- a call with this keeper, at this place and with this code of its reply, has a phone reserved
abbrev pub NeedsPhone : Keeper → Place → Code → Type 0
NeedsPhone Nobody place code = ⊥
NeedsPhone Receiver place code = ⊥
NeedsPhone Caller place code = IsOpenAt place code

-- the phone that is reserved for the call
pub record HasSoundPhone (phones : List (List PhoneState)) (c : Call) : Type 0 where
  pub there : (l : Label) → c.reserved ≡ Some l → IsSome (state_at phones l.task.0 l.phone.0)
  pub owner : (l : Label) → c.reserved ≡ Some l → IsReservedAt (who_keeps c) c.from.task c.place l
  pub needed : NeedsPhone (who_keeps c) c.place c.reply.code → IsSome c.reserved

-- a call that was not answered yet has so many bytes with it
abbrev pub HasBytesAt : Place → List ℕ → ℕ → Type 0
HasBytesAt (Incoming t) bytes n = length bytes ≡ n
HasBytesAt (Dispatched t) bytes n = length bytes ≡ n
HasBytesAt (Answers t) bytes n = ⊤

-- a DATA_WRITE has as many as its argument 2 says
abbrev pub Carries : MethodKind → Place → List ℕ → ℕ → Type 0
Carries kind place bytes n = kind ≡ DataWrite → HasBytesAt place bytes n

-- the record of the live call with number n
pub record IsSoundCall (tasks : Tasks) (next_number next_stamp n : ℕ) (c : Call) : Type 0 where
  pub number : c.number.0 ≡ n
  pub below : n < next_number
  pub stamp : c.stamp < next_stamp
  pub place : IsPlaced tasks c.caller c.place
  pub caller : IsCaller tasks c.from c.caller
  pub phone : IsSome (state_at tasks.phones c.from.task.0 c.from.phone.0)
  -- nobody waits for the answer of a hangup, and of nothing else
  pub discard : c.discard ≡ (c.request.method == phone_hungup)
  pub reserved : HasSoundPhone tasks.phones c
  pub carries : Carries (kind_of c.request.method) c.place c.buffer (slice_index c.request.args 1)

pub record AreSoundCalls (tasks : Tasks) (calls : CallTable) : Type 0 where
  pub each : (n : ℕ) (c : Call) → call_at calls n ≡ Some c → IsSoundCall tasks calls.next_number calls.next_stamp n c
  -- they carry few bytes together
  pub bytes : used calls ≤ most_buffered
  pub stamps_differ : (m n : ℕ) (c d : Call) → call_at calls m ≡ Some c → call_at calls n ≡ Some d → c.stamp ≡ d.stamp → m ≡ n

-- a phone that neither leads nor led to a task
abbrev pub IsQuiet : PhoneState → Type 0
IsQuiet Free = ⊤
IsQuiet Connecting = ⊤
IsQuiet (Connected _) = ⊥
IsQuiet HungUp = ⊤
IsQuiet Slammed = ⊥

pub record AreSoundTasks (tasks : Tasks) : Type 0 where
  pub paired : length tasks.phones ≡ length tasks.alive
  -- a connected phone leads to a task that is alive
  pub leads : (t p : ℕ) (u : TaskNo) → state_at tasks.phones t p ≡ Some (Connected u) → alive_in tasks.alive u.0 ≡ true
  -- the phones of a task that has ended are quiet
  pub quiet : (t p : ℕ) (state : PhoneState) → state_at tasks.phones t p ≡ Some state → alive_in tasks.alive t ≡ false → IsQuiet state

-- each phone that waits for a connection is kept by a call
pub record HaveKeepers (phones : List (List PhoneState)) (calls : CallTable) : Type 0 where
  pub each : (t p : ℕ) → state_at phones t p ≡ Some Connecting → (n : ℕ) × (kept_by calls n ≡ Some (label_at t p))

-- each task has a list of areas, which are sound, and one that has ended has none; an area stands over each store
pub record HasSoundMemory (alive : List Bool) (m : Memory) : Type 0 where
  pub spaces : spaces.IsSound m
  pub held : AreHeld m
  pub paired : length m.areas ≡ length alive
  pub owned : (t : TaskNo) → 1 ≤ t.0 → alive_in alive t.0 ≡ false → areas_of m t ≡ []

pub record IsSound (k : KernelState) : Type 0 where
  pub calls : AreSoundCalls k.tasks k.calls
  pub tasks : AreSoundTasks k.tasks
  pub kept : AreKept k.tasks.phones k.calls
  pub keepers : HaveKeepers k.tasks.phones k.calls
  pub memory : HasSoundMemory k.tasks.alive k.memory
