-- The phones that connect calls keep for their connections, and who keeps which.
use Rattle.std.specs.Prelude.{◌≡◌, ℕ, ◌+◌, ◌==◌, ◌⊎◌, ⊤, Bool, false, if◌then◌else◌, List, [], ◌∷◌, Option, None, Some, Result, Ok, Err, option_and_then}
use Rattle.ipc_ids.specs.declared.numbers.TaskNo.{TaskNo}
use Rattle.ipc_ids.specs.declared.numbers.Label.{Label}
use Rattle.ipc_ids.specs.declared.numbers.PhoneNo.{PhoneNo}
use Rattle.ipc_ids.specs.declared.numbers.Code.{Code}
use Rattle.ipc_ids.specs.declared.methods.MethodKind.{MethodKind}
use Rattle.ipc_ids.specs.declared.methods.MethodKind.TheVariants.{ConnectToMe, ConnectMeTo}
use Rattle.ipc_ids.specs.declared.message.PhoneState.{PhoneState}
use Rattle.ipc_ids.specs.declared.message.PhoneState.TheVariants.{Connecting}
use Rattle.ipc_ids.specs.declared.entry.Entry.{Entry}
use Rattle.ipc_ids.specs.declared.entry.Entry.TheVariants.{PhoneIs}
use Rattle.ipc_ids.specs.Codes.{eok, elimit}
use Rattle.ipc_ids.specs.Methods.{kind_of}
use Rattle.call_slab.specs.declared.call.Call.{Call}
use Rattle.call_slab.specs.declared.call.Place.{Place}
use Rattle.call_slab.specs.declared.call.Place.TheVariants.{Incoming, Dispatched, Answers}
use Rattle.answerbox.specs.Calls.{CallTable, call_at, active_calls}
use Rattle.phone_table.specs.Phones.{row_at, state_at, is_usable}
use Rattle.switchboard.specs.declared.kept.Keeper.{Keeper}
use Rattle.switchboard.specs.declared.kept.Keeper.TheVariants.{Nobody, Receiver, Caller}
use Rattle.switchboard.specs.State.{KernelState, phone_at, label_of, with_state_at}

-- who keeps a phone for a call of this kind: of a CONNECT_TO_ME its receiver, of a CONNECT_ME_TO its caller
abbrev pub keeper_of : MethodKind → Keeper
keeper_of ConnectToMe = Receiver
keeper_of ConnectMeTo = Caller
keeper_of _ = Nobody

-- the same for this call
abbrev pub who_keeps : Call → Keeper
who_keeps c = keeper_of (kind_of c.request.method)

-- whether the reply accepts what the call asks for
abbrev pub accepts : Code → Bool
accepts code = code.0 == eok.0

-- the phone, where it is one of task t
abbrev pub phone_of : TaskNo → Option Label → Option Label
phone_of t None = None
phone_of t (Some l) = if l.task.0 == t.0 then Some l else None

-- a CONNECT_TO_ME keeps a phone of the task that holds it
abbrev pub held_phone : Place → Option Label → Option Label
held_phone (Incoming t) reserved = None
held_phone (Dispatched t) reserved = phone_of t reserved
held_phone (Answers t) reserved = None

-- a CONNECT_ME_TO keeps a phone of the task that made it, until it is accepted
abbrev pub is_accepted : Place → Code → Bool
is_accepted (Incoming t) code = false
is_accepted (Dispatched t) code = false
is_accepted (Answers t) code = accepts code

abbrev pub asked_phone : TaskNo → Place → Code → Option Label → Option Label
asked_phone from place code reserved = if is_accepted place code then None else phone_of from reserved

abbrev pub kept_of : Keeper → TaskNo → Place → Code → Option Label → Option Label
kept_of Nobody from place code reserved = None
kept_of Receiver from place code reserved = held_phone place reserved
kept_of Caller from place code reserved = asked_phone from place code reserved

-- the phone that the call keeps
abbrev pub kept_phone : Call → Option Label
kept_phone c = kept_of (who_keeps c) c.from.task c.place c.reply.code c.reserved

-- the same, where the task that holds the call keeps it
abbrev pub lent_of : Keeper → Place → Option Label → Option Label
lent_of Nobody place reserved = None
lent_of Receiver place reserved = held_phone place reserved
lent_of Caller place reserved = None

abbrev pub lent_phone : Call → Option Label
lent_phone c = lent_of (who_keeps c) c.place c.reserved

-- a phone that was freed is reserved no more
abbrev pub unless_freed : Option Label → Option Label → Option Label
unless_freed None reserved = reserved
unless_freed (Some l) reserved = None

-- the phone, where there is one, is in this state
abbrev pub kept_rows : List (List PhoneState) → Option Label → PhoneState → List (List PhoneState)
kept_rows rows None state = rows
kept_rows rows (Some l) state = with_state_at rows l.task.0 l.phone.0 state

abbrev pub with_kept : KernelState → Option Label → PhoneState → KernelState
with_kept k kept state =
    record {
      tasks = record { alive = k.tasks.alive; phones = kept_rows k.tasks.phones kept state };
      calls = k.calls;
      memory = k.memory;
      events = k.events;
    }

-- the entry that tells of it
abbrev pub kept_note : Option Label → PhoneState → Option Entry
kept_note None state = None
kept_note (Some l) state = Some (PhoneIs l state)

-- the first usable phone of task t: free, or hung up without an active call
abbrev pub first_usable_from : CallTable → TaskNo → ℕ → List PhoneState → Option Label
first_usable_from calls t p [] = None
first_usable_from calls t p (state ∷ states) = if is_usable state (active_calls calls (label_of t p)) then Some (label_of t p) else first_usable_from calls t (p + 1) states

abbrev pub first_usable_of : KernelState → TaskNo → Option Label
first_usable_of k t = option_and_then (first_usable_from k.calls t 0) (row_at k.tasks.phones t.0)

-- the phone of task t with this number, where there is one
abbrev pub label_in : TaskNo → Option ℕ → Option Label
label_in t None = None
label_in t (Some p) = Some (label_of t p)

-- the number of the phone, where there is one
abbrev pub phone_in : Option Label → Option PhoneNo
phone_in None = None
phone_in (Some l) = Some l.phone

-- without a usable phone nothing is sent
abbrev pub or_refused : Option Label → Result Label Code
or_refused None = Err elimit
or_refused (Some l) = Ok l

-- the phone, where there is one, is one of task t
abbrev pub IsOf : TaskNo → Option Label → Type 0
IsOf t None = ⊤
IsOf t (Some l) = l.task ≡ t

-- it waits for a connection
abbrev pub WaitsIn : List (List PhoneState) → Option Label → Type 0
WaitsIn rows None = ⊤
WaitsIn rows (Some l) = state_at rows l.task.0 l.phone.0 ≡ Some Connecting

-- the phone that the live call with number n keeps
abbrev pub kept_by : CallTable → ℕ → Option Label
kept_by calls n = option_and_then kept_phone (call_at calls n)

-- each phone that a call keeps waits for its connection, and no other call keeps it
pub record AreKept (phones : List (List PhoneState)) (calls : CallTable) : Type 0 where
  pub waits : (n : ℕ) (l : Label) → kept_by calls n ≡ Some l → state_at phones l.task.0 l.phone.0 ≡ Some Connecting
  pub alone : (m n : ℕ) (l : Label) → kept_by calls m ≡ Some l → kept_by calls n ≡ Some l → m ≡ n

-- a phone that waits for a connection, and that no call keeps
pub record IsLoosePhone (k : KernelState) (l : Label) : Type 0 where
  pub waits : phone_at k l.task l.phone.0 ≡ Some Connecting
  pub unkept : (n : ℕ) → kept_by k.calls n ≡ Some l → ⊥

-- so it is with the phone, where there is one
abbrev pub IsLoose : KernelState → Option Label → Type 0
IsLoose k None = ⊤
IsLoose k (Some l) = IsLoosePhone k l

-- what the record keeps is what the call kept, or a phone that no call keeps
abbrev pub MayKeep : KernelState → Call → Call → Type 0
MayKeep k c d = (kept_phone d ≡ kept_phone c) ⊎ IsLoose k (kept_phone d)

-- the live call may be received by task t with this phone reserved
abbrev pub MayReserve : KernelState → Option Call → Option Label → TaskNo → Type 0
MayReserve k None reserved t = ⊥
MayReserve k (Some c) reserved t = MayKeep k c (record c { reserved = reserved; place = Dispatched t })
