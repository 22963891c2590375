-- What one task did in a list of entries: what it asked and what it was told, in events of its own.
-- The laws of services read these alone.
use Rattle.std.specs.Prelude.{ℕ, ◌≡◌, ◌==◌, ◌&&◌, ◌⊎◌, Bool, true, false, if◌then◌else◌, Option, Some, None, List, [], ◌∷◌, slice_index, ⊤}
use Rattle.ipc_ids.specs.declared.message.Msg.{Msg}
use Rattle.ipc_ids.specs.declared.message.Request.{Request}
use Rattle.ipc_ids.specs.declared.message.Request.TheVariants as request
use Rattle.ipc_ids.specs.declared.message.Outcome.{Outcome}
use Rattle.ipc_ids.specs.declared.message.Outcome.TheVariants as outcome
use Rattle.ipc_ids.specs.declared.entry.Entry.{Entry}
use Rattle.ipc_ids.specs.declared.entry.Entry.TheVariants as entry
use Rattle.ipc_ids.specs.Holdings.{newest_first}

-- the head of an event of the task, or the outcome of one
pub data Doing : Type 0 where
  Asks : (request : Request) → Doing
  Told : (told : Outcome) → Doing

-- the present event, that of the newest head, is one of task t
abbrev pub is_own_event : ℕ → List Entry → Bool
is_own_event t [] = false
is_own_event t (entry.Head u asked ∷ p) = u.0 == t
is_own_event t (entry.Kill u ∷ p) = u.0 == t
is_own_event t (entry.Gone u ∷ p) = u.0 == t
is_own_event t (entry.Spawn u ∷ p) = u.0 == t
is_own_event t (_ ∷ p) = is_own_event t p

-- what task t did in these entries, both the newest first
abbrev pub doings_of : ℕ → List Entry → List Doing
doings_of t [] = []
doings_of t (entry.Head u asked ∷ p) = if u.0 == t then Asks asked ∷ doings_of t p else doings_of t p
doings_of t (entry.Outcome o ∷ p) = if is_own_event t p then Told o ∷ doings_of t p else doings_of t p
doings_of t (_ ∷ p) = doings_of t p

-- what task t did in a list of entries, the newest first
abbrev pub doings : ℕ → List Entry → List Doing
doings t h = doings_of t (newest_first h)

-- the doing is that call n comes with this method and this first argument
abbrev pub IsReceipt : (method n first : ℕ) → Doing → Type 0
IsReceipt method n first (Told (outcome.Received m msg label)) =
    (m.0 ≡ n) × (msg.method ≡ method) × (slice_index msg.args 0 ≡ first)
IsReceipt method n first _ = ⊥

-- call n came so
abbrev pub Came : (method n first : ℕ) → List Doing → Type 0
Came method n first [] = ⊥
Came method n first (x ∷ p) = IsReceipt method n first x ⊎ Came method n first p

-- the doing stands somewhere among these
abbrev pub IsAmong : Doing → List Doing → Type 0
IsAmong x [] = ⊥
IsAmong x (y ∷ p) = (y ≡ x) ⊎ IsAmong x p

-- what call n came with, when it came last
abbrev pub receipt : ℕ → List Doing → Option Msg
receipt n [] = None
receipt n (Told (outcome.Received m msg label) ∷ p) = if m.0 == n then Some msg else receipt n p
receipt n (x ∷ p) = receipt n p

-- what came has this method and this first argument
abbrev pub asks_for : (method first : ℕ) → Option Msg → Bool
asks_for method first None = false
asks_for method first (Some msg) = (msg.method == method) && (slice_index msg.args 0 == first)

-- call n came, and was not passed on since
abbrev pub is_kept : ℕ → List Doing → Bool
is_kept n [] = false
is_kept n (Told (outcome.Received m msg label) ∷ p) = if m.0 == n then true else is_kept n p
is_kept n (Asks (request.Forward call phone mode change) ∷ p) = if call == n then false else is_kept n p
is_kept n (x ∷ p) = is_kept n p

-- a call that comes is none that came and was not passed on
abbrev pub IsNewTo : List Doing → Outcome → Type 0
IsNewTo p (outcome.Received n msg label) = is_kept n.0 p ≡ false
IsNewTo p _ = ⊤

-- a peek is not refused with success
abbrev pub IsTrueRefusal : Request → Outcome → Type 0
IsTrueRefusal (request.Peek at count) (outcome.Refused code) = (code.0 == 0) ≡ false
IsTrueRefusal _ _ = ⊤

-- what may be told of this request after these doings
pub record MayBeTold (p : List Doing) (asked : Request) (o : Outcome) : Type 0 where
  pub new : IsNewTo p o
  pub refusal : IsTrueRefusal asked o
