-- What the calls on fibrils come to, in the words of numbers, statuses and stamps.
use Rattle.std.specs.Prelude.{◌≡◌, ◌≢◌, ℕ, ◌+◌, ◌<◌, ◌≤◌, Bool, true, false, List, length, Option, None, Some, slice_get}
use Rattle.std.specs.Int.{from_bool}
use Rattle.ipc_ids.specs.declared.message.Why.{Why}
use Rattle.ipc_ids.specs.declared.numbers.FibrilNo.{FibrilNo}
use Rattle.fibril_core.specs.declared.fibrils.Status.{Status}
use Rattle.fibril_core.specs.declared.fibrils.Status.TheVariants.{Ready, Blocked}
use Rattle.fibril_core.specs.declared.fibrils.Fibril.{Fibril}
use Rattle.fibril_core.specs.Fibrils.{FibrilOrder, fibril_at}
use Rattle.fibril_core.specs.LiveFibrils.{is_live, is_ready, is_waiting, count}

-- the status of a fibril, if there is one
abbrev pub status_in : Option Fibril → Option Status
status_in None = None
status_in (Some x) = Some x.status

-- the status of the fibril with this number
abbrev pub status_of : FibrilOrder → ℕ → Option Status
status_of o n = status_in (fibril_at o n)

-- the stamp of a fibril, if there is one
abbrev pub stamp_in : Option Fibril → ℕ
stamp_in None = 0
stamp_in (Some x) = x.stamp

-- the stamp of the fibril with this number
abbrev pub stamp_of : FibrilOrder → ℕ → ℕ
stamp_of o n = stamp_in (fibril_at o n)

-- each fibril has the number of its place, from 1 on, and a stamp below the next one; no two that have not ended
-- have one stamp
pub record IsSound (o : FibrilOrder) : Type 0 where
  pub numbered : (i : ℕ) (x : Fibril) → slice_get o.fibrils i ≡ Some x → x.number.0 ≡ i + 1
  pub stamped : (i : ℕ) (x : Fibril) → slice_get o.fibrils i ≡ Some x → x.stamp < o.next_stamp
  pub apart : (i j : ℕ) (x y : Fibril) → slice_get o.fibrils i ≡ Some x → slice_get o.fibrils j ≡ Some y → is_live x ≡ true → is_live y ≡ true → x.stamp ≡ y.stamp → i ≡ j

-- the fibril with this number has this status, and no other with this status has a smaller stamp
pub record IsFirst (o : FibrilOrder) (status : Status) (n : ℕ) : Type 0 where
  pub here : status_of o n ≡ Some status
  pub least : (m : ℕ) → status_of o m ≡ Some status → stamp_of o n ≤ stamp_of o m

-- no fibril has this status
abbrev pub HasNone : FibrilOrder → Status → Type 0
HasNone o status = (n : ℕ) → status_of o n ≢ Some status

-- the fibril with this number has this status after a call, with a stamp above all others, which are as before
pub record Becomes (o after : FibrilOrder) (n : ℕ) (new : Status) : Type 0 where
  pub status : status_of after n ≡ Some new
  pub last : (m : ℕ) → m ≢ n → stamp_of after m < stamp_of after n
  pub others : (m : ℕ) → m ≢ n → fibril_at after m ≡ fibril_at o m

-- all that were blocked on that are ready after a call, behind all others, in the order of their blocking; the
-- others are as before
pub record WakesAll (o after : FibrilOrder) (w : Why) : Type 0 where
  pub none : HasNone after (Blocked w)
  pub ready : (n : ℕ) → status_of o n ≡ Some (Blocked w) → status_of after n ≡ Some Ready
  pub order : (m n : ℕ) → status_of o m ≡ Some (Blocked w) → status_of o n ≡ Some (Blocked w) → stamp_of o m < stamp_of o n → stamp_of after m < stamp_of after n
  pub behind : (m n : ℕ) → status_of o m ≢ Some (Blocked w) → status_of o n ≡ Some (Blocked w) → stamp_of after m < stamp_of after n
  pub others : (n : ℕ) → status_of o n ≢ Some (Blocked w) → fibril_at after n ≡ fibril_at o n

-- whether there is this fibril, and it passes a test
abbrev pub passes : (Fibril → Bool) → Option Fibril → Bool
passes p None = false
passes p (Some x) = p x

-- these are the fibrils that pass a test, each with a smaller stamp than those behind it
pub record IsQueue (p : Fibril → Bool) (o : FibrilOrder) (q : List FibrilNo) : Type 0 where
  pub pass : (i : ℕ) (f : FibrilNo) → slice_get q i ≡ Some f → passes p (fibril_at o f.0) ≡ true
  pub all : (n : ℕ) → passes p (fibril_at o n) ≡ true → (i : ℕ) × (slice_get q i ≡ Some (record { 0 = n }))
  pub rising : (i j : ℕ) (f g : FibrilNo) → slice_get q i ≡ Some f → slice_get q j ≡ Some g → i < j → stamp_of o f.0 < stamp_of o g.0
  pub length : length q ≡ count p o.fibrils

-- these are the same but for the fibril with one number
pub record IsQueueBut (p : Fibril → Bool) (o : FibrilOrder) (n : ℕ) (q : List FibrilNo) : Type 0 where
  pub pass : (i : ℕ) (f : FibrilNo) → slice_get q i ≡ Some f → passes p (fibril_at o f.0) ≡ true
  pub other : (i : ℕ) (f : FibrilNo) → slice_get q i ≡ Some f → f.0 ≢ n
  pub all : (m : ℕ) → m ≢ n → passes p (fibril_at o m) ≡ true → (i : ℕ) × (slice_get q i ≡ Some (record { 0 = m }))
  pub rising : (i j : ℕ) (f g : FibrilNo) → slice_get q i ≡ Some f → slice_get q j ≡ Some g → i < j → stamp_of o f.0 < stamp_of o g.0
  pub length : length q + from_bool (passes p (fibril_at o n)) ≡ count p o.fibrils

-- the order is sound, the queues are those of the ready fibrils and of those that wait for a mutex or a phone, and each
-- has room for all that have not ended
pub record AreQueued (o : FibrilOrder) (q r : List FibrilNo) (held : ℕ) : Type 0 where
  pub sound : IsSound o
  pub ready : IsQueue is_ready o q
  pub waiting : IsQueue is_waiting o r
  pub room : count is_live o.fibrils ≤ held
