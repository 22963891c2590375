-- The fibrils that have not ended, which are the only ones that are kept, and all fibrils as these give them.
use Rattle.std.specs.Prelude.{◌≡◌, ◌<◌, ◌≤◌, ℕ, zero, suc, ◌-◌, ◌==◌, Bool, true, false, not, if◌then◌else◌, List, [], ◌∷◌, ◌++◌, length, min, fold, Option, None, Some, Result, OnOk, OnErr, ⊤}
use Rattle.std.specs.List.{filter, find}
use Rattle.ipc_ids.specs.declared.message.Why.TheVariants as why
use Rattle.ipc_ids.specs.declared.numbers.FibrilNo.{FibrilNo}
use Rattle.ipc_ids.specs.declared.trace.NoMemory.{NoMemory}
use Rattle.fibril_core.specs.declared.fibrils.Status.{Status}
use Rattle.fibril_core.specs.declared.fibrils.Status.TheVariants.{Ready, Blocked, Ended}
use Rattle.fibril_core.specs.declared.fibrils.Fibril.{Fibril}
use Rattle.fibril_core.specs.Fibrils.{FibrilsState, same_status, sooner}

-- whether a fibril with this status has not ended
abbrev pub goes_on : Status → Bool
goes_on Ready = true
goes_on (Blocked w) = true
goes_on Ended = false

-- whether the fibril has not ended
abbrev pub is_live : Fibril → Bool
is_live x = goes_on x.status

-- there is this fibril, and it has not ended
abbrev pub GoesOn : Option Fibril → Type 0
GoesOn None = ⊥
GoesOn (Some x) = is_live x ≡ true

-- each fibril has the number of its place, where n fibrils stand before the first
abbrev pub AreNumbered : ℕ → List Fibril → Type 0
AreNumbered n [] = ⊤
AreNumbered n (x ∷ xs) = (x.number.0 ≡ suc n) × AreNumbered (suc n) xs

-- the first list is those of the second that have not ended
pub record AreLive (live xs : List Fibril) : Type 0 where
  pub numbered : AreNumbered 0 xs
  pub those : live ≡ filter is_live xs

-- the first record where both have one number, else the second
abbrev pub replaced : Fibril → Fibril → Fibril
replaced y x = if x.number.0 == y.number.0 then y else x

-- whether the fibril has another number
abbrev pub is_other : FibrilNo → Fibril → Bool
is_other f x = not (x.number.0 == f.0)

-- whether the fibril has this number
abbrev pub has_number : ℕ → Fibril → Bool
has_number n x = x.number.0 == n

-- a fibril that has ended, of which nothing but its number is kept
abbrev pub ended : ℕ → Fibril
ended n = record { number = record { 0 = n }; status = Ended; stamp = 0 }

-- the fibril that is found, else one that has ended
abbrev pub found_or_ended : ℕ → Option Fibril → Fibril
found_or_ended n None = ended n
found_or_ended n (Some x) = x

-- all n fibrils by rising number, from those that have not ended
abbrev pub all_of : ℕ → List Fibril → List Fibril
all_of zero live = []
all_of (suc n) live = all_of n live ++ found_or_ended (suc n) (find (has_number (suc n)) live) ∷ []

-- whether the fibril is ready
abbrev pub is_ready : Fibril → Bool
is_ready x = same_status x.status Ready

-- how many fibrils pass a test
abbrev pub count : (Fibril → Bool) → List Fibril → ℕ
count p xs = length (filter p xs)

-- of a fibril, if there is one, and these the one that has had this status longest
abbrev pub first_from : Status → Option Fibril → List Fibril → Option Fibril
first_from status best xs = fold (λ one x. if same_status x.status status then sooner one x else one) best xs

-- how many more fibrils there is room for, where each queue has room for so many of those that have not ended
abbrev pub spare_of : FibrilsState → ℕ → ℕ
spare_of s held = min s.spare (held - count is_live s.order.fibrils)

-- after a reservation there is room for one more than so many, or there was none before; there is never less
pub record MakesRoom (result : Result ⊤ NoMemory) (live before after : ℕ) : Type 0 where
  pub room : OnOk result (live < after)
  pub full : OnErr result (before ≤ live)
  pub never_less : before ≤ after

-- whether a status waits for a mutex or a phone
abbrev pub waits : Status → Bool
waits (Blocked (why.Mutex s)) = true
waits (Blocked why.Phone) = true
waits _ = false

-- whether the fibril waits for a mutex or a phone
abbrev pub is_waiting : Fibril → Bool
is_waiting x = waits x.status
