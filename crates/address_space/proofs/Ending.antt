-- The areas of a task that ends: dropping the first of them, as often as it has areas, leaves none.
use Rattle.std.proofs.Common.{◌≡◌, ℕ, zero, suc, ◌+◌, ◌-◌, ◌<◌, ◌==◌, ◌⊎◌, inl, inr, Bool, true, false, List, [], ◌∷◌, length, Option, Some, None, refl, arith}
use Rattle.std.specs.Prelude.{if◌then◌else◌, ◌||◌, Ok, slice_get, slice_set, remove, fold, not, nat_lt}
use Rattle.std.specs.List.{list_any, position_or_len}
use Rattle.std.specs.Option.{unwrap_or}
use Rattle.std.proofs.lemmas.Bool.Decides.{nat_tests}
use Rattle.std.proofs.lemmas.List.Edits.{length-remove}
use Rattle.std.proofs.lemmas.Bool.{or_right, or_left}
use Rattle.ipc_ids.specs.declared.numbers.TaskNo.{TaskNo}
use Rattle.address_space.specs.Areas.{Area, lower, least_base, place_of}
use Rattle.address_space.specs.Memory.{Memory, areas_of, count_areas, drop_place, drop_area, first_area}

same_base : (b base : ℕ) → Some b ≡ Some base → (b == base) ≡ true
same_base b base e = let same : b ≡ base = cc in grind (arith, nat_tests)

lower_if : (b least base : ℕ) (test : Bool) → (if test then Some b else Some least) ≡ Some base → (Some least ≡ Some base) ⊎ ((b == base) ≡ true)
lower_if b least base true e = inr (same_base b base e)
lower_if b least base false e = inl e

-- the lower base was the lowest so far, or is this one
lower_of : (so_far : Option ℕ) (b base : ℕ) → lower so_far b ≡ Some base → (so_far ≡ Some base) ⊎ ((b == base) ≡ true)
lower_of None b base e = inr (same_base b base e)
lower_of (Some least) b base e = lower_if b least base (nat_lt b least) e

here_of : (so_far : Option ℕ) (a : Area) (areas : List Area) (base : ℕ) → (so_far ≡ Some base) ⊎ ((a.base == base) ≡ true) → (so_far ≡ Some base) ⊎ (list_any (λ b. b.base == base) (a ∷ areas) ≡ true)
here_of so_far a areas base (inl before) = inl before
here_of so_far a areas base (inr this) = inr (or_left (a.base == base) (list_any (λ b. b.base == base) areas) this)

here_or_behind : (so_far : Option ℕ) (a : Area) (areas : List Area) (base : ℕ) → (lower so_far a.base ≡ Some base) ⊎ (list_any (λ b. b.base == base) areas ≡ true) → (so_far ≡ Some base) ⊎ (list_any (λ b. b.base == base) (a ∷ areas) ≡ true)
here_or_behind so_far a areas base (inl here) = here_of so_far a areas base (lower_of so_far a.base base here)
here_or_behind so_far a areas base (inr behind) = inr (or_right (a.base == base) (list_any (λ b. b.base == base) areas) behind)

-- the least base is the lowest so far, or one of these areas has it
least_from : (so_far : Option ℕ) (areas : List Area) (base : ℕ) → fold (λ least a. lower least a.base) so_far areas ≡ Some base → (so_far ≡ Some base) ⊎ (list_any (λ a. a.base == base) areas ≡ true)
least_from so_far [] base e = inl e
least_from so_far (a ∷ areas) base e = here_or_behind so_far a areas base (least_from (lower so_far a.base) areas base e)

not_before : (base : ℕ) (found : Bool) → (None ≡ Some base) ⊎ (found ≡ true) → found ≡ true
not_before base found (inl before) = absurd (cc before)
not_before base found (inr is) = is

has_least : (areas : List Area) (base : ℕ) → least_base areas ≡ Some base → list_any (λ a. a.base == base) areas ≡ true
has_least areas base e = not_before base (list_any (λ a. a.base == base) areas) (least_from None areas base e)

some_lower_if : (b least : ℕ) (test : Bool) → (n : ℕ) × ((if test then Some b else Some least) ≡ Some n)
some_lower_if b least true = (b, refl)
some_lower_if b least false = (least, refl)

some_least : (least : ℕ) (areas : List Area) → fold (λ l a. lower l a.base) (Some least) areas ≡ None → ⊥
some_least least [] e = absurd (cc e)
some_least least (a ∷ areas) e =
    let lowest = some_lower_if a.base least (nat_lt a.base least) in
    some_least lowest.0 areas (rw lowest.1 at e)

none_least : (areas : List Area) → least_base areas ≡ None → areas ≡ []
none_least [] e = refl
none_least (a ∷ areas) e = absurd (some_least a.base areas e)

-- a task without a first area has none
pub no_first : (m : Memory) (t : TaskNo) → first_area m t ≡ None → areas_of m t ≡ []
no_first m t e = none_least (areas_of m t) e

prefix_if : (b : Bool) (ps : ℕ) (n : ℕ) (any : Bool) → (any ≡ true → ps < n) → (b || any) ≡ true → (if not b then 1 + ps else 0) < suc n
prefix_if true ps n any behind h = omega arith
prefix_if false ps n any behind h = let lt = behind h in omega arith

place_within : (p : Area → Bool) (areas : List Area) → list_any p areas ≡ true → position_or_len p areas < length areas
place_within p [] h = absurd (cc h)
place_within p (a ∷ areas) h = prefix_if (p a) (position_or_len p areas) (length areas) (list_any p areas) (λ r. place_within p areas r) h

-- the area with a base that one of them has is found
place_found : (base : ℕ) (areas : List Area) → list_any (λ a. a.base == base) areas ≡ true → (i : ℕ) × (place_of base areas ≡ Some i) × (i < length areas)
place_found base areas h =
    let lt = place_within (λ a. a.base == base) areas h in
    (position_or_len (λ a. a.base == base) areas, grind (arith, nat_tests, lt), lt)

found_at : (areas : List Area) (i : ℕ) → i < length areas → slice_get areas i ≡ None → ⊥
found_at [] i lt e = absurd (omega arith)
found_at (a ∷ areas) zero lt e = absurd (cc e)
found_at (a ∷ areas) (suc i) lt e = found_at areas i (omega arith) e

has_row : (rows : List (List Area)) (i : ℕ) → 0 < length (unwrap_or (slice_get rows i) []) → i < length rows
has_row [] i some = absurd (omega arith)
has_row (row ∷ rows) zero some = omega arith
has_row (row ∷ rows) (suc i) some = let lt = has_row rows i some in omega arith

pub own_row : (rows : List (List Area)) (i : ℕ) (row : List Area) → i < length rows → unwrap_or (slice_get (slice_set rows i row) i) [] ≡ row
own_row [] i row lt = absurd (omega arith)
own_row (r ∷ rows) zero row lt = refl
own_row (r ∷ rows) (suc i) row lt = own_row rows i row (omega arith)

place_goes : (m : Memory) (t : TaskNo) (i : ℕ) (found : Option Area) → slice_get (areas_of m t) i ≡ found → i < length (areas_of m t) → areas_of (drop_place m t i found) t ≡ remove (areas_of m t) i
place_goes m t i None is lt = absurd (found_at (areas_of m t) i lt is)
place_goes m t i (Some a) is lt = own_row m.areas (t.0 - 1) (remove (areas_of m t) i) (has_row m.areas (t.0 - 1) (omega arith))

-- the drop of the first area leaves one fewer
pub first_goes : (m : Memory) (t : TaskNo) (base : ℕ) → first_area m t ≡ Some base → count_areas (drop_area m t base).memory t + 1 ≡ count_areas m t
first_goes m t base e =
    let found = place_found base (areas_of m t) (has_least (areas_of m t) base e) in
    rw (found.1, place_goes m t found.0 (slice_get (areas_of m t) found.0) refl found.2) (length-remove (areas_of m t) found.0 found.2)

-- it is not refused
pub first_is_dropped : (m : Memory) (t : TaskNo) (base : ℕ) → first_area m t ≡ Some base → (drop_area m t base).told ≡ Ok tt
first_is_dropped m t base e =
    let found = place_found base (areas_of m t) (has_least (areas_of m t) base e) in
    rw found.1 refl
