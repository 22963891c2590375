-- What lists have at their places.
use Rattle.std.proofs.Common.{◌≡◌, ℕ, zero, suc, ◌+◌, ◌<◌, ◌≤◌, List, [], ◌∷◌, length, replicate, Some, None, refl, ◌∙◌, arith, ap}
use Rattle.std.specs.Prelude.{slice_get, slice_set, take, drop, unwrap_or}
use Rattle.std.proofs.lemmas.List.{length-replicate, get_or-replicate, get_or-set_same}
use Rattle.std.proofs.lemmas.Option.{slice_get_past, slice_get-get_or, unwrap_or-slice_get}

-- the first items
pub get_take : {A : Type 0} (xs : List A) (k i : ℕ) → i < k → slice_get (take k xs) i ≡ slice_get xs i
get_take xs zero i few = absurd (omega (arith, few))
get_take [] (suc k) i few = refl
get_take (x ∷ xs) (suc k) zero few = refl
get_take (x ∷ xs) (suc k) (suc i) few = get_take xs k i (omega (arith, few))

-- those behind them
pub get_drop : {A : Type 0} (xs : List A) (k i : ℕ) → slice_get (drop k xs) i ≡ slice_get xs (k + i)
get_drop xs zero i = let e : 0 + i ≡ i = omega arith in rw e refl
get_drop [] (suc k) i = refl
get_drop (x ∷ xs) (suc k) i = let e : suc k + i ≡ suc (k + i) = omega arith in rw e (get_drop xs k i)

-- copies of one item
pub get_copy : {A : Type 0} (n i : ℕ) (x : A) → i < n → slice_get (replicate n x) i ≡ Some x
get_copy n i x few =
    let many = length-replicate n x in
    slice_get-get_or (replicate n x) i x (omega (arith, few, many)) ∙ ap Some (get_or-replicate n i x x few)

pub past_copies : {A : Type 0} (n i : ℕ) (x : A) → n ≤ i → slice_get (replicate n x) i ≡ None
past_copies n i x far = let many = length-replicate n x in slice_get_past (replicate n x) i (omega (arith, far, many))

-- a row in the place of another
pub row_set : {A : Type 0} (rows : List (List A)) (i : ℕ) (row : List A) → i < length rows
    → unwrap_or (slice_get (slice_set rows i row) i) [] ≡ row
row_set rows i row few = unwrap_or-slice_get (slice_set rows i row) i [] ∙ get_or-set_same rows i row [] few
