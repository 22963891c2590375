-- How many fibrils pass a test, after a change of one of them.
use Rattle.std.proofs.Common.{◌≡◌, ℕ, zero, suc, ◌+◌, ◌<◌, ◌≤◌, Bool, true, false, List, [], ◌∷◌, ◌++◌, length, Some, refl, arith}
use Rattle.std.specs.Prelude.{if◌then◌else◌, slice_get, slice_set}
use Rattle.std.specs.Int.{from_bool}
use Rattle.std.specs.List.{filter}
use Rattle.fibril_core.specs.declared.fibrils.Fibril.{Fibril}
use Rattle.fibril_core.specs.LiveFibrils.{count}

pub count_set : (p : Fibril → Bool) (xs : List Fibril) (i : ℕ) (x y : Fibril) → slice_get xs i ≡ Some x → count p (slice_set xs i y) + from_bool (p x) ≡ count p xs + from_bool (p y)
count_set p [] i x y there = absurd (cc there)
count_set p (z ∷ xs) zero x y there = let same : z ≡ x = cc in rw same (set_by (p x) (p y)) where
  set_by : (b c : Bool) → length (if c then y ∷ filter p xs else filter p xs) + from_bool b ≡ length (if b then x ∷ filter p xs else filter p xs) + from_bool c
  set_by true true = refl
  set_by true false = omega arith
  set_by false true = omega arith
  set_by false false = refl
count_set p (z ∷ xs) (suc i) x y there = set_by (p z) (from_bool (p x)) (from_bool (p y)) (count_set p xs i x y there) where
  set_by : (b : Bool) (j k : ℕ) → count p (slice_set xs i y) + j ≡ count p xs + k → length (if b then z ∷ filter p (slice_set xs i y) else filter p (slice_set xs i y)) + j ≡ length (if b then z ∷ filter p xs else filter p xs) + k
  set_by true j k e = omega arith
  set_by false j k e = e

pub count_push : (p : Fibril → Bool) (xs : List Fibril) (x : Fibril) → count p (xs ++ x ∷ []) ≡ count p xs + from_bool (p x)
count_push p [] x = by (p x) where
  by : (b : Bool) → length (if b then x ∷ [] else []) ≡ 0 + from_bool b
  by true = refl
  by false = refl
count_push p (z ∷ xs) x = by (p z) (count_push p xs x) where
  by : (b : Bool) → count p (xs ++ x ∷ []) ≡ count p xs + from_bool (p x) → length (if b then z ∷ filter p (xs ++ x ∷ []) else filter p (xs ++ x ∷ [])) ≡ length (if b then z ∷ filter p xs else filter p xs) + from_bool (p x)
  by true e = omega arith
  by false e = e

-- where all that pass the first test pass the second
module _ (p q : Fibril → Bool) (both : (x : Fibril) → p x ≡ true → q x ≡ true) where
  pub count_few : (xs : List Fibril) → count p xs ≤ count q xs
  count_few [] = omega arith
  count_few (x ∷ xs) = by (p x) (q x) (both x) (count_few xs) where
    by : (b c : Bool) → (b ≡ true → c ≡ true) → count p xs ≤ count q xs → length (if b then x ∷ filter p xs else filter p xs) ≤ length (if c then x ∷ filter q xs else filter q xs)
    by true true h e = omega arith
    by true false h e = absurd (cc (h refl))
    by false true h e = omega arith
    by false false h e = e

  -- one passes the second only
  pub count_less : (xs : List Fibril) (i : ℕ) (x : Fibril) → slice_get xs i ≡ Some x → p x ≡ false → q x ≡ true → count p xs < count q xs
  count_less [] i x there h g = absurd (cc there)
  count_less (z ∷ xs) zero x there h g =
      let same : z ≡ x = cc in
      let few = count_few xs in
      rw (same, h, g) (omega arith)
  count_less (z ∷ xs) (suc i) x there h g = by (p z) (q z) (both z) (count_less xs i x there h g) where
    by : (b c : Bool) → (b ≡ true → c ≡ true) → count p xs < count q xs → length (if b then z ∷ filter p xs else filter p xs) < length (if c then z ∷ filter q xs else filter q xs)
    by true true f e = omega arith
    by true false f e = absurd (cc (f refl))
    by false true f e = omega arith
    by false false f e = e
