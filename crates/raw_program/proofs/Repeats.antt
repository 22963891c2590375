-- Operations that are kept once where one is the same as the one before it.
use Rattle.std.proofs.Common.{◌≡◌, ℕ, zero, suc, ◌+◌, ◌<◌, ◌≤◌, Bool, true, false, cond, List, [], ◌∷◌, ◌++◌, length, Some, refl, ap, ◌∙◌, arith}
use Rattle.std.specs.Prelude.{slice_get, slice_index_or}
use Rattle.std.specs.Option.{option_map}
use Rattle.ipc_ids.specs.declared.op.Op.{Op}
use Rattle.raw_program.specs.Operations.{operation_at, operations, AreBelow}

-- the operation with a number, if there are so many
pub get_kept : (distinct : List Op) (which : List ℕ) (place : ℕ) → slice_get (operations distinct which) place ≡ option_map (operation_at distinct) (slice_get which place)
get_kept distinct [] place = refl
get_kept distinct (i ∷ is) zero = refl
get_kept distinct (i ∷ is) (suc place) = get_kept distinct is place

-- it is one of those that differ
pub below_at : (n : ℕ) (which : List ℕ) (place i : ℕ) → AreBelow n which → slice_get which place ≡ Some i → i < n
below_at n [] place i h e = absurd (cc e)
below_at n (j ∷ js) zero i h e = let s : j ≡ i = cc e in rw (← s) h.0
below_at n (j ∷ js) (suc place) i h e = below_at n js place i h.1 e

pub below_more : (n m : ℕ) (which : List ℕ) → n ≤ m → AreBelow n which → AreBelow m which
below_more n m [] le h = tt
below_more n m (i ∷ is) le h = (omega (arith, le, h.0), below_more n m is le h.1)

pub below_push : (n : ℕ) (which : List ℕ) (i : ℕ) → AreBelow n which → i < n → AreBelow n (which ++ i ∷ [])
below_push n [] i h less = (less, tt)
below_push n (j ∷ js) i h less = (h.0, below_push n js i h.1 less)

-- one more is the one with this number
pub again : (distinct : List Op) (which : List ℕ) (i : ℕ) (x : Op) → slice_get distinct i ≡ Some x → operations distinct (which ++ i ∷ []) ≡ operations distinct which ++ x ∷ []
again distinct [] i x e = ap (λ y. y ∷ []) (found distinct i x e) where
  found : (xs : List Op) (i : ℕ) (x : Op) → slice_get xs i ≡ Some x → operation_at xs i ≡ x
  found [] i x e = absurd (cc e)
  found (y ∷ ys) zero x e = cc e
  found (y ∷ ys) (suc i) x e = found ys i x e
again distinct (j ∷ js) i x e = ap (λ ys. operation_at distinct j ∷ ys) (again distinct js i x e)

older : (distinct : List Op) (x : Op) (i : ℕ) → i < length distinct → operation_at (distinct ++ x ∷ []) i ≡ operation_at distinct i
older [] x i less = absurd (omega arith)
older (y ∷ ys) x zero less = refl
older (y ∷ ys) x (suc i) less = older ys x i (omega arith)

newest : (distinct : List Op) (x : Op) → slice_get (distinct ++ x ∷ []) (length distinct) ≡ Some x
newest [] x = refl
newest (y ∷ ys) x = newest ys x

-- the others stay as one more comes that differs
stay : (distinct : List Op) (x : Op) (which : List ℕ) → AreBelow (length distinct) which → operations (distinct ++ x ∷ []) which ≡ operations distinct which
stay distinct x [] h = refl
stay distinct x (i ∷ is) h = rw (older distinct x i h.0, stay distinct x is h.1) refl

pub anew : (distinct : List Op) (x : Op) (which : List ℕ) → AreBelow (length distinct) which → operations (distinct ++ x ∷ []) (which ++ length distinct ∷ []) ≡ operations distinct which ++ x ∷ []
anew distinct x which h = again (distinct ++ x ∷ []) which (length distinct) x (newest distinct x) ∙ ap (λ ys. ys ++ x ∷ []) (stay distinct x which h)

pub got_below : (distinct : List Op) (i : ℕ) (x : Op) → slice_get distinct i ≡ Some x → i < length distinct
got_below [] i x e = absurd (cc e)
got_below (y ∷ ys) zero x e = omega arith
got_below (y ∷ ys) (suc i) x e = let h = got_below ys i x e in omega (arith, h)

one_more : (distinct : List Op) (x : Op) → length (distinct ++ x ∷ []) ≡ length distinct + 1
one_more [] x = refl
one_more (y ∷ ys) x = let h = one_more ys x in omega (arith, h)

-- a number is added, or nothing is, where no memory was found
pub below_if : (b : Bool) (n : ℕ) (which : List ℕ) (i : ℕ) → AreBelow n which → i < n → AreBelow n (cond b (which ++ i ∷ []) which)
below_if true n which i h less = below_push n which i h less
below_if false n which i h less = h

pub below_anew : (b : Bool) (distinct : List Op) (x : Op) (which : List ℕ) (i : ℕ) → i ≡ length distinct → AreBelow (length distinct) which → AreBelow (length (distinct ++ x ∷ [])) (cond b (which ++ i ∷ []) which)
below_anew b distinct x which i e h =
    let grown = one_more distinct x in
    below_if b (length (distinct ++ x ∷ [])) which i (below_more (length distinct) (length (distinct ++ x ∷ [])) which (omega (arith, grown)) h) (omega (arith, grown, e))

-- what stands there hangs on no default
pub any_default : (xs : List Op) (i : ℕ) (x y : Op) → i < length xs → slice_index_or xs i x ≡ slice_index_or xs i y
any_default [] i x y less = absurd (omega arith)
any_default (z ∷ zs) zero x y less = refl
any_default (z ∷ zs) (suc i) x y less = any_default zs i x y (omega arith)
