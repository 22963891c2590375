-- What stands at each place of a list after a change of one place.
use Rattle.std.proofs.Common.{◌≡◌, ℕ, zero, suc, ◌<◌, ◌≢◌, ◌⊎◌, inl, inr, List, [], ◌∷◌, ◌++◌, length, Some, refl, ap, sym, ◌∙◌, subst, arith}
use Rattle.std.specs.Prelude.{slice_get, slice_set}
use Rattle.std.proofs.lemmas.Bool.{cases_eq}

module _ {X : Type 0} where
  pub set_here : (xs : List X) (i : ℕ) (y : X) → i < length xs → slice_get (slice_set xs i y) i ≡ Some y
  set_here [] i y h = absurd (omega arith)
  set_here (x ∷ xs) zero y h = refl
  set_here (x ∷ xs) (suc i) y h = set_here xs i y (omega arith)

  pub set_elsewhere : (xs : List X) (i j : ℕ) (y : X) → (j ≡ i → ⊥) → slice_get (slice_set xs i y) j ≡ slice_get xs j
  set_elsewhere [] i j y h = refl
  set_elsewhere (x ∷ xs) zero zero y h = absurd (h refl)
  set_elsewhere (x ∷ xs) zero (suc j) y h = refl
  set_elsewhere (x ∷ xs) (suc i) zero y h = refl
  set_elsewhere (x ∷ xs) (suc i) (suc j) y h = set_elsewhere xs i j y (λ e. h (ap suc e))

  pub length_set : (xs : List X) (i : ℕ) (y : X) → length (slice_set xs i y) ≡ length xs
  length_set [] i y = refl
  length_set (x ∷ xs) zero y = refl
  length_set (x ∷ xs) (suc i) y = ap suc (length_set xs i y)

  pub push_here : (xs : List X) (y : X) → slice_get (xs ++ y ∷ []) (length xs) ≡ Some y
  push_here [] y = refl
  push_here (x ∷ xs) y = push_here xs y

  pub push_elsewhere : (xs : List X) (i : ℕ) (y : X) → (i ≡ length xs → ⊥) → slice_get (xs ++ y ∷ []) i ≡ slice_get xs i
  push_elsewhere [] zero y h = absurd (h refl)
  push_elsewhere [] (suc i) y h = refl
  push_elsewhere (x ∷ xs) zero y h = refl
  push_elsewhere (x ∷ xs) (suc i) y h = push_elsewhere xs i y (λ e. h (ap suc e))

  pub within : (xs : List X) (i : ℕ) (x : X) → slice_get xs i ≡ Some x → i < length xs
  within [] i x h = absurd (cc h)
  within (y ∷ xs) zero x h = omega arith
  within (y ∷ xs) (suc i) x h = let less = within xs i x h in omega arith

  -- an element after a change of one place: the new one, or one that stood there
  pub which : (xs : List X) (i j : ℕ) (y x : X) → i < length xs → slice_get (slice_set xs i y) j ≡ Some x → ((j ≡ i) × (y ≡ x)) ⊎ ((j ≢ i) × (slice_get xs j ≡ Some x))
  which xs i j y x h there = which_by (cases_eq j i) where
    which_by : (j ≡ i) ⊎ (j ≢ i) → ((j ≡ i) × (y ≡ x)) ⊎ ((j ≢ i) × (slice_get xs j ≡ Some x))
    which_by (inl e) = let here : slice_get (slice_set xs i y) j ≡ Some y = subst (λ (k : ℕ). slice_get (slice_set xs i y) k ≡ Some y) (sym e) (set_here xs i y h) in inl (e, cc)
    which_by (inr e) = inr (e, sym (set_elsewhere xs i j y e) ∙ there)

  -- an element after one more came: that one, or one that stood there
  pub which_pushed : (xs : List X) (j : ℕ) (y x : X) → slice_get (xs ++ y ∷ []) j ≡ Some x → ((j ≡ length xs) × (y ≡ x)) ⊎ (slice_get xs j ≡ Some x)
  which_pushed xs j y x there = which_by (cases_eq j (length xs)) where
    which_by : (j ≡ length xs) ⊎ (j ≢ length xs) → ((j ≡ length xs) × (y ≡ x)) ⊎ (slice_get xs j ≡ Some x)
    which_by (inl e) = let here : slice_get (xs ++ y ∷ []) j ≡ Some y = subst (λ (k : ℕ). slice_get (xs ++ y ∷ []) k ≡ Some y) (sym e) (push_here xs y) in inl (e, cc)
    which_by (inr e) = inr (sym (push_elsewhere xs j y e) ∙ there)
