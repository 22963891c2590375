-- The marks of who is alive, where that of one task is taken away.
use Rattle.std.proofs.Common.{◌≡◌, ℕ, zero, suc, ◌-◌, Bool, true, false, inl, inr, Option, None, Some, List, [], ◌∷◌, refl, ap, sym, ◌∙◌, arith, set}
use Rattle.std.specs.Prelude.{◌==◌, if◌then◌else◌, slice_get, unwrap_or}
use Rattle.std.proofs.lemmas.Bool.{cases_eq, eq-eqb, ne_eqb, false≢true}
use Rattle.switchboard.specs.State.{alive_in}

pub get_set_same : (xs : List Bool) (i : ℕ) (v x : Bool) → slice_get xs i ≡ Some x → slice_get (set xs i v) i ≡ Some v
get_set_same [] i v x h = absurd (cc h)
get_set_same (y ∷ xs) zero v x h = refl
get_set_same (y ∷ xs) (suc i) v x h = get_set_same xs i v x h

pub get_set_other : (xs : List Bool) (i j : ℕ) (v : Bool) → (i ≡ j → ⊥) → slice_get (set xs i v) j ≡ slice_get xs j
get_set_other [] i j v ne = refl
get_set_other (y ∷ xs) zero zero v ne = absurd (ne refl)
get_set_other (y ∷ xs) zero (suc j) v ne = refl
get_set_other (y ∷ xs) (suc i) zero v ne = refl
get_set_other (y ∷ xs) (suc i) (suc j) v ne = get_set_other xs i j v (λ e. ne (ap suc e))

pub alive_at : (marks : List Bool) (t : ℕ) → alive_in marks t ≡ true → (t ≡ 0 → ⊥) × (slice_get marks (t - 1) ≡ Some true)
alive_at marks t h = (λ e. false≢true (sym (no_task e) ∙ h), by_look (t == 0) (slice_get marks (t - 1)) h) where
  no_task : t ≡ 0 → alive_in marks t ≡ false
  no_task e = rw (eq-eqb t 0 e)

  by_look : (b : Bool) (o : Option Bool) → (if b then false else unwrap_or o false) ≡ true → o ≡ Some true
  by_look true o h = absurd (cc h)
  by_look false None h = absurd (cc h)
  by_look false (Some b) h = ap Some h

module _ (marks : List Bool) (t : ℕ) (alive : alive_in marks t ≡ true) where
  -- t has ended
  pub ended_here : alive_in (set marks (t - 1) false) t ≡ false
  ended_here = let a = alive_at marks t alive in rw (ne_eqb t 0 a.0, get_set_same marks (t - 1) false true a.1)

  pub apart : (u : ℕ) → (u ≡ t → ⊥) → (u ≡ 0 → ⊥) → t - 1 ≡ u - 1 → ⊥
  apart u ne nz e = let a = (alive_at marks t alive).0 in ne (omega arith)

  -- and no other
  pub alive_elsewhere : (u : ℕ) → (u ≡ t → ⊥) → alive_in (set marks (t - 1) false) u ≡ alive_in marks u
  alive_elsewhere u ne = elim (cases_eq u 0) [ inl e ↦ rw (eq-eqb u 0 e) | inr nz ↦ rw (ne_eqb u 0 nz, get_set_other marks (t - 1) (u - 1) false (apart u ne nz)) ]
