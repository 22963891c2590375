-- What stands in rows of phones and counts after one place of them has changed.
use Rattle.std.proofs.Common.{◌≡◌, ℕ, zero, suc, ◌-◌, ◌⊎◌, List, [], ◌∷◌, Option, Some, None, refl, sym, ap, ◌∙◌, arith, inl, inr, set}
use Rattle.std.specs.Prelude.{slice_get, option_and_then}
use Rattle.std.specs.Option.{option_map_or}
use Rattle.std.proofs.lemmas.Bool.{cases_eq, eq-eqb, ne_eqb}
use Rattle.ipc_ids.specs.declared.message.PhoneState.{PhoneState}
use Rattle.phone_table.specs.Phones.{row_at, state_at, count_at}
use Rattle.switchboard.specs.State.{with_state_at}
use Rattle.switchboard.specs.Counts.{count_changed, recount}

set_at : {A : Type 0} (xs : List A) (i j : ℕ) (v w : A) → slice_get (set xs i v) j ≡ Some w → ((j ≡ i) × (v ≡ w)) ⊎ ((j ≡ i → ⊥) × (slice_get xs j ≡ Some w))
set_at [] i j v w h = absurd (cc h)
set_at (x ∷ xs) zero zero v w h = inl (refl, cc)
set_at (x ∷ xs) zero (suc j) v w h = inr (λ e. omega arith, h)
set_at (x ∷ xs) (suc i) zero v w h = inr (λ e. omega arith, h)
set_at (x ∷ xs) (suc i) (suc j) v w h = elim (set_at xs i j v w h) [ inl e ↦ inl (ap suc e.0, e.1) | inr e ↦ inr (λ s. e.0 (omega arith), e.1) ]

not_zero : {A : Type 0} (rows : List A) (t : ℕ) (row : A) → row_at rows t ≡ Some row → t ≡ 0 → ⊥
not_zero rows t row h e = let g = rw (eq-eqb t 0 e) at h in cc

row_set : {A : Type 0} (rows : List A) (a t : ℕ) (r v w : A) → row_at rows a ≡ Some r → row_at (set rows (a - 1) v) t ≡ Some w → ((t ≡ a) × (v ≡ w)) ⊎ ((t ≡ a → ⊥) × (row_at rows t ≡ Some w))
row_set rows a t r v w is h =
    let ne : t ≡ 0 → ⊥ = not_zero (set rows (a - 1) v) t w h in
    let na : a ≡ 0 → ⊥ = not_zero rows a r is in
    let g : slice_get (set rows (a - 1) v) (t - 1) ≡ Some w = rw (ne_eqb t 0 ne) at h in
    elim (set_at rows (a - 1) (t - 1) v w g) [
      | inl e ↦ inl (same t a ne na e.0, e.1)
      | inr e ↦ inr (λ s. e.0 (ap (λ x. x - 1) s), rw (ne_eqb t 0 ne) e.1)
    ] where
      same : (t a : ℕ) → (t ≡ 0 → ⊥) → (a ≡ 0 → ⊥) → t - 1 ≡ a - 1 → t ≡ a
      same t a nt na e = omega arith

pub some_of : {A B : Type 0} (o : Option A) (f : A → Option B) (y : B) → option_and_then f o ≡ Some y → (x : A) × (o ≡ Some x) × (f x ≡ Some y)
some_of None f y h = absurd (cc h)
some_of (Some x) f y h = (x, refl, h)

changed_at : (f : ℕ → ℕ) (row : List ℕ) (b p n : ℕ) → slice_get (count_changed f row b) p ≡ Some n → ((p ≡ b) × ((m : ℕ) × (slice_get row p ≡ Some m) × (n ≡ f m))) ⊎ ((p ≡ b → ⊥) × (slice_get row p ≡ Some n))
changed_at f row b p n h = by_count f row b p n (slice_get row b) refl h where
  by_count : (f : ℕ → ℕ) (row : List ℕ) (b p n : ℕ) (o : Option ℕ) → slice_get row b ≡ o → slice_get (option_map_or (λ m. set row b (f m)) o row) p ≡ Some n → ((p ≡ b) × ((m : ℕ) × (slice_get row p ≡ Some m) × (n ≡ f m))) ⊎ ((p ≡ b → ⊥) × (slice_get row p ≡ Some n))
  by_count f row b p n None is h = elim (cases_eq p b) [ inl e ↦ absurd (let g : slice_get row b ≡ Some n = rw e at h in cc) | inr ne ↦ inr (ne, h) ]
  by_count f row b p n (Some m) is h = elim (set_at row b p (f m) n h) [ inl e ↦ inl (e.0, (m, ap (slice_get row) e.0 ∙ is, sym e.1)) | inr e ↦ inr e ]

-- a count after one has changed
pub recount_at : (f : ℕ → ℕ) (rows : List (List ℕ)) (a b t p n : ℕ) → count_at (recount f rows a b) t p ≡ Some n → ((t ≡ a) × (p ≡ b) × ((m : ℕ) × (count_at rows t p ≡ Some m) × (n ≡ f m))) ⊎ (((t ≡ a) × (p ≡ b) → ⊥) × (count_at rows t p ≡ Some n))
recount_at f rows a b t p n h = by_row f rows a b t p n (row_at rows a) refl h where
  by_row : (f : ℕ → ℕ) (rows : List (List ℕ)) (a b t p n : ℕ) (o : Option (List ℕ)) → row_at rows a ≡ o → count_at (option_map_or (λ row. set rows (a - 1) (count_changed f row b)) o rows) t p ≡ Some n → ((t ≡ a) × (p ≡ b) × ((m : ℕ) × (count_at rows t p ≡ Some m) × (n ≡ f m))) ⊎ (((t ≡ a) × (p ≡ b) → ⊥) × (count_at rows t p ≡ Some n))
  by_row f rows a b t p n None is h = elim (cases_eq t a) [ inl e ↦ absurd (let g : count_at rows a p ≡ Some n = rw e at h in let k = rw is at g in cc) | inr ne ↦ inr (λ s. ne s.0, h) ]
  by_row f rows a b t p n (Some row) is h =
      let found = some_of (row_at (set rows (a - 1) (count_changed f row b)) t) (λ r. slice_get r p) n h in
      elim (row_set rows a t row (count_changed f row b) found.0 is found.1) [
        | inl e ↦
            let g : slice_get (count_changed f row b) p ≡ Some n = rw (e.1) found.2 in
            let there : count_at rows t p ≡ slice_get row p = rw (e.0, is) in
            elim (changed_at f row b p n g) [ inl x ↦ inl (e.0, x.0, (x.1.0, there ∙ x.1.1, x.1.2)) | inr x ↦ inr (λ s. x.0 s.1, there ∙ x.1) ]
        | inr e ↦ inr (λ s. e.0 s.0, rw (e.1) found.2)
      ]

-- a state after one has changed
pub state_changed_at : (rows : List (List PhoneState)) (a b t p : ℕ) (s x : PhoneState) → state_at (with_state_at rows a b s) t p ≡ Some x → ((t ≡ a) × (p ≡ b) × (s ≡ x)) ⊎ (((t ≡ a) × (p ≡ b) → ⊥) × (state_at rows t p ≡ Some x))
state_changed_at rows a b t p s x h = by_row rows a b t p s x (row_at rows a) refl h where
  by_row : (rows : List (List PhoneState)) (a b t p : ℕ) (s x : PhoneState) (o : Option (List PhoneState)) → row_at rows a ≡ o → state_at (option_map_or (λ row. set rows (a - 1) (set row b s)) o rows) t p ≡ Some x → ((t ≡ a) × (p ≡ b) × (s ≡ x)) ⊎ (((t ≡ a) × (p ≡ b) → ⊥) × (state_at rows t p ≡ Some x))
  by_row rows a b t p s x None is h = elim (cases_eq t a) [ inl e ↦ absurd (let g : state_at rows a p ≡ Some x = rw e at h in let k = rw is at g in cc) | inr ne ↦ inr (λ z. ne z.0, h) ]
  by_row rows a b t p s x (Some row) is h =
      let found = some_of (row_at (set rows (a - 1) (set row b s)) t) (λ r. slice_get r p) x h in
      elim (row_set rows a t row (set row b s) found.0 is found.1) [
        | inl e ↦
            let g : slice_get (set row b s) p ≡ Some x = rw (e.1) found.2 in
            let there : state_at rows t p ≡ slice_get row p = rw (e.0, is) in
            elim (set_at row b p s x g) [ inl y ↦ inl (e.0, y.0, y.1) | inr y ↦ inr (λ z. y.0 z.1, there ∙ y.1) ]
        | inr e ↦ inr (λ z. e.0 z.0, rw (e.1) found.2)
      ]
