-- Each phone has its count, as row after row shows.
use Rattle.std.proofs.Common.{◌≡◌, ℕ, zero, suc, ◌+◌, ◌-◌, ◌≤◌, ◌<◌, Some, List, [], ◌∷◌, length, refl, arith, inl, inr}
use Rattle.std.specs.Prelude.{slice_get, IsSome}
use Rattle.std.proofs.lemmas.Bool.{cases_eq, cases_lt, ne_eqb}
use Rattle.std.proofs.lemmas.Option.{slice_get_past}
use Rattle.phone_table.specs.Phones.{Row, Rows, AreCounted, row_at, state_at, count_at}

-- so it is in the rows of the first n tasks
abbrev pub CountedTo : Rows → ℕ → Type 0
CountedTo rows n = (t p : ℕ) → t ≤ n → IsSome (state_at rows.states t p) → IsSome (count_at rows.counts t p)

pub counted_none : (rows : Rows) → CountedTo rows 0
counted_none rows zero p le h = absurd (cc h)
counted_none rows (suc t) p le h = absurd (omega (arith, le))

there : {A B : Type 0} (xs : List A) (ys : List B) (p : ℕ) → length ys ≡ length xs → IsSome (slice_get xs p) → IsSome (slice_get ys p)
there [] ys p same h = absurd (cc h)
there (x ∷ xs) [] p same h = absurd (omega (arith, same))
there (x ∷ xs) (y ∷ ys) zero same h = refl
there (x ∷ xs) (y ∷ ys) (suc p) same h = there xs ys p (omega (arith, same)) h

pub counted_next : (rows : Rows) (i : ℕ) (row : Row) → CountedTo rows i → row_at rows.states (i + 1) ≡ Some row.states → row_at rows.counts (i + 1) ≡ Some row.counts → length row.counts ≡ length row.states → CountedTo rows (i + 1)
counted_next rows i row s states counts same t p le h = elim (cases_eq t (i + 1)) [
  | inl e ↦ rw (e, counts) (there row.states row.counts p same (rw (e, states) at h))
  | inr ne ↦ s t p (omega (arith, le)) h
]

pub counted_all : (rows : Rows) → CountedTo rows (length rows.states) → AreCounted rows
counted_all rows s t p h = elim (cases_lt (length rows.states) t) [
  | inl past ↦ absurd (none t past h)
  | inr le ↦ s t p (omega (arith, le)) h
] where
  none : (t : ℕ) → length rows.states < t → IsSome (state_at rows.states t p) → ⊥
  none zero past g = omega (arith, past)
  none (suc t) past g =
      let back : suc t - 1 ≡ t = omega arith in
      let f = rw (ne_eqb (suc t) 0 (λ e. omega arith), back, slice_get_past rows.states t (omega (arith, past))) at g in
      cc f
