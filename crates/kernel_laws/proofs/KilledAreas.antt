-- Areas and stores after a kill: what became of them.
use Rattle.std.proofs.Common.{◌≡◌, ℕ, zero, suc, ◌-◌, ◌≤◌, ◌==◌, Bool, true, false, cond, ◌⊎◌, inl, inr, Option, None, Some, List, [], ◌∷◌, refl, ap, sym, ◌∙◌, arith}
use Rattle.std.specs.Prelude.{if◌then◌else◌, slice_get, slice_set, remove, unwrap_or}
use Rattle.std.specs.List.{list_any}
use Rattle.std.specs.Ordering.{nat_cmp, eq_by_cmp}
use Rattle.std.specs.Cmp.{nat_cmp_total}
use Rattle.std.specs.FinMap.{FinMap, get, get-remove}
use Rattle.std.specs.FinMap as map
use Rattle.std.proofs.lemmas.Bool.{cases_eq, eqb-true, false≢true, or_left, or_right, or_cases, or_parts, both_ways}
use Rattle.ipc_ids.specs.declared.numbers.TaskNo.{TaskNo}
use Rattle.ipc_ids.proofs.Common.{own_key}
use Rattle.address_space.specs.Areas.{Area, stands_over, place_of}
use Rattle.address_space.specs.Memory.{Memory, areas_of, with_areas, is_used, release, drop_place, drop_at, drop_area}
use Rattle.address_space.proofs.Rows.{others_keep, others_at_drop}
use Rattle.switchboard.specs.State.{KernelState, is_alive, mark_ended}
use Rattle.cleanup.specs.Kill.{kill}
use Rattle.switchboard.proofs.SoundMemory.{from_one}
use Rattle.cleanup.proofs.Killing.{areas_last, areas_end, calls_steady, after_calls}
use Rattle.kernel_laws.specs.KillLaws.{HasAreaOver, ClosesAreas}
use Rattle.answerbox.proofs.Chain.{other_key}

-- one of many passes a test

module _ (q : Area → Bool) where
  pub in_row : (rows : List (List Area)) (j : ℕ) → list_any q (unwrap_or (slice_get rows j) []) ≡ true → list_any (list_any q) rows ≡ true
  in_row [] j h = absurd (cc h)
  in_row (row ∷ rows) zero h = or_left (list_any q row) (list_any (list_any q) rows) h
  in_row (row ∷ rows) (suc j) h = or_right (list_any q row) (list_any (list_any q) rows) (in_row rows j h)

  pub row_of : (rows : List (List Area)) → list_any (list_any q) rows ≡ true → (j : ℕ) × (list_any q (unwrap_or (slice_get rows j) []) ≡ true)
  row_of [] h = absurd (cc h)
  row_of (row ∷ rows) h = elim (or_cases (list_any q row) (list_any (list_any q) rows) h) [ inl here ↦ (zero, here) | inr behind ↦ let r = row_of rows behind in (suc r.0, r.1) ]

  -- where none passes any more, it was the one that was removed
  lost_here : (row : List Area) (i : ℕ) (a : Area) → slice_get row i ≡ Some a → list_any q row ≡ true → list_any q (remove row i) ≡ false → q a ≡ true
  lost_here [] i a is h none = absurd (cc h)
  lost_here (b ∷ row) zero a is h none =
      let same : b ≡ a = cc in
      elim (or_cases (q b) (list_any q row) h) [ inl this ↦ ap q (sym same) ∙ this | inr behind ↦ absurd (both_ways (list_any q row) none behind) ]
  lost_here (b ∷ row) (suc i) a is h none =
      let left = or_parts (q b) (list_any q (remove row i)) none in
      elim (or_cases (q b) (list_any q row) h) [ inl this ↦ absurd (both_ways (q b) left.0 this) | inr behind ↦ lost_here row i a is behind left.1 ]

  lost_in : (rows : List (List Area)) (j i : ℕ) (a : Area) → slice_get (unwrap_or (slice_get rows j) []) i ≡ Some a → list_any (list_any q) rows ≡ true → list_any (list_any q) (slice_set rows j (remove (unwrap_or (slice_get rows j) []) i)) ≡ false → q a ≡ true
  lost_in [] j i a is h none = absurd (cc h)
  lost_in (row ∷ rows) zero i a is h none =
      let left = or_parts (list_any q (remove row i)) (list_any (list_any q) rows) none in
      elim (or_cases (list_any q row) (list_any (list_any q) rows) h) [ inl here ↦ lost_here row i a is here left.0 | inr behind ↦ absurd (both_ways (list_any (list_any q) rows) left.1 behind) ]
  lost_in (row ∷ rows) (suc j) i a is h none =
      let left = or_parts (list_any q row) (list_any (list_any q) (slice_set rows j (remove (unwrap_or (slice_get rows j) []) i))) none in
      elim (or_cases (list_any q row) (list_any (list_any q) rows) h) [ inl here ↦ absurd (both_ways (list_any q row) left.0 here) | inr behind ↦ lost_in rows j i a is behind left.1 ]

-- a store where one is removed

pub removed : (stores : FinMap nat_cmp (List ℕ)) (s n : ℕ) → s ≡ n → get (map.remove stores s) n ≡ None
removed stores s n e = rw (← e) (rw (get-remove nat_cmp_total stores s s, own_key s) refl)

pub not_removed : (stores : FinMap nat_cmp (List ℕ)) (s n : ℕ) → (n ≡ s → ⊥)
    → get (map.remove stores s) n ≡ get stores n
not_removed stores s n ne = rw (get-remove nat_cmp_total stores s n, other_key n s ne) refl

none_either : (b : Bool) (o : Option (List ℕ)) → o ≡ None → cond b None o ≡ None
none_either true o e = refl
none_either false o e = e

still_none : (stores : FinMap nat_cmp (List ℕ)) (s n : ℕ) → get stores n ≡ None → get (map.remove stores s) n ≡ None
still_none stores s n e = get-remove nat_cmp_total stores s n ∙ none_either (eq_by_cmp nat_cmp n s) (get stores n) e

-- a store that an area stands over keeps its bytes

release_if : (m : Memory) (s n : ℕ) (used : Bool) → is_used s m.areas ≡ used → is_used n m.areas ≡ true → get (if used then m.stores else map.remove m.stores s) n ≡ get m.stores n
release_if m s n true is over = refl
release_if m s n false is over = not_removed m.stores s n (λ e. both_ways (is_used n m.areas) (ap (λ (i : ℕ). is_used i m.areas) e ∙ is) over)

release_keeps : (m : Memory) (s n : ℕ) → is_used n m.areas ≡ true → get (release m s).stores n ≡ get m.stores n
release_keeps m s n over = release_if m s n (is_used s m.areas) refl over

module _ (m : Memory) (t : TaskNo) (n : ℕ) where
  module _ (u : TaskNo) (some : 1 ≤ t.0) (more : 1 ≤ u.0) (apart : u.0 ≡ t.0 → ⊥) (over : list_any (stands_over n) (areas_of m u) ≡ true) where
    place_keeps : (i : ℕ) (found : Option Area) → get (drop_place m t i found).stores n ≡ get m.stores n
    place_keeps i None = refl
    place_keeps i (Some a) =
        let left : Memory = with_areas m t (remove (areas_of m t) i) in
        release_keeps left a.store n (in_row (stands_over n) left.areas (u.0 - 1) (ap (list_any (stands_over n)) (others_keep m t u (remove (areas_of m t) i) some more apart) ∙ over))

    at_keeps : (place : Option ℕ) → get (drop_at m t place).memory.stores n ≡ get m.stores n
    at_keeps None = refl
    at_keeps (Some i) = place_keeps i (slice_get (areas_of m t) i)

    pub drop_keeps : (base : ℕ) → get (drop_area m t base).memory.stores n ≡ get m.stores n
    drop_keeps base = at_keeps (place_of base (areas_of m t))

-- a store is gone, or an area stands over it
abbrev IsGoneOrUsed : ℕ → Memory → Type 0
IsGoneOrUsed n m = (get m.stores n ≡ None) ⊎ (is_used n m.areas ≡ true)

gone_if : (m : Memory) (s n : ℕ) (used : Bool) → get m.stores n ≡ None → get (if used then m.stores else map.remove m.stores s) n ≡ None
gone_if m s n true e = e
gone_if m s n false e = still_none m.stores s n e

released_if : (m : Memory) (s n : ℕ) (used : Bool) → is_used s m.areas ≡ used → (s == n) ≡ true → is_used n m.areas ≡ false → get (if used then m.stores else map.remove m.stores s) n ≡ None
released_if m s n true is e none = absurd (both_ways (is_used n m.areas) none (ap (λ (i : ℕ). is_used i m.areas) (sym (eqb-true s n e)) ∙ is))
released_if m s n false is e none = removed m.stores s n (eqb-true s n e)

module _ (m : Memory) (t : TaskNo) (n : ℕ) (before : IsGoneOrUsed n m) where
  left_or_gone : (i : ℕ) (a : Area) → slice_get (areas_of m t) i ≡ Some a → is_used n m.areas ≡ true → (used : Bool) → is_used n (with_areas m t (remove (areas_of m t) i)).areas ≡ used → IsGoneOrUsed n (release (with_areas m t (remove (areas_of m t) i)) a.store)
  left_or_gone i a is over true used = inr used
  left_or_gone i a is over false unused =
      let left : Memory = with_areas m t (remove (areas_of m t) i) in
      inl (released_if left a.store n (is_used a.store left.areas) refl (lost_in (stands_over n) m.areas (t.0 - 1) i a is over unused) unused)

  place_goes : (i : ℕ) (found : Option Area) → slice_get (areas_of m t) i ≡ found → IsGoneOrUsed n (drop_place m t i found)
  place_goes i None is = before
  place_goes i (Some a) is =
      let left : Memory = with_areas m t (remove (areas_of m t) i) in
      elim before [ inl none ↦ inl (gone_if left a.store n (is_used a.store left.areas) none) | inr over ↦ left_or_gone i a is over (is_used n left.areas) refl ]

  at_goes : (place : Option ℕ) → IsGoneOrUsed n (drop_at m t place).memory
  at_goes None = before
  at_goes (Some i) = place_goes i (slice_get (areas_of m t) i) refl

  pub drop_goes : (base : ℕ) → IsGoneOrUsed n (drop_area m t base).memory
  drop_goes base = at_goes (place_of base (areas_of m t))

module _ (k : KernelState) (t : TaskNo) (alive : is_alive k t ≡ true) where
  some : 1 ≤ t.0
  some = from_one k.tasks.alive t alive

  -- the parts before the last leave the memory
  before_areas : (after_calls t k).memory ≡ k.memory
  before_areas = (calls_steady t (mark_ended k t)).memory

  others_stay : (u : TaskNo) → 1 ≤ u.0 → (u.0 ≡ t.0 → ⊥) → areas_of (kill k t).state.memory u ≡ areas_of k.memory u
  others_stay u more apart =
      areas_last k t (λ j. areas_of j.memory u ≡ areas_of k.memory u)
      (λ j base h. others_at_drop j.memory t u base some more apart ∙ h)
      (ap (λ (m : Memory). areas_of m u) before_areas)

  -- another task's areas, and a store that one of them stands over
  record IsAsBefore (u : TaskNo) (n : ℕ) (j : KernelState) : Type 0 where
    pub areas : areas_of j.memory u ≡ areas_of k.memory u
    pub bytes : get j.memory.stores n ≡ get k.memory.stores n

  bytes_stay : (u : TaskNo) (n : ℕ) → 1 ≤ u.0 → (u.0 ≡ t.0 → ⊥) → HasAreaOver k u n → get (kill k t).state.memory.stores n ≡ get k.memory.stores n
  bytes_stay u n more apart over =
      (areas_last k t (IsAsBefore u n)
      (λ j base h. record {
        areas = others_at_drop j.memory t u base some more apart ∙ h.areas;
        bytes = drop_keeps j.memory t n u some more apart (ap (list_any (stands_over n)) h.areas ∙ over) base ∙ h.bytes;
      })
      (record { areas = ap (λ (m : Memory). areas_of m u) before_areas; bytes = ap (λ (m : Memory). get m.stores n) before_areas })).bytes

  gone_or_used : (n : ℕ) → HasAreaOver k t n → IsGoneOrUsed n (kill k t).state.memory
  gone_or_used n over =
      areas_last k t (λ j. IsGoneOrUsed n j.memory)
      (λ j base h. drop_goes j.memory t n h base)
      (inr (ap (λ (m : Memory). is_used n m.areas) before_areas ∙ in_row (stands_over n) k.memory.areas (t.0 - 1) over))

  not_used : (n : ℕ) → ((u : TaskNo) → 1 ≤ u.0 → (u.0 ≡ t.0 → ⊥) → HasAreaOver k u n → ⊥) → is_used n (kill k t).state.memory.areas ≡ true → ⊥
  not_used n alone used = by_task (cases_eq u.0 t.0) where
    row : (j : ℕ) × (list_any (stands_over n) (unwrap_or (slice_get (kill k t).state.memory.areas j) []) ≡ true)
    row = row_of (stands_over n) (kill k t).state.memory.areas used

    u : TaskNo
    u = record { 0 = suc row.0 }

    back : suc row.0 - 1 ≡ row.0
    back = omega arith

    over : HasAreaOver (kill k t).state u n
    over = ap (λ (j : ℕ). list_any (stands_over n) (unwrap_or (slice_get (kill k t).state.memory.areas j) [])) back ∙ row.1

    by_task : (u.0 ≡ t.0) ⊎ (u.0 ≡ t.0 → ⊥) → ⊥
    by_task (inl e) = false≢true (sym (ap (λ (j : ℕ). list_any (stands_over n) (unwrap_or (slice_get (kill k t).state.memory.areas (j - 1)) [])) e ∙ ap (list_any (stands_over n)) (areas_end k t)) ∙ over)
    by_task (inr apart) = alone u (omega arith) apart (ap (list_any (stands_over n)) (sym (others_stay u (omega arith) apart)) ∙ over)

pub kill_closes_areas : (k : KernelState) (t : TaskNo) → is_alive k t ≡ true → ClosesAreas t k (kill k t).state
kill_closes_areas k t alive = record {
  own = areas_end k t;
  others = others_stay k t alive;
  bytes = bytes_stay k t alive;
  gone = λ n over alone. elim (gone_or_used k t alive n over) [ inl none ↦ none | inr used ↦ absurd (not_used k t alive n alone used) ];
}
