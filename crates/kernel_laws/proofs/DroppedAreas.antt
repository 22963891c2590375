-- An area that is dropped: what becomes of the other areas, and of the stores.
use Rattle.std.proofs.Common.{◌≡◌, ℕ, zero, suc, ◌-◌, ◌<◌, ◌≤◌, Bool, true, false, List, [], ◌∷◌, Option, None, Some, refl, ap, sym, subst, ◌∙◌, arith, inl, inr}
use Rattle.std.specs.Prelude.{if◌then◌else◌, slice_get, slice_set, remove, unwrap_or}
use Rattle.std.specs.List.{list_any}
use Rattle.std.specs.FinMap.{get}
use Rattle.std.specs.FinMap as map
use Rattle.std.proofs.lemmas.Bool.{eq-eqb, eqb-true, or_cases, or_left, or_right}
use Rattle.ipc_ids.specs.declared.numbers.TaskNo.{TaskNo}
use Rattle.address_space.specs.Areas.{Area, stands_over}
use Rattle.address_space.specs.Memory.{Memory, areas_of, with_areas, is_used, drop_place}
use Rattle.address_space.proofs.Rows.{others_keep}
use Rattle.kernel_laws.specs.MemoryLaws.{Has, Drops}
use Rattle.kernel_laws.proofs.KilledAreas.{in_row, row_of, removed, not_removed}
use Rattle.std.proofs.lemmas.Option.{same_Some}

-- areas of a list that pass a test

pub any_of : (p : Area → Bool) (areas : List Area) → list_any p areas ≡ true
    → (a : Area) × ((i : ℕ) × (slice_get areas i ≡ Some a)) × (p a ≡ true)
any_of p [] h = absurd (cc h)
any_of p (x ∷ areas) h = elim (or_cases (p x) (list_any p areas) h) [
  | inl here ↦ (x, (0, refl), here)
  | inr behind ↦ let r = any_of p areas behind in (r.0, (suc r.1.0, r.1.1), r.2)
]

pub any_at : (p : Area → Bool) (areas : List Area) (i : ℕ) (a : Area) → slice_get areas i ≡ Some a → p a ≡ true → list_any p areas ≡ true
any_at p [] i a is h = absurd (cc is)
any_at p (x ∷ areas) zero a is h = or_left (p x) (list_any p areas) (ap p (same_Some x a is) ∙ h)
any_at p (x ∷ areas) (suc i) a is h = or_right (p x) (list_any p areas) (any_at p areas i a is h)

-- a list without one element

before_it : (areas : List Area) (i j : ℕ) → j < i → slice_get (remove areas i) j ≡ slice_get areas j
before_it [] zero j h = refl
before_it [] (suc i) j h = refl
before_it (x ∷ areas) zero j h = absurd (omega (arith, h))
before_it (x ∷ areas) (suc i) zero h = refl
before_it (x ∷ areas) (suc i) (suc j) h = before_it areas i j (omega (arith, h))

behind_it : (areas : List Area) (i j : ℕ) → i ≤ j → slice_get (remove areas i) j ≡ slice_get areas (suc j)
behind_it [] zero j h = refl
behind_it [] (suc i) j h = refl
behind_it (x ∷ areas) zero j h = refl
behind_it (x ∷ areas) (suc i) zero h = absurd (omega (arith, h))
behind_it (x ∷ areas) (suc i) (suc j) h = behind_it areas i j (omega (arith, h))

-- the row of a task that has an area

row_here : (rows : List (List Area)) (j i : ℕ) (a : Area) (row : List Area) → slice_get (unwrap_or (slice_get rows j) []) i ≡ Some a → unwrap_or (slice_get (slice_set rows j row) j) [] ≡ row
row_here [] j i a row h = absurd (cc h)
row_here (r ∷ rows) zero i a row h = refl
row_here (r ∷ rows) (suc j) i a row h = row_here rows j i a row h

module _ (m : Memory) (t : TaskNo) (i : ℕ) (a : Area) (some : 1 ≤ t.0) (there : slice_get (areas_of m t) i ≡ Some a) where
  abbrev left : Memory
  left = with_areas m t (remove (areas_of m t) i)

  own : areas_of left t ≡ remove (areas_of m t) i
  own = row_here m.areas (t.0 - 1) i a (remove (areas_of m t) i) there

  -- whether an area stands over its store yet

  over : (u : TaskNo) (b : Area) → Has left u b → b.store ≡ a.store → is_used a.store left.areas ≡ true
  over u b h e = in_row (stands_over a.store) left.areas (u.0 - 1) (any_at (stands_over a.store) (areas_of left u) h.0 b h.1 (eq-eqb b.store a.store e))

  under : is_used a.store left.areas ≡ true → (u : TaskNo) × (b : Area) × (1 ≤ u.0) × Has left u b × (b.store ≡ a.store)
  under h =
      let row = row_of (stands_over a.store) left.areas h in
      let u : TaskNo = record { 0 = suc row.0 } in
      let back : suc row.0 - 1 ≡ row.0 = omega arith in
      let here : list_any (stands_over a.store) (areas_of left u) ≡ true = ap (λ (j : ℕ). list_any (stands_over a.store) (unwrap_or (slice_get left.areas j) [])) back ∙ row.1 in
      let one = any_of (stands_over a.store) (areas_of left u) here in
      (u, one.0, omega arith, one.1, eqb-true one.0.store a.store one.2)

  abbrev kept_if : Bool → ℕ → Option (List ℕ)
  kept_if b n = get (if b then m.stores else map.remove m.stores a.store) n

  stays : (b : Bool) → b ≡ true → kept_if b a.store ≡ get m.stores a.store
  stays true e = refl
  stays false e = absurd (cc e)

  goes : (b : Bool) → (b ≡ true → ⊥) → kept_if b a.store ≡ None
  goes true unused = absurd (unused refl)
  goes false unused = removed m.stores a.store a.store refl

  elsewhere : (b : Bool) (n : ℕ) → (n ≡ a.store → ⊥) → kept_if b n ≡ get m.stores n
  elsewhere true n other = refl
  elsewhere false n other = not_removed m.stores a.store n other

  dropped : Drops m t a (drop_place m t i (Some a))
  dropped = record {
    place = i;
    there = there;
    before = λ j h. ap (λ (areas : List Area). slice_get areas j) own ∙ before_it (areas_of m t) i j h;
    behind = λ j h. ap (λ (areas : List Area). slice_get areas j) own ∙ behind_it (areas_of m t) i j h ∙ ap (slice_get (areas_of m t)) (omega arith);
    others = λ u more apart. others_keep m t u (remove (areas_of m t) i) some more apart;
    used = λ u b more h e. stays (is_used a.store left.areas) (over u b h e);
    unused = λ none. goes (is_used a.store left.areas) (λ e. let f = under e in none f.0 f.1 f.2 f.3 f.4);
    stores = λ n other. elsewhere (is_used a.store left.areas) n other;
    next = refl;
  }

-- it is what a drop at its place comes to
pub drops : (m : Memory) (t : TaskNo) (i : ℕ) (a : Area) → 1 ≤ t.0 → slice_get (areas_of m t) i ≡ Some a → Drops m t a (drop_place m t i (slice_get (areas_of m t) i))
drops m t i a some there = subst (λ (o : Option Area). Drops m t a (drop_place m t i o)) (sym there) (dropped m t i a some there)
