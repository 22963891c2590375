-- The area of a task at a base, as areas are made, shared, dropped and written to.
use Rattle.std.proofs.Common.{◌≡◌, ℕ, zero, suc, ◌+◌, ◌-◌, ◌*◌, ◌<◌, ◌≤◌, Bool, true, false, cond, not, ◌&&◌, List, [], ◌∷◌, ◌++◌, length, Option, Some, None, Ok, Err, refl, sym, ◌∙◌, ap, subst, inl, inr, arith, All}
use Rattle.std.specs.Prelude.{◌==◌, if◌then◌else◌, nat_lt, bit_and, remove, slice_get, slice_set, slice_index_or, unwrap_or, option_map, ⊤}
use Rattle.std.specs.List.{AllPairs, list_any, position_or_len}
use Rattle.std.proofs.lemmas.Bool.Decides.{nat_tests}
use Rattle.std.proofs.lemmas.Bool.{cases_eq, eq-eqb, ne_eqb, eqb-true, or_parts}
use Rattle.std.proofs.lemmas.List.Elements.{All-head, All-tail}
use Rattle.ipc_ids.specs.declared.numbers.TaskNo.{TaskNo}
use Rattle.ipc_ids.specs.declared.numbers.StoreNo.{StoreNo}
use Rattle.ipc_ids.specs.declared.numbers.Code.{Code}
use Rattle.ipc_ids.specs.Codes.{eperm, einval, eexist, elimit}
use Rattle.address_space.specs.declared.area.Right.TheVariants.{Write}
use Rattle.address_space.specs.Areas.{Area, IsInRange, overlaps, allows, holds, holder, place_of, area_in, is_malformed, is_taken, is_full, is_subset, refusal}
use Rattle.address_space.specs.Memory.{Memory, areas_of, with_areas, area_at, refused, spot_in, spot_of, write_spot, write, make_unless, make, drop_at, drop_area, share_unless, share_area, share}
use Rattle.address_space.specs.Sound.{IsSound, AreApart, IsOver}
use Rattle.address_space.proofs.Keeping.{in_holder, within}
use Rattle.address_space.proofs.Soundness.{lawful_of, over_of}
use Rattle.address_space.proofs.Rows.{others_keep}
use Rattle.address_space.proofs.Ending.{own_row}

-- the first of the areas with this base
abbrev pub with_base : ℕ → List Area → Option Area
with_base base [] = None
with_base base (a ∷ areas) = if a.base == base then Some a else with_base base areas

first_or_next : (b : Bool) (k n : ℕ) →
    (if nat_lt (cond (not b) (1 + k) 0) (suc n) then Some (cond (not b) (1 + k) 0) else None)
    ≡ (if b then Some 0 else option_map (λ i. suc i) (if nat_lt k n then Some k else None))
first_or_next true k n = grind (arith, nat_tests)
first_or_next false k n = grind (arith, nat_tests)

place-cons : (base : ℕ) (a : Area) (areas : List Area) → place_of base (a ∷ areas) ≡ (if a.base == base then Some 0 else option_map (λ i. suc i) (place_of base areas))
place-cons base a areas = first_or_next (a.base == base) (position_or_len (λ x. x.base == base) areas) (length areas)

in-cons : (a : Area) (areas : List Area) (o : Option ℕ) → area_in (a ∷ areas) (option_map (λ i. suc i) o) ≡ area_in areas o
in-cons a areas None = refl
in-cons a areas (Some i) = refl

pub area_in_is : (base : ℕ) (areas : List Area) → area_in areas (place_of base areas) ≡ with_base base areas
area_in_is base [] = refl
area_in_is base (a ∷ areas) = ap (area_in (a ∷ areas)) (place-cons base a areas) ∙ by_base (a.base == base) (area_in_is base areas) where
  by_base : (b : Bool) → area_in areas (place_of base areas) ≡ with_base base areas → area_in (a ∷ areas) (if b then Some 0 else option_map (λ i. suc i) (place_of base areas)) ≡ (if b then Some a else with_base base areas)
  by_base true rest = refl
  by_base false rest = in-cons a areas (place_of base areas) ∙ rest

-- areas of one task that are apart begin apart

same_start : (a b : Area) → 1 ≤ a.pages → 1 ≤ b.pages → AreApart a b → b.base ≡ a.base → ⊥
same_start a b some more apart e =
    let x : a.base < b.base + b.pages * 4096 = omega arith in
    let y : b.base < a.base + a.pages * 4096 = omega arith in
    absurd (grind (arith, nat_tests, apart, x, y))

abbrev IsWell : Area → Type 0
IsWell a = IsInRange a.base a.pages a.rights

none_alike : (a : Area) (areas : List Area) → 1 ≤ a.pages → All IsWell areas → ((j : ℕ) (d : Area) → j < length areas → AreApart a (slice_index_or areas j d)) → with_base a.base areas ≡ None
none_alike a [] some all apart = refl
none_alike a (b ∷ areas) some all apart = elim (cases_eq b.base a.base) [
  | inl e ↦ absurd (same_start a b some (All-head IsWell b areas all).some (apart zero b (omega arith)) e)
  | inr ne ↦ rw (ne_eqb b.base a.base ne) (none_alike a areas some (All-tail IsWell b areas all) (λ j d lt. apart (suc j) d (omega arith)))
]

-- no two of the areas have one base
abbrev pub AreUnlike : List Area → Type 0
AreUnlike [] = ⊤
AreUnlike (a ∷ areas) = (with_base a.base areas ≡ None) × AreUnlike areas

unlike : (areas : List Area) → All IsWell areas → AllPairs AreApart areas → AreUnlike areas
unlike [] all apart = tt
unlike (a ∷ areas) all apart = (
  none_alike a areas (All-head IsWell a areas all).some (All-tail IsWell a areas all) (λ j d lt. apart zero (suc j) d (omega arith) (omega arith)),
  unlike areas (All-tail IsWell a areas all) (λ i j d below lt. apart (suc i) (suc j) d (omega arith) (omega arith)),
)

pub unlike_of : (m : Memory) (t : TaskNo) → IsSound m → AreUnlike (areas_of m t)
unlike_of m t s = let l = lawful_of m t s in unlike (areas_of m t) l.in_range l.apart

-- an area that overlaps none of them has a base of its own
not_taken : (base pages : ℕ) (areas : List Area) → 1 ≤ pages → All IsWell areas → is_taken base pages areas ≡ false → with_base base areas ≡ None
not_taken base pages [] some all free = refl
not_taken base pages (b ∷ areas) some all free =
    let f = or_parts (overlaps base (base + pages * 4096) b) (list_any (overlaps base (base + pages * 4096)) areas) free in
    elim (cases_eq b.base base) [
      | inl e ↦
          let more : 1 ≤ b.pages = (All-head IsWell b areas all).some in
          let x : b.base < base + pages * 4096 = omega arith in
          let y : base < b.base + b.pages * 4096 = omega arith in
          absurd (let g : overlaps base (base + pages * 4096) b ≡ false = f.0 in grind (arith, nat_tests, g, x, y))
      | inr ne ↦ rw (ne_eqb b.base base ne) (not_taken base pages areas some (All-tail IsWell b areas all) f.1)
    ]

-- one area more, and one fewer

pushed : (base : ℕ) (a : Area) (areas : List Area) → with_base a.base areas ≡ None → with_base base (areas ++ a ∷ []) ≡ (if a.base == base then Some a else with_base base areas)
pushed base a [] none = refl
pushed base a (x ∷ areas) none = grind (arith, pushed base a areas, eq-eqb, ne_eqb, cases_eq x.base a.base, cases_eq x.base base, cases_eq a.base base)

is_there : (a : Area) (areas : List Area) (i : ℕ) → slice_get areas i ≡ Some a → with_base a.base areas ≡ None → ⊥
is_there a [] i is none = absurd (cc is)
is_there a (x ∷ areas) zero is none = grind (arith, eq-eqb)
is_there a (x ∷ areas) (suc i) is none = grind (arith, is_there a areas i is, eq-eqb, ne_eqb, cases_eq x.base a.base)

removed : (base : ℕ) (a : Area) (areas : List Area) (i : ℕ) → slice_get areas i ≡ Some a → AreUnlike areas → with_base base (remove areas i) ≡ (if a.base == base then None else with_base base areas)
removed base a [] i is u = absurd (cc is)
removed base a (x ∷ areas) zero is u = grind (arith, eq-eqb, ne_eqb, cases_eq x.base base)
removed base a (x ∷ areas) (suc i) is u =
    let there = is_there a areas i is in
    grind (arith, removed base a areas i is, there, eq-eqb, ne_eqb, cases_eq x.base base, cases_eq a.base base, cases_eq x.base a.base)

-- the place of a base is that of an area with this base
abbrev IsPlaced : ℕ → List Area → ℕ → Type 0
IsPlaced base areas i = (a : Area) × (slice_get areas i ≡ Some a) × (a.base ≡ base)

place_is : (base : ℕ) (areas : List Area) (i : ℕ) → place_of base areas ≡ Some i → IsPlaced base areas i
place_is base [] i is = absurd (cc is)
place_is base (x ∷ areas) i is = by_base (x.base == base) refl (sym (place-cons base x areas) ∙ is) (λ j at. place_is base areas j at) where
  by_rest : (o : Option ℕ) → place_of base areas ≡ o → option_map (λ j. suc j) o ≡ Some i → ((j : ℕ) → place_of base areas ≡ Some j → IsPlaced base areas j) → IsPlaced base (x ∷ areas) i
  by_rest None at e rest = absurd (cc e)
  by_rest (Some j) at e rest =
      let same : suc j ≡ i = cc in
      let found = rest j at in
      (found.0, subst (λ n. slice_get (x ∷ areas) n ≡ Some found.0) same found.1, found.2)

  by_base : (b : Bool) → (x.base == base) ≡ b → (if b then Some 0 else option_map (λ j. suc j) (place_of base areas)) ≡ Some i → ((j : ℕ) → place_of base areas ≡ Some j → IsPlaced base areas j) → IsPlaced base (x ∷ areas) i
  by_base true e h rest = let same : 0 ≡ i = cc in (x, subst (λ n. slice_get (x ∷ areas) n ≡ Some x) same refl, eqb-true x.base base e)
  by_base false e h rest = by_rest (place_of base areas) refl h rest

pub with_base_is : (P : Area → Type 0) (base : ℕ) (areas : List Area) (a : Area) → All P areas → with_base base areas ≡ Some a → P a × (a.base ≡ base)
with_base_is P base [] a all is = absurd (cc is)
with_base_is P base (x ∷ areas) a all is = elim (cases_eq x.base base) [
  | inl e ↦ let h : Some x ≡ Some a = rw (eq-eqb x.base base e) at is in let same : x ≡ a = cc in (subst P same (All-head P x areas all), subst (λ (y : Area). y.base ≡ base) same e)
  | inr ne ↦ with_base_is P base areas a (All-tail P x areas all) (rw (ne_eqb x.base base ne) at is)
]

-- the area that holds a range is the one at its base
holder_at : (at count : ℕ) (areas : List Area) (a : Area) → AreUnlike areas → holder at count Write areas ≡ Some a → with_base a.base areas ≡ Some a
holder_at at count [] a u is = absurd (cc is)
holder_at at count (x ∷ areas) a u is = by_hold (holds at count Write x) is (holder_at at count areas a u.1) where
  by_hold : (b : Bool) → (if b then Some x else holder at count Write areas) ≡ Some a → (holder at count Write areas ≡ Some a → with_base a.base areas ≡ Some a) → (if x.base == a.base then Some x else with_base a.base areas) ≡ Some a
  by_hold true h rest = let same : x ≡ a = cc in subst (λ (y : Area). (if y.base == a.base then Some y else with_base a.base areas) ≡ Some a) (sym same) (rw (eq-eqb a.base a.base refl) refl)
  by_hold false h rest =
      let there : with_base a.base areas ≡ Some a = rest h in
      elim (cases_eq x.base a.base) [
        | inl e ↦ absurd (let none : with_base a.base areas ≡ None = ap (λ n. with_base n areas) (sym e) ∙ u.0 in cc)
        | inr ne ↦ rw (ne_eqb x.base a.base ne) there
      ]

-- a task has other areas

row_of : (m : Memory) (t u : TaskNo) (row : List Area) → 1 ≤ t.0 → t.0 - 1 < length m.areas → 1 ≤ u.0 → areas_of (with_areas m t row) u ≡ (if t.0 == u.0 then row else areas_of m u)
row_of m t u row some added more = elim (cases_eq t.0 u.0) [
  | inl e ↦ rw (eq-eqb t.0 u.0 e) (ap (λ n. unwrap_or (slice_get (slice_set m.areas (t.0 - 1) row) (n - 1)) []) (sym e) ∙ own_row m.areas (t.0 - 1) row added)
  | inr ne ↦ rw (ne_eqb t.0 u.0 ne) (others_keep m t u row some more (λ e. ne (sym e)))
]

-- the area of each task at each base is as before, but for task t at this base
abbrev pub IsAtOnly : Memory → TaskNo → ℕ → Option Area → Memory → Type 0
IsAtOnly m t base now after = (u : TaskNo) (b : ℕ) → 1 ≤ u.0 → area_at after u b ≡ (if (t.0 == u.0) && (base == b) then now else area_at m u b)

changed_at : (m : Memory) (t : TaskNo) (row : List Area) (base : ℕ) (now : Option Area) → 1 ≤ t.0 → t.0 - 1 < length m.areas → ((b : ℕ) → with_base b row ≡ (if base == b then now else with_base b (areas_of m t))) → IsAtOnly m t base now (with_areas m t row)
changed_at m t row base now some added here u b more =
    area_in_is b (areas_of (with_areas m t row) u) ∙ ap (with_base b) (row_of m t u row some added more) ∙ by_task ∙ ap (λ (o : Option Area). if (t.0 == u.0) && (base == b) then now else o) (sym (area_in_is b (areas_of m u))) where
      by_task : with_base b (if t.0 == u.0 then row else areas_of m u) ≡ (if (t.0 == u.0) && (base == b) then now else with_base b (areas_of m u))
      by_task = elim (cases_eq t.0 u.0) [
        | inl e ↦ rw (eq-eqb t.0 u.0 e) (here b ∙ ap (λ n. if base == b then now else with_base b (unwrap_or (slice_get m.areas (n - 1)) [])) e)
        | inr ne ↦ rw (ne_eqb t.0 u.0 ne) refl
      ]

-- what was allowed

allowed : (x y z : Bool) → (if x then Some einval else (if y then Some eexist else (if z then Some elimit else None))) ≡ None → (x ≡ false) × (y ≡ false)
allowed true y z h = absurd (cc h)
allowed false true z h = absurd (cc h)
allowed false false z h = (refl, refl)

some_pages : (x y z : Bool) → (if x then (if y then true else z) else true) ≡ false → y ≡ false
some_pages true true z h = absurd (cc h)
some_pages true false z h = refl
some_pages false y z h = absurd (cc h)

has_pages : (base pages rights : ℕ) → is_malformed base pages rights ≡ false → 1 ≤ pages
has_pages base pages rights h = let e : nat_lt pages 1 ≡ false = some_pages _ (nat_lt pages 1) _ h in grind (arith, nat_tests, e)

-- no area stands where one is not refused
free_base : (m : Memory) (t : TaskNo) (base pages rights : ℕ) → IsSound m → refusal base pages rights (areas_of m t) ≡ None → with_base base (areas_of m t) ≡ None
free_base m t base pages rights s free =
    let f = allowed (is_malformed base pages rights) (is_taken base pages (areas_of m t)) (is_full (areas_of m t)) free in
    not_taken base pages (areas_of m t) (has_pages base pages rights f.0) (lawful_of m t s).in_range f.1

-- a task makes an area
pub record IsMadeArea (m : Memory) (t : TaskNo) (base pages rights : ℕ) (store : StoreNo) (after : Memory) : Type 0 where
  pub fresh : store.0 ≡ m.next_store
  pub got : IsAtOnly m t base (Some (record { base = base; pages = pages; rights = rights; store = m.next_store })) after
  pub next : after.next_store ≡ m.next_store + 1

pub area_made : (m : Memory) (t : TaskNo) (base pages rights : ℕ) (store : StoreNo) → IsSound m → 1 ≤ t.0 → t.0 - 1 < length m.areas → (make m t base pages rights).told ≡ Ok store → IsMadeArea m t base pages rights store (make m t base pages rights).memory
area_made m t base pages rights store s some added told = by_cause (refusal base pages rights (areas_of m t)) refl told where
  a : Area
  a = record { base = base; pages = pages; rights = rights; store = m.next_store }

  by_cause : (o : Option Code) → refusal base pages rights (areas_of m t) ≡ o → (make_unless m t (record { base = base; pages = pages; rights = rights; store = m.next_store }) o).told ≡ Ok store → IsMadeArea m t base pages rights store (make_unless m t (record { base = base; pages = pages; rights = rights; store = m.next_store }) o).memory
  by_cause (Some code) is h = absurd (cc h)
  by_cause None is h =
      let made : Area = record { base = base; pages = pages; rights = rights; store = m.next_store } in
      let same : ◌≡◌ {A = StoreNo} (record { 0 = m.next_store }) store = cc in
      record {
        fresh = ap (λ (n : StoreNo). n.0) (sym same);
        got = λ u b more. changed_at m t (areas_of m t ++ made ∷ []) base (Some made) some added (λ c. pushed c made (areas_of m t) (free_base m t base pages rights s is)) u b more;
        next = refl;
      }

-- a task gets an area over the store of an area of a task
pub record IsSharedArea (m : Memory) (from : TaskNo) (base : ℕ) (to : TaskNo) (target pages rights : ℕ) (store : StoreNo) (after : Memory) : Type 0 where
  pub source : Area
  pub there : area_at m from base ≡ Some source
  pub same : store.0 ≡ source.store
  pub part : bit_and rights source.rights ≡ rights
  pub old : source.store < m.next_store
  pub got : IsAtOnly m to target (Some (record { base = target; pages = pages; rights = rights; store = source.store })) after
  pub next : after.next_store ≡ m.next_store

pub area_shared : (m : Memory) (from : TaskNo) (base : ℕ) (to : TaskNo) (target pages rights : ℕ) (store : StoreNo) → IsSound m → 1 ≤ to.0 → to.0 - 1 < length m.areas → (share m from base to target pages rights).told ≡ Ok store → IsSharedArea m from base to target pages rights store (share m from base to target pages rights).memory
area_shared m from base to target pages rights store s some added told = by_source (area_at m from base) refl told where
  by_cause : (source : Area) → area_at m from base ≡ Some source → bit_and rights source.rights ≡ rights → (o : Option Code) → refusal target pages rights (areas_of m to) ≡ o → (share_unless m to (record { base = target; pages = pages; rights = rights; store = source.store }) o).told ≡ Ok store → IsSharedArea m from base to target pages rights store (share_unless m to (record { base = target; pages = pages; rights = rights; store = source.store }) o).memory
  by_cause source at part (Some code) is h = absurd (cc h)
  by_cause source at part None is h =
      let made : Area = record { base = target; pages = pages; rights = rights; store = source.store } in
      let same : ◌≡◌ {A = StoreNo} (record { 0 = source.store }) store = cc in
      let found = with_base_is (IsOver m.stores m.next_store) base (areas_of m from) source (over_of m from s) (sym (area_in_is base (areas_of m from)) ∙ at) in
      record {
        source = source;
        there = at;
        same = ap (λ (n : StoreNo). n.0) (sym same);
        part = part;
        old = found.0.old;
        got = λ u b more. changed_at m to (areas_of m to ++ made ∷ []) target (Some made) some added (λ c. pushed c made (areas_of m to) (free_base m to target pages rights s is)) u b more;
        next = refl;
      }

  both : (a b : Bool) → a && b ≡ true → b ≡ true
  both true b h = h
  both false b h = absurd (cc h)

  by_right : (source : Area) → area_at m from base ≡ Some source → (b : Bool) → ((source.pages == pages) && is_subset rights source.rights) ≡ b → (if b then share_unless m to (record { base = target; pages = pages; rights = rights; store = source.store }) (refusal target pages rights (areas_of m to)) else refused m eperm).told ≡ Ok store → IsSharedArea m from base to target pages rights store (if b then share_unless m to (record { base = target; pages = pages; rights = rights; store = source.store }) (refusal target pages rights (areas_of m to)) else refused m eperm).memory
  by_right source at true e h = by_cause source at (eqb-true (bit_and rights source.rights) rights (both (source.pages == pages) (is_subset rights source.rights) e)) (refusal target pages rights (areas_of m to)) refl h
  by_right source at false e h = absurd (cc h)

  by_source : (o : Option Area) → area_at m from base ≡ o → (share_area m to target pages rights o).told ≡ Ok store → IsSharedArea m from base to target pages rights store (share_area m to target pages rights o).memory
  by_source None at h = absurd (cc h)
  by_source (Some source) at h = by_right source at ((source.pages == pages) && is_subset rights source.rights) refl h

-- a task drops an area
pub area_dropped : (m : Memory) (t : TaskNo) (base : ℕ) → IsSound m → 1 ≤ t.0 → t.0 - 1 < length m.areas → (drop_area m t base).told ≡ Ok tt → IsAtOnly m t base None (drop_area m t base).memory
area_dropped m t base s some added told = by_place (place_of base (areas_of m t)) refl told where
  by_place : (o : Option ℕ) → place_of base (areas_of m t) ≡ o → (drop_at m t o).told ≡ Ok tt → IsAtOnly m t base None (drop_at m t o).memory
  by_place None is h = λ u b more. absurd (cc h)
  by_place (Some i) is h = λ u b more.
      let found = place_is base (areas_of m t) i is in
      rw found.1 (changed_at m t (remove (areas_of m t) i) base None some added
      (λ c. subst (λ n. with_base c (remove (areas_of m t) i) ≡ (if n == c then None else with_base c (areas_of m t))) found.2 (removed c found.0 (areas_of m t) i found.1 (unlike_of m t s))) u b more)

-- a task writes bytes
pub record IsWrittenArea (m : Memory) (t : TaskNo) (at count : ℕ) (store : StoreNo) : Type 0 where
  pub area : Area
  pub there : area_at m t area.base ≡ Some area
  pub same : area.store ≡ store.0
  pub writable : bit_and 2 area.rights ≡ 2
  pub begins : area.base ≤ at
  pub ends : at + count ≤ area.base + area.pages * 4096

writes : (rights : ℕ) → allows rights Write ≡ true → bit_and 2 rights ≡ 2
writes rights h = elim (cases_eq rights 2) [
  | inl e ↦ rw e refl
  | inr ne ↦ let f : (rights == 3) ≡ true = rw (ne_eqb rights 2 ne) at h in rw (eqb-true rights 3 f) refl
]

first_true : (a b : Bool) → a && b ≡ true → a ≡ true
first_true true b h = refl
first_true false b h = absurd (cc h)

pub area_written : (m : Memory) (t : TaskNo) (at : ℕ) (new : List ℕ) (store : StoreNo) → IsSound m → (write m t at new).told ≡ Ok (Some store) → IsWrittenArea m t at (length new) store
area_written m t at new store s told = by_length (length new == 0) told where
  by_holder : (o : Option Area) → holder at (length new) Write (areas_of m t) ≡ o → (write_spot m new (spot_in at o)).told ≡ Ok (Some store) → IsWrittenArea m t at (length new) store
  by_holder None is h = absurd (cc h)
  by_holder (Some a) is h =
      let same : ◌≡◌ {A = StoreNo} (record { 0 = a.store }) store = cc in
      let held = in_holder IsWell at (length new) Write (areas_of m t) a (lawful_of m t s).in_range is in
      let range = within at (length new) Write a held.1 in
      record {
        area = a;
        there = area_in_is a.base (areas_of m t) ∙ holder_at at (length new) (areas_of m t) a (unlike_of m t s) is;
        same = ap (λ (n : StoreNo). n.0) same;
        writable = writes a.rights (first_true (allows a.rights Write) _ held.1);
        begins = range.from;
        ends = range.to;
      }

  by_length : (b : Bool) → (if b then record { memory = m; told = Ok None } else write_spot m new (spot_of m t at (length new) Write)).told ≡ Ok (Some store) → IsWrittenArea m t at (length new) store
  by_length true h = absurd (cc h)
  by_length false h = by_holder (holder at (length new) Write (areas_of m t)) refl h

-- what is refused changes nothing

refused_unless : (m : Memory) (t : TaskNo) (a : Area) (o : Option Code) (code : Code) → (make_unless m t a o).told ≡ Err code → (make_unless m t a o).memory ≡ m
refused_unless m t a (Some x) code h = refl
refused_unless m t a None code h = absurd (cc h)

pub make_refused : (m : Memory) (t : TaskNo) (base pages rights : ℕ) (code : Code) → (make m t base pages rights).told ≡ Err code → (make m t base pages rights).memory ≡ m
make_refused m t base pages rights code h = refused_unless m t _ (refusal base pages rights (areas_of m t)) code h

refused_at : (m : Memory) (t : TaskNo) (o : Option ℕ) (code : Code) → (drop_at m t o).told ≡ Err code → (drop_at m t o).memory ≡ m
refused_at m t None code h = refl
refused_at m t (Some i) code h = absurd (cc h)

pub drop_refused : (m : Memory) (t : TaskNo) (base : ℕ) (code : Code) → (drop_area m t base).told ≡ Err code → (drop_area m t base).memory ≡ m
drop_refused m t base code h = refused_at m t (place_of base (areas_of m t)) code h

refused_again : (m : Memory) (to : TaskNo) (a : Area) (o : Option Code) (code : Code) → (share_unless m to a o).told ≡ Err code → (share_unless m to a o).memory ≡ m
refused_again m to a (Some x) code h = refl
refused_again m to a None code h = absurd (cc h)

refused_right : (m : Memory) (to : TaskNo) (a : Area) (o : Option Code) (b : Bool) (code : Code) → (if b then share_unless m to a o else refused m eperm).told ≡ Err code → (if b then share_unless m to a o else refused m eperm).memory ≡ m
refused_right m to a o true code h = refused_again m to a o code h
refused_right m to a o false code h = refl

refused_source : (m : Memory) (to : TaskNo) (target pages rights : ℕ) (o : Option Area) (code : Code) → (share_area m to target pages rights o).told ≡ Err code → (share_area m to target pages rights o).memory ≡ m
refused_source m to target pages rights None code h = refl
refused_source m to target pages rights (Some a) code h = refused_right m to _ (refusal target pages rights (areas_of m to)) ((a.pages == pages) && is_subset rights a.rights) code h

pub share_refused : (m : Memory) (from : TaskNo) (base : ℕ) (to : TaskNo) (target pages rights : ℕ) (code : Code) → (share m from base to target pages rights).told ≡ Err code → (share m from base to target pages rights).memory ≡ m
share_refused m from base to target pages rights code h = refused_source m to target pages rights (area_at m from base) code h
