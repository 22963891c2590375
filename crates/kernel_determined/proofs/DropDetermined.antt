-- An area that is dropped: what is done is what is said of it, and is determined by it.
use Rattle.std.proofs.Common.{◌≡◌, ℕ, suc, ◌-◌, ◌<◌, ◌≤◌, Bool, true, false, ◌⊎◌, inl, inr, [], length, Option, None, Some, refl, sym, ap, subst, ◌∙◌, arith}
use Rattle.std.specs.Prelude.{slice_get, unwrap_or, Result, Ok, Err}
use Rattle.std.specs.List.{list_any}
use Rattle.std.specs.Cmp.{nat_cmp_total}
use Rattle.std.specs.FinMap.{get, same_map, nat_cmp-IsAntisymmetric}
use Rattle.std.proofs.lemmas.Bool.{cases_eq, cases_lt, false≢true, eq-eqb, eqb-true}
use Rattle.ipc_ids.specs.declared.numbers.Code.{Code}
use Rattle.ipc_ids.specs.declared.numbers.TaskNo.{TaskNo}
use Rattle.ipc_ids.specs.declared.message.Request.TheVariants as request
use Rattle.ipc_ids.specs.Codes.{enoent}
use Rattle.address_space.specs.Areas.{Area, stands_over, place_of}
use Rattle.address_space.specs.Memory.{Memory, Step, areas_of, is_used, drop_at, drop_area}
use Rattle.address_space.specs.Sound as spaces
use Rattle.address_space.proofs.Rows.{length_drop}
use Rattle.address_space.proofs.Soundness.{lawful_of}
use Rattle.switchboard.specs.State.{KernelState}
use Rattle.switchboard.specs.Serving.{Served}
use Rattle.kernel_core.specs.Kernel.{serve}
use Rattle.kernel_laws.specs.MemoryLaws.{Has, Drops}
use Rattle.kernel_laws.specs.MemoryRequests.{Tells, gone}
use Rattle.kernel_laws.proofs.DroppedAreas.{any_of, any_at}
use Rattle.kernel_laws.proofs.KilledAreas.{in_row, row_of}
use Rattle.kernel_laws.proofs.LawfulAreas.{drop_is_lawful, one_base, range_of}
use Rattle.kernel_laws.proofs.MemoryRequests.{tells, gone_is}
use Rattle.kernel_laws.proofs.OneArea.{order, apart_at, no_common}
use Rattle.kernel_determined.specs.MemoryLaw.{IsWholeDrop, IsAreaDrop}
use Rattle.kernel_determined.proofs.Same.{list_same, each_task, areas_same, memory_same, done_same, leaves_same}
use Rattle.kernel_determined.proofs.MemoryDetermined.{outcome_same}

-- ---- what is told

-- what a drop can come to
drop_comes : (m : Memory) (t : TaskNo) (o : Option ℕ) → ((drop_at m t o).told ≡ Ok tt)
    ⊎ ((drop_at m t o).told ≡ Err enoent)
drop_comes m t None = inr refl
drop_comes m t (Some i) = inl refl

module _ (m : Memory) (t : TaskNo) (base : ℕ) (x : Step Unit) (f : IsWholeDrop m t base x) where
  drop_told : x.told ≡ (drop_area m t base).told
  drop_told = let law = drop_is_lawful m t base in elim (drop_comes m t (place_of base (areas_of m t))) [
    | inl e ↦ f.lawful.dropped.1 (law.dropped.0 e) ∙ sym e
    | inr e ↦ f.lawful.gone.1 (law.gone.0 e) ∙ sym e
  ]

-- ---- what goes

-- an area stands over the store, or none does
record IsUsed (m : Memory) (store : ℕ) : Type 0 where
  who : TaskNo
  area : Area
  some : 1 ≤ who.0
  has : Has m who area
  over : area.store ≡ store

used_or_none : (m : Memory) (store : ℕ)
    → IsUsed m store ⊎ ((u : TaskNo) (b : Area) → 1 ≤ u.0 → Has m u b → b.store ≡ store → ⊥)
used_or_none m store = by (is_used store m.areas) refl where
  by : (b : Bool) → is_used store m.areas ≡ b
      → IsUsed m store ⊎ ((u : TaskNo) (b : Area) → 1 ≤ u.0 → Has m u b → b.store ≡ store → ⊥)
  by true h =
      let row = row_of (stands_over store) m.areas h in
      let back : suc row.0 - 1 ≡ row.0 = omega arith in
      let u : TaskNo = record { 0 = suc row.0 } in
      let here : list_any (stands_over store) (areas_of m u) ≡ true =
      ap (λ (j : ℕ). list_any (stands_over store) (unwrap_or (slice_get m.areas j) [])) back ∙ row.1 in
      let one = any_of (stands_over store) (areas_of m u) here in
      inl (record { who = u; area = one.0; some = omega arith; has = one.1; over = eqb-true one.0.store store one.2 })
  by false h = inr (λ u b some has e. false≢true (sym h
      ∙ in_row (stands_over store) m.areas (u.0 - 1)
      (any_at (stands_over store) (areas_of m u) has.0 b has.1 (eq-eqb b.store store e))))

module _ (m : Memory) (t : TaskNo) (sound : spaces.IsSound m) (a : Area) where
  -- an area stands at one place of the list
  not_twice : (i j : ℕ) → i < j → slice_get (areas_of m t) i ≡ Some a → slice_get (areas_of m t) j ≡ Some a → ⊥
  not_twice i j less p q =
      let some = (range_of m t a sound (i, p)).some in
      no_common a.base a a (apart_at (areas_of m t) i j a a (lawful_of m t sound).apart less p q)
      (record { from = omega arith; to = omega (arith, some) })
      (record { from = omega arith; to = omega (arith, some) })

  pub one_place : (i j : ℕ) → slice_get (areas_of m t) i ≡ Some a → slice_get (areas_of m t) j ≡ Some a → i ≡ j
  one_place i j p q = elim (order i j) [
    | inl e ↦ e
    | inr o ↦ elim o [ inl less ↦ absurd (not_twice i j less p q) | inr more ↦ absurd (not_twice j i more q p) ]
  ]

  module _ (x y : Memory) (f : Drops m t a x) (g : Drops m t a y) (many : length x.areas ≡ length y.areas) where
    place : f.place ≡ g.place
    place = one_place f.place g.place f.there g.there

    own : areas_of x t ≡ areas_of y t
    own = list_same (areas_of x t) (areas_of y t) (λ i. elim (cases_lt i f.place) [
      | inl less ↦ f.before i less ∙ sym (g.before i (subst (λ p. i < p) place less))
      | inr from ↦ f.behind i from ∙ sym (g.behind i (subst (λ p. p ≤ i) place from))
    ])

    all_tasks : (u : TaskNo) → 1 ≤ u.0 → areas_of x u ≡ areas_of y u
    all_tasks u some = each_task (areas_of x) (areas_of y) t own u (λ ne. f.others u some ne ∙ sym (g.others u some ne))

    there : (u : TaskNo) (b : Area) → 1 ≤ u.0 → Has x u b → Has y u b
    there u b some has = (has.0, ap (λ areas. slice_get areas has.0) (sym (all_tasks u some)) ∙ has.1)

    back : (u : TaskNo) (b : Area) → 1 ≤ u.0 → Has y u b → Has x u b
    back u b some has = (has.0, ap (λ areas. slice_get areas has.0) (all_tasks u some) ∙ has.1)

    its_store : get x.stores a.store ≡ get y.stores a.store
    its_store = elim (used_or_none x a.store) [
      | inl u ↦ f.used u.who u.area u.some u.has u.over
          ∙ sym (g.used u.who u.area u.some (there u.who u.area u.some u.has) u.over)
      | inr none ↦ f.unused none ∙ sym (g.unused (λ u b some has. none u b some (back u b some has)))
    ]

    pub drops_same : x ≡ y
    drops_same = memory_same x y (areas_same x y many all_tasks)
        (same_map nat_cmp_total nat_cmp-IsAntisymmetric x.stores y.stores (λ n. elim (cases_eq n a.store) [
          | inl e ↦ ap (get x.stores) e ∙ its_store ∙ ap (get y.stores) (sym e)
          | inr ne ↦ f.stores n ne ∙ sym (g.stores n ne)
        ]))
        (f.next ∙ sym g.next)

module _ (m : Memory) (t : TaskNo) (base : ℕ) (some : 1 ≤ t.0) (sound : spaces.IsSound m) (x y : Step Unit)
    (f : IsWholeDrop m t base x) (g : IsWholeDrop m t base y) where
  by_told : (r : Result Unit Code) → x.told ≡ r → y.told ≡ r → x.memory ≡ y.memory
  by_told (Err code) e h = f.lawful.refused code e ∙ sym (g.lawful.refused code h)
  by_told (Ok done) e h =
      let u = f.lawful.goes some e in
      let v = g.lawful.goes some h in
      let same : u.0 ≡ v.0 = one_base m t base u.0 v.0 sound u.1 v.1 in
      drops_same m t sound v.0 x.memory y.memory (subst (λ (a : Area). Drops m t a x.memory) same u.2) v.2
      (f.spaces ∙ sym g.spaces)

  pub drop_is_determined : x ≡ y
  drop_is_determined =
      let told = drop_told m t base x f ∙ sym (drop_told m t base y g) in
      done_same x y (by_told y.told told refl) told

-- ---- the definition

pub drop_is_whole : (m : Memory) (t : TaskNo) (base : ℕ) → IsWholeDrop m t base (drop_area m t base)
drop_is_whole m t base = record { lawful = drop_is_lawful m t base; spaces = length_drop m t base }

pub area_drop_is_so : (k : KernelState) (t : TaskNo) (base : ℕ)
    → IsAreaDrop t base k (serve k t (request.AreaDrop base))
area_drop_is_so k t base =
    let step : Step Unit = drop_area k.memory t base in
    record {
      step = step;
      drop = drop_is_whole k.memory t base;
      told = tells step.told;
      leaves = record { memory_after = refl; entries = gone_is t base step.told; tasks = refl; calls = refl };
      events = refl;
    }

pub area_drop_is_determined : (k : KernelState) (t : TaskNo) (base : ℕ) (a b : Served) → spaces.IsSound k.memory
    → 1 ≤ t.0
    → IsAreaDrop t base k a → IsAreaDrop t base k b → a ≡ b
area_drop_is_determined k t base a b sound some x y =
    let same : x.step ≡ y.step = drop_is_determined k.memory t base some sound x.step y.step x.drop y.drop in
    let told = subst (λ (s : Step Unit). Tells s.told a.outcome) same x.told in
    leaves_same k a b _ _ _ _ x.leaves y.leaves (ap (λ (s : Step Unit). s.memory) same)
    (ap (λ (s : Step Unit). gone t base s.told) same) (x.events ∙ sym y.events)
    (outcome_same t k a b y.step.told told y.told)
