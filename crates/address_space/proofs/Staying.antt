-- A store stays as long as an area stands over it.
use Rattle.std.proofs.Common.{◌≡◌, ℕ, ◌==◌, Bool, true, false, Option, Some, None, refl, sym, ◌∙◌, arith}
use Rattle.std.specs.Prelude.{if◌then◌else◌, List, slice_get, remove}
use Rattle.std.specs.Cmp.{nat_cmp_total}
use Rattle.std.specs.FinMap.{get, get-remove}
use Rattle.std.specs.FinMap as map
use Rattle.std.proofs.lemmas.Bool.Decides.{nat_tests}
use Rattle.ipc_ids.specs.declared.numbers.TaskNo.{TaskNo}
use Rattle.address_space.specs.Areas.{Area, place_of}
use Rattle.address_space.specs.Memory.{Memory, areas_of, with_areas, is_used, drop_place, drop_at, drop_area}
use Rattle.address_space.proofs.Keeping.{ne_tests}

another : (areas : List (List Area)) (store gone : ℕ) (same : Bool) → (store == gone) ≡ same → is_used gone areas ≡ false → is_used store areas ≡ true → same ≡ false
another areas store gone true is none some =
    let e : store ≡ gone = grind (arith, nat_tests) in
    let used : is_used gone areas ≡ true = rw (← e) some in
    let clash : true ≡ false = sym used ∙ none in
    absurd (cc clash)
another areas store gone false is none some = refl

stays_if : (m : Memory) (store gone : ℕ) (used : Bool) → is_used gone m.areas ≡ used → is_used store m.areas ≡ true → get (if used then m.stores else map.remove m.stores gone) store ≡ get m.stores store
stays_if m store gone true is some = refl
stays_if m store gone false is some =
    rw (get-remove nat_cmp_total m.stores gone store, ne_tests store gone (another m.areas store gone (store == gone) refl is some)) refl

stays_at_place : (m : Memory) (t : TaskNo) (i store : ℕ) (found : Option Area) → is_used store (drop_place m t i found).areas ≡ true → get (drop_place m t i found).stores store ≡ get m.stores store
stays_at_place m t i store None some = refl
stays_at_place m t i store (Some a) some =
    let after : Memory = with_areas m t (remove (areas_of m t) i) in
    stays_if after store a.store (is_used a.store after.areas) refl some

stays_at : (m : Memory) (t : TaskNo) (store : ℕ) (place : Option ℕ) → is_used store (drop_at m t place).memory.areas ≡ true → get (drop_at m t place).memory.stores store ≡ get m.stores store
stays_at m t store None some = refl
stays_at m t store (Some i) some = stays_at_place m t i store (slice_get (areas_of m t) i) some

pub stays : (m : Memory) (t : TaskNo) (base store : ℕ) → is_used store (drop_area m t base).memory.areas ≡ true → get (drop_area m t base).memory.stores store ≡ get m.stores store
stays m t base store some = stays_at m t store (place_of base (areas_of m t)) some
