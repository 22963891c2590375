-- The areas of all tasks after a request: there are as many tasks, and another task's areas stay.
use Rattle.std.proofs.Common.{◌≡◌, ℕ, zero, suc, ◌-◌, ◌≤◌, ◌==◌, ◌&&◌, Bool, true, false, List, [], ◌∷◌, ◌++◌, length, Option, Some, None, refl, ap, arith}
use Rattle.std.specs.Prelude.{if◌then◌else◌, slice_get, slice_set, remove}
use Rattle.std.specs.Option.{unwrap_or}
use Rattle.std.proofs.lemmas.List.{length-set}
use Rattle.ipc_ids.specs.declared.numbers.Code.{Code}
use Rattle.ipc_ids.specs.declared.numbers.TaskNo.{TaskNo}
use Rattle.ipc_ids.specs.Codes.{eperm}
use Rattle.address_space.specs.declared.area.Right.TheVariants.{Write}
use Rattle.address_space.specs.declared.spaces.Spot.{Spot}
use Rattle.address_space.specs.Areas.{Area, is_subset, refusal, place_of}
use Rattle.address_space.specs.Memory.{Memory, areas_of, with_areas, with_task, without_last, make, make_unless, drop_place, drop_at, drop_area, spot_of, write_spot, write, refused, area_at, share_unless, share_area, share}

length_unless : (m : Memory) (t : TaskNo) (a : Area) (cause : Option Code) → length (make_unless m t a cause).memory.areas ≡ length m.areas
length_unless m t a (Some code) = refl
length_unless m t a None = length-set m.areas (t.0 - 1) (areas_of m t ++ a ∷ [])

pub length_make : (m : Memory) (t : TaskNo) (base pages rights : ℕ) → length (make m t base pages rights).memory.areas ≡ length m.areas
length_make m t base pages rights = length_unless m t (record { base = base; pages = pages; rights = rights; store = m.next_store }) (refusal base pages rights (areas_of m t))

length_place : (m : Memory) (t : TaskNo) (i : ℕ) (found : Option Area) → length (drop_place m t i found).areas ≡ length m.areas
length_place m t i None = refl
length_place m t i (Some a) = length-set m.areas (t.0 - 1) (remove (areas_of m t) i)

length_at : (m : Memory) (t : TaskNo) (place : Option ℕ) → length (drop_at m t place).memory.areas ≡ length m.areas
length_at m t None = refl
length_at m t (Some i) = length_place m t i (slice_get (areas_of m t) i)

pub length_drop : (m : Memory) (t : TaskNo) (base : ℕ) → length (drop_area m t base).memory.areas ≡ length m.areas
length_drop m t base = length_at m t (place_of base (areas_of m t))

length_again : (m : Memory) (to : TaskNo) (a : Area) (cause : Option Code) → length (share_unless m to a cause).memory.areas ≡ length m.areas
length_again m to a (Some code) = refl
length_again m to a None = length-set m.areas (to.0 - 1) (areas_of m to ++ a ∷ [])

length_allowed : (m : Memory) (to : TaskNo) (a : Area) (cause : Option Code) (may : Bool) → length (if may then share_unless m to a cause else refused m eperm).memory.areas ≡ length m.areas
length_allowed m to a cause true = length_again m to a cause
length_allowed m to a cause false = refl

length_source : (m : Memory) (to : TaskNo) (target pages rights : ℕ) (found : Option Area) → length (share_area m to target pages rights found).memory.areas ≡ length m.areas
length_source m to target pages rights None = refl
length_source m to target pages rights (Some a) =
    length_allowed m to (record { base = target; pages = pages; rights = rights; store = a.store }) (refusal target pages rights (areas_of m to)) ((a.pages == pages) && is_subset rights a.rights)

pub length_share : (m : Memory) (from : TaskNo) (base : ℕ) (to : TaskNo) (target pages rights : ℕ) → length (share m from base to target pages rights).memory.areas ≡ length m.areas
length_share m from base to target pages rights = length_source m to target pages rights (area_at m from base)

-- the row of another task
other_row : (rows : List (List Area)) (i j : ℕ) (row : List Area) → (j ≡ i → ⊥) → slice_get (slice_set rows i row) j ≡ slice_get rows j
other_row [] i j row apart = refl
other_row (r ∷ rows) zero zero row apart = absurd (apart refl)
other_row (r ∷ rows) zero (suc j) row apart = refl
other_row (r ∷ rows) (suc i) zero row apart = refl
other_row (r ∷ rows) (suc i) (suc j) row apart = other_row rows i j row (λ e. apart (ap suc e))

apart_by_one : (t u : ℕ) → 1 ≤ t → 1 ≤ u → (u ≡ t → ⊥) → u - 1 ≡ t - 1 → ⊥
apart_by_one t u some more apart e = apart (omega arith)

pub others_keep : (m : Memory) (t u : TaskNo) (row : List Area) → 1 ≤ t.0 → 1 ≤ u.0 → (u.0 ≡ t.0 → ⊥) → areas_of (with_areas m t row) u ≡ areas_of m u
others_keep m t u row some more apart = ap (λ (o : Option (List Area)). unwrap_or o []) (other_row m.areas (t.0 - 1) (u.0 - 1) row (apart_by_one t.0 u.0 some more apart))

others_unless : (m : Memory) (t u : TaskNo) (a : Area) (cause : Option Code) → 1 ≤ t.0 → 1 ≤ u.0 → (u.0 ≡ t.0 → ⊥) → areas_of (make_unless m t a cause).memory u ≡ areas_of m u
others_unless m t u a (Some code) some more apart = refl
others_unless m t u a None some more apart = others_keep m t u (areas_of m t ++ a ∷ []) some more apart

pub others_at_make : (m : Memory) (t u : TaskNo) (base pages rights : ℕ) → 1 ≤ t.0 → 1 ≤ u.0 → (u.0 ≡ t.0 → ⊥) → areas_of (make m t base pages rights).memory u ≡ areas_of m u
others_at_make m t u base pages rights some more apart = others_unless m t u (record { base = base; pages = pages; rights = rights; store = m.next_store }) (refusal base pages rights (areas_of m t)) some more apart

others_again : (m : Memory) (to u : TaskNo) (a : Area) (cause : Option Code) → 1 ≤ to.0 → 1 ≤ u.0 → (u.0 ≡ to.0 → ⊥) → areas_of (share_unless m to a cause).memory u ≡ areas_of m u
others_again m to u a (Some code) some more apart = refl
others_again m to u a None some more apart = others_keep m to u (areas_of m to ++ a ∷ []) some more apart

others_allowed : (m : Memory) (to u : TaskNo) (a : Area) (cause : Option Code) (may : Bool) → 1 ≤ to.0 → 1 ≤ u.0 → (u.0 ≡ to.0 → ⊥) → areas_of (if may then share_unless m to a cause else refused m eperm).memory u ≡ areas_of m u
others_allowed m to u a cause true some more apart = others_again m to u a cause some more apart
others_allowed m to u a cause false some more apart = refl

others_source : (m : Memory) (to u : TaskNo) (target pages rights : ℕ) (found : Option Area) → 1 ≤ to.0 → 1 ≤ u.0 → (u.0 ≡ to.0 → ⊥) → areas_of (share_area m to target pages rights found).memory u ≡ areas_of m u
others_source m to u target pages rights None some more apart = refl
others_source m to u target pages rights (Some a) some more apart =
    others_allowed m to u (record { base = target; pages = pages; rights = rights; store = a.store }) (refusal target pages rights (areas_of m to)) ((a.pages == pages) && is_subset rights a.rights) some more apart

-- whoever shares, only the task that gets the area has other areas than before
pub others_at_share : (m : Memory) (from : TaskNo) (base : ℕ) (to : TaskNo) (target pages rights : ℕ) (u : TaskNo) → 1 ≤ to.0 → 1 ≤ u.0 → (u.0 ≡ to.0 → ⊥) → areas_of (share m from base to target pages rights).memory u ≡ areas_of m u
others_at_share m from base to target pages rights u some more apart = others_source m to u target pages rights (area_at m from base) some more apart

others_at_place : (m : Memory) (t u : TaskNo) (i : ℕ) (found : Option Area) → 1 ≤ t.0 → 1 ≤ u.0 → (u.0 ≡ t.0 → ⊥) → areas_of (drop_place m t i found) u ≡ areas_of m u
others_at_place m t u i None some more apart = refl
others_at_place m t u i (Some a) some more apart = others_keep m t u (remove (areas_of m t) i) some more apart

others_at : (m : Memory) (t u : TaskNo) (place : Option ℕ) → 1 ≤ t.0 → 1 ≤ u.0 → (u.0 ≡ t.0 → ⊥) → areas_of (drop_at m t place).memory u ≡ areas_of m u
others_at m t u None some more apart = refl
others_at m t u (Some i) some more apart = others_at_place m t u i (slice_get (areas_of m t) i) some more apart

pub others_at_drop : (m : Memory) (t u : TaskNo) (base : ℕ) → 1 ≤ t.0 → 1 ≤ u.0 → (u.0 ≡ t.0 → ⊥) → areas_of (drop_area m t base).memory u ≡ areas_of m u
others_at_drop m t u base some more apart = others_at m t u (place_of base (areas_of m t)) some more apart

areas_spot : (m : Memory) (new : List ℕ) (spot : Option Spot) → (write_spot m new spot).memory.areas ≡ m.areas
areas_spot m new None = refl
areas_spot m new (Some s) = refl

areas_some : (m : Memory) (t : TaskNo) (at : ℕ) (new : List ℕ) (none : Bool) → (length new == 0) ≡ none → (write m t at new).memory.areas ≡ m.areas
areas_some m t at new true is = rw is refl
areas_some m t at new false is = rw is (areas_spot m new (spot_of m t at (length new) Write))

-- a write leaves all areas
pub areas_at_write : (m : Memory) (t : TaskNo) (at : ℕ) (new : List ℕ) → (write m t at new).memory.areas ≡ m.areas
areas_at_write m t at new = areas_some m t at new (length new == 0) refl
