-- What a task asks of the memory keeps it sound.
use Rattle.std.proofs.Common.{◌≡◌, ℕ, zero, suc, ◌+◌, ◌-◌, ◌*◌, ◌<◌, ◌==◌, Bool, true, false, ◌&&◌, List, [], ◌∷◌, ◌++◌, length, Option, Some, None, refl, arith, All}
use Rattle.std.specs.Prelude.{if◌then◌else◌, remove, slice_get, replicate}
use Rattle.std.specs.Option.{unwrap_or}
use Rattle.std.specs.FinMap.{insert}
use Rattle.std.specs.FinMap as map
use Rattle.std.proofs.lemmas.List.Elements.{All-push, All-nil, All-head, All-tail}
use Rattle.std.proofs.lemmas.Bool.Decides.{nat_tests}
use Rattle.ipc_ids.specs.declared.numbers.Code.{Code}
use Rattle.ipc_ids.specs.declared.numbers.TaskNo.{TaskNo}
use Rattle.ipc_ids.specs.Codes.{eexist, einval, elimit, eperm}
use Rattle.address_space.specs.declared.area.Right.TheVariants.{Write}
use Rattle.address_space.specs.Areas.{Area, IsInRange, is_malformed, is_subset, is_taken, is_full, refusal, holder, place_of, area_in}
use Rattle.address_space.specs.Stores.{write_at}
use Rattle.address_space.specs.Memory.{Memory, areas_of, with_areas, with_task, with_store, make, make_unless, is_used, drop_place, drop_at, drop_area, spot_in, write_spot, write, refused, area_at, share_unless, share_area, share}
use Rattle.address_space.specs.Sound.{IsSound, AreLawful, IsOver}
use Rattle.address_space.proofs.Keeping.{both_true, all_got, all_at, lawful_at, lawful_pushed, lawful_removed, all_removed, all_weaker, all_taken, over_added, over_new, over_written, in_holder, within, room, length-replicate}

-- a task that was not added has no areas
each_has : (P : List Area → Type 0) (xs : List (List Area)) (i : ℕ) → P [] → All P xs → P (unwrap_or (slice_get xs i) [])
each_has P [] i none all = none
each_has P (x ∷ xs) zero none all = All-head P x xs all
each_has P (x ∷ xs) (suc i) none all = each_has P xs i none (All-tail P x xs all)

lawful_none : AreLawful []
lawful_none = record { few = omega arith; in_range = All-nil (λ a. IsInRange a.base a.pages a.rights); apart = λ i j d below within. absurd (omega arith) }

pub lawful_of : (m : Memory) (t : TaskNo) → IsSound m → AreLawful (areas_of m t)
lawful_of m t s = each_has AreLawful m.areas (t.0 - 1) lawful_none s.lawful

pub over_of : (m : Memory) (t : TaskNo) → IsSound m → All (IsOver m.stores m.next_store) (areas_of m t)
over_of m t s = each_has (All (IsOver m.stores m.next_store)) m.areas (t.0 - 1) (All-nil (IsOver m.stores m.next_store)) s.over

pub sound_task : (m : Memory) → IsSound m → IsSound (with_task m)
sound_task m s =
    record {
      lawful = All-push AreLawful m.areas [] s.lawful lawful_none;
      over = All-push (All (IsOver m.stores m.next_store)) m.areas [] s.over (All-nil (IsOver m.stores m.next_store));
    }

-- a cause that does not hold
not_refused : (b : Bool) (code : Code) (others : Option Code) → (if b then Some code else others) ≡ None → (b ≡ false) × (others ≡ None)
not_refused true code others h = absurd (cc h)
not_refused false code others h = (refl, h)

in_range_of : (base pages rights : ℕ) → is_malformed base pages rights ≡ false → IsInRange base pages rights
in_range_of base pages rights h =
    record {
      aligned = grind (arith, nat_tests);
      some = grind (arith, nat_tests);
      few = grind (arith, nat_tests);
      lawful = (grind (arith, nat_tests), grind (arith, nat_tests));
      fits = grind (arith, nat_tests);
    }

has_room : (areas : List Area) → is_full areas ≡ false → length areas < 16
has_room areas h = grind (arith, nat_tests)

sound_store : (m : Memory) (count : ℕ) → IsSound m → IsSound (with_store m count)
sound_store m count s =
    record {
      lawful = s.lawful;
      over = all_weaker (IsOver m.stores m.next_store) (IsOver (insert m.stores m.next_store (replicate count 0)) (m.next_store + 1)) m.areas (λ a o. over_added m.stores m.next_store (replicate count 0) a o) s.over;
    }

sound_area : (m : Memory) (t : TaskNo) (a : Area) → length (areas_of m t) < 16 → IsInRange a.base a.pages a.rights → is_taken a.base a.pages (areas_of m t) ≡ false → IsOver m.stores m.next_store a → IsSound m → IsSound (with_areas m t (areas_of m t ++ a ∷ []))
sound_area m t a few range free over s =
    record {
      lawful = lawful_at m.areas (t.0 - 1) (areas_of m t ++ a ∷ []) (lawful_pushed (areas_of m t) a few range free (lawful_of m t s)) s.lawful;
      over = all_at (IsOver m.stores m.next_store) m.areas (t.0 - 1) (areas_of m t ++ a ∷ []) (All-push (IsOver m.stores m.next_store) (areas_of m t) a (over_of m t s) over) s.over;
    }

sound_unless : (m : Memory) (t : TaskNo) (base pages rights : ℕ) (cause : Option Code) → refusal base pages rights (areas_of m t) ≡ cause → IsSound m → IsSound (make_unless m t (record { base = base; pages = pages; rights = rights; store = m.next_store }) cause).memory
sound_unless m t base pages rights (Some code) is s = s
sound_unless m t base pages rights None is s =
    let areas : List Area = areas_of m t in
    let a : Area = record { base = base; pages = pages; rights = rights; store = m.next_store } in
    let formed = not_refused (is_malformed base pages rights) einval (if is_taken base pages areas then Some eexist else (if is_full areas then Some elimit else None)) is in
    let free = not_refused (is_taken base pages areas) eexist (if is_full areas then Some elimit else None) formed.1 in
    let room = not_refused (is_full areas) elimit None free.1 in
    sound_area (with_store m (pages * 4096)) t a (has_room areas room.0) (in_range_of base pages rights formed.0) free.0 (over_new m.stores m.next_store (replicate (pages * 4096) 0) a refl (length-replicate (pages * 4096) 0)) (sound_store m (pages * 4096) s)

pub sound_make : (m : Memory) (t : TaskNo) (base pages rights : ℕ) → IsSound m → IsSound (make m t base pages rights).memory
sound_make m t base pages rights s = sound_unless m t base pages rights (refusal base pages rights (areas_of m t)) refl s

-- an area that is shared stands over its store
over_in : (P : Area → Type 0) (areas : List Area) (place : Option ℕ) (a : Area) → All P areas → area_in areas place ≡ Some a → P a
over_in P areas None a all e = absurd (cc e)
over_in P areas (Some i) a all e = all_got P areas i a e all

over_again : (m : Memory) (a : Area) (target pages rights : ℕ) → a.pages ≡ pages → IsOver m.stores m.next_store a → IsOver m.stores m.next_store (record { base = target; pages = pages; rights = rights; store = a.store })
over_again m a target pages rights same o = record { bytes = rw (← same) o.bytes; old = o.old }

sound_again : (m : Memory) (to : TaskNo) (target pages rights : ℕ) (a : Area) (cause : Option Code) → refusal target pages rights (areas_of m to) ≡ cause → a.pages ≡ pages → IsOver m.stores m.next_store a → IsSound m → IsSound (share_unless m to (record { base = target; pages = pages; rights = rights; store = a.store }) cause).memory
sound_again m to target pages rights a (Some code) is same o s = s
sound_again m to target pages rights a None is same o s =
    let areas : List Area = areas_of m to in
    let formed = not_refused (is_malformed target pages rights) einval (if is_taken target pages areas then Some eexist else (if is_full areas then Some elimit else None)) is in
    let free = not_refused (is_taken target pages areas) eexist (if is_full areas then Some elimit else None) formed.1 in
    let room = not_refused (is_full areas) elimit None free.1 in
    sound_area m to (record { base = target; pages = pages; rights = rights; store = a.store }) (has_room areas room.0) (in_range_of target pages rights formed.0) free.0 (over_again m a target pages rights same o) s

same_pages : (p q : ℕ) (few : Bool) → (p == q) && few ≡ true → p ≡ q
same_pages p q few h = let e = (both_true (p == q) few h).0 in grind (arith, nat_tests, e)

sound_allowed : (m : Memory) (to : TaskNo) (target pages rights : ℕ) (a : Area) (may : Bool) → (a.pages == pages) && is_subset rights a.rights ≡ may → IsOver m.stores m.next_store a → IsSound m → IsSound (if may then share_unless m to (record { base = target; pages = pages; rights = rights; store = a.store }) (refusal target pages rights (areas_of m to)) else refused m eperm).memory
sound_allowed m to target pages rights a true is o s =
    sound_again m to target pages rights a (refusal target pages rights (areas_of m to)) refl (same_pages a.pages pages (is_subset rights a.rights) is) o s
sound_allowed m to target pages rights a false is o s = s

sound_source : (m : Memory) (from : TaskNo) (base : ℕ) (to : TaskNo) (target pages rights : ℕ) (found : Option Area) → area_at m from base ≡ found → IsSound m → IsSound (share_area m to target pages rights found).memory
sound_source m from base to target pages rights None is s = s
sound_source m from base to target pages rights (Some a) is s =
    sound_allowed m to target pages rights a ((a.pages == pages) && is_subset rights a.rights) refl (over_in (IsOver m.stores m.next_store) (areas_of m from) (place_of base (areas_of m from)) a (over_of m from s) is) s

pub sound_share : (m : Memory) (from : TaskNo) (base : ℕ) (to : TaskNo) (target pages rights : ℕ) → IsSound m → IsSound (share m from base to target pages rights).memory
sound_share m from base to target pages rights s = sound_source m from base to target pages rights (area_at m from base) refl s

sound_removed : (m : Memory) (t : TaskNo) (i : ℕ) → i < length (areas_of m t) → IsSound m → IsSound (with_areas m t (remove (areas_of m t) i))
sound_removed m t i h s =
    record {
      lawful = lawful_at m.areas (t.0 - 1) (remove (areas_of m t) i) (lawful_removed (areas_of m t) i h (lawful_of m t s)) s.lawful;
      over = all_at (IsOver m.stores m.next_store) m.areas (t.0 - 1) (remove (areas_of m t) i) (all_removed (IsOver m.stores m.next_store) (areas_of m t) i h (over_of m t s)) s.over;
    }

sound_if : (m : Memory) (store : ℕ) (used : Bool) → is_used store m.areas ≡ used → IsSound m → IsSound (record { areas = m.areas; stores = if used then m.stores else map.remove m.stores store; next_store = m.next_store })
sound_if m store true is s = s
sound_if m store false is s = record { lawful = s.lawful; over = all_taken m.stores m.next_store store m.areas is s.over }

pub in_place : (areas : List Area) (i : ℕ) (a : Area) → slice_get areas i ≡ Some a → i < length areas
in_place [] i a e = absurd (cc e)
in_place (b ∷ areas) zero a e = omega arith
in_place (b ∷ areas) (suc i) a e = let h = in_place areas i a e in omega arith

sound_place : (m : Memory) (t : TaskNo) (i : ℕ) (found : Option Area) → slice_get (areas_of m t) i ≡ found → IsSound m → IsSound (drop_place m t i found)
sound_place m t i None is s = s
sound_place m t i (Some a) is s =
    let after : Memory = with_areas m t (remove (areas_of m t) i) in
    sound_if after a.store (is_used a.store after.areas) refl (sound_removed m t i (in_place (areas_of m t) i a is) s)

sound_at : (m : Memory) (t : TaskNo) (place : Option ℕ) → IsSound m → IsSound (drop_at m t place).memory
sound_at m t None s = s
sound_at m t (Some i) s = sound_place m t i (slice_get (areas_of m t) i) refl s

pub sound_drop : (m : Memory) (t : TaskNo) (base : ℕ) → IsSound m → IsSound (drop_area m t base).memory
sound_drop m t base s = sound_at m t (place_of base (areas_of m t)) s

sound_spot : (m : Memory) (t : TaskNo) (at : ℕ) (new : List ℕ) (found : Option Area) → holder at (length new) Write (areas_of m t) ≡ found → IsSound m → IsSound (write_spot m new (spot_in at found)).memory
sound_spot m t at new None is s = s
sound_spot m t at new (Some a) is s =
    let P : Area → Type 0 = IsOver m.stores m.next_store in
    let held = in_holder P at (length new) Write (areas_of m t) a (over_of m t s) is in
    let there = room m.stores m.next_store a at (length new) held.0 (within at (length new) Write a held.1) in
    record {
      lawful = s.lawful;
      over = all_weaker P (IsOver (write_at m.stores a.store (at - a.base) new) m.next_store) m.areas (λ b o. over_written m.stores m.next_store a.store (at - a.base) new b there o) s.over;
    }

sound_some : (m : Memory) (t : TaskNo) (at : ℕ) (new : List ℕ) (none : Bool) → (length new == 0) ≡ none → IsSound m → IsSound (write m t at new).memory
sound_some m t at new true is s = rw is s
sound_some m t at new false is s = rw is (sound_spot m t at new (holder at (length new) Write (areas_of m t)) refl s)

pub sound_write : (m : Memory) (t : TaskNo) (at : ℕ) (new : List ℕ) → IsSound m → IsSound (write m t at new).memory
sound_write m t at new s = sound_some m t at new (length new == 0) refl s
