-- Numbers of stores: a new area takes the next one, and no request takes one back.
use Rattle.std.proofs.Common.{◌≡◌, ℕ, ◌+◌, ◌≤◌, ◌==◌, ◌&&◌, Bool, true, false, List, length, Option, Some, None, refl, arith}
use Rattle.std.specs.Prelude.{if◌then◌else◌, slice_get}
use Rattle.ipc_ids.specs.declared.numbers.Code.{Code}
use Rattle.ipc_ids.specs.declared.numbers.TaskNo.{TaskNo}
use Rattle.ipc_ids.specs.Codes.{eperm}
use Rattle.address_space.specs.declared.area.Right.TheVariants.{Write}
use Rattle.address_space.specs.declared.spaces.Spot.{Spot}
use Rattle.address_space.specs.Areas.{Area, is_subset, refusal, place_of}
use Rattle.address_space.specs.Memory.{Memory, areas_of, make, make_unless, drop_place, drop_at, drop_area, spot_of, write_spot, write, refused, area_at, share_unless, share_area, share}

-- the next number stays, or rises by one
pub record IsNextOrSame (old new : ℕ) : Type 0 where
  pub from : old ≤ new
  pub to : new ≤ old + 1

next_unless : (m : Memory) (t : TaskNo) (a : Area) (cause : Option Code) → IsNextOrSame m.next_store (make_unless m t a cause).memory.next_store
next_unless m t a (Some code) = record { from = omega arith; to = omega arith }
next_unless m t a None = record { from = omega arith; to = omega arith }

pub next_at_make : (m : Memory) (t : TaskNo) (base pages rights : ℕ) → IsNextOrSame m.next_store (make m t base pages rights).memory.next_store
next_at_make m t base pages rights = next_unless m t (record { base = base; pages = pages; rights = rights; store = m.next_store }) (refusal base pages rights (areas_of m t))

next_place : (m : Memory) (t : TaskNo) (i : ℕ) (found : Option Area) → (drop_place m t i found).next_store ≡ m.next_store
next_place m t i None = refl
next_place m t i (Some a) = refl

next_at : (m : Memory) (t : TaskNo) (place : Option ℕ) → (drop_at m t place).memory.next_store ≡ m.next_store
next_at m t None = refl
next_at m t (Some i) = next_place m t i (slice_get (areas_of m t) i)

pub next_at_drop : (m : Memory) (t : TaskNo) (base : ℕ) → (drop_area m t base).memory.next_store ≡ m.next_store
next_at_drop m t base = next_at m t (place_of base (areas_of m t))

next_spot : (m : Memory) (new : List ℕ) (spot : Option Spot) → (write_spot m new spot).memory.next_store ≡ m.next_store
next_spot m new None = refl
next_spot m new (Some s) = refl

next_some : (m : Memory) (t : TaskNo) (at : ℕ) (new : List ℕ) (none : Bool) → (length new == 0) ≡ none → (write m t at new).memory.next_store ≡ m.next_store
next_some m t at new true is = rw is refl
next_some m t at new false is = rw is (next_spot m new (spot_of m t at (length new) Write))

pub next_at_write : (m : Memory) (t : TaskNo) (at : ℕ) (new : List ℕ) → (write m t at new).memory.next_store ≡ m.next_store
next_at_write m t at new = next_some m t at new (length new == 0) refl

-- the memory has the same stores, with the same bytes, and the same next number
pub record HasSameStores (m after : Memory) : Type 0 where
  pub stores : after.stores ≡ m.stores
  pub next : after.next_store ≡ m.next_store

same_again : (m : Memory) (to : TaskNo) (a : Area) (cause : Option Code) → HasSameStores m (share_unless m to a cause).memory
same_again m to a (Some code) = record { stores = refl; next = refl }
same_again m to a None = record { stores = refl; next = refl }

same_allowed : (m : Memory) (to : TaskNo) (a : Area) (cause : Option Code) (may : Bool) → HasSameStores m (if may then share_unless m to a cause else refused m eperm).memory
same_allowed m to a cause true = same_again m to a cause
same_allowed m to a cause false = record { stores = refl; next = refl }

same_source : (m : Memory) (to : TaskNo) (target pages rights : ℕ) (found : Option Area) → HasSameStores m (share_area m to target pages rights found).memory
same_source m to target pages rights None = record { stores = refl; next = refl }
same_source m to target pages rights (Some a) =
    same_allowed m to (record { base = target; pages = pages; rights = rights; store = a.store }) (refusal target pages rights (areas_of m to)) ((a.pages == pages) && is_subset rights a.rights)

-- no byte is copied where an area is shared
pub stores_at_share : (m : Memory) (from : TaskNo) (base : ℕ) (to : TaskNo) (target pages rights : ℕ) → HasSameStores m (share m from base to target pages rights).memory
stores_at_share m from base to target pages rights = same_source m to target pages rights (area_at m from base)
