-- What the memory keeps at all times.
use Rattle.std.specs.Prelude.{◌≡◌, ℕ, ◌≤◌, ◌<◌, ◌*◌, true, false, List, length, Some, IsSome, All, option_map}
use Rattle.std.specs.List.{AllPairs}
use Rattle.std.specs.Ordering.{nat_cmp}
use Rattle.std.specs.FinMap.{FinMap, get}
use Rattle.address_space.specs.Areas.{Area, IsInRange, end_of, overlaps}
use Rattle.address_space.specs.Memory.{Memory, is_used}

-- no byte of a task lies in both areas
abbrev pub AreApart : Area → Area → Type 0
AreApart a b = overlaps b.base (end_of b) a ≡ false

-- a task has at most 16 areas, each within its bounds, and no two with a byte in common
pub record AreLawful (areas : List Area) : Type 0 where
  pub few : length areas ≤ 16
  pub in_range : All (λ a. IsInRange a.base a.pages a.rights) areas
  pub apart : AllPairs AreApart areas

-- the store of an area is there, with 4,096 bytes for each page, and is no new one
pub record IsOver (stores : FinMap nat_cmp (List ℕ)) (next : ℕ) (a : Area) : Type 0 where
  pub bytes : option_map length (get stores a.store) ≡ Some (a.pages * 4096)
  pub old : a.store < next

-- each store is no new one, and an area stands over it; this holds between two requests
pub record AreHeld (m : Memory) : Type 0 where
  pub old : (n : ℕ) → IsSome (get m.stores n) → n < m.next_store
  pub used : (n : ℕ) → IsSome (get m.stores n) → is_used n m.areas ≡ true

-- the areas of each task are lawful, and each stands over its store
pub record IsSound (m : Memory) : Type 0 where
  pub lawful : All AreLawful m.areas
  pub over : All (All (IsOver m.stores m.next_store)) m.areas
