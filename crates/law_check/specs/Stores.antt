-- The areas of each task over each store, found by their bases, and the blocks that they lie in.
use Rattle.std.specs.Prelude.{ℕ, ◌≡◌, ◌+◌, ◌*◌, ◌<◌, ◌≤◌, ◌^◌, ◌⊎◌, ◌==◌, ◌&&◌, Bool, true, Option, Some, nat_lt, not, bit_and, if◌then◌else◌, List}
use Rattle.std.specs.List.{list_any}
use Rattle.std.specs.declared.cmp.Ordering.{Ordering}
use Rattle.std.specs.Ordering.{nat_cmp, ordering_then}
use Rattle.std.specs.BTreeMap.{BTreeMap, get}
use Rattle.law_check.specs.declared.held.Area.{Area}
use Rattle.law_check.specs.declared.stores.Block.{Block}
use Rattle.law_check.specs.declared.stores.Blocks.{Blocks}

-- first by the first number
abbrev pub pair_cmp : ℕ × ℕ → ℕ × ℕ → Ordering
pair_cmp x y = ordering_then (nat_cmp x.0 y.0) (nat_cmp x.1 y.1)

-- first by the first number, then by the second
abbrev pub triple_cmp : ℕ × ℕ × ℕ → ℕ × ℕ × ℕ → Ordering
triple_cmp x y = ordering_then (ordering_then (nat_cmp x.0 y.0) (nat_cmp x.1 y.1)) (nat_cmp x.2 y.2)

-- areas by task, store and base
abbrev pub ByStore : Type 0
ByStore = BTreeMap (ℕ × ℕ × ℕ) Area

-- the area of task t that is found over this store, with this base
abbrev pub placed_in : ByStore → ℕ → ℕ → ℕ → Option Area
placed_in areas t store base = get triple_cmp areas (t, store, base)

-- one more than the end of the area with this base; 0 where it may not be written
abbrev pub reach : ℕ → Area → ℕ
reach base a = if bit_and 2 a.rights == 2 then base + a.pages * 4096 + 1 else 0

-- the area with this base may be written around so many bytes
abbrev pub reaches : ℕ → Area → ℕ → ℕ → Bool
reaches base a at count = not (nat_lt at base) && nat_lt (at + count) (reach base a)

-- task t has an area over this store that may be written around so many bytes
abbrev pub IsAround : ByStore → ℕ → ℕ → ℕ → ℕ → Type 0
IsAround areas t at count store =
    (base : ℕ) × (a : Area) × (placed_in areas t store base ≡ Some a) × (reaches base a at count ≡ true)

-- the areas of task t over this store with a base from first to last reach no further than this
abbrev pub Bounds : ByStore → ℕ → ℕ → ℕ → ℕ → ℕ → Type 0
Bounds areas t store first last end =
    (base : ℕ) (a : Area) → placed_in areas t store base ≡ Some a → first ≤ base → base ≤ last → reach base a ≤ end

-- it is 0, or an area of task t over this store with a base up to last reaches as far
abbrev pub IsTight : ByStore → ℕ → ℕ → ℕ → ℕ → Type 0
IsTight areas t store last end =
    (end ≡ 0) ⊎ ((base : ℕ) × (a : Area) × (placed_in areas t store base ≡ Some a) × (base ≤ last) × (reach base a ≡ end))

-- the block holds the area with this base
abbrev pub holds : ℕ → Area → Block → Bool
holds base a block = not (nat_lt base block.first) && not (nat_lt block.last base) && not (nat_lt block.end (reach base a))

-- each area of task t over this store is in one of these blocks
abbrev pub IsBounded : ByStore → ℕ → ℕ → List Block → Type 0
IsBounded areas t store blocks =
    (base : ℕ) (a : Area) → base < 2 ^ 64 → placed_in areas t store base ≡ Some a → list_any (holds base a) blocks ≡ true

-- where task t has blocks over a store, each of its areas over it is in one of them
abbrev pub AreBounded : ByStore → BTreeMap (ℕ × ℕ) Blocks → Type 0
AreBounded areas blocks =
    (t store : ℕ) (b : Blocks) → get pair_cmp blocks (t, store) ≡ Some b → IsBounded areas t store b.list.items

-- the area of one task over one store with one base is now this, and no other has changed
abbrev pub Changes : ByStore → ByStore → ℕ → ℕ → ℕ → Option Area → Type 0
Changes old new t store base w =
    (u r c : ℕ) → placed_in new u r c ≡ (if ((t == u) && (store == r)) && (base == c) then w else placed_in old u r c)
