-- The areas that tasks hold, found by their bases and by their stores.
use Rattle.std.specs.Prelude.{ℕ, ◌≡◌, ◌==◌, Option, Some, None, if◌then◌else◌}
use Rattle.std.specs.BTreeMap.{get}
use Rattle.law_check.specs.declared.held.Area.{Area}
use Rattle.law_check.specs.declared.held.Held.{Held}
use Rattle.law_check.specs.Stores.{pair_cmp, placed_in, AreBounded}

-- the area with this base that task t holds
abbrev pub area_at : Held → ℕ → ℕ → Option Area
area_at held t base = get pair_cmp held.areas (t, base)

-- the area, if it stands over this store
abbrev pub over_store : ℕ → Option Area → Option Area
over_store store None = None
over_store store (Some a) = if a.store == store then Some a else None

-- each area that is held is found over its store, and no other; and the blocks hold those over their stores
pub record AreByStore (held : Held) : Type 0 where
  pub found : (t store base : ℕ) → placed_in held.stores.areas t store base ≡ over_store store (area_at held t base)
  pub bounded : AreBounded held.stores.areas held.stores.blocks
