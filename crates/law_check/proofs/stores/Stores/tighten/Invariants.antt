use Rattle.std.proofs.Common.{ℕ, ◌≡◌, Some, true, length}
use Rattle.std.specs.List.{list_any}
use Rattle.law_check.specs.declared.held.Area.{Area}
use Rattle.law_check.specs.Stores.{placed_in, holds}
use Rattle.law_check.proofs.stores.Stores.tighten.Given as goal

-- there are as many blocks as there were, and an area that was in one is in one
abbrev pub invariant-loop-i : goal.invariant-loop-i
invariant-loop-i l = record {
  as_many : length l.blocks.list.items ≡ length l.initial.blocks.list.items;
  kept : (b : ℕ) (a : Area) → placed_in l.self.areas l.task l.store b ≡ Some a →
      list_any (holds b a) l.initial.blocks.list.items ≡ true → list_any (holds b a) l.blocks.list.items ≡ true;
}
