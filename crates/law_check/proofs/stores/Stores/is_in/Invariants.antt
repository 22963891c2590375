use Rattle.std.proofs.Common.{ℕ, ◌≡◌, Some, true, false, take}
use Rattle.std.specs.List.{list_any}
use Rattle.law_check.specs.declared.held.Area.{Area}
use Rattle.law_check.specs.Stores.{placed_in, reaches, holds}
use Rattle.law_check.proofs.stores.Stores.is_in.Given as goal

-- no area that may be written is in a block so far
abbrev pub invariant-loop-block : goal.invariant-loop-block
invariant-loop-block l =
    (base : ℕ) (a : Area) → placed_in l.self.areas l.task l.store base ≡ Some a → reaches base a l.at l.count ≡ true →
    list_any (holds base a) (take l.block-index l.list) ≡ false
