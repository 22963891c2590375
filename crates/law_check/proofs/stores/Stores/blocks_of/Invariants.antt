use Rattle.law_check.proofs.Blocks.{AreBelow}
use Rattle.law_check.proofs.stores.Stores.blocks_of.Given as goal

-- the areas with a base below the first one that is left are in a block
abbrev pub invariant-loop-key : goal.invariant-loop-key
invariant-loop-key l = AreBelow l.self.areas l.task l.store l.first l.list.items
