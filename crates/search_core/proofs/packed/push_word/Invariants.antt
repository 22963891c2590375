use Rattle.search_core.proofs.Packing.{IsLeft}
use Rattle.search_core.proofs.packed.push_word.Given as goal

abbrev pub invariant-loop-left : goal.invariant-loop-left
invariant-loop-left l = IsLeft l.fn.bytes.items l.bytes.items l.word l.left

abbrev pub decreases-loop-left : goal.decreases-loop-left
decreases-loop-left l = l.left
