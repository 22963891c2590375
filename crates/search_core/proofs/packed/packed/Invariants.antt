use Rattle.std.proofs.Common.{◌≤◌, take}
use Rattle.search_core.specs.Packed.{AreSpeltTo}
use Rattle.search_core.proofs.packed.packed.Given as goal

abbrev pub invariant-loop-word : goal.invariant-loop-word
invariant-loop-word l =
    record {
      few : l.zeros ≤ 32;
      spelt : AreSpeltTo l.bytes.items (take l.word-index l.words) l.zeros;
    }
