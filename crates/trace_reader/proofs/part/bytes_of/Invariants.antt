use Rattle.std.proofs.Common.{◌≡◌, ◌≤◌, ◌+◌, ◌++◌, length}
use Rattle.trace_reader.specs.Words.{bytes_from}
use Rattle.trace_reader.proofs.part.bytes_of.Given as goal

abbrev pub invariant-loop-left : goal.invariant-loop-left
invariant-loop-left l = record {
  room : length l.bytes.items + l.left ≤ 64;
  whole : l.bytes.items ++ bytes_from l.left l.rest ≡ bytes_from 64 l.word;
}

abbrev pub decreases-loop-left : goal.decreases-loop-left
decreases-loop-left l = l.left
