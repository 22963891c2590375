use Rattle.std.proofs.Common.{◌≡◌, ◌≤◌, ◌+◌, ◌-◌, ◌++◌, length}
use Rattle.trace_reader.specs.Words.{before}
use Rattle.trace_reader.specs.Read.{parts, texts}
use Rattle.trace_reader.proofs.part.first_line.Given as goal

abbrev pub invariant-loop-count : goal.invariant-loop-count
invariant-loop-count l = record {
  within : length l.rest ≤ length l.bytes;
  count : length l.bytes + length (before 10 l.rest) ≡ length (before 10 l.bytes) + length l.rest;
  whole : texts l.words ++ parts (13 - length l.words) 0 (before 10 l.rest) ≡ parts 13 0 (before 10 l.bytes);
}

abbrev pub decreases-loop-count : goal.decreases-loop-count
decreases-loop-count l = 13 - length l.words
