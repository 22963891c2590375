use Rattle.std.proofs.Common.{◌≡◌, ◌+◌, length, drop}
use Rattle.trace_reader.specs.Words.{before}
use Rattle.trace_reader.proofs.part.length_of_word.Given as goal

abbrev pub invariant-loop-byte : goal.invariant-loop-byte
invariant-loop-byte l =
    (l.count ≡ l.byte-index) × (l.count + length (before 32 (before 10 (drop l.byte-index l.text))) ≡ length (before 32 (before 10 l.text)))
