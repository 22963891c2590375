use Rattle.std.proofs.Common.{◌≡◌, ◌+◌, length, drop}
use Rattle.trace_reader.specs.Words.{before}
use Rattle.trace_reader.proofs.part.length_above_space.Given as goal

abbrev pub invariant-loop-rest : goal.invariant-loop-rest
invariant-loop-rest l = record {
  within : l.count + length l.rest ≡ length l.text;
  is : l.rest ≡ drop l.count l.text;
  skips : l.count + length (before 32 (before 10 l.rest)) ≡ length (before 32 (before 10 l.text));
}

abbrev pub decreases-loop-rest : goal.decreases-loop-rest
decreases-loop-rest l = length l.rest
