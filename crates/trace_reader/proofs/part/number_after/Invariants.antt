use Rattle.std.proofs.Common.{◌≡◌, length}
use Rattle.trace_reader.specs.Words.{number_after}
use Rattle.trace_reader.proofs.part.number_after.Given as goal

abbrev pub invariant-loop-rest : goal.invariant-loop-rest
invariant-loop-rest l = number_after l.number l.rest ≡ number_after l.start l.digits

abbrev pub decreases-loop-rest : goal.decreases-loop-rest
decreases-loop-rest l = length l.rest
