use Rattle.std.proofs.Common.{length}
use Rattle.law_check.specs.Reading.{ReadsTo}
use Rattle.law_check.proofs.finding.check_trace.Given as goal

abbrev pub invariant-loop-reader : goal.invariant-loop-reader
invariant-loop-reader l = ReadsTo l.bytes l.rest l.reading

abbrev pub decreases-loop-reader : goal.decreases-loop-reader
decreases-loop-reader l = length l.rest
