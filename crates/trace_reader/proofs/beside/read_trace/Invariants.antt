use Rattle.std.proofs.Common.{◌≡◌, ◌++◌, length}
use Rattle.trace_print.specs.Text.{text_of}
use Rattle.trace_reader.specs.Trace.{AreBuilt}
use Rattle.trace_reader.proofs.beside.read_trace.Given as goal

abbrev pub invariant-loop-reader : goal.invariant-loop-reader
invariant-loop-reader l = record {
  text : text_of l.trace.entries ++ l.rest ≡ l.bytes;
  built : AreBuilt l.trace.entries;
}

abbrev pub decreases-loop-reader : goal.decreases-loop-reader
decreases-loop-reader l = length l.rest
