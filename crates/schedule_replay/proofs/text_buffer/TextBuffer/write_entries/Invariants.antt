use Rattle.std.proofs.Common.{◌≡◌, ◌++◌, take}
use Rattle.trace_print.specs.Text.{text_of}
use Rattle.schedule_replay.specs.Streaming.{Sent}
use Rattle.schedule_replay.proofs.text_buffer.TextBuffer.write_entries.Given as goal

-- the lines of the entries so far are with the sink or in the buffer
abbrev pub invariant-loop-entry : goal.invariant-loop-entry
invariant-loop-entry g l = record {
  sent : Sent (g.K.Sink.written l.fn.sink) (g.K.Sink.written l.sink) l.self (l.fn.self ++ text_of (take l.entry-index l.entries));
  none : g.K.Sink.faults l.sink ≡ g.K.Sink.faults l.fn.sink;
}
