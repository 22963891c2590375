use Rattle.std.proofs.Common.{rules}
use Rattle.schedule_replay.proofs.Sending.{starts_all}
use Rattle.schedule_replay.proofs.text_buffer.TextBuffer.flush.Goals as goal

pub returns-in-Ok-clause-part : goal.returns-in-Ok-clause-part
returns-in-Ok-clause-part g c = starts_all (g.K.Sink.written c.args.sink.now) (g.K.Sink.written c.put.new.self) c.as_slice.result.now c.args.self.now (search rules) c.in-Ok.ensures.ok
