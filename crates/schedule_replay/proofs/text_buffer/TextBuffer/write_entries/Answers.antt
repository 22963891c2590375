use Rattle.std.proofs.Common.{◌∙◌}
use Rattle.schedule_replay.proofs.Sending.{one_more, one_failed}
use Rattle.schedule_replay.proofs.text_buffer.TextBuffer.write_entries.Goals as goal

pub loop-entry-preserved : goal.loop-entry-preserved
loop-entry-preserved g c = record {
  sent = one_more _ _ _ _ _ _ _ _ _ c.loop-entry-test.true c.entry-item.is c.loop-entry.invariant.sent c.in-Ok.ensures.ok;
  none = c.in-Ok.ensures.none ∙ c.loop-entry.invariant.none;
}

pub returns-in-Err-clause-err : goal.returns-in-Err-clause-err
returns-in-Err-clause-err g c = one_failed _ _ _ _ _ _ _ c.loop-entry.invariant.sent c.in-Err.ensures.err
