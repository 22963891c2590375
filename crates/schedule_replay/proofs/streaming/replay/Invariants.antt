use Rattle.std.proofs.Common.{◌≡◌, ◌≤◌, ◌+◌, length}
use Rattle.task_system.specs.Run.{MayAllHappen}
use Rattle.schedule_replay.proofs.UnderWay.{IsUnderWay}
use Rattle.schedule_replay.proofs.streaming.replay.Given as goal

abbrev pub invariant-loop-event : goal.invariant-loop-event
invariant-loop-event g l = record {
  under_way : IsUnderWay l.fn.script (g.F.Feed.left l.fn.feed) (g.F.Feed.left l.feed) l.replay.state (g.K.Sink.written l.fn.sink) (g.K.Sink.written l.sink) l.buffer;
  few : l.replay.state.kernel.events + length (g.F.Feed.left l.feed) ≤ 65536;
  may : MayAllHappen l.replay.state (g.F.Feed.left l.feed);
  none : g.K.Sink.faults l.sink ≡ g.K.Sink.faults l.fn.sink;
}

abbrev pub decreases-loop-event : goal.decreases-loop-event
decreases-loop-event g l = length (g.F.Feed.left l.feed)
