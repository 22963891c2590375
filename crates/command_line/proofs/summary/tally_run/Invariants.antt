use Rattle.std.proofs.Common.{◌≡◌, ◌≤◌, ◌+◌, length}
use Rattle.task_system.specs.Run.{run, run_from, MayAllHappen}
use Rattle.command_line.specs.Summary.{with_entries, tally_of}
use Rattle.command_line.proofs.summary.tally_run.Given as goal

-- the tally so far, with what is left
abbrev pub invariant-loop-event : goal.invariant-loop-event
invariant-loop-event g l = record {
  tally : with_entries l.tally (run_from l.replay.state (g.F.Feed.left l.feed)) ≡ tally_of (run l.fn.script (g.F.Feed.left l.fn.feed));
  may : MayAllHappen l.replay.state (g.F.Feed.left l.feed);
  few : l.replay.state.kernel.events + length (g.F.Feed.left l.feed) ≤ 65536;
}

abbrev pub decreases-loop-event : goal.decreases-loop-event
decreases-loop-event g l = length (g.F.Feed.left l.feed)
