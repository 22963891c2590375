use Rattle.std.proofs.Common.{◌≡◌, ◌-◌, ◌++◌}
use Rattle.schedule_replay.specs.Generator.{generated_events}
use Rattle.schedule_replay.proofs.beside.events_from.Given as goal

-- what is made, and what is left to make of the number now, is the whole
abbrev pub invariant-loop-done : goal.invariant-loop-done
invariant-loop-done l =
    l.events ++ generated_events l.number (l.count - l._done) ≡ generated_events l.fn.seed l.count
