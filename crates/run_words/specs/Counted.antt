-- A state of the kernel, and what an event makes of it, with another count of events.
use Rattle.std.specs.Prelude.{ℕ}
use Rattle.switchboard.specs.State.{KernelState, Transition}
use Rattle.switchboard.specs.Serving.{Served}

-- the state, as if there had been so many events
abbrev pub with_count : ℕ → KernelState → KernelState
with_count n k = record { tasks = k.tasks; calls = k.calls; memory = k.memory; events = n }

-- what a step gives, likewise
abbrev pub step_with_count : ℕ → Transition → Transition
step_with_count n step = record { state = with_count n step.state; entries = step.entries }

-- what a request gives, likewise
abbrev pub served_with_count : ℕ → Served → Served
served_with_count n served =
    record { state = with_count n served.state; outcome = served.outcome; entries = served.entries }
