use Rattle.std.proofs.Common.{◌≡◌}
use Rattle.async_task.specs.AsyncState.{Grows}
use Rattle.async_task.specs.Steps.{start_bodies}
use Rattle.async_task.proofs.machine.Machine.start_bodies.Given as goal

-- the bodies that the loop saw have started
abbrev pub invariant-loop-i : goal.invariant-loop-i
invariant-loop-i l =
    record {
      state : l.self.state ≡ start_bodies l.i l.fn.self.state;
      grows : Grows l.i l.fn.self.state l.self.state;
    }
