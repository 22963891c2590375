use Rattle.std.proofs.Common.{◌≡◌, ◌+◌, ◌≤◌}
use Rattle.fibril_core.specs.Fibrils.{wake_times}
use Rattle.fibril_core.proofs.fibrils.Fibrils.wake_all.Given as goal

-- so many fibrils were woken
abbrev pub invariant-loop : goal.invariant-loop
invariant-loop l =
    record {
      order : l.self.order ≡ wake_times l.counter l.fn.self.order l.why;
      stamps : l.self.order.next_stamp ≤ l.fn.self.order.next_stamp + l.counter;
      spare : l.self.spare ≡ l.fn.self.spare;
    }
