use Rattle.std.proofs.Common.{◌≡◌, ℕ, ◌-◌, ◌≤◌}
use Rattle.phone_table.specs.Phones.{state_at}
use Rattle.cleanup.specs.Kill.{slam_phones_of}
use Rattle.switchboard.specs.State.{width, each}
use Rattle.switchboard.specs.Joins.{slam_at}
use Rattle.cleanup.specs.KillRoom.{total}
use Rattle.switchboard.specs.Rooms.{leads_to, UsesRoom}
use Rattle.switchboard.specs.Serving.{Completes}
use Rattle.cleanup.proofs.kill.slam_phones_of.Given as goal

-- what is done and what is left make the whole, and the phones that are left are as they were
abbrev pub invariant-loop-phone : goal.invariant-loop-phone
invariant-loop-phone l =
    record {
      step : Completes l.board l.fn.out l.out (each (slam_at l.who l.other) (width l.fn.board.state.tasks.phones l.other.0 - l.phone) l.phone l.board.state) (slam_phones_of l.who l.other l.fn.board.state);
      later : (q : ℕ) → l.phone ≤ q → state_at l.board.state.tasks.phones l.other.0 q ≡ state_at l.fn.board.state.tasks.phones l.other.0 q;
      room : UsesRoom l.fn.board l.board l.fn.out l.out 0 0 (total (λ p. leads_to l.who (state_at l.fn.board.state.tasks.phones l.other.0 p)) l.phone 0);
    }
