use Rattle.std.proofs.Common.{◌≡◌, ℕ, ◌-◌, ◌<◌, length}
use Rattle.phone_table.specs.Phones.{row_at}
use Rattle.cleanup.specs.Kill.{slam_other, slam_phones_to}
use Rattle.switchboard.specs.State.{each}
use Rattle.cleanup.specs.KillRoom.{total, leading_at}
use Rattle.switchboard.specs.Rooms.{UsesRoom}
use Rattle.switchboard.specs.Serving.{Completes}
use Rattle.cleanup.proofs.kill.slam_phones_to.Given as goal

-- what is done and what is left make the whole, and the phones that are left are as they were
abbrev pub invariant-loop-i : goal.invariant-loop-i
invariant-loop-i l =
    record {
      step : Completes l.board l.fn.out l.out (each (slam_other l.who) (length l.fn.board.state.tasks.phones - l.i) l.i l.board.state) (slam_phones_to l.who l.fn.board.state);
      later : (s : ℕ) → l.i < s → row_at l.board.state.tasks.phones s ≡ row_at l.fn.board.state.tasks.phones s;
      room : UsesRoom l.fn.board l.board l.fn.out l.out 0 0 (total (leading_at l.who l.fn.board.state.tasks.phones) l.i 0);
    }
