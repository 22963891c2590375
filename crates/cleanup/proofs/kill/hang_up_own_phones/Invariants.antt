use Rattle.std.proofs.Common.{◌≡◌, ℕ, ◌-◌, ◌≤◌}
use Rattle.phone_table.specs.Phones.{state_at}
use Rattle.cleanup.specs.Kill.{hang_up_at, hang_up_own_phones}
use Rattle.switchboard.specs.State.{width, each}
use Rattle.switchboard.specs.Board.{FewFrom}
use Rattle.cleanup.specs.KillRoom.{total}
use Rattle.switchboard.specs.Rooms.{UsesRoom, calls_of_hangup, entries_of_hangup}
use Rattle.switchboard.specs.Serving.{Completes}
use Rattle.cleanup.proofs.kill.hang_up_own_phones.Given as goal

-- what is done and what is left make the whole, and the phones that are left are as they were
abbrev pub invariant-loop-phone : goal.invariant-loop-phone
invariant-loop-phone l =
    record {
      step : Completes l.board l.fn.out l.out (each (hang_up_at l.who) (width l.fn.board.state.tasks.phones l.who.0 - l.phone) l.phone l.board.state) (hang_up_own_phones l.who l.fn.board.state);
      few : FewFrom l.board.state l.who l.phone;
      later : (q : ℕ) → l.phone ≤ q → state_at l.board.state.tasks.phones l.who.0 q ≡ state_at l.fn.board.state.tasks.phones l.who.0 q;
      room : UsesRoom l.fn.board l.board l.fn.out l.out (total (λ p. calls_of_hangup (state_at l.fn.board.state.tasks.phones l.who.0 p)) l.phone 0) (total (λ p. calls_of_hangup (state_at l.fn.board.state.tasks.phones l.who.0 p)) l.phone 0) (total (λ p. entries_of_hangup (state_at l.fn.board.state.tasks.phones l.who.0 p)) l.phone 0);
    }
