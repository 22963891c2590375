use Rattle.std.proofs.Common.{◌-◌, ◌≤◌}
use Rattle.answerbox.specs.Calls.{calls_at}
use Rattle.cleanup.specs.Kill.{first_at, settle_call, settle_calls_at}
use Rattle.switchboard.specs.State.{drain}
use Rattle.cleanup.specs.KillRoom.{moves_at, entries_at}
use Rattle.switchboard.specs.Rooms.{UsesRoom}
use Rattle.switchboard.specs.Serving.{Completes}
use Rattle.cleanup.proofs.kill.settle_calls_at.Given as goal

-- what is done and what is left make the whole
abbrev pub invariant-loop : goal.invariant-loop
invariant-loop l =
    record {
      step : Completes l.board l.fn.out l.out (drain (first_at l.place) settle_call (calls_at l.fn.board.state.calls l.place - l.counter) l.board.state) (settle_calls_at l.place l.fn.board.state);
      moves : moves_at l.board.state l.place ≤ moves_at l.fn.board.state l.place;
      entries : entries_at l.board.state l.place ≤ entries_at l.fn.board.state l.place;
      room : UsesRoom l.fn.board l.board l.fn.out l.out 0 (moves_at l.fn.board.state l.place - moves_at l.board.state l.place) (entries_at l.fn.board.state l.place - entries_at l.board.state l.place);
    }
