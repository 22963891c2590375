use Rattle.std.proofs.Common.{◌-◌}
use Rattle.address_space.specs.Memory.{count_areas}
use Rattle.cleanup.specs.Kill.{drop_first_area, drop_areas}
use Rattle.switchboard.specs.State.{each}
use Rattle.switchboard.specs.Rooms.{UsesRoom}
use Rattle.switchboard.specs.Serving.{Completes}
use Rattle.cleanup.proofs.kill.drop_areas.Given as goal

-- what is done and what is left make the whole
abbrev pub invariant-loop : goal.invariant-loop
invariant-loop l =
    record {
      step : Completes l.board l.fn.out l.out (each (drop_first_area l.who) (count_areas l.fn.board.state.memory l.who - l.counter) l.counter l.board.state) (drop_areas l.who l.fn.board.state);
      room : UsesRoom l.fn.board l.board l.fn.out l.out 0 0 l.counter;
    }
