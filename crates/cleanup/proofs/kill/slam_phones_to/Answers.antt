use Rattle.std.proofs.Common.{◌+◌, ap, ◌∙◌, arith}
use Rattle.phone_table.specs.Phones.{row_at}
use Rattle.cleanup.specs.Kill.{slam_other}
use Rattle.switchboard.specs.State.{KernelState}
use Rattle.cleanup.specs.KillRoom.{leading_at}
use Rattle.cleanup.proofs.KillRoom.{total_next, total_room, slams_elsewhere, same_leading_at}
use Rattle.switchboard.proofs.Turns.{turned, uses_both, uses_less, room_left}
use Rattle.cleanup.proofs.kill.slam_phones_to.Goals as goal

pub slam_other-requires-clause-room : goal.slam_other-requires-clause-room
slam_other-requires-clause-room c =
    let phones = c.args.board.now.state.tasks.phones in
    let slams = total_room (leading_at c.args.who phones) c.loop-i.i c.tasks-i-end.result (omega arith) in
    rw (same_leading_at c.args.who phones c.loop-i.board.state.tasks.phones c.loop-i.i (λ ne. c.loop-i.invariant.later (c.loop-i.i + 1) (omega arith)))
    (room_left c.requires.room c.loop-i.invariant.room (omega arith) (omega arith) (rw c.tasks-i-end.ensures.phones at slams))

pub loop-i-preserved : goal.loop-i-preserved
loop-i-preserved c =
    let phones = c.args.board.now.state.tasks.phones in
    let slams = total_next (leading_at c.args.who phones) c.loop-i.i in
    let used = rw (same_leading_at c.args.who phones c.loop-i.board.state.tasks.phones c.loop-i.i (λ ne. c.loop-i.invariant.later (c.loop-i.i + 1) (omega arith))) at c.slam_other.ensures.room in
    record {
      step = turned (slam_other c.args.who) (omega arith) c.slam_other.ensures.step c.loop-i.invariant.step;
      later = λ s lt. ap (λ (k : KernelState). row_at k.tasks.phones s) c.slam_other.ensures.step.state ∙ slams_elsewhere c.args.who c.loop-i.board.state c.loop-i.i s (λ e. omega (arith, e, lt)) ∙ c.loop-i.invariant.later s (omega (arith, lt));
      room = uses_less (uses_both c.loop-i.invariant.room used) (omega arith) (omega arith) (omega (arith, slams));
    }
