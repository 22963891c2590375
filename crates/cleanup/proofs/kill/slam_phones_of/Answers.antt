use Rattle.std.proofs.Common.{ap, ◌∙◌, arith}
use Rattle.phone_table.specs.Phones.{state_at}
use Rattle.switchboard.specs.Joins.{slam_at}
use Rattle.switchboard.specs.State.{KernelState, phone_at}
use Rattle.switchboard.specs.Rooms.{leads_to}
use Rattle.cleanup.proofs.KillRoom.{total_next, total_room, slammed_elsewhere}
use Rattle.switchboard.proofs.Turns.{turned, uses_both, uses_less, room_left}
use Rattle.cleanup.proofs.kill.slam_phones_of.Goals as goal

pub slam-requires-clause-room : goal.slam-requires-clause-room
slam-requires-clause-room c =
    let slams = total_room (λ p. leads_to c.args.who (state_at c.args.board.now.state.tasks.phones c.args.other.0 p)) c.loop-phone.phone c.width-phone-end.result (omega arith) in
    rw (c.label.ensures, c.loop-phone.invariant.later c.loop-phone.phone (omega arith)) (room_left c.requires.room c.loop-phone.invariant.room (omega arith) (omega arith) (rw c.width-phone-end.ensures.width at slams))

pub loop-phone-preserved : goal.loop-phone-preserved
loop-phone-preserved c =
    let slams = total_next (λ p. leads_to c.args.who (state_at c.args.board.now.state.tasks.phones c.args.other.0 p)) c.loop-phone.phone in
    let did = rw c.label.ensures at c.slam.ensures.step in
    let used = rw (c.label.ensures, c.loop-phone.invariant.later c.loop-phone.phone (omega arith)) at c.slam.ensures.room in
    record {
      step = turned (slam_at c.args.who c.args.other) (omega arith) did c.loop-phone.invariant.step;
      later = λ q le. ap (λ (k : KernelState). state_at k.tasks.phones c.args.other.0 q) did.state ∙ slammed_elsewhere c.args.who c.args.other c.loop-phone.board.state c.loop-phone.phone (phone_at c.loop-phone.board.state c.args.other c.loop-phone.phone) c.args.other.0 q (λ e. omega (arith, e.1, le)) ∙ c.loop-phone.invariant.later q (omega (arith, le));
      room = uses_less (uses_both c.loop-phone.invariant.room used) (omega arith) (omega arith) (omega (arith, slams));
    }
