use Rattle.std.proofs.Common.{ap, ◌∙◌, arith}
use Rattle.phone_table.specs.Phones.{state_at}
use Rattle.cleanup.specs.Kill.{hang_up_at}
use Rattle.switchboard.specs.State.{KernelState, phone_at}
use Rattle.switchboard.specs.Rooms.{calls_of_hangup, entries_of_hangup}
use Rattle.cleanup.proofs.KillRoom.{total_next, total_room, hung_elsewhere}
use Rattle.switchboard.proofs.Switched.{later_same}
use Rattle.switchboard.proofs.Turns.{turned, uses_both, uses_less, room_left}
use Rattle.cleanup.proofs.kill.hang_up_own_phones.Goals as goal

pub hang_up-told-requires-clause-room : goal.hang_up-told-requires-clause-room
hang_up-told-requires-clause-room c =
    let phones = c.args.board.now.state.tasks.phones in
    let calls = total_room (λ p. calls_of_hangup (state_at phones c.args.who.0 p)) c.loop-phone.phone c.width-phone-end.result (omega arith) in
    let entries = total_room (λ p. entries_of_hangup (state_at phones c.args.who.0 p)) c.loop-phone.phone c.width-phone-end.result (omega arith) in
    rw (c.label.ensures, c.loop-phone.invariant.later c.loop-phone.phone (omega arith)) (room_left c.requires.room c.loop-phone.invariant.room (rw c.width-phone-end.ensures.width at calls) (rw c.width-phone-end.ensures.width at calls) (rw c.width-phone-end.ensures.width at entries))

pub loop-phone-preserved : goal.loop-phone-preserved
loop-phone-preserved c =
    let phones = c.args.board.now.state.tasks.phones in
    let calls = total_next (λ p. calls_of_hangup (state_at phones c.args.who.0 p)) c.loop-phone.phone in
    let entries = total_next (λ p. entries_of_hangup (state_at phones c.args.who.0 p)) c.loop-phone.phone in
    let did = rw c.label.ensures at c.hang_up-told.ensures.step in
    let used = rw (c.label.ensures, c.loop-phone.invariant.later c.loop-phone.phone (omega arith)) at c.hang_up-told.ensures.room in
    record {
      step = turned (hang_up_at c.args.who) (omega arith) did c.loop-phone.invariant.step;
      few = λ q le. rw (did.state, later_same c.loop-phone.board.state c.args.who c.loop-phone.phone q (phone_at c.loop-phone.board.state c.args.who c.loop-phone.phone) c.hang_up-told.ensures.free (omega (arith, le))) (c.loop-phone.invariant.few q (omega (arith, le)));
      later = λ q le. ap (λ (k : KernelState). state_at k.tasks.phones c.args.who.0 q) did.state ∙ hung_elsewhere c.loop-phone.board.state c.args.who c.loop-phone.phone (phone_at c.loop-phone.board.state c.args.who c.loop-phone.phone) c.args.who.0 q (λ e. omega (arith, e.1, le)) ∙ c.loop-phone.invariant.later q (omega (arith, le));
      room = uses_less (uses_both c.loop-phone.invariant.room used) (omega (arith, calls)) (omega (arith, calls)) (omega (arith, entries));
    }
