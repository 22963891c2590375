use Rattle.std.proofs.Common.{ap, ◌∙◌, arith}
use Rattle.phone_table.specs.Phones.{state_at}
use Rattle.switchboard.specs.Rooms.{calls_of_hangup}
use Rattle.cleanup.proofs.KillRoom.{total_next}
use Rattle.cleanup.proofs.kill_room.kill_calls.Goals as goal

pub loop-phone-preserved : goal.loop-phone-preserved
loop-phone-preserved c =
    let next = total_next (λ p. calls_of_hangup (state_at c.args.phones.now.states c.args.who.0 p)) c.loop-phone.phone in
    let one = c.calls_of_hangup-calls.ensures.calls ∙ ap (calls_of_hangup) c.state_of.ensures in
    record { sum = omega (arith, c.loop-phone.invariant.sum, next, one); few = omega (arith, c.loop-phone.invariant.few, c.calls_of_hangup-calls.ensures.few) }
