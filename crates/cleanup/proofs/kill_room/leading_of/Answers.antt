use Rattle.std.proofs.Common.{ap, ◌∙◌, arith}
use Rattle.phone_table.specs.Phones.{state_at}
use Rattle.switchboard.specs.Rooms.{leads_to}
use Rattle.cleanup.proofs.KillRoom.{total_next}
use Rattle.cleanup.proofs.kill_room.leading_of.Goals as goal

pub loop-phone-preserved : goal.loop-phone-preserved
loop-phone-preserved c =
    let next = total_next (λ p. leads_to c.args.who (state_at c.args.phones.now.states c.args.other.0 p)) c.loop-phone.phone in
    let one = c.leads_to-slams.ensures.leads ∙ ap (leads_to c.args.who) c.state_of.ensures in
    record { sum = omega (arith, c.loop-phone.invariant.sum, next, one); few = omega (arith, c.loop-phone.invariant.few, c.leads_to-slams.ensures.few) }
