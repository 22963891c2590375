use Rattle.std.proofs.Common.{ap, ◌∙◌, arith}
use Rattle.phone_table.specs.Phones.{state_at}
use Rattle.switchboard.specs.Rooms.{entries_of_hangup}
use Rattle.cleanup.proofs.KillRoom.{total_next}
use Rattle.cleanup.proofs.kill_room.own_entries.Goals as goal

pub loop-phone-preserved : goal.loop-phone-preserved
loop-phone-preserved c =
    let next = total_next (λ p. entries_of_hangup (state_at c.args.phones.now.states c.args.who.0 p)) c.loop-phone.phone in
    let one = c.entries_of_hangup-entries.ensures.entries ∙ ap (entries_of_hangup) c.state_of.ensures in
    record { sum = omega (arith, c.loop-phone.invariant.sum, next, one); few = omega (arith, c.loop-phone.invariant.few, c.entries_of_hangup-entries.ensures.few) }
