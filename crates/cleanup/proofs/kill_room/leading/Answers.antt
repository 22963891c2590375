use Rattle.std.proofs.Common.{arith}
use Rattle.cleanup.specs.KillRoom.{leading_at}
use Rattle.cleanup.proofs.KillRoom.{total_next}
use Rattle.cleanup.proofs.kill_room.leading.Goals as goal

pub loop-i-preserved : goal.loop-i-preserved
loop-i-preserved c =
    let next = total_next (leading_at c.args.who c.args.phones.now.states) c.loop-i.i in
    let more = c.in-Some.ensures in
    omega (arith, c.loop-i.invariant, next, c.leading_at.ensures, more.1)
