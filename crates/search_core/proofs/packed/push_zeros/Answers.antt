use Rattle.std.proofs.Common.{arith}
use Rattle.search_core.proofs.Packing.{zeros_more, no_zeros}
use Rattle.search_core.proofs.packed.push_zeros.Goals as goal

pub returns-in_ok-push : goal.returns-in_ok-push
returns-in_ok-push c =
    zeros_more c.args.bytes.now.items c.push.new.self.items c.args.zeros (omega (arith, c.if-zeros-gt0.true)) c.requires.few
    c.in_ok-push.ensures.items

pub returns-else-zeros-gt0 : goal.returns-else-zeros-gt0
returns-else-zeros-gt0 c = no_zeros c.args.bytes.now.items c.args.zeros (omega (arith, c.if-zeros-gt0.false))
