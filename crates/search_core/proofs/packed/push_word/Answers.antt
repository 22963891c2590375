use Rattle.std.proofs.Common.{arith}
use Rattle.search_core.proofs.Packing.{all_left, less_left, none_left}
use Rattle.search_core.proofs.packed.push_word.Goals as goal

pub loop-left-init : goal.loop-left-init
loop-left-init c = all_left c.args.bytes.now.items c.args.word

pub loop-left-preserved : goal.loop-left-preserved
loop-left-preserved c =
    less_left c.args.bytes.now.items c.loop-left.bytes.items _ c.args.word c.loop-left.left c.loop-left.invariant c.in_ok-push.ensures.items

pub returns : goal.returns
returns c =
    none_left c.args.bytes.now.items c.loop-left.bytes.items _ c.args.word c.loop-left.left c.loop-left.invariant
    (omega (arith, c.loop-left-test.false)) c.in_ok-push-2.ensures.items
