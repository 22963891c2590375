use Rattle.std.proofs.Common.{◌+◌, List, sym, subst, lit≤}
use Rattle.law_check.specs.declared.stores.Block.{Block}
use Rattle.law_check.proofs.Blocks.{AreBelow, more_below, all_below}
use Rattle.law_check.specs.Stores.{IsBounded}
use Rattle.law_check.proofs.stores.Stores.blocks_of.Goals as goal

pub loop-key-preserved : goal.loop-key-preserved
loop-key-preserved c =
    let a = c.args in
    subst (λ (xs : List Block). AreBelow a.self.now.areas a.task a.store (c.in-Some.key.now.2 + 1) xs) (sym c.in_ok-push.ensures.items)
    (more_below a.self.now.areas a.task a.store c.loop-key.first c.in-Some.key.now.2 c.loop-key.list.items c.block.result
    c.loop-key.invariant c.block.ensures)

pub returns : goal.returns
returns c =
    let a = c.args in
    subst (λ (xs : List Block). IsBounded a.self.now.areas a.task a.store xs) (sym c.in_ok-push-2.ensures.items)
    (all_below a.self.now.areas a.task a.store (18446744073709551615 + 1) _ (lit≤ tt)
    (more_below a.self.now.areas a.task a.store c.loop-key.first 18446744073709551615 c.loop-key.list.items c.block-2.result
    c.loop-key.invariant c.block-2.ensures))
