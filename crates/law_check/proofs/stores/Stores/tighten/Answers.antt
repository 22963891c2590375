use Rattle.std.proofs.Common.{◌≡◌, true, arith, sym, subst, ◌∙◌}
use Rattle.std.proofs.Math.ListN.{length-set}
use Rattle.law_check.specs.declared.stores.Block.{Block}
use Rattle.law_check.specs.Stores.{placed_in, holds}
use Rattle.law_check.proofs.Blocks.{any_set, without_blocks, none_changes, put_or_not}
use Rattle.law_check.proofs.stores.Stores.tighten.Goals as goal

pub loop-i-preserved : goal.loop-i-preserved
loop-i-preserved c = record {
  as_many = omega (arith, length-set {A = Block});
  kept = λ b x there held.
      any_set (holds b x) c.loop-i.blocks.list.items c.loop-i.i c.index.result.now c.tight.result
      (λ h. c.tight.ensures b x there (subst (λ (k : Block). holds b x k ≡ true) (sym c.index.ensures) h))
      (omega (arith, c.loop-i.invariant.as_many))
      (c.loop-i.invariant.kept b x there held);
}

pub returns-clause-bounded : goal.returns-clause-bounded
returns-clause-bounded c =
    let a = c.args in
    λ was.
    put_or_not a.self.now.areas c.remove.new.self c.insert-old.new.self a.task a.store c.loop-i.blocks c.insert-old.result
    c.insert-old.ensures.updates c.insert-old.ensures.err
    (λ b x small there.
    c.loop-i.invariant.kept b x there (was a.task a.store c.in-Some.blocks (sym c.remove.ensures.value ∙ c.in-Some.is) b x small there))
    (without_blocks a.self.now.areas a.self.now.areas a.self.now.blocks c.remove.new.self a.task a.store a.base
    (placed_in a.self.now.areas a.task a.store a.base) c.remove.ensures.updates
    (none_changes a.self.now.areas a.task a.store a.base) was)
