use Rattle.std.proofs.Common.{None, sym, subst}
use Rattle.law_check.specs.Stores.{ByStore, Changes}
use Rattle.law_check.proofs.Pairs.{triple_put}
use Rattle.law_check.proofs.Blocks.{fewer_bounded}
use Rattle.law_check.proofs.stores.Stores.remove.Goals as goal

pub returns-clause-areas : goal.returns-clause-areas
returns-clause-areas c =
    let a = c.args in
    subst (λ (m : ByStore). Changes a.self.now.areas m a.task a.store a.base None) (sym c.tighten.ensures.areas)
    (triple_put a.self.now.areas c.remove.new.self a.task a.store a.base None c.remove.ensures.updates)

pub returns-clause-bounded : goal.returns-clause-bounded
returns-clause-bounded c =
    let a = c.args in
    λ was.
    c.tighten.ensures.bounded
    (fewer_bounded a.self.now.areas c.remove.new.self a.self.now.blocks a.task a.store a.base
    (triple_put a.self.now.areas c.remove.new.self a.task a.store a.base None c.remove.ensures.updates) was)
