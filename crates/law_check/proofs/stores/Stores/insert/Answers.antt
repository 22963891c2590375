use Rattle.std.proofs.Common.{Some, subst}
use Rattle.law_check.specs.Stores.{ByStore, Changes}
use Rattle.law_check.proofs.Pairs.{triple_put}
use Rattle.law_check.proofs.stores.Stores.insert.Goals as goal

pub returns-clause-areas : goal.returns-clause-areas
returns-clause-areas c =
    let a = c.args in
    subst (λ (m : ByStore). Changes m c.insert.new.self a.task a.area.store a.base (Some a.area)) c.add.ensures.areas
    (triple_put c.add.new.self.areas c.insert.new.self a.task a.area.store a.base (Some a.area) c.in_ok-insert.ensures.updates)

pub returns-clause-bounded : goal.returns-clause-bounded
returns-clause-bounded c =
    let a = c.args in
    c.add.ensures.bounded c.insert.new.self
    (subst (λ (m : ByStore). Changes m c.insert.new.self a.task a.area.store a.base (Some a.area)) c.add.ensures.areas
    (triple_put c.add.new.self.areas c.insert.new.self a.task a.area.store a.base (Some a.area) c.in_ok-insert.ensures.updates))
