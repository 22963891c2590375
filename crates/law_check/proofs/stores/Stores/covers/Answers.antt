use Rattle.std.proofs.Common.{List, sym, subst}
use Rattle.law_check.specs.declared.stores.Block.{Block}
use Rattle.law_check.specs.Stores.{IsBounded}
use Rattle.law_check.proofs.stores.Stores.covers.Goals as goal

pub returns-in-Some : goal.returns-in-Some
returns-in-Some c =
    let a = c.args in
    λ was.
    c.is_in.ensures
    (subst (λ (xs : List Block). IsBounded a.self.now.areas a.task a.store xs) (sym c.deref.ensures.value)
    (was a.task a.store c.in-Some.blocks.now (sym c.in-Some.ensures.value)))
