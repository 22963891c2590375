use Rattle.std.proofs.Common.{ap, sym, ◌∙◌}
use Rattle.address_space.specs.Stores.{StoreTable}
use Rattle.address_space.specs.Kept.{StandsAt}
use Rattle.address_space.proofs.Rising.{look, look_at}
use Rattle.address_space.proofs.stores.Stores.get.Goals as goal

pub returns-in-None : goal.returns-in-None
returns-in-None c =
    sym (look c.self.inside.stores.items c.self.inside.next_store c.args.store c.args.self.now (ap (λ (s : StoreTable). s.stores) c.self.view_is) c.self.invariant
    ∙ (rw c.deref.ensures.value at c.in-None.ensures.none))

pub returns-in-Some : goal.returns-in-Some
returns-in-Some c =
    let s : StandsAt c.self.inside.stores.items c.args.store c.in-Some.i = rw c.deref.ensures.value at c.in-Some.ensures.found in
    sym (look_at c.self.inside.stores.items c.self.inside.next_store c.args.store c.in-Some.i c.index.result.now c.args.self.now (ap (λ (s : StoreTable). s.stores) c.self.view_is) c.self.invariant s c.index.ensures)
