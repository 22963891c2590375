use Rattle.std.proofs.Common.{ap}
use Rattle.address_space.specs.Stores.{StoreTable}
use Rattle.address_space.specs.Kept.{StandsAt}
use Rattle.address_space.proofs.Rising.{stands, rises-remove, taken_at}
use Rattle.address_space.proofs.stores.Stores.remove.Goals as goal

pub unwrap-i-requires : goal.unwrap-i-requires
unwrap-i-requires c =
    stands c.position_of.result c.self.inside.stores.items c.self.inside.next_store c.args.store c.args.self.now (ap (λ (s : StoreTable). s.stores) c.self.view_is) c.self.invariant (rw (← c.deref.ensures.value) c.position_of.ensures.none) c.requires

pub invariant_of-self : goal.invariant_of-self
invariant_of-self c =
    let s : StandsAt c.self.inside.stores.items c.args.store c.unwrap-i.result = rw (c.unwrap-i.ensures, c.deref.ensures.value) at c.position_of.ensures.found in
    rw c.remove.ensures.items (rises-remove 1 c.self.inside.stores.items c.self.inside.next_store c.unwrap-i.result c.self.invariant s.in_range)

pub returns : goal.returns
returns c =
    let s : StandsAt c.self.inside.stores.items c.args.store c.unwrap-i.result = rw (c.unwrap-i.ensures, c.deref.ensures.value) at c.position_of.ensures.found in
    rw (← c.self.view_is, c.remove.ensures.items) (taken_at c.self.inside.stores.items c.self.inside.next_store c.args.store c.unwrap-i.result c.remove.result c.self.invariant s c.remove.ensures.value)
