use Rattle.std.proofs.Common.{ap, refl}
use Rattle.address_space.specs.Stores.{StoreTable}
use Rattle.address_space.specs.Kept.{StandsAt}
use Rattle.address_space.proofs.Rising.{stands, rises-set, look_at, written_at, room_some}
use Rattle.address_space.proofs.stores.Stores.write.Goals as goal

pub unwrap-i-requires : goal.unwrap-i-requires
unwrap-i-requires c =
    stands c.position_of.result c.self.inside.stores.items c.self.inside.next_store c.args.store c.args.self.now (ap (λ (s : StoreTable). s.stores) c.self.view_is) c.self.invariant (rw (← c.deref.ensures.value) c.position_of.ensures.none) (room_some _ _ c.requires)

pub write-requires : goal.write-requires
write-requires c =
    let s : StandsAt c.self.inside.stores.items c.args.store c.unwrap-i.result = rw (c.unwrap-i.ensures, c.deref.ensures.value) at c.position_of.ensures.found in
    let is = look_at c.self.inside.stores.items c.self.inside.next_store c.args.store c.unwrap-i.result c.index_mut-written.result.now c.args.self.now (ap (λ (s : StoreTable). s.stores) c.self.view_is) c.self.invariant s c.index_mut-written.ensures.value in
    rw is at c.requires

pub invariant_of-self : goal.invariant_of-self
invariant_of-self c =
    let s : StandsAt c.self.inside.stores.items c.args.store c.unwrap-i.result = rw (c.unwrap-i.ensures, c.deref.ensures.value) at c.position_of.ensures.found in
    rises-set 1 c.self.inside.stores.items c.self.inside.next_store c.unwrap-i.result c.index_mut-written.result.now _ c.self.invariant s.in_range c.index_mut-written.ensures.value refl

pub returns : goal.returns
returns c =
    let s : StandsAt c.self.inside.stores.items c.args.store c.unwrap-i.result = rw (c.unwrap-i.ensures, c.deref.ensures.value) at c.position_of.ensures.found in
    rw (← c.self.view_is, c.write.ensures) (written_at c.self.inside.stores.items c.self.inside.next_store c.args.store c.unwrap-i.result c.args.at c.args.bytes.now c.index_mut-written.result.now c.self.invariant s c.index_mut-written.ensures.value)
