use Rattle.std.proofs.Common.{refl}
use Rattle.address_space.proofs.Rising.{rises-push, insert_last}
use Rattle.address_space.proofs.stores.Stores.add.Goals as goal

pub invariant_of-self-2 : goal.invariant_of-self-2
invariant_of-self-2 c = rw (c.push_reserved.ensures.items, c.reserve.ensures.items) (rises-push 1 c.self.inside.stores.items c.self.inside.next_store _ refl c.self.invariant)

pub returns-clause-ok : goal.returns-clause-ok
returns-clause-ok c =
    rw (c.push_reserved.ensures.items, c.reserve.ensures.items, ← c.self.view_is, insert_last 1 c.self.inside.stores.items c.self.inside.next_store (record { number = c.self.inside.next_store; bytes = c.in-Ok.bytes }) refl c.self.invariant, ← c.in-Ok.ensures)
