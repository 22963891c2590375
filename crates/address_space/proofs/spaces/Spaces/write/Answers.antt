use Rattle.address_space.specs.Sound.{IsOver}
use Rattle.address_space.specs.Stores.{write_at}
use Rattle.address_space.proofs.Keeping.{over_written, all_weaker}
use Rattle.address_space.proofs.spaces.Spaces.write.Goals as goal

pub invariant_of-self : goal.invariant_of-self
invariant_of-self c =
    let s = c.self.inside.stores in
    let room = rw (← c.self.view_is) at c.in-Some.ensures.room in
    rw c.write.ensures (record { lawful = c.self.invariant.lawful; over = all_weaker (IsOver s.stores s.next_store) (IsOver (write_at s.stores c.in-Some.spot.store c.in-Some.spot.offset c.args.bytes.now) s.next_store) c.self.inside.tasks.items (λ a o. over_written s.stores s.next_store c.in-Some.spot.store c.in-Some.spot.offset c.args.bytes.now a room o) c.self.invariant.over })
