use Rattle.std.proofs.Common.{arith}
use Rattle.call_slab.proofs.Live.{same_back, same_more, ready_new_slot}
use Rattle.call_slab.proofs.slots.Slots.make_ready.Goals as goal

pub returns-then-key-clause-slots : goal.returns-then-key-clause-slots
returns-then-key-clause-slots c = rw (← c.self.view_is) (same_back c.self.inside.slab c.insert.new.self c.remove.new.self c.in-Ok.key _ c.in-Ok.ensures.was_vacant c.in-Ok.ensures.updates c.remove.ensures.updates)

pub invariant_of-self-3 : goal.invariant_of-self-3
invariant_of-self-3 c =
    rw (c.push_reserved.ensures.items, c.reserve.ensures.items)
    (ready_new_slot c.self.inside.slab c.insert.new.self c.in-Ok.key c.vacant-vacant.result c.self.inside.ready.items c.self.invariant c.in-Ok.ensures.was_vacant c.in-Ok.ensures.updates c.vacant-vacant.ensures (omega (arith, c.if-key.false)))

pub returns-clause-slots : goal.returns-clause-slots
returns-clause-slots c = rw (← c.self.view_is) (same_more c.self.inside.slab c.insert.new.self c.in-Ok.key c.vacant-vacant.result c.in-Ok.ensures.was_vacant c.in-Ok.ensures.updates c.vacant-vacant.ensures)
