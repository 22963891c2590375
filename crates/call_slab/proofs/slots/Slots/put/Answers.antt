use Rattle.slab.proofs.SlabLemmas.{Updates-with_value}
use Rattle.call_slab.proofs.Live.{get_live, last_waits, live_put, named_live}
use Rattle.call_slab.proofs.slots.Slots.put.Goals as goal

pub returns-clause-fresh : goal.returns-clause-fresh
returns-clause-fresh c = rw (← c.self.view_is, c.of.ensures, get_live) (last_waits c.self.inside.slab c.pop.new.self.items c.unwrap-key.result (rw (c.pop.ensures.items, c.unwrap-key.ensures) at c.self.invariant)).0

pub returns-clause-slots : goal.returns-clause-slots
returns-clause-slots c =
    rw (← c.self.view_is, c.of.ensures, c.none.ensures)
    (live_put c.self.inside.slab _ c.unwrap-key.result _ (Updates-with_value c.self.inside.slab c.unwrap-key.result _ (last_waits c.self.inside.slab c.pop.new.self.items c.unwrap-key.result (rw (c.pop.ensures.items, c.unwrap-key.ensures) at c.self.invariant)).1) (named_live _ c.requires.named))
