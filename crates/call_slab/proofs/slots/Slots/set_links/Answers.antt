use Rattle.std.proofs.Common.{refl}
use Rattle.call_slab.specs.declared.slots.Slot.{Slot}
use Rattle.call_slab.proofs.Live.{get_live, live_some, set_at}
use Rattle.call_slab.proofs.slots.Slots.set_links.Goals as goal

pub index_mut-requires : goal.index_mut-requires
index_mut-requires c = rw c.kept.ensures.value (live_some c.self.inside.slab c.args.key (rw (← c.self.view_is) at c.requires.live)).1

pub returns : goal.returns
returns c =
    rw (← c.self.view_is, c.kept.ensures.value, c.of.ensures, set_at c.self.inside.slab c.args.key c.index_mut.result.now (record c.index_mut.result.now { links = c.args.links }) (rw c.kept.ensures.value at c.index_mut.ensures.value) (rw (← c.self.view_is, get_live) at c.requires.live) refl (λ (s : Slot). record s { links = c.args.links }) refl) refl
