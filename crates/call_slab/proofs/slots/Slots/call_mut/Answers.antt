use Rattle.std.proofs.Common.{refl}
use Rattle.call_slab.specs.declared.slots.Slot.{Slot}
use Rattle.call_slab.proofs.Live.{get_live, live_some, set_at}
use Rattle.call_slab.proofs.slots.Slots.call_mut.Goals as goal

pub index_mut-slot-requires : goal.index_mut-slot-requires
index_mut-slot-requires c = rw c.kept.ensures.value (live_some c.self.inside.slab c.args.key (rw (← c.self.view_is) at c.requires.live)).1

pub returns : goal.returns
returns c = (
  (refl, λ w. rw (← c.self.view_is, c.kept.ensures.value, set_at c.self.inside.slab c.args.key c.index_mut-slot.result.now (record c.index_mut-slot.result.now { call = w }) (rw c.kept.ensures.value at c.index_mut-slot.ensures.value) (rw (← c.self.view_is, get_live) at c.requires.live) refl (λ (s : Slot). record s { call = w }) refl) refl),
  record { writes_back = tt; call = rw (← c.self.view_is, get_live, (live_some c.self.inside.slab c.args.key (rw (← c.self.view_is) at c.requires.live)).0, ← c.kept.ensures.value, c.index_mut-slot.ensures.value) refl },
)
