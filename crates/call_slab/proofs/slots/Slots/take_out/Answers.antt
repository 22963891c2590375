use Rattle.std.proofs.Common.{refl}
use Rattle.slab.proofs.SlabLemmas.{Updates-with_value}
use Rattle.call_slab.proofs.Live.{get_live, live_some, live_out, not_ready, ready_more, ready_kept, vacant_live}
use Rattle.call_slab.proofs.slots.Slots.take_out.Goals as goal

pub index_mut-requires : goal.index_mut-requires
index_mut-requires c = rw c.kept-then-len-capacity.ensures.value (live_some c.self.inside.slab c.args.key (rw (← c.self.view_is) at c.requires.live)).1

pub invariant_of-self : goal.invariant_of-self
invariant_of-self c =
    let live = rw (← c.self.view_is) at c.requires.live in
    let there = (live_some c.self.inside.slab c.args.key live).1 in
    rw (c.kept-then-len-capacity.ensures.value, c.push_reserved.ensures.items, c.kept.ensures.value)
    (ready_more c.self.inside.slab _ c.args.key _ (Updates-with_value c.self.inside.slab c.args.key c.leave.new.self there) c.self.inside.ready.items c.self.invariant (not_ready c.self.inside.slab c.self.inside.ready.items c.args.key (rw get_live at live)) c.leave.new.self refl c.leave.ensures.vacant (rw c.kept.ensures.value at c.kept.ensures.small))

pub remove-requires : goal.remove-requires
remove-requires c = rw c.kept-else-len-capacity.ensures.value (live_some c.self.inside.slab c.args.key (rw (← c.self.view_is) at c.requires.live)).1

pub invariant_of-self-else-len-capacity : goal.invariant_of-self-else-len-capacity
invariant_of-self-else-len-capacity c =
    let live = rw (← c.self.view_is) at c.requires.live in
    ready_kept c.self.inside.slab c.remove.new.self c.args.key _ (rw c.kept-else-len-capacity.ensures.value at c.remove.ensures.updates) c.self.inside.ready.items c.self.invariant (not_ready c.self.inside.slab c.self.inside.ready.items c.args.key (rw get_live at live)) (λ h. absurd (cc h))

pub returns-then-len-capacity-clause-slot : goal.returns-then-len-capacity-clause-slot
returns-then-len-capacity-clause-slot c =
    rw (← c.self.view_is, get_live, (live_some c.self.inside.slab c.args.key (rw (← c.self.view_is) at c.requires.live)).0, ← c.kept-then-len-capacity.ensures.value, c.index_mut.ensures.value, c.leave.ensures.slot) refl

pub returns-then-len-capacity-clause-slots : goal.returns-then-len-capacity-clause-slots
returns-then-len-capacity-clause-slots c =
    rw (← c.self.view_is, c.kept-then-len-capacity.ensures.value)
    (live_out c.self.inside.slab _ c.args.key _ (Updates-with_value c.self.inside.slab c.args.key c.leave.new.self (live_some c.self.inside.slab c.args.key (rw (← c.self.view_is) at c.requires.live)).1) (vacant_live c.leave.new.self c.leave.ensures.vacant))

pub returns-else-len-capacity-clause-slot : goal.returns-else-len-capacity-clause-slot
returns-else-len-capacity-clause-slot c =
    rw (← c.self.view_is, get_live, (live_some c.self.inside.slab c.args.key (rw (← c.self.view_is) at c.requires.live)).0, ← c.kept-else-len-capacity.ensures.value, c.remove.ensures.value) refl

pub returns-else-len-capacity-clause-slots : goal.returns-else-len-capacity-clause-slots
returns-else-len-capacity-clause-slots c =
    rw (← c.self.view_is)
    (live_out c.self.inside.slab c.remove.new.self c.args.key _ (rw c.kept-else-len-capacity.ensures.value at c.remove.ensures.updates) refl)
