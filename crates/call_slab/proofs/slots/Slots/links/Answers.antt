use Rattle.std.proofs.Common.{refl}
use Rattle.call_slab.proofs.Live.{get_live, live_some}
use Rattle.call_slab.proofs.slots.Slots.links.Goals as goal

pub index-requires : goal.index-requires
index-requires c = rw c.kept.ensures.value (live_some c.self.inside.slab c.args.key (rw (← c.self.view_is) at c.requires.live)).1

pub returns : goal.returns
returns c = rw (← c.self.view_is, get_live, (live_some c.self.inside.slab c.args.key (rw (← c.self.view_is) at c.requires.live)).0, ← c.kept.ensures.value, c.index.ensures, c.links.ensures) refl
