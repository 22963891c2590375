use Rattle.std.proofs.Common.{sym}
use Rattle.call_slab.proofs.Live.{has_name}
use Rattle.call_slab.proofs.slots.Slots.has_name.Goals as goal

pub returns-in-Some : goal.returns-in-Some
returns-in-Some c = rw (← c.self.view_is) (has_name c.self.inside.slab c.args.key c.in-Some.slot.now c.args.name (rw c.kept.ensures.value at (sym c.in-Some.ensures)) c.requires.named)
