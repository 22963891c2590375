use Rattle.std.proofs.Common.{refl}
use Rattle.call_slab.specs.declared.slots.Slot.{Slot}
use Rattle.call_slab.proofs.Keyed.{set_keeps}
use Rattle.call_slab.proofs.calls.Calls.set_links.Goals as goal

pub invariant_of-self : goal.invariant_of-self
invariant_of-self g c = rw c.set_links.ensures (set_keeps c.self.inside.slots.slots c.self.inside.keys.keys c.self.inside.last c.args.key c.self.invariant (λ (s : Slot). record s { links = c.args.links }) (λ s. refl))
