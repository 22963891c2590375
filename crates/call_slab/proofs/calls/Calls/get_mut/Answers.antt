use Rattle.std.proofs.Common.{refl}
use Rattle.call_slab.specs.declared.slots.Slot.{Slot}
use Rattle.call_slab.proofs.Keyed.{set_keeps}
use Rattle.call_slab.proofs.calls.Calls.get_mut.Goals as goal

pub invariant_of-self-lent : goal.invariant_of-self-lent
invariant_of-self-lent g c w = set_keeps c.self.inside.slots.slots c.self.inside.keys.keys c.self.inside.last c.args.key c.self.invariant (λ (s : Slot). record s { call = w }) (λ s. refl)
