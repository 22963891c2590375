use Rattle.call_slab.proofs.Keyed.{out_keeps}
use Rattle.call_slab.proofs.calls.Calls.take_out.Goals as goal

pub invariant_of-self : goal.invariant_of-self
invariant_of-self g c =
    rw (c.take_out-slot.ensures.slots, c.remove.ensures.keys)
    (out_keeps c.self.inside.slots.slots c.self.inside.keys.keys c.self.inside.last c.args.key c.take_out-slot.result c.self.invariant c.take_out-slot.ensures.slot)
