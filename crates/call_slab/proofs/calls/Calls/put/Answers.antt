use Rattle.call_slab.specs.Links.{no_links}
use Rattle.call_slab.proofs.Keyed.{put_keeps}
use Rattle.call_slab.proofs.calls.Calls.put.Goals as goal

pub invariant_of-self : goal.invariant_of-self
invariant_of-self c =
    rw (c.put-key.ensures.slots, c.put.ensures.keys)
    (put_keeps c.self.inside.slots.slots c.self.inside.keys.keys c.self.inside.last c.put-key.result (record { name = c.args.call.number.0; call = c.args.call; links = no_links }) c.self.invariant c.put-key.ensures.fresh (rw (← c.self.view_is) at c.requires.above))
