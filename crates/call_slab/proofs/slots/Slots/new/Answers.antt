use Rattle.call_slab.proofs.Live.{live_new}
use Rattle.call_slab.proofs.slots.Slots.new.Goals as goal

pub returns : goal.returns
returns c = record { slots = live_new c.new.result c.new.ensures.empty }
