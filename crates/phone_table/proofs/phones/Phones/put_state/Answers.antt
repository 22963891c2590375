use Rattle.phone_table.proofs.Writes.{state_written}
use Rattle.phone_table.proofs.phones.Phones.put_state.Goals as goal

pub returns : goal.returns
returns c = rw (c.deref_mut.ensures.value, ← c.self.view_is) (state_written c.self.inside.phones.items c.args.p.0 _ c.args.state)
