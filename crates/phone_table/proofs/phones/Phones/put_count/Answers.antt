use Rattle.phone_table.proofs.Writes.{count_written}
use Rattle.phone_table.proofs.phones.Phones.put_count.Goals as goal

pub returns : goal.returns
returns c = rw (c.deref_mut.ensures.value, ← c.self.view_is) (count_written c.self.inside.phones.items c.args.p.0 _ c.args.count)
