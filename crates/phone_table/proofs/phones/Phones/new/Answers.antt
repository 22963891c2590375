use Rattle.phone_table.proofs.Writes.{all_free}
use Rattle.phone_table.proofs.phones.Phones.new.Goals as goal

pub returns : goal.returns
returns c = rw (c.truncate.ensures.items, c.from_array_in-phones.ensures.items) (all_free _ c.args.limit c.requires.few)
