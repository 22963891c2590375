use Rattle.call_slab.proofs.Pages.{no_keys}
use Rattle.call_slab.proofs.index.Index.new.Goals as goal

pub returns : goal.returns
returns c = record { keys = rw (c.new.ensures, c.new-2.ensures.empty) (no_keys 0) }
