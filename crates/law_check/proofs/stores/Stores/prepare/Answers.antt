use Rattle.law_check.specs.declared.stores.Blocks.{Blocks}
use Rattle.law_check.proofs.Blocks.{put_or_not}
use Rattle.law_check.proofs.stores.Stores.prepare.Goals as goal

pub returns-in-Ok-clause-bounded : goal.returns-in-Ok-clause-bounded
returns-in-Ok-clause-bounded c =
    let a = c.args in
    let blocks : Blocks = record { list = c.in-Ok.list; added = 0 } in
    put_or_not a.self.now.areas a.self.now.blocks c.insert-old.new.self a.task a.store blocks c.insert-old.result
    c.insert-old.ensures.updates c.insert-old.ensures.err c.in-Ok.ensures
