use Rattle.address_space.proofs.Keeping.{store_kept}
use Rattle.address_space.proofs.spaces.Spaces.new_store.Goals as goal

pub invariant_of-self : goal.invariant_of-self
invariant_of-self c = store_kept c.add.result c.self.inside.stores c.add.new.self c.args.count c.self.inside.tasks.items c.add.ensures.ok c.add.ensures.err c.self.invariant
