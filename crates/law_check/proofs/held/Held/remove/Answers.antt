use Rattle.std.proofs.Common.{None, ap, sym, ◌∙◌}
use Rattle.law_check.specs.Held.{area_at, over_store}
use Rattle.law_check.proofs.Pairs.{pair_put, taken_by_store}
use Rattle.law_check.proofs.held.Held.remove.Goals as goal

pub returns-clause-areas : goal.returns-clause-areas
returns-clause-areas c =
    pair_put c.args.self.now.areas c.remove-old.new.self c.args.task c.args.base None c.remove-old.ensures.updates

pub returns-clause-by_store : goal.returns-clause-by_store
returns-clause-by_store c =
    let a = c.args in
    λ was.
    record {
      found = taken_by_store a.self.now.stores.areas c.take_out.new.stores.areas a.task a.base (area_at a.self.now)
          (area_at (record { areas = c.remove-old.new.self; stores = c.take_out.new.stores }))
          (c.take_out.ensures.placed (λ s. was.found a.task s a.base ∙ ap (over_store s) (sym c.remove-old.ensures.value)))
          (pair_put a.self.now.areas c.remove-old.new.self a.task a.base None c.remove-old.ensures.updates) was.found;
      bounded = c.take_out.ensures.bounded was.bounded;
    }
