use Rattle.std.proofs.Common.{Some, ap, sym, ◌∙◌}
use Rattle.law_check.specs.Held.{area_at, over_store}
use Rattle.law_check.proofs.Pairs.{pair_put, put_by_store}
use Rattle.law_check.proofs.held.Held.insert.Goals as goal

pub returns-clause-areas : goal.returns-clause-areas
returns-clause-areas c =
    pair_put c.args.self.now.areas c.insert.new.self c.args.task c.args.base (Some c.args.area) c.in_ok-old.ensures.updates

pub returns-clause-by_store : goal.returns-clause-by_store
returns-clause-by_store c =
    let a = c.args in
    λ was.
    record {
      found = put_by_store a.self.now.stores.areas c.take_out.new.stores.areas c.insert-2.new.self.areas a.task a.base a.area (area_at a.self.now)
          (area_at (record { areas = c.insert.new.self; stores = c.insert-2.new.self }))
          (c.take_out.ensures.placed (λ s. was.found a.task s a.base ∙ ap (over_store s) (sym c.in_ok-old.ensures.old)))
          c.in_ok-insert.ensures.areas
          (pair_put a.self.now.areas c.insert.new.self a.task a.base (Some a.area) c.in_ok-old.ensures.updates) was.found;
      bounded = c.in_ok-insert.ensures.bounded (c.take_out.ensures.bounded was.bounded);
    }
