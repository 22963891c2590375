use Rattle.std.proofs.Common.{Some, sym, ◌∙◌}
use Rattle.law_check.proofs.Blocks.{without_blocks, with_one, put_or_not, was_ok, one_holds}
use Rattle.law_check.proofs.stores.Stores.add.Goals as goal

pub returns-in_default-clause-bounded : goal.returns-in_default-clause-bounded
returns-in_default-clause-bounded c =
    let a = c.args in
    λ areas changes was.
    without_blocks a.self.now.areas areas a.self.now.blocks c.remove.new.self a.task a.area.store a.base (Some a.area)
    c.remove.ensures.updates changes was

pub returns-then-blocks-ge-MOST_ADDED-clause-bounded : goal.returns-then-blocks-ge-MOST_ADDED-clause-bounded
returns-then-blocks-ge-MOST_ADDED-clause-bounded c =
    let a = c.args in
    λ areas changes was.
    without_blocks a.self.now.areas areas a.self.now.blocks c.remove.new.self a.task a.area.store a.base (Some a.area)
    c.remove.ensures.updates changes was

pub returns-then-is_err-clause-bounded : goal.returns-then-is_err-clause-bounded
returns-then-is_err-clause-bounded c =
    let a = c.args in
    λ areas changes was.
    without_blocks a.self.now.areas areas a.self.now.blocks c.remove.new.self a.task a.area.store a.base (Some a.area)
    c.remove.ensures.updates changes was

pub returns-clause-bounded : goal.returns-clause-bounded
returns-clause-bounded c =
    let a = c.args in
    let pushed = rw (was_ok c.push.result (sym c.is_err.ensures.value ∙ c.if-is_err.false)) at c.push.ensures.items in
    λ areas changes was.
    put_or_not areas c.remove.new.self c.insert-old.new.self a.task a.area.store _ c.insert-old.result
    c.insert-old.ensures.updates c.insert-old.ensures.err
    (rw pushed (with_one a.self.now.areas areas a.task a.area.store a.base a.area c.in-Some.blocks.list.items _ changes
    (was a.task a.area.store c.in-Some.blocks (sym c.remove.ensures.value ∙ c.in-Some.is))
    (one_holds a.base a.area c.reach.result c.reach.ensures)))
    (without_blocks a.self.now.areas areas a.self.now.blocks c.remove.new.self a.task a.area.store a.base (Some a.area)
    c.remove.ensures.updates changes was)
