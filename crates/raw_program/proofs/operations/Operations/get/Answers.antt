use Rattle.std.proofs.Common.{refl, sym, ap, ◌∙◌, Some, arith}
use Rattle.ipc_ids.specs.declared.op.Op.TheVariants as op
use Rattle.raw_program.proofs.Repeats.{get_kept, below_at, any_default}
use Rattle.raw_program.proofs.operations.Operations.get.Goals as goal

pub index-requires : goal.index-requires
index-requires c =
    let less = below_at _ c.self.inside.which.items c.args.place c.in-Some.at c.self.invariant (sym (rw c.as_slice.ensures.value at c.in-Some.ensures.number)) in
    omega (arith, less, c.self.inside.distinct.ok)

pub returns-in-Some-clause-operation : goal.returns-in-Some-clause-operation
returns-in-Some-clause-operation c =
    let e = rw c.as_slice.ensures.value at c.in-Some.ensures.number in
    rw (← c.self.view_is, get_kept c.self.inside.distinct.items c.self.inside.which.items c.args.place, ← e)
    (ap Some (c.index.ensures ∙ any_default c.self.inside.distinct.items c.in-Some.at c.index.result.now op.Receive (below_at _ c.self.inside.which.items c.args.place c.in-Some.at c.self.invariant (sym e))))

pub returns-in-None-clause-operation : goal.returns-in-None-clause-operation
returns-in-None-clause-operation c =
    let e = rw c.as_slice.ensures.value at c.in-None.ensures.number in
    rw (← c.self.view_is, get_kept c.self.inside.distinct.items c.self.inside.which.items c.args.place, ← e) refl
