use Rattle.std.proofs.Common.{◌≡◌, arith, length}
use Rattle.raw_program.proofs.Repeats.{again, anew, below_if, below_anew, got_below}
use Rattle.raw_program.proofs.operations.Operations.push.Goals as goal

pub invariant_of-self-in-Some : goal.invariant_of-self-in-Some
invariant_of-self-in-Some c = rw c.push.ensures.items (below_if _ _ c.self.inside.which.items c.in-Some.last c.self.invariant (got_below c.self.inside.distinct.items c.in-Some.last c.args.op.now (rw c.as_slice.ensures.value at c.in-Some.ensures)))

pub returns-in-Some : goal.returns-in-Some
returns-in-Some c = rw (← c.self.view_is, c.in_ok-push.ensures.items) (again c.self.inside.distinct.items c.self.inside.which.items c.in-Some.last c.args.op.now (rw c.as_slice.ensures.value at c.in-Some.ensures))

pub invariant_of-self-in_err-push-3 : goal.invariant_of-self-in_err-push-3
invariant_of-self-in_err-push-3 c =
    rw (c.in_ok-push-2.ensures.items, c.push-3.ensures.items) (below_anew _ c.self.inside.distinct.items c.copy.result c.self.inside.which.items c.in-Ok.next (omega (arith, c.in-Ok.ensures, c.len.ensures, c.self.inside.distinct.ok)) c.self.invariant)

pub invariant_of-self-2 : goal.invariant_of-self-2
invariant_of-self-2 c =
    rw (c.in_ok-push-2.ensures.items, c.push-3.ensures.items) (below_anew _ c.self.inside.distinct.items c.copy.result c.self.inside.which.items c.in-Ok.next (omega (arith, c.in-Ok.ensures, c.len.ensures, c.self.inside.distinct.ok)) c.self.invariant)

pub returns : goal.returns
returns c =
    let e : c.in-Ok.next ≡ length c.self.inside.distinct.items = omega (arith, c.in-Ok.ensures, c.len.ensures, c.self.inside.distinct.ok) in
    rw (← c.self.view_is, c.in_ok-push-2.ensures.items, c.in_ok-push-3.ensures.items, e, c.copy.ensures) (anew c.self.inside.distinct.items c.args.op.now c.self.inside.which.items c.self.invariant)
