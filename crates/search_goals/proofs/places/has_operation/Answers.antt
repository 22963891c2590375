use Rattle.std.proofs.Common.{ℕ, Bool, length, ap, arith, lt-ltb, le-ltb}
use Rattle.std.specs.Prelude.{nat_lt}
use Rattle.ipc_ids.specs.declared.op.Body.{Body}
use Rattle.search_goals.proofs.Beginnings.{any_on, any_here, any_over}
use Rattle.search_goals.proofs.places.has_operation.Goals as goal

-- the body has the operation of this number
abbrev has_place : ℕ → Body → Bool
has_place place body = nat_lt place (length body.ops)

pub loop-body-preserved : goal.loop-body-preserved
loop-body-preserved c =
    let same = ap length c.as_slice.ensures in
    let past = c.if-place-as_slice.false in
    any_on (has_place c.args.place) c.args.bodies.now c.loop-body.body-index c.body-item.result c.loop-body-test.true
    c.body-item.is (le-ltb c.args.place (length c.body-item.result.ops) (omega (arith, same, past))) c.loop-body.invariant

pub returns-then-place-as_slice : goal.returns-then-place-as_slice
returns-then-place-as_slice c =
    let same = ap length c.as_slice.ensures in
    let within = c.if-place-as_slice.true in
    any_here (has_place c.args.place) c.args.bodies.now c.loop-body.body-index c.body-item.result c.loop-body-test.true
    c.body-item.is (lt-ltb c.args.place (length c.body-item.result.ops) (omega (arith, same, within))) c.loop-body.invariant

pub returns : goal.returns
returns c =
    any_over (has_place c.args.place) c.args.bodies.now c.loop-body.body-index c.loop-body-test.false c.loop-body.invariant
