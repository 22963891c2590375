use Rattle.std.proofs.Common.{ℕ, ◌≡◌, List, length, take, sym, ◌∙◌, arith}
use Rattle.std.proofs.Math.Seq.{take-length}
use Rattle.ipc_ids.specs.declared.op.Value.{Value}
use Rattle.raw_program.proofs.operations.are_same.Goals as goal

take_all : (xs : List Value) (i : ℕ) → i ≡ length xs → take i xs ≡ xs
take_all xs i all = rw (all) (take-length xs)

pub returns : goal.returns
returns c _ =
    let i = c.loop-i.i in
    let end : i ≡ length c.args.left.now = omega (arith, c.loop-i-test.false, c.loop-i.auto.i-end) in
    sym (take_all c.args.left.now i end) ∙ c.loop-i.invariant ∙ take_all c.args.right.now i (omega (arith, end, c.if-left-right.false))
