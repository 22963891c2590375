use Rattle.std.proofs.Common.{ℕ, ◌≡◌, List, length, take, sym, ◌∙◌, arith}
use Rattle.std.proofs.Math.Seq.{take-length}
use Rattle.std.specs.Cmp.Lexicographic.{bytes_decides}
use Rattle.trace_reader.proofs.part.is.Goals as goal

take_all : (w : List ℕ) (i : ℕ) → i ≡ length w → take i w ≡ w
take_all w i all = rw (all) (take-length w)

pub returns : goal.returns
returns c =
    let i = c.loop-i.i in
    let word = c.args.word.now in
    let name = c.args.name.now in
    let end : i ≡ length name = omega (arith, c.loop-i-test.false, c.loop-i.auto.i-end) in
    let same : word ≡ name = sym (take_all word i (omega (arith, end, c.if-word-name.false))) ∙ c.loop-i.invariant ∙ take_all name i end in
    sym ((bytes_decides word name).1 same)
