use Rattle.std.proofs.Common.{◌≡◌, ◌+◌, ◌-◌, ℕ, List, ◌++◌, Option, length, take, drop, rules, ap, sym, subst, ◌∙◌}
use Rattle.std.proofs.Math.Seq.{take-add}
use Rattle.std.proofs.KnownBytes.{Appends-trans, Appends-kept}
use Rattle.std.proofs.lemmas.List.{take_rest}
use Rattle.std.specs.Io.KnownBytes.{Appends}
use Rattle.io_edge.proofs.stream.write_whole.Goals as goal
use Rattle.io_edge.proofs.stream.write_whole.Goals.{in-Ok, in-Err}

-- a write took the first bytes of what was left of the piece
wrote_more : (a b c : Option (List ℕ)) (piece : List ℕ) (done count : ℕ)
    → Appends a b (take done piece) → Appends b c (take count (take (length piece - done) (drop done piece)))
    → Appends a c (take (done + count) piece)
wrote_more a b c piece done count first second =
    let rest = ap (take count) (take_rest piece done) in
    let all : take done piece ++ take count (take (length piece - done) (drop done piece)) ≡ take (done + count) piece =
    ap (λ l. take done piece ++ l) rest ∙ sym (take-add done count piece) in
    subst (Appends a c) all (Appends-trans a b c _ _ first second)

pub loop-preserved : goal.loop-preserved
loop-preserved g c =
    let written = λ (count : ℕ). Appends (g.W.Write.contents c.args.writer.now) (g.W.Write.contents c.write.new.self) (take count c.args.piece.now) in
    let so_far = c.loop.invariant in
    elim c.match-write.branch [
      | in-Ok w ↦
          let more = wrote_more _ _ _ _ _ _ so_far.1 w.in-Ok.ensures.bytes in
          (search rules, subst written (sym w.done-is) more)
      | in-Err w ↦
          let kept = Appends-kept _ _ _ _ so_far.1 w.in-Err.ensures.bytes in
          (search rules, subst written (sym w.done-is) kept)
    ]
