use Rattle.std.proofs.Common.{◌≡◌, ℕ, List, ◌++◌, map, append_assoc, slice_index, arith}
use Rattle.std.proofs.lemmas.Fmt.{decimal_digit}
use Rattle.std.specs.Prelude.{codes}
use Rattle.trace_print.specs.Text.{spaced_text}
use Rattle.trace_print.proofs.Marks.{map_append}
use Rattle.trace_print.proofs.part.push_args.Goals as goal

five_parts : (f : ℕ → ℕ) (s a b c d e : List ℕ)
    → s ++ map f a ++ map f b ++ map f c ++ map f d ++ map f e ≡ s ++ map f (a ++ b ++ c ++ d ++ e)
five_parts f s a b c d e = simp (map_append, append_assoc)

-- four arguments that are 0
zeros : (f : ℕ → ℕ) (s a : List ℕ) (b c d e : ℕ) → (b ≡ 0) × (c ≡ 0) × (d ≡ 0) × (e ≡ 0)
    → (s ++ map f a) ++ map f (codes " 0 0 0 0") ≡ s ++ map f (a ++ spaced_text b ++ spaced_text c ++ spaced_text d ++ spaced_text e)
zeros f s a b c d e are =
    rw (are.0, are.1, are.2, are.3, decimal_digit 0 (omega arith))
    (simp (map_append, append_assoc))

pub returns-then-ends_in_zeros-clause-text : goal.returns-then-ends_in_zeros-clause-text
returns-then-ends_in_zeros-clause-text g c =
    let arg : ℕ → ℕ = λ i. slice_index c.args.args.now i in
    rw (c.word.ensures.text, c.push_spaced.ensures.text)
    (zeros g.P.Pen.mark (g.P.Pen.seen c.args.pen.now) (spaced_text (arg 0)) (arg 1) (arg 2) (arg 3) (arg 4) (c.ends_in_zeros.ensures c.if-ends_in_zeros.true))

pub returns-clause-text : goal.returns-clause-text
returns-clause-text g c =
    let part : ℕ → List ℕ = λ i. spaced_text (slice_index c.args.args.now i) in
    rw (
      c.push_spaced-5.ensures.text,
      c.push_spaced-4.ensures.text,
      c.push_spaced-3.ensures.text,
      c.push_spaced-2.ensures.text,
      c.push_spaced.ensures.text,
    ) (five_parts g.P.Pen.mark (g.P.Pen.seen c.args.pen.now) (part 0) (part 1) (part 2) (part 3) (part 4))
