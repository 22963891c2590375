use Rattle.std.proofs.Common.{List, ℕ, ◌≡◌, sym, ap, ◌∙◌, arith}
use Rattle.trace_reader.specs.Words.{before}
use Rattle.trace_reader.specs.Read.{nth, parts}
use Rattle.trace_reader.proofs.Parts.{all_before}
use Rattle.trace_reader.proofs.ReadAgain.{whole_line}
use Rattle.trace_reader.proofs.beside.read_entry.Goals as goal

pub returns-then-count-line-clause-none : goal.returns-then-count-line-clause-none
returns-then-count-line-clause-none c =
    λ e built text. absurd (omega (arith, whole_line e c.args.line.now built text, c.first_line-count.ensures.length, c.if-count-line.true))

pub entry_of-requires : goal.entry_of-requires
entry_of-requires c =
    let line = c.args.line.now in
    let is : line ≡ before 10 line = all_before 10 line (omega (arith, c.first_line-count.ensures.length, c.if-count-line.false)) in
    λ i. c.first_line-count.ensures.words i ∙ ap (λ (l : List ℕ). nth (parts 13 0 l) i) (sym is)
