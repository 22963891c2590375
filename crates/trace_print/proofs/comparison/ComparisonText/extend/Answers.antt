use Rattle.std.proofs.Common.{length, refl, sym, ◌∙◌}
use Rattle.std.proofs.lemmas.List.{take_rest}
use Rattle.trace_print.proofs.Comparing.{no_items, same_more}
use Rattle.trace_print.proofs.comparison.ComparisonText.extend.Goals as goal

pub returns-then-begins_with-clause-text : goal.returns-then-begins_with-clause-text
returns-then-begins_with-clause-text c =
    let s = c.args.self.now in
    let w = c.args.more.now in
    same_more s.line.now s.other w s.same (length w) (no_items s.other (sym c.is_empty.ensures ∙ c.if-is_empty.true)) (rw take_rest at (c.if-begins_with.ensures refl).1)
