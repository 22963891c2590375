use Rattle.std.proofs.Common.{sym, ◌∙◌}
use Rattle.std.proofs.lemmas.List.{take_rest}
use Rattle.trace_print.proofs.Comparing.{whole, no_feed}
use Rattle.trace_print.proofs.comparison.Comparison.is_whole.Goals as goal

pub returns-then-last-eq10 : goal.returns-then-last-eq10
returns-then-last-eq10 c =
    let s = c.args.self.now in
    whole s.line.now s.other c.in-Some.text.now s.same c.in-Some.last.now c.eq.result (sym c.as_slice.ensures.text ∙ c.in-Some.ensures.cases.0)
    c.if-last-eq10.true (rw take_rest at c.eq.ensures)

pub returns-else-last-eq10 : goal.returns-else-last-eq10
returns-else-last-eq10 c =
    let s = c.args.self.now in
    no_feed s.line.now s.other c.in-Some.text.now s.same c.in-Some.last.now (sym c.as_slice.ensures.text ∙ c.in-Some.ensures.cases.0) c.if-last-eq10.false
