use Rattle.std.proofs.Common.{sym, add-one, arith}
use Rattle.std.proofs.lemmas.List.{take_rest}
use Rattle.trace_reader.proofs.Parts.{drop_behind, nothing_behind, all_before}
use Rattle.trace_reader.proofs.part.cut.Goals as goal

pub returns-then-count-text-clause-behind : goal.returns-then-count-text-clause-behind
returns-then-count-text-clause-behind c =
    rw take_rest (rw (c.length_before-count.ensures.length, add-one) (drop_behind c.args.mark c.args.text.now))

pub returns-else-count-text-clause-before : goal.returns-else-count-text-clause-before
returns-else-count-text-clause-before c =
    all_before c.args.mark c.args.text.now (omega (arith, c.length_before-count.ensures.length, c.if-count-text.false))

pub returns-else-count-text-clause-behind : goal.returns-else-count-text-clause-behind
returns-else-count-text-clause-behind c =
    sym (nothing_behind c.args.mark c.args.text.now (omega (arith, c.length_before-count.ensures.length, c.if-count-text.false)))
