use Rattle.std.proofs.Common.{◌∙◌}
use Rattle.trace_reader.proofs.Ranges.{read_is_built}
use Rattle.trace_reader.proofs.ReadAgain.{is_plain, unread}
use Rattle.trace_reader.proofs.Words.{same_entry}
use Rattle.trace_reader.proofs.beside.entry_of.Goals as goal

pub returns-then-is_of-clause-built : goal.returns-then-is_of-clause-built
returns-then-is_of-clause-built c =
    let e = c.entry_in-entry.ensures ∙ same_entry _ _ c.requires in
    let text = rw (e) at c.is_of.ensures.0 c.if-is_of.true in
    rw (e) (read_is_built c.args.line.now (is_plain c.args.line.now text))

pub returns-else-is_of-clause-none : goal.returns-else-is_of-clause-none
returns-else-is_of-clause-none c =
    let is = c.entry_in-entry.ensures ∙ same_entry _ _ c.requires in
    let test = rw (is) at c.is_of.ensures.1 in
    λ e built text. unread e c.args.line.now c.is_of.result test c.if-is_of.false built text
