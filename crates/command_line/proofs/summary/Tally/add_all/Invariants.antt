use Rattle.std.proofs.Common.{◌≡◌, drop}
use Rattle.command_line.specs.Summary.{with_entries}
use Rattle.command_line.proofs.summary.Tally.add_all.Given as goal

-- the tally so far, with what is left
abbrev pub invariant-loop-entry : goal.invariant-loop-entry
invariant-loop-entry l = with_entries l.self (drop l.entry-index l.entries) ≡ with_entries l.fn.self l.entries
