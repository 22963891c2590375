use Rattle.phone_table.proofs.Counted.{CountedTo}
use Rattle.phone_table.proofs.rows.PhoneRows.check_counts.Given as goal

abbrev pub invariant-loop-i : goal.invariant-loop-i
invariant-loop-i l = CountedTo l.self l.i
