use Rattle.law_check.specs.AreaState.{entry_of}
use Rattle.law_check.specs.Judging.{PassedTo}
use Rattle.law_check.proofs.beside.check_laws.Given as goal

abbrev pub invariant-loop-entry : goal.invariant-loop-entry
invariant-loop-entry l = PassedTo l.entries l.entry-index l.laws (entry_of l.now) (entry_of l.last)
