use Rattle.std.proofs.Common.{drop}
use Rattle.hipc_search.specs.Told.{entry_of}
use Rattle.hipc_search.proofs.LastOutcomes.{IsUnderWay}
use Rattle.hipc_search.proofs.told.last_outcome.Given as goal

abbrev pub invariant-loop-entry : goal.invariant-loop-entry
invariant-loop-entry l = IsUnderWay l.task l.entries (drop l.entry-index l.entries) l.own (entry_of l.last)
