use Rattle.std.proofs.Common.{◌≡◌, drop}
use Rattle.std.specs.List.{list_any}
use Rattle.search_goals.specs.Goals.{entry_fits, listed}
use Rattle.search_goals.proofs.meeting.any_fits.Given as goal

abbrev pub invariant-loop-entry : goal.invariant-loop-entry
invariant-loop-entry l = list_any (entry_fits (listed l.asked))
    (drop l.entry-index l.entries) ≡ list_any (entry_fits (listed l.asked)) l.entries
