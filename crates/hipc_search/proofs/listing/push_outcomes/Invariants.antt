use Rattle.std.proofs.Common.{◌≡◌, ◌+◌, ◌++◌, drop}
use Rattle.hipc_search.specs.Survey.{outcome_lines}
use Rattle.hipc_search.proofs.listing.push_outcomes.Given as goal

-- what was added, and the lines of the tasks that are left, is the whole
abbrev pub invariant-loop-place : goal.invariant-loop-place
invariant-loop-place l =
    l.text.items ++ outcome_lines (l.place + 1) (drop l.place l.names) l.entries
    ≡ l.fn.text.items ++ outcome_lines 1 l.names l.entries
