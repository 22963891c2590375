use Rattle.std.proofs.Common.{drop, length}
use Rattle.schedule_search.specs.Problem.{search_of}
use Rattle.schedule_search.specs.Survey.{schedules_of}
use Rattle.hipc_search.proofs.States.{GoesOn}
use Rattle.hipc_search.proofs.listing.states_text.Given as goal

abbrev pub invariant-loop-place : goal.invariant-loop-place
invariant-loop-place l =
    GoesOn (search_of l.problem) l.before (length (schedules_of l.schedules)) (schedules_of l.schedules) l.place
    (schedules_of (drop l.place l.schedules)) l.text.items
