use Rattle.std.proofs.Common.{List, ℕ, [], sym, subst}
use Rattle.hipc_search.specs.Schedule.{Precedes}
use Rattle.hipc_search.proofs.Following.{nothing_first}
use Rattle.hipc_search.proofs.due.with_no_events.Goals as goal

pub with_events-requires-clause-first : goal.with_events-requires-clause-first
with_events-requires-clause-first c =
    subst (λ (ns : List (List ℕ)). Precedes c.args.script.now [] (record { events = []; names = ns })) (sym c.in_ok-names.ensures)
    (nothing_first c.args.script.now)
