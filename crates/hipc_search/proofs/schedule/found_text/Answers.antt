use Rattle.std.proofs.Common.{ℕ, List, sym, subst}
use Rattle.schedule_search.specs.Problem.{search_of}
use Rattle.hipc_search.specs.Schedule.{IsSchedule, MayFollow}
use Rattle.hipc_search.proofs.schedule.found_text.Goals as goal

pub push_found-requires-clause-may : goal.push_found-requires-clause-may
push_found-requires-clause-may c =
    subst (λ (b : List ℕ). MayFollow (search_of c.args.problem.now) b c.args.names.now) (sym c.in_ok-text.ensures.items)
    c.requires.may

pub returns : goal.returns
returns c =
    subst
    (λ (b : List ℕ). IsSchedule (search_of c.args.problem.now) b c.args.goal.now c.args.events.now
    c.push_found.new.text.items)
    c.in_ok-text.ensures.items c.in_ok-push_found.ensures
