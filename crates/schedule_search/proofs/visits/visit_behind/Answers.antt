use Rattle.std.proofs.Common.{sym, ◌∙◌}
use Rattle.schedule_search.specs.Problem.{search_of}
use Rattle.schedule_search.proofs.Paths.{done}
use Rattle.schedule_search.proofs.Visiting.{untried_find_none, no_code_is}
use Rattle.schedule_search.proofs.visits.visit_behind.Goals as goal

pub returns-then-not-may_try-clause-unmet : goal.returns-then-not-may_try-clause-unmet
returns-then-not-may_try-clause-unmet c =
    λ is. untried_find_none (search_of c.args.problem.now) c.args.events.now (sym c.may_try.ensures ∙ c.if-not-may_try.true)

pub returns-then-not-may_try-clause-code : goal.returns-then-not-may_try-clause-code
returns-then-not-may_try-clause-code c =
    c.new.ensures.items
    ∙ no_code_is (search_of c.args.problem.now) c.args.events.now (sym c.may_try.ensures ∙ c.if-not-may_try.true)

pub visit_there-visit-requires-clause-can : goal.visit_there-visit-requires-clause-can
visit_there-visit-requires-clause-can c =
    done (search_of c.args.problem.now) c.args.events.now c.requires.can (sym c.may_try.ensures ∙ c.if-not-may_try.false)
