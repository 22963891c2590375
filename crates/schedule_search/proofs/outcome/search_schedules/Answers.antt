use Rattle.std.proofs.Common.{ℕ, ◌∙◌, List, length, reverse, ap, sym, subst}
use Rattle.search_core.specs.Moves.{AreMoves}
use Rattle.schedule_search.specs.Search.{events_of}
use Rattle.schedule_search.specs.Problem.{search_of}
use Rattle.schedule_search.proofs.Alike.{fits}
use Rattle.schedule_search.proofs.Rights.{first_is, none_within, none_at_all}
use Rattle.schedule_search.proofs.outcome.search_schedules.Goals as goal

pub search-requires-clause-fits : goal.search-requires-clause-fits
search-requires-clause-fits c = fits (search_of c.args.problem.now) c.requires.sound

pub events_by-requires : goal.events_by-requires
events_by-requires c =
    let h = rw c.in-Found.is at c.in_ok-answer.ensures in
    subst (λ (z : List ℕ). AreMoves (length c.args.problem.now.moves.now) (reverse z)) (sym c.as_slice.ensures.value) h.are_moves

pub returns-in_ok-events-in-Found : goal.returns-in_ok-events-in-Found
returns-in_ok-events-in-Found c =
    let h = rw c.in-Found.is at c.in_ok-answer.ensures in
    first_is (search_of c.args.problem.now) c.args.most (reverse c.in-Found.path.items) c.in_ok-events-in-Found.events.items h
    (c.in_ok-events-in-Found.ensures ∙ ap (λ (z : List ℕ). events_of c.args.problem.now.moves.now (reverse z)) c.as_slice.ensures.value)

pub returns-in-NoneWithin : goal.returns-in-NoneWithin
returns-in-NoneWithin c =
    none_within (search_of c.args.problem.now) c.args.most (rw c.in-NoneWithin.is at c.in_ok-answer.ensures)

pub returns-in-NoneAtAll : goal.returns-in-NoneAtAll
returns-in-NoneAtAll c = none_at_all (search_of c.args.problem.now) (rw c.in-NoneAtAll.is at c.in_ok-answer.ensures)
