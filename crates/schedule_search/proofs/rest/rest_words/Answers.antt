use Rattle.std.proofs.Common.{Bool, ◌&&◌, None, Some, ap, sym, ◌∙◌}
use Rattle.std.specs.Prelude.{if◌then◌else◌}
use Rattle.schedule_search.specs.Search.{Search, state_behind}
use Rattle.schedule_search.specs.Meeting.{is_at_rest}
use Rattle.schedule_search.specs.Code.{words_behind}
use Rattle.schedule_search.specs.Problem.{search_of}
use Rattle.schedule_search.proofs.Paths.{done}
use Rattle.schedule_search.proofs.rest.rest_words.Goals as goal

pub returns-then-not-may_try : goal.returns-then-not-may_try
returns-then-not-may_try c =
    let s : Search = search_of c.args.problem.now in
    ap (λ (z : Bool). if z && is_at_rest (state_behind s c.args.events.now) then Some (words_behind s c.args.events.now) else None)
    (sym (sym c.may_try.ensures ∙ c.if-not-may_try.true))

pub words_at_rest-words-requires-clause-can : goal.words_at_rest-words-requires-clause-can
words_at_rest-words-requires-clause-can c =
    done (search_of c.args.problem.now) c.args.events.now c.requires.can (sym c.may_try.ensures ∙ c.if-not-may_try.false)
