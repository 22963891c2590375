use Rattle.std.proofs.Common.{ℕ, ◌≡◌, ◌≤◌, ◌∙◌, List, length, map, ap}
use Rattle.std.specs.Prelude.{⊤}
use Rattle.std.specs.Global.{Vec}
use Rattle.ipc_ids.specs.declared.message.Event.{Event}
use Rattle.search_core.specs.Survey.{moves_of}
use Rattle.schedule_search.specs.Search.{Search, events_of}
use Rattle.schedule_search.specs.Problem.{search_of}
use Rattle.schedule_search.specs.Survey.{schedules_of}
use Rattle.schedule_search.proofs.Alike.{fits}
use Rattle.schedule_search.proofs.Resters.{schedules_right, moves_within}
use Rattle.schedule_search.proofs.at_rest.survey_schedules.Goals as goal

pub survey-requires-clause-fits : goal.survey-requires-clause-fits
survey-requires-clause-fits c = fits (search_of c.args.problem.now) c.requires.sound

pub returns-in_ok-schedules-in-All : goal.returns-in_ok-schedules-in-All
returns-in_ok-schedules-in-All c =
    let s : Search = search_of c.args.problem.now in
    let h = rw c.in-All.is at c.in_ok-answer.ensures in
    let is : schedules_of c.in_ok-schedules-in-All.schedules.items ≡ map (events_of s.moves) (moves_of c.in-All.paths.items) =
    c.in_ok-schedules-in-All.ensures ∙ ap (λ (z : List (Vec ℕ)). map (events_of s.moves) (moves_of z)) c.as_slice.ensures.value in
    schedules_right s c.requires.sound c.args.most (λ (p : List ℕ). ⊤) (λ (es : List Event). ⊤) (moves_of c.in-All.paths.items) h
    (λ (p : List ℕ) (t : ⊤). tt) (schedules_of c.in_ok-schedules-in-All.schedules.items) is

pub returns-in_ok-schedules-in-Within : goal.returns-in_ok-schedules-in-Within
returns-in_ok-schedules-in-Within c =
    let s : Search = search_of c.args.problem.now in
    let most : ℕ = c.args.most in
    let h = rw c.in-Within.is at c.in_ok-answer.ensures in
    let is : schedules_of c.in_ok-schedules-in-Within.schedules.items ≡ map (events_of s.moves) (moves_of c.in-Within.paths.items) =
    c.in_ok-schedules-in-Within.ensures
    ∙ ap (λ (z : List (Vec ℕ)). map (events_of s.moves) (moves_of z)) c.as_slice-in-Within.ensures.value in
    schedules_right s c.requires.sound most (λ (p : List ℕ). length p ≤ most) (λ (es : List Event). length es ≤ most)
    (moves_of c.in-Within.paths.items) h (moves_within s most)
    (schedules_of c.in_ok-schedules-in-Within.schedules.items) is
