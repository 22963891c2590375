use Rattle.std.proofs.Common.{◌≡◌, Bool, true, false, ◌&&◌, None, Some, ap, sym, ◌∙◌}
use Rattle.std.specs.Prelude.{if◌then◌else◌}
use Rattle.task_system.specs.Run.{RunState}
use Rattle.schedule_search.specs.Search.{Search, state_behind}
use Rattle.schedule_search.specs.Meeting.{is_at_rest}
use Rattle.schedule_search.specs.Code.{words_behind}
use Rattle.schedule_search.specs.Problem.{search_of}
use Rattle.schedule_search.proofs.Resters.{words_of_rest}
use Rattle.schedule_search.proofs.Visiting.{told_of}
use Rattle.schedule_search.proofs.rest.words_at_rest.Goals as goal

pub returns-then-not-rests : goal.returns-then-not-rests
returns-then-not-rests c =
    let s : Search = search_of c.args.problem.now in
    let now : RunState = state_behind s c.args.events.now in
    let moves : is_at_rest now ≡ false =
    ap is_at_rest (sym c.in_ok-lead.ensures.state) ∙ sym c.in_ok-rests.ensures ∙ c.if-not-rests.true in
    ap (λ (z : Bool). if z then Some (words_behind s c.args.events.now) else None) (sym moves)
    ∙ ap (λ (z : Bool). if z && is_at_rest now then Some (words_behind s c.args.events.now) else None) (sym c.requires.can.tried)

pub returns : goal.returns
returns c =
    let s : Search = search_of c.args.problem.now in
    let now : RunState = state_behind s c.args.events.now in
    let still : is_at_rest now ≡ true =
    ap is_at_rest (sym c.in_ok-lead.ensures.state) ∙ sym c.in_ok-rests.ensures ∙ c.if-not-rests.false in
    ap Some (c.in_ok-words.ensures ∙ ap (told_of s c.args.events.now) c.in_ok-lead.ensures.state)
    ∙ sym (words_of_rest s c.args.events.now c.requires.can.tried still)
