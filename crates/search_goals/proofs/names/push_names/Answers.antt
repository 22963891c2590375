use Rattle.std.proofs.Common.{◌≡◌, ◌<◌, false, List, [], ◌∷◌, ◌++◌, ℕ, length, take, sym, ap, subst, ◌∙◌}
use Rattle.std.specs.Global.{Vec}
use Rattle.std.proofs.lemmas.List.{map_push, take_more, take_all}
use Rattle.search_goals.specs.Goals.{listed}
use Rattle.std.specs.Prelude.{is_some}
use Rattle.script_lines.specs.Names.{place_of}
use Rattle.search_goals.proofs.NameWords.{new_listed, room_at}
use Rattle.search_goals.proofs.names.push_names.Goals as goal

pub push-requires-clause-new : goal.push-requires-clause-new
push-requires-clause-new c =
    subst (λ (n : List ℕ). is_some (place_of c.loop-name.table n) ≡ false) (sym c.as_slice.ensures.value)
    (subst (λ (ns : List (List ℕ)). is_some (place_of ns c.name-item.result.items) ≡ false) (sym c.loop-name.invariant)
    (new_listed c.args.known.now c.loop-name.name-index c.name-item.result c.requires.names c.loop-name-test.true c.name-item.is))

pub loop-name-preserved : goal.loop-name-preserved
loop-name-preserved c =
    let known = c.args.known.now in
    let i : ℕ = c.loop-name.name-index in
    let name : Vec ℕ = c.name-item.result in
    c.in_ok-push.ensures
    ∙ ap (λ (ns : List (List ℕ)). ns ++ c.as_slice.result.now ∷ []) c.loop-name.invariant
    ∙ ap (λ (n : List ℕ). listed (take i known) ++ n ∷ []) c.as_slice.ensures.value
    ∙ sym (map_push (λ (w : Vec ℕ). w.items) (take i known) name)
    ∙ ap (λ (w : Vec ℕ). listed (take i known ++ w ∷ [])) c.name-item.is
    ∙ sym (ap listed (take_more known i name c.loop-name-test.true))

pub push-requires-clause-room : goal.push-requires-clause-room
push-requires-clause-room c =
    subst (λ (ns : List (List ℕ)). length ns < 64) (sym c.loop-name.invariant)
    (room_at c.args.known.now c.loop-name.name-index c.requires.names c.loop-name-test.true)

pub returns : goal.returns
returns c = c.loop-name.invariant ∙ ap listed (take_all c.loop-name.name-index c.args.known.now c.loop-name-test.false)

pub loop-name-init : goal.loop-name-init
loop-name-init c = c.requires.none
