use Rattle.std.proofs.Common.{ℕ, ◌≡◌, ◌+◌, ◌∷◌, ◌++◌, [], ◌∙◌, List, Some, length, map, take, get_or, reverse, slice_get, refl, sym, ap, subst}
use Rattle.std.specs.Global.{Vec}
use Rattle.std.proofs.lemmas.List.{map_more, map_push, take_all}
use Rattle.std.proofs.lemmas.Option.{slice_get_read}
use Rattle.ipc_ids.specs.declared.message.Event.{Event}
use Rattle.search_core.specs.Moves.{AreMoves}
use Rattle.search_core.specs.Survey.{moves_of}
use Rattle.schedule_search.specs.Search.{events_of}
use Rattle.schedule_search.specs.Survey.{schedules_of}
use Rattle.schedule_search.proofs.Resters.{at_made}
use Rattle.schedule_search.proofs.at_rest.schedules_by.Goals as goal

pub events_by-requires : goal.events_by-requires
events_by-requires c =
    let path : Vec ℕ = c.path-item.result in
    let at : slice_get c.args.paths.now c.loop-path.path-index ≡ Some path =
    slice_get_read c.args.paths.now (length c.args.paths.now) c.loop-path.path-index path refl c.loop-path-test.true c.path-item.is in
    let moves : AreMoves (length c.args.moves.now) (reverse path.items) =
    c.requires c.loop-path.path-index (reverse path.items) (at_made (λ (v : Vec ℕ). reverse v.items) c.args.paths.now c.loop-path.path-index path at) in
    subst (λ (z : List ℕ). AreMoves (length c.args.moves.now) (reverse z)) (sym c.as_slice.ensures.value) moves

pub loop-path-preserved : goal.loop-path-preserved
loop-path-preserved c =
    let f : List ℕ → List Event = events_of c.args.moves.now in
    let g : Vec ℕ → List ℕ = λ (v : Vec ℕ). reverse v.items in
    let path : Vec ℕ = c.path-item.result in
    let i : ℕ = c.loop-path.path-index in
    let more : moves_of (take (i + 1) c.args.paths.now) ≡ moves_of (take i c.args.paths.now) ++ g (get_or c.args.paths.now i path) ∷ [] =
    map_more g c.args.paths.now i path c.loop-path-test.true in
    let item : g (get_or c.args.paths.now i path) ≡ g path = ap g (sym c.path-item.is) in
    let events : c.in_ok-events.events.items ≡ f (g path) =
    c.in_ok-events.ensures ∙ ap (λ (z : List ℕ). f (reverse z)) c.as_slice.ensures.value in
    ap schedules_of c.in_ok-push.ensures.items
    ∙ map_push (λ (v : Vec Event). v.items) c.loop-path.schedules.items c.in_ok-events.events
    ∙ ap (λ (z : List (List Event)). z ++ c.in_ok-events.events.items ∷ []) c.loop-path.invariant
    ∙ ap (λ (z : List Event). map f (moves_of (take i c.args.paths.now)) ++ z ∷ []) (events ∙ ap f (sym item))
    ∙ sym (map_push f (moves_of (take i c.args.paths.now)) (g (get_or c.args.paths.now i path)))
    ∙ ap (map f) (sym more)

pub returns : goal.returns
returns c =
    c.loop-path.invariant
    ∙ ap (λ (z : List (Vec ℕ)). map (events_of c.args.moves.now) (moves_of z))
    (take_all c.loop-path.path-index c.args.paths.now c.loop-path-test.false)
