use Rattle.std.proofs.Common.{ℕ, ◌≡◌, ◌∙◌, List, Option, None, Some, false, true, reverse, sym, ap, subst, arith}
use Rattle.std.specs.Global.{Vec}
use Rattle.std.specs.List.{list_any}
use Rattle.std.specs.Str.{bytes_eq}
use Rattle.std.proofs.lemmas.Bool.{not-true, not-false, cond-true, cond-false}
use Rattle.std.proofs.lemmas.List.{length-reverse, map_push}
use Rattle.search_core.specs.Moves.{AreMoves}
use Rattle.search_core.specs.Node.{trails_of}
use Rattle.search_core.specs.Survey.{moves_of, words_in}
use Rattle.search_core.proofs.Placing.{past_unlabelled, past_known, past_new}
use Rattle.search_core.proofs.surveys.pick_place.Goals as goal

pub label-requires-clause-few : goal.label-requires-clause-few
label-requires-clause-few g c =
    let p = c.requires.places.each c.args.at (reverse c.in_ok-path.path.items) c.in_ok-path.ensures in
    let e = length-reverse c.in_ok-path.path.items in
    rw c.as_slice.ensures.value (omega (arith, p.1, e))

pub label-requires-clause-moves : goal.label-requires-clause-moves
label-requires-clause-moves g c =
    let p = c.requires.places.each c.args.at (reverse c.in_ok-path.path.items) c.in_ok-path.ensures in
    subst (λ (z : List ℕ). AreMoves (g.M.Maze.moves c.args.maze.now) (reverse z)) (sym c.as_slice.ensures.value) p.0

pub returns-in_default : goal.returns-in_default
returns-in_default g c =
    let label : List ℕ → Option (List ℕ) = g.M.Labelled.label c.args.maze.now in
    let none : label (reverse c.in_ok-path.path.items) ≡ None =
    ap (λ (z : List ℕ). label (reverse z)) (sym c.as_slice.ensures.value) ∙ sym c.in_ok-label.ensures
    ∙ ap words_in c.in_default.is in
    past_unlabelled label (trails_of c.args.nodes.now.later.items) c.args.at (moves_of c.args.paths.now.items)
    c.args.labels.now.keys c.requires.so_far (reverse c.in_ok-path.path.items) c.in_ok-path.ensures none

pub returns-then-not-is_new : goal.returns-then-not-is_new
returns-then-not-is_new g c =
    let label : List ℕ → Option (List ℕ) = g.M.Labelled.label c.args.maze.now in
    let p : List ℕ = reverse c.in_ok-path.path.items in
    let v : Vec ℕ = c.in-Some.label in
    let is : Some v.items ≡ label p =
    sym (ap words_in c.in-Some.is) ∙ c.in_ok-label.ensures
    ∙ ap (λ (z : List ℕ). label (reverse z)) c.as_slice.ensures.value in
    let among : list_any (λ (w : Vec ℕ). bytes_eq v.items w.items) c.args.labels.now.keys ≡ true =
    not-false _ (sym c.in_ok-is_new.ensures.added ∙ c.if-not-is_new.true) in
    past_known label (trails_of c.args.nodes.now.later.items) c.args.at (moves_of c.args.paths.now.items)
    c.args.labels.now.keys c.requires.so_far p c.in_ok-path.ensures v is c.insert.new.self.keys among
    (c.in_ok-is_new.ensures.keys ∙ cond-true _ _ _ among)

pub returns : goal.returns
returns g c =
    let label : List ℕ → Option (List ℕ) = g.M.Labelled.label c.args.maze.now in
    let p : List ℕ = reverse c.in_ok-path.path.items in
    let v : Vec ℕ = c.in-Some.label in
    let is : Some v.items ≡ label p =
    sym (ap words_in c.in-Some.is) ∙ c.in_ok-label.ensures
    ∙ ap (λ (z : List ℕ). label (reverse z)) c.as_slice.ensures.value in
    let not_among : list_any (λ (w : Vec ℕ). bytes_eq v.items w.items) c.args.labels.now.keys ≡ false =
    not-true _ (sym c.in_ok-is_new.ensures.added ∙ c.if-not-is_new.false) in
    past_new label (trails_of c.args.nodes.now.later.items) c.args.at (moves_of c.args.paths.now.items)
    c.args.labels.now.keys c.requires.so_far p c.in_ok-path.ensures v is c.insert.new.self.keys c.requires.places.rising
    not_among (c.in_ok-is_new.ensures.keys ∙ cond-false _ _ _ not_among) (moves_of c.push.new.self.items)
    (ap moves_of c.in_ok-push.ensures.items
    ∙ map_push (λ (w : Vec ℕ). reverse w.items) c.args.paths.now.items c.in_ok-path.path)
