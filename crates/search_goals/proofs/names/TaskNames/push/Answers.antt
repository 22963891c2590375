use Rattle.std.proofs.Common.{List, ℕ, ◌∷◌, ◌++◌, [], sym, ap, subst, ◌∙◌}
use Rattle.std.specs.Global.{Vec}
use Rattle.std.proofs.lemmas.List.{map_push}
use Rattle.search_goals.specs.Goals.{listed}
use Rattle.search_goals.specs.Writing.{AreNames}
use Rattle.search_goals.proofs.NameWords.{one_more_name}
use Rattle.search_goals.proofs.names.TaskNames.push.Goals as goal

pub invariant_of-self-2 : goal.invariant_of-self-2
invariant_of-self-2 c =
    let now : List (List ℕ) = c.args.self.now in
    let here = c.self.view_is in
    subst AreNames
    (sym (ap listed c.in_ok-push.ensures.items
    ∙ map_push (λ (w : Vec ℕ). w.items) c.self.inside.known.items c.in_ok-name.name
    ∙ ap (λ (ns : List (List ℕ)). ns ++ c.in_ok-name.name.items ∷ []) here
    ∙ ap (λ (n : List ℕ). now ++ n ∷ []) c.in_ok-name.ensures.items))
    (one_more_name now c.args.name.now (subst AreNames here c.self.invariant) c.requires.good c.requires.new c.requires.room)
