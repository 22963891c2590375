-- A call stands where its record says.
use Rattle.std.proofs.Common.{◌≡◌, true, refl, ap, ◌∙◌}
use Rattle.std.proofs.lemmas.Bool.{eq-eqb}
use Rattle.call_slab.specs.declared.call.Place.{Place}
use Rattle.call_slab.specs.declared.call.Place.TheVariants.{Incoming, Dispatched, Answers}
use Rattle.answerbox.specs.Calls.{same_place}

pub stands_true : (place p : Place) → p ≡ place → same_place p place ≡ true
stands_true place p e = ap (λ (q : Place). same_place q place) e ∙ itself place where
  itself : (q : Place) → same_place q q ≡ true
  itself (Incoming t) = eq-eqb t.0 t.0 refl
  itself (Dispatched t) = eq-eqb t.0 t.0 refl
  itself (Answers t) = eq-eqb t.0 t.0 refl
