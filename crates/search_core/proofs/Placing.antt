-- How a survey goes past one place: it has no label, one that is listed, or one that is new.
use Rattle.std.proofs.Common.{ℕ, ◌≡◌, ◌+◌, List, [], ◌∷◌, ◌++◌, true, false, Option, None, Some, slice_get, sym, ◌∙◌, ap, subst}
use Rattle.std.specs.Prelude.{IsSome, is_some}
use Rattle.std.specs.Global.{Vec}
use Rattle.std.specs.List.{list_any}
use Rattle.std.specs.Str.{bytes_eq}
use Rattle.search_core.specs.Moves.{AreRising}
use Rattle.search_core.specs.Survey.{IsListed}
use Rattle.search_core.specs.Picked.{HasPicked}
use Rattle.search_core.proofs.Picking.{unlabelled, known, added}
use Rattle.search_core.proofs.Labels.{label_is_listed, label_is_new, label_added}

module _ (label : List ℕ → Option (List ℕ)) (trails : List (List ℕ)) (n : ℕ) (listed : List (List ℕ))
    (labels : List (Vec ℕ)) (so_far : HasPicked label trails n listed labels) (p : List ℕ)
    (there : slice_get trails n ≡ Some p) where
  pub past_unlabelled : label p ≡ None → HasPicked label trails (n + 1) listed labels
  past_unlabelled none =
      record { picked = unlabelled label trails n listed p so_far.picked there none; kept = so_far.kept }

  module _ (v : Vec ℕ) (is : Some v.items ≡ label p) (new : List (Vec ℕ)) where
    pub past_known : list_any (λ (w : Vec ℕ). bytes_eq v.items w.items) labels ≡ true → new ≡ labels
        → HasPicked label trails (n + 1) listed new
    past_known among same =
        let here : IsListed label listed (label p) =
        subst (λ (z : Option (List ℕ)). IsListed label listed z) is
        (label_is_listed label listed labels so_far.kept v among) in
        subst (λ (z : List (Vec ℕ)). HasPicked label trails (n + 1) listed z) (sym same)
        (record { picked = known label trails n listed p so_far.picked there here; kept = so_far.kept })

    pub past_new : AreRising trails → list_any (λ (w : Vec ℕ). bytes_eq v.items w.items) labels ≡ false
        → new ≡ labels ++ v ∷ [] → (all : List (List ℕ)) → all ≡ listed ++ p ∷ [] → HasPicked label trails (n + 1) all new
    past_new rising not_among more all next =
        let has : IsSome (label p) = sym (ap is_some is) in
        let fresh : (k : ℕ) (a : List ℕ) → slice_get listed k ≡ Some a → label a ≡ label p → ⊥ =
        λ (k : ℕ) (a : List ℕ) (f : slice_get listed k ≡ Some a) (s : label a ≡ label p).
        label_is_new label listed labels so_far.kept v not_among k a f (s ∙ sym is) in
        subst (λ (z : List (List ℕ)). HasPicked label trails (n + 1) z new) (sym next)
        (subst (λ (z : List (Vec ℕ)). HasPicked label trails (n + 1) (listed ++ p ∷ []) z) (sym more)
        (record {
          picked = added label trails rising n listed p so_far.picked there has fresh;
          kept = label_added label listed labels so_far.kept v p is;
        }))
