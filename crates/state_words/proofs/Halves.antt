-- The words of a list that is held in two parts.
use Rattle.std.proofs.Common.{ℕ, ◌≡◌, ◌+◌, List, ◌∷◌, ◌++◌, [], length, length-append, append_assoc, sym, ap, ◌∙◌}
use Rattle.std.specs.List.{flat_map}
use Rattle.std.proofs.lemmas.Grind.{flat_map-append}
use Rattle.state_words.specs.Words.{list_words}

-- how many there are in both, the words of the one part, and those of the other
pub in_halves : {A : Type 0} (words : A → List ℕ) (front back : List A) (out : List ℕ) →
    ((out ++ (length front + length back) ∷ []) ++ flat_map words front) ++ flat_map words back
    ≡ out ++ list_words words (front ++ back)
in_halves words front back out =
    append_assoc (out ++ (length front + length back) ∷ []) (flat_map words front) (flat_map words back)
    ∙ append_assoc out ((length front + length back) ∷ []) (flat_map words front ++ flat_map words back)
    ∙ ap (λ (n : ℕ). out ++ n ∷ (flat_map words front ++ flat_map words back)) (sym (length-append front back))
    ∙ ap (λ (ws : List ℕ). out ++ length (front ++ back) ∷ ws) (sym (flat_map-append words front back))
