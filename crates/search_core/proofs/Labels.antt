-- The labels of the places that are listed, as the set has them that keeps them.
use Rattle.std.proofs.Common.{ℕ, zero, suc, ◌≡◌, Bool, true, false, ◌||◌, List, [], ◌∷◌, ◌++◌, map, Option, None, Some, slice_get, refl, sym, ◌∙◌, ap, inl, inr}
use Rattle.std.specs.Global.{Vec}
use Rattle.std.specs.List.{list_any}
use Rattle.std.specs.Str.{bytes_eq}
use Rattle.std.proofs.lemmas.Bool.{false≢true, both_ways, or_cases, or_parts}
use Rattle.std.proofs.lemmas.List.{map_push}
use Rattle.std.proofs.lemmas.Option.{none-some, same_Some}
use Rattle.std.proofs.lemmas.Slice.Eq.{bytes_eq-Decides}
use Rattle.search_core.specs.Survey.{IsListed}
use Rattle.search_core.specs.Picked.{AreLabels}

-- whether a label has these words
abbrev has : List ℕ → Option (List ℕ) → Bool
has words None = false
has words (Some other) = bytes_eq words other

has_is : (words : List ℕ) (o : Option (List ℕ)) → has words o ≡ true → o ≡ Some words
has_is words None h = absurd (false≢true h)
has_is words (Some other) h = ap Some (sym ((bytes_eq-Decides words other).0 h))

has_own : (words : List ℕ) (o : Option (List ℕ)) → o ≡ Some words → has words o ≡ true
has_own words o e = ap (has words) e ∙ (bytes_eq-Decides words words).1 refl

through : (words : List ℕ) (labels : List (Vec ℕ)) → list_any (λ (v : Vec ℕ). bytes_eq words v.items) labels
    ≡ list_any (has words) (map (λ (v : Vec ℕ). Some v.items) labels)
through words [] = refl
through words (v ∷ labels) = ap (λ (b : Bool). bytes_eq words v.items || b) (through words labels)

module _ (label : List ℕ → Option (List ℕ)) (words : List ℕ) where
  any_by : (p : List ℕ) (listed : List (List ℕ)) → IsListed label listed (Some words)
      → IsListed label (p ∷ listed) (Some words)
  any_by p listed s = (suc s.0, s.1, s.2, s.3)

  any_listed : (listed : List (List ℕ)) → list_any (has words) (map label listed) ≡ true
      → IsListed label listed (Some words)
  any_listed [] h = absurd (false≢true h)
  any_listed (p ∷ listed) h =
      elim (or_cases (has words (label p)) (list_any (has words) (map label listed)) h) [
        | inl e ↦ (zero, p, refl, has_is words (label p) e)
        | inr e ↦ any_by p listed (any_listed listed e)
      ]

  none_listed : (listed : List (List ℕ)) → list_any (has words) (map label listed) ≡ false
      → (k : ℕ) (p : List ℕ) → slice_get listed k ≡ Some p → label p ≡ Some words → ⊥
  none_listed [] h k p e f = none-some p e
  none_listed (a ∷ listed) h zero p e f =
      both_ways (has words (label a)) (or_parts (has words (label a)) (list_any (has words) (map label listed)) h).0
      (has_own words (label a) (ap label (same_Some a p e) ∙ f))
  none_listed (a ∷ listed) h (suc k) p e f =
      none_listed listed (or_parts (has words (label a)) (list_any (has words) (map label listed)) h).1 k p e f

module _ (label : List ℕ → Option (List ℕ)) (listed : List (List ℕ)) (labels : List (Vec ℕ))
    (known : AreLabels label listed labels) (v : Vec ℕ) where
  same_test : list_any (has v.items) (map label listed) ≡ list_any (λ (w : Vec ℕ). bytes_eq v.items w.items) labels
  same_test = ap (list_any (has v.items)) (sym known) ∙ sym (through v.items labels)

  -- a label that is among them is that of one that is listed
  pub label_is_listed : list_any (λ (w : Vec ℕ). bytes_eq v.items w.items) labels ≡ true
      → IsListed label listed (Some v.items)
  label_is_listed h = any_listed label v.items listed (same_test ∙ h)

  -- and one that is not is that of none
  pub label_is_new : list_any (λ (w : Vec ℕ). bytes_eq v.items w.items) labels ≡ false
      → (k : ℕ) (p : List ℕ) → slice_get listed k ≡ Some p → label p ≡ Some v.items → ⊥
  label_is_new h = none_listed label v.items listed (same_test ∙ h)

  -- it is kept beside the place
  pub label_added : (p : List ℕ) → Some v.items ≡ label p → AreLabels label (listed ++ p ∷ []) (labels ++ v ∷ [])
  label_added p e =
      map_push (λ (w : Vec ℕ). Some w.items) labels v
      ∙ ap (λ (z : List (Option (List ℕ))). z ++ Some v.items ∷ []) known
      ∙ ap (λ (z : Option (List ℕ)). map label listed ++ z ∷ []) e
      ∙ sym (map_push label listed p)
