-- Which of the places that were seen a survey lists.
use Rattle.std.specs.Prelude.{ℕ, ◌≡◌, ◌<◌, List, map, Option, Some, IsSome, slice_get}
use Rattle.std.specs.Global.{Vec}
use Rattle.search_core.specs.Moves.{AreRising}
use Rattle.search_core.specs.Survey.{IsListed}

-- these moves lead to a place before number n that has a label, and no place before it has the same
pub record IsPicked (label : List ℕ → Option (List ℕ)) (trails : List (List ℕ)) (n : ℕ) (p : List ℕ) : Type 0 where
  pub at : ℕ
  pub below : at < n
  pub there : slice_get trails at ≡ Some p
  pub has_label : IsSome (label p)
  pub new : (j : ℕ) (a : List ℕ) → slice_get trails j ≡ Some a → j < at → label a ≡ label p → ⊥

-- so do all that are listed, and each label of a place before number n is that of one of them
pub record ArePicked (label : List ℕ → Option (List ℕ)) (trails : List (List ℕ)) (n : ℕ) (listed : List (List ℕ))
    : Type 0 where
  pub each : (k : ℕ) (p : List ℕ) → slice_get listed k ≡ Some p → IsPicked label trails n p
  pub rising : AreRising listed
  pub all : (j : ℕ) (p : List ℕ) → slice_get trails j ≡ Some p → j < n → IsSome (label p)
      → IsListed label listed (label p)

-- these are the labels of the listed
abbrev pub AreLabels : (label : List ℕ → Option (List ℕ)) → List (List ℕ) → List (Vec ℕ) → Type 0
AreLabels label listed labels = map (λ (words : Vec ℕ). Some words.items) labels ≡ map label listed

-- so far these are picked, and these labels are kept
pub record HasPicked (label : List ℕ → Option (List ℕ)) (trails : List (List ℕ)) (n : ℕ) (listed : List (List ℕ))
    (labels : List (Vec ℕ)) : Type 0 where
  pub picked : ArePicked label trails n listed
  pub kept : AreLabels label listed labels
