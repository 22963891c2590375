-- What a search has done where it ends.
use Rattle.std.specs.Prelude.{ℕ, ◌≡◌, ◌≤◌, List, Some, slice_get, length, reverse}
use Rattle.search_core.specs.Moves.{AreMoves, AreRising}
use Rattle.search_core.specs.Node.{IsCovered}
use Rattle.search_core.specs.Right.{IsFirst}
use Rattle.search_core.specs.declared.answers.Answer.{Answer}
use Rattle.search_core.specs.declared.answers.Answer.TheVariants.{Found, NoneWithin, NoneAtAll, NoRoom}

-- it has covered each list of moves that counts, by places that are at most so many moves away
pub record HasCovered (moves most : ℕ) (meets : List ℕ → Type 0) (code : List ℕ → List ℕ) (trails : List (List ℕ))
    (counts : List ℕ → Type 0) : Type 0 where
  pub each : (k : ℕ) (p : List ℕ) → slice_get trails k ≡ Some p → AreMoves moves p
  pub short : (k : ℕ) (p : List ℕ) → slice_get trails k ≡ Some p → length p ≤ most
  pub rising : AreRising trails
  pub covered : (q : List ℕ) → AreMoves moves q → counts q → IsCovered meets code trails q

-- what it has done where it ends with this answer; for want of room nothing is said
abbrev pub HasEnded : (moves most : ℕ) → (meets : List ℕ → Type 0) → (code : List ℕ → List ℕ) → List (List ℕ) → Answer
    → Type 0
HasEnded moves most meets code trails (Found path) = IsFirst moves meets most (reverse path.items)
HasEnded moves most meets code trails (NoneWithin places) =
    HasCovered moves most meets code trails (λ q. length q ≤ most)
HasEnded moves most meets code trails (NoneAtAll places) = HasCovered moves most meets code trails (λ q. Unit {0})
HasEnded moves most meets code trails NoRoom = Unit {0}
