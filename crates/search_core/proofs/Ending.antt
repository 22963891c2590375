-- What is right where a search ends.
use Rattle.std.proofs.Common.{ℕ, ◌≤◌, List, length}
use Rattle.search_core.specs.Moves.{AreMoves}
use Rattle.search_core.specs.Right.{IsRight}
use Rattle.search_core.specs.Ended.{HasEnded}
use Rattle.search_core.specs.declared.answers.Answer.{Answer}
use Rattle.search_core.specs.declared.answers.Answer.TheVariants.{Found, NoneWithin, NoneAtAll, NoRoom}

pub right_when_ended : (moves most : ℕ) (meets : List ℕ → Type 0) (code : List ℕ → List ℕ) (trails : List (List ℕ))
    (answer : Answer) → HasEnded moves most meets code trails answer → IsRight moves meets most answer
right_when_ended moves most meets code trails (Found path) h = h
right_when_ended moves most meets code trails (NoneWithin places) h =
    λ (q : List ℕ) (d : AreMoves moves q) (l : length q ≤ most). (h.covered q d l).unmet
right_when_ended moves most meets code trails (NoneAtAll places) h =
    λ (q : List ℕ) (d : AreMoves moves q). (h.covered q d tt).unmet
right_when_ended moves most meets code trails NoRoom h = tt
