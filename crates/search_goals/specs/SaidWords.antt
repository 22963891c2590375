-- What the words of a goal say, each by itself.
use Rattle.std.specs.Prelude.{ℕ, ◌≡◌, ⊤, List, [], ◌∷◌, Ok}
use Rattle.search_goals.specs.GoalText.{word_in}

-- these words say those, which are asked for
abbrev pub AreSaid : (names : List (List ℕ)) → (words asked : List (List ℕ)) → Type 0
AreSaid names [] [] = ⊤
AreSaid names [] (a ∷ asked) = ⊥
AreSaid names (word ∷ words) [] = ⊥
AreSaid names (word ∷ words) (a ∷ asked) = (word_in names word ≡ Ok a) × AreSaid names words asked
