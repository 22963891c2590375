-- The first line that has words.
use Rattle.std.specs.Prelude.{◌≡◌, ℕ, List, [], ◌∷◌, ⊤}
use Rattle.script_lines.specs.Text.{words}

-- none of these lines has words
abbrev pub HaveNoWords : List (List ℕ) → Type 0
HaveNoWords [] = ⊤
HaveNoWords (line ∷ others) = (words line ≡ []) × HaveNoWords others
