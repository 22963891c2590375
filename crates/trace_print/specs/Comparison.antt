-- A line that is compared with a text.
use Rattle.std.specs.Prelude.{ℕ, List, ◌∷◌, ◌++◌, length, take}

-- the line after its length, and what was written: so much of the line, and then other bytes
abbrev pub compared : List ℕ → ℕ → List ℕ → List ℕ
compared line same other = length line ∷ line ++ (take same line ++ other)
