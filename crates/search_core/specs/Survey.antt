-- When a survey is right: of which places it lists the moves, and which moves.
use Rattle.std.specs.Prelude.{ℕ, ◌≡◌, ◌<◌, ◌≤◌, List, map, Option, Some, IsSome, slice_get, length, reverse}
use Rattle.std.specs.Global.{Vec}
use Rattle.std.specs.Option.{option_map}
use Rattle.search_core.specs.Moves.{AreMoves, IsBefore, AreRising}
use Rattle.search_core.specs.declared.answers.Survey.{Survey}
use Rattle.search_core.specs.declared.answers.Survey.TheVariants.{All, Within, NoRoom}

-- these moves lead to a place with a label, and are at most so many; no fewer lead to one with the same, nor as many
-- that are before them
pub record IsFirstOf (moves : ℕ) (label : List ℕ → Option (List ℕ)) (most : ℕ) (p : List ℕ) : Type 0 where
  pub are_moves : AreMoves moves p
  pub within : length p ≤ most
  pub has_label : IsSome (label p)
  pub shortest : (q : List ℕ) → AreMoves moves q → label q ≡ label p → length p ≤ length q
  pub first : (q : List ℕ) → AreMoves moves q → label q ≡ label p → IsBefore q p → ⊥

-- one of the listed has this label
abbrev pub IsListed : (label : List ℕ → Option (List ℕ)) → List (List ℕ) → Option (List ℕ) → Type 0
IsListed label listed words = (k : ℕ) × (p : List ℕ) × (slice_get listed k ≡ Some p) × (label p ≡ words)

-- of the lists of moves that count, each that leads to a label leads to that of one that is listed. Each listed is the
-- first to its label, no two have the same, and they stand in the order of their moves
pub record Lists (moves : ℕ) (label : List ℕ → Option (List ℕ)) (most : ℕ) (counts : List ℕ → Type 0)
    (listed : List (List ℕ)) : Type 0 where
  pub each : (k : ℕ) (p : List ℕ) → slice_get listed k ≡ Some p → IsFirstOf moves label most p
  pub apart : (j k : ℕ) (p q : List ℕ) → slice_get listed j ≡ Some p → slice_get listed k ≡ Some q → j < k
      → label p ≡ label q → ⊥
  pub rising : AreRising listed
  pub all : (q : List ℕ) → AreMoves moves q → counts q → IsSome (label q) → IsListed label listed (label q)

-- lists of moves as clauses have them, the newest first
abbrev pub moves_of : List (Vec ℕ) → List (List ℕ)
moves_of paths = map (λ path. reverse path.items) paths

-- what each survey claims; a want of room claims nothing
abbrev pub IsSurvey : ℕ → (List ℕ → Option (List ℕ)) → ℕ → Survey → Type 0
IsSurvey moves label most (All paths places) = Lists moves label most (λ q. Unit {0}) (moves_of paths.items)
IsSurvey moves label most (Within paths places) = Lists moves label most (λ q. length q ≤ most) (moves_of paths.items)
IsSurvey moves label most NoRoom = Unit {0}

-- a label that the code has made
abbrev pub words_in : Option (Vec ℕ) → Option (List ℕ)
words_in label = option_map (λ words. words.items) label
