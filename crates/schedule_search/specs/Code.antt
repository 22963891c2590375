-- The code of a state behind events, by which those are told apart that do not go on alike.
use Rattle.std.specs.Prelude.{ℕ, ◌≡◌, ◌&&◌, List, [], ◌∷◌, ◌++◌, length, Option, None, Some, if◌then◌else◌}
use Rattle.ipc_ids.specs.declared.message.Event.{Event}
use Rattle.run_words.specs.Reached.{spawns_of}
use Rattle.run_words.specs.RunWords.{run_words}
use Rattle.search_core.specs.Moves.{AreMoves}
use Rattle.schedule_search.specs.Search.{Search, IsSound, kills_in, may_try, state_behind, events_of}
use Rattle.schedule_search.specs.Meeting.{is_at_rest, Finds}
use Rattle.schedule_search.specs.Left.{left_behind}

-- how many kills a code tells of: where any number may come, of none
abbrev pub counted : Option ℕ → ℕ → ℕ
counted None kills = 0
counted (Some most) kills = kills

-- the templates of the tasks that these events make, and the words of the state behind them: states are told apart by
-- these
abbrev pub words_behind : Search → List Event → List ℕ
words_behind s es = length (spawns_of es) ∷ (spawns_of es ++ run_words (state_behind s es))

-- how many goals are left of those that come before the last
abbrev pub goals_left : Search → List Event → ℕ
goals_left s es = length (left_behind s es).goals

-- the same with the kills among the events and the goals that are left; nothing where they may not be tried
abbrev pub code_behind : Search → List Event → List ℕ
code_behind s es =
    if may_try s es then counted s.kills (kills_in es) ∷ (goals_left s es ∷ words_behind s es) else []

-- the words of the state behind these events, where they may be tried and no step of a task changes anything there
abbrev pub rest_words : Search → List Event → Option (List ℕ)
rest_words s es =
    if may_try s es && is_at_rest (state_behind s es) then Some (words_behind s es) else None

-- what the search rests on: it is sound, from states of one code each move leads to states of one code, and where it
-- leads to what is looked for from one it does from both, and such states are at rest with the same words, or are not
pub record Fits (s : Search) : Type 0 where
  pub sound : IsSound s
  pub code_goes_on : (p q : List ℕ) (m : ℕ) → AreMoves (length s.moves) (m ∷ p) → AreMoves (length s.moves) (m ∷ q)
      → code_behind s (events_of s.moves p) ≡ code_behind s (events_of s.moves q)
      → code_behind s (events_of s.moves (m ∷ p)) ≡ code_behind s (events_of s.moves (m ∷ q))
  pub goal_goes_on : (p q : List ℕ) (m : ℕ) → AreMoves (length s.moves) (m ∷ p) → AreMoves (length s.moves) (m ∷ q)
      → code_behind s (events_of s.moves p) ≡ code_behind s (events_of s.moves q)
      → Finds s (events_of s.moves (m ∷ p)) → Finds s (events_of s.moves (m ∷ q))
  pub rest_alike : (p q : List ℕ) → AreMoves (length s.moves) p → AreMoves (length s.moves) q
      → code_behind s (events_of s.moves p) ≡ code_behind s (events_of s.moves q)
      → rest_words s (events_of s.moves p) ≡ rest_words s (events_of s.moves q)
