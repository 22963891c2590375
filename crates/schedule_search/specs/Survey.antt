-- When a survey of the states at rest is right.
use Rattle.std.specs.Prelude.{ℕ, ◌≡◌, ◌<◌, ◌≤◌, ⊤, true, List, map, Some, slice_get, length}
use Rattle.std.specs.Global.{Vec}
use Rattle.ipc_ids.specs.declared.message.Event.{Event}
use Rattle.search_core.specs.Moves.{AreMoves, IsBefore}
use Rattle.schedule_search.specs.declared.at_rest.RestingStates.{RestingStates}
use Rattle.schedule_search.specs.declared.at_rest.RestingStates.TheVariants.{All, Within, NoRoom}
use Rattle.schedule_search.specs.Search.{Search, Made, state_behind, events_of}
use Rattle.schedule_search.specs.Meeting.{is_at_rest}
use Rattle.schedule_search.specs.Code.{words_behind}

-- these events lead to a state at rest, and no fewer lead to one of the same words; nor do as many that come first in
-- the order of the moves: at the first difference they have the move of the lower number
pub record IsFirstAtRest (s : Search) (most : ℕ) (es : List Event) : Type 0 where
  pub made : Made s es
  pub within : length es ≤ most
  pub rests : is_at_rest (state_behind s es) ≡ true
  pub shortest : (others : List Event) → Made s others → words_behind s others ≡ words_behind s es
      → length es ≤ length others
  -- the numbers of their moves, of which the newest comes first
  pub numbers : List ℕ
  pub are_moves : AreMoves (length s.moves) numbers
  pub by : events_of s.moves numbers ≡ es
  pub first : (others : List ℕ) → AreMoves (length s.moves) others → Made s (events_of s.moves others)
      → words_behind s (events_of s.moves others) ≡ words_behind s es → IsBefore others numbers → ⊥

-- one of the listed leads to a state of these words
abbrev pub IsListed : Search → List (List Event) → List ℕ → Type 0
IsListed s listed words = (k : ℕ) × (es : List Event) × (slice_get listed k ≡ Some es) × (words_behind s es ≡ words)

-- of the schedules that count, each that leads to a state at rest leads to the words of one that is listed. Each listed
-- is the first to its state, and no two lead to the same words
pub record Lists (s : Search) (most : ℕ) (counts : List Event → Type 0) (listed : List (List Event)) : Type 0 where
  pub each : (k : ℕ) (es : List Event) → slice_get listed k ≡ Some es → IsFirstAtRest s most es
  pub apart : (j k : ℕ) (es others : List Event) → slice_get listed j ≡ Some es → slice_get listed k ≡ Some others
      → j < k → words_behind s es ≡ words_behind s others → ⊥
  pub all : (es : List Event) → Made s es → counts es → is_at_rest (state_behind s es) ≡ true
      → IsListed s listed (words_behind s es)

-- schedules as clauses have them
abbrev pub schedules_of : List (Vec Event) → List (List Event)
schedules_of schedules = map (λ (events : Vec Event). events.items) schedules

-- what each survey claims; a want of room claims nothing
abbrev pub IsSurvey : Search → ℕ → RestingStates → Type 0
IsSurvey s most (All schedules states) = Lists s most (λ es. ⊤) (schedules_of schedules.items)
IsSurvey s most (Within schedules states) = Lists s most (λ es. length es ≤ most) (schedules_of schedules.items)
IsSurvey s most NoRoom = ⊤
