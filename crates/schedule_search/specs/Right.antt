-- When the outcome of a search is right.
use Rattle.std.specs.Prelude.{ℕ, ◌≡◌, ◌≤◌, ⊤, List, length}
use Rattle.ipc_ids.specs.declared.message.Event.{Event}
use Rattle.search_core.specs.Moves.{AreMoves, IsBefore}
use Rattle.schedule_search.specs.declared.outcome.Outcome.{Outcome}
use Rattle.schedule_search.specs.declared.outcome.Outcome.TheVariants.{Found, NoneWithin, NoneAtAll, NoRoom}
use Rattle.schedule_search.specs.Search.{Search, events_of}
use Rattle.schedule_search.specs.Meeting.{Finds}

-- these events lead to what is looked for, and no fewer do; nor do as many that come first in the order of the moves:
-- at the first difference they have the move of the lower number
pub record IsFirst (s : Search) (most : ℕ) (es : List Event) : Type 0 where
  pub finds : Finds s es
  pub within : length es ≤ most
  pub shortest : (others : List Event) → Finds s others → length es ≤ length others
  -- the numbers of their moves, of which the newest comes first
  pub numbers : List ℕ
  pub are_moves : AreMoves (length s.moves) numbers
  pub by : events_of s.moves numbers ≡ es
  pub first : (others : List ℕ) → AreMoves (length s.moves) others → Finds s (events_of s.moves others)
      → IsBefore others numbers → ⊥

-- what each outcome claims; a want of room claims nothing
abbrev pub IsRight : Search → ℕ → Outcome → Type 0
IsRight s most (Found events) = IsFirst s most events.items
IsRight s most (NoneWithin states) = (es : List Event) → length es ≤ most → Finds s es → ⊥
IsRight s most (NoneAtAll states) = (es : List Event) → Finds s es → ⊥
IsRight s most NoRoom = ⊤
