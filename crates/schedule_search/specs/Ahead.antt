-- Steps behind events, by their numbers, and what a search for those that close a call rests on.
use Rattle.std.specs.Prelude.{ℕ, ◌≡◌, ◌+◌, false, List, [], ◌∷◌, ◌++◌, None, length}
use Rattle.ipc_ids.specs.declared.message.Event.{Event}
use Rattle.ipc_ids.specs.declared.message.Event.TheVariants.{Step}
use Rattle.answerbox.specs.Calls.{call_at}
use Rattle.task_system.specs.Run.{RunState, state_after, MayAllHappen}
use Rattle.run_words.specs.RunWords.{run_words}
use Rattle.search_core.specs.Moves.{AreMoves}
use Rattle.schedule_search.specs.Search.{Search, state_behind}
use Rattle.schedule_search.specs.OpenCalls.{is_open}
use Rattle.schedule_search.specs.Problem.{CanDo}

-- the steps of tasks by their numbers, from 0 on, of which the newest comes first
abbrev pub steps_of : List ℕ → List Event
steps_of [] = []
steps_of (m ∷ p) = steps_of p ++ Step (record { 0 = m + 1 }) ∷ []

-- the state behind these steps
abbrev pub ahead : RunState → List ℕ → RunState
ahead now p = state_after now (steps_of p)

-- call n is not open there
abbrev pub IsClosed : RunState → ℕ → List ℕ → Type 0
IsClosed now n p = is_open None (call_at (ahead now p).kernel.calls n) ≡ false

-- what a search for steps that close call n rests on, behind events that leave so many tasks: the events can be done,
-- and so can steps behind them; from states of the same words each step leads to such, and closes the call at both
pub record FitsAhead (s : Search) (es : List Event) (tasks n : ℕ) : Type 0 where
  pub can : CanDo s es
  pub count : tasks ≡ length (state_behind s es).kernel.tasks.alive
  pub may : (p : List ℕ) → AreMoves tasks p → MayAllHappen (state_behind s es) (steps_of p)
  pub words_go_on : (p q : List ℕ) (m : ℕ) → AreMoves tasks (m ∷ p) → AreMoves tasks (m ∷ q)
      → run_words (ahead (state_behind s es) p) ≡ run_words (ahead (state_behind s es) q)
      → run_words (ahead (state_behind s es) (m ∷ p)) ≡ run_words (ahead (state_behind s es) (m ∷ q))
  pub goal_goes_on : (p q : List ℕ) (m : ℕ) → AreMoves tasks (m ∷ p) → AreMoves tasks (m ∷ q)
      → run_words (ahead (state_behind s es) p) ≡ run_words (ahead (state_behind s es) q)
      → IsClosed (state_behind s es) n (m ∷ p) → IsClosed (state_behind s es) n (m ∷ q)
