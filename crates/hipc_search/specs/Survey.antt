-- How the states at rest that a survey lists are written.
use Rattle.std.specs.Prelude.{ℕ, ◌≡◌, ◌+◌, List, [], ◌∷◌, ◌++◌, length, Option, None, Some, Ok, codes, decimal}
use Rattle.ipc_ids.specs.declared.message.Event.{Event}
use Rattle.ipc_ids.specs.declared.message.Outcome.{Outcome}
use Rattle.ipc_ids.specs.declared.entry.Entry.{Entry}
use Rattle.task_system.specs.Run.{run}
use Rattle.trace_print.specs.Text.{outcome_text}
use Rattle.search_goals.specs.Lines.{comment_text}
use Rattle.schedule_search.specs.Search.{Search}
use Rattle.hipc_search.specs.Schedule.{found_comment, events_and_names}
use Rattle.hipc_search.specs.Told.{last_outcome}

-- ---- the lines

-- `state K of N`
abbrev pub state_name : (place count : ℕ) → List ℕ
state_name place count = codes "state " ++ decimal place ++ codes " of " ++ decimal count

-- `# state K of N: M events`: the state of this place, of so many, and how many events lead to it
abbrev pub heading : (place count events : ℕ) → List ℕ
heading place count events = comment_text (found_comment (state_name place count) events)

-- an outcome as a trace has it
abbrev pub outcome_words : Option Outcome → List ℕ
outcome_words None = codes "no outcome"
outcome_words (Some outcome) = codes "= " ++ outcome_text outcome

-- the line of a task of this name, with its last outcome
abbrev pub outcome_line : List ℕ → Option Outcome → List ℕ
outcome_line name outcome = codes "#   " ++ (name ++ (codes ": " ++ (outcome_words outcome ++ codes "\n")))

-- the lines of tasks of these names, of which the first has number t, after a run that told these entries
abbrev pub outcome_lines : (t : ℕ) → List (List ℕ) → List Entry → List ℕ
outcome_lines t [] told = []
outcome_lines t (name ∷ names) told = outcome_line name (last_outcome t told) ++ outcome_lines (t + 1) names told

abbrev pub counts_end : (listed states : ℕ) → List ℕ
counts_end listed states = decimal listed ++ codes " of " ++ decimal states ++ codes " states\n"

-- so many states at rest are all that there are, among so many states
abbrev pub all_line : (listed states : ℕ) → List ℕ
all_line listed states = codes "# all states at rest, of any length: " ++ counts_end listed states

abbrev pub all_within_start : ℕ → List ℕ
all_within_start most = codes "# all states at rest within " ++ decimal most ++ codes " events: "

-- so many are all to which schedules of so many events lead; so many states were seen
abbrev pub all_within_line : (most listed states : ℕ) → List ℕ
all_within_line most listed states = all_within_start most ++ counts_end listed states

-- ---- the states

-- the text of a state: its heading, the bytes that come first, lines, and what each task was told last, of the script
-- and of those that were made. As a schedule the heading, the bytes and the lines have the events that come first, and
-- then these; behind them the tasks have these names
pub record IsState (s : Search) (before : List ℕ) (place count : ℕ) (es : List Event) (text : List ℕ) : Type 0 where
  pub lines : List ℕ
  pub names : List (List ℕ)
  pub parts : text ≡ heading place count (length es)
      ++ (before ++ (lines ++ outcome_lines 1 names (run s.plan (s.from ++ es))))
  pub reads : events_and_names s.plan (heading place count (length es) ++ (before ++ lines))
      ≡ Ok (record { events = s.from ++ es; names = names })

-- the text of such a state was put behind another
abbrev pub AddsState : Search → (before : List ℕ) → (place count : ℕ) → List Event → (old new : List ℕ) → Type 0
AddsState s before place count es old new =
    (state : List ℕ) × (new ≡ old ++ state) × IsState s before place count es state

-- the texts of states, one behind the other, of which the first has this place among so many
abbrev pub AreStates : Search → (before : List ℕ) → (place count : ℕ) → List (List Event) → List ℕ → Type 0
AreStates s before place count [] text = text ≡ []
AreStates s before place count (es ∷ others) text =
    (first : List ℕ) × (rest : List ℕ) × (text ≡ first ++ rest)
    × IsState s before place count es first × AreStates s before (place + 1) count others rest

-- the texts of all states of a list, each with its place, and a last line
pub record IsListing (s : Search) (before : List ℕ) (listed : List (List Event)) (last text : List ℕ) : Type 0 where
  pub states : List ℕ
  pub are_states : AreStates s before 1 (length listed) listed states
  pub parts : text ≡ states ++ last
