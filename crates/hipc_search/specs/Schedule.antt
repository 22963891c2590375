-- How what a search found is written as a schedule.
use Rattle.std.specs.Prelude.{ℕ, ◌≡◌, ◌≤◌, ◌+◌, List, [], ◌++◌, length, take, Bool, true, false, Result, Ok, codes, decimal, if◌then◌else◌}
use Rattle.ipc_ids.specs.Tables.{most_bytes, most_events}
use Rattle.ipc_ids.specs.declared.message.Event.{Event}
use Rattle.script_lines.specs.declared.fault.Reason.{Reason}
use Rattle.script_lines.specs.Names.{task_names}
use Rattle.script_lines.specs.Plan.{Plan}
use Rattle.script_reader.specs.EventLine.{EventsAndNames, no_events, after_event}
use Rattle.script_reader.specs.Reading.{reading, schedule_of}
use Rattle.search_goals.specs.GoalText.{Asked, LosesCall, IsRest, IsStuck, HoldAll, HasLine}
use Rattle.search_goals.specs.Lines.{comment_text}
use Rattle.search_goals.specs.Writing.{Adds, IsNamed, with_more, tasks_behind}
use Rattle.schedule_search.specs.Search.{Search, IsSound, first_tasks}
use Rattle.hipc_search.specs.Moves.{living_steps}

-- `GOAL: N events`, with the first 1,024 bytes of the goal
abbrev pub found_comment : List ℕ → ℕ → List ℕ
found_comment goal events = take 1024 goal ++ (codes ": " ++ (decimal events ++ codes " events"))

-- what is looked for is a state behind which something never comes
abbrev pub asks_for_end : Asked → Bool
asks_for_end LosesCall = true
asks_for_end IsRest = true
asks_for_end (IsStuck task) = true
asks_for_end (HoldAll conditions) = false
asks_for_end (HasLine head asked) = false

-- behind events that lead to such a state: a step of each task that there is then and that no event kills, which shows
-- that nothing comes
abbrev pub closing : Search → List Event → List Event
closing s es = if asks_for_end s.asked then living_steps s.from es (tasks_behind (first_tasks s) es) else []

-- the text begins with these bytes and the comment, and as a schedule it has the events that come first, those that
-- were found, and the closing steps
pub record IsSchedule (s : Search) (before goal : List ℕ) (es : List Event) (text : List ℕ) : Type 0 where
  pub lines : List ℕ
  pub begins : text ≡ before ++ (comment_text (found_comment goal (length es)) ++ lines)
  pub reads : schedule_of s.plan text ≡ Ok (s.from ++ (es ++ closing s es))

-- the events that a text spells as a schedule, and the names of all tasks behind them; or its first fault
abbrev pub events_and_names : Plan → List ℕ → Result EventsAndNames (ℕ × Reason)
events_and_names plan text = reading (after_event plan) (no_events plan) text

-- these bytes are lines of events that come first, and behind them the tasks have these names: lines that add events to
-- such are a schedule of both, where there is room
pub record Precedes (plan : Plan) (before : List ℕ) (first : EventsAndNames) : Type 0 where
  pub goes_on : (text : List ℕ) (more : List Event) (known : List (List ℕ))
      → Adds (task_names plan.templates) first.names text more known
      → length before + length text ≤ most_bytes → length first.events + length more ≤ most_events
      → events_and_names plan (before ++ text) ≡ Ok (with_more first more known)
  pub all_named : length first.names ≡ tasks_behind (length plan.tasks) first.events

-- what a search finds may be written behind these bytes: the search is sound, tasks and templates have names as lines
-- have them, and the bytes are lines of the events that come first, which are few, behind which the tasks have these
-- names
pub record MayFollow (s : Search) (before : List ℕ) (names : List (List ℕ)) : Type 0 where
  pub sound : IsSound s
  pub named : IsNamed s.plan
  pub few_first : length s.from ≤ 32768
  pub short : length before ≤ 524289
  pub first : Precedes s.plan before (record { events = s.from; names = names })

-- likewise, whatever names the tasks have
abbrev pub MayBeListed : Search → (before : List ℕ) → Type 0
MayBeListed s before = (names : List (List ℕ)) × MayFollow s before names
