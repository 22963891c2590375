-- What a search over the schedules of a script is asked, and which schedules there are.
use Rattle.std.specs.Prelude.{ℕ, ◌≡◌, ◌<◌, ◌≤◌, ◌^◌, ⊤, Bool, true, false, ◌&&◌, ◌==◌, List, [], ◌∷◌, ◌++◌, length, nat_le, nat_lt, Option, None, Some, slice_get, slice_index_or}
use Rattle.std.specs.List.{count_by, list_all}
use Rattle.ipc_ids.specs.Tables.{most_events, most_tasks}
use Rattle.ipc_ids.specs.declared.entry.Entry.{Entry}
use Rattle.ipc_ids.specs.declared.message.Event.{Event}
use Rattle.ipc_ids.specs.declared.message.Event.TheVariants.{Step, Kill, Hangup, Spawn}
use Rattle.script_lines.specs.Plan.{Plan}
use Rattle.script_lines.specs.Sound as script
use Rattle.script_reader.specs.Schedule.{MayAllCome, tasks_after}
use Rattle.task_system.specs.Run.{RunState, start, turn, state_after}
use Rattle.search_goals.specs.GoalText.{Asked}
use Rattle.search_goals.specs.GoalList.{all_precede}
use Rattle.search_goals.specs.Writing.{tasks_behind}
use Rattle.schedule_search.specs.declared.problem.MostMade.{MostMade}

-- the script, the events that come first, those of which the others are made, how many of these may be kills, where
-- that is bounded, from which templates how many tasks may be made, what is looked for, and what before that, in turn
pub record Search : Type 0 where
  pub plan : Plan
  pub from : List Event
  pub moves : List Event
  pub kills : Option ℕ
  pub spawns : List MostMade
  pub earlier : List Asked
  pub asked : Asked

-- the script is sound, the first events may come, and what is looked for first is told by one state and one event
pub record IsSound (s : Search) : Type 0 where
  pub script : script.IsSound s.plan
  pub may : MayAllCome (length s.plan.tasks) (length s.plan.templates) s.from
  pub few : length s.from ≤ most_events
  pub few_moves : length s.moves < 2 ^ 16
  pub precede : all_precede s.earlier ≡ true

-- ---- which events may be tried

abbrev pub is_kill : Event → Bool
is_kill (Step task) = false
is_kill (Kill task) = true
is_kill (Hangup task phone) = false
is_kill (Spawn place) = false

-- how many of these events are kills
abbrev pub kills_in : List Event → ℕ
kills_in es = count_by is_kill es

-- there may be so many kills
abbrev pub is_within : Option ℕ → ℕ → Bool
is_within None kills = true
is_within (Some most) kills = nat_le kills most

-- a task of the template at this place is made
abbrev pub makes : ℕ → Event → Bool
makes place (Step task) = false
makes place (Kill task) = false
makes place (Hangup task phone) = false
makes place (Spawn other) = other == place

-- how many tasks of the template these events make
abbrev pub made_in : ℕ → List Event → ℕ
made_in place es = count_by (makes place) es

-- of no template that is named more are made than may be
abbrev pub are_few : List MostMade → List Event → Bool
are_few bounds es = list_all (λ bound. nat_le (made_in bound.place es) bound.most) bounds

-- of so many tasks one has this number
abbrev pub is_task : (tasks number : ℕ) → Bool
is_task tasks number = nat_le 1 number && nat_le number tasks

-- with so many tasks and templates, the event is on a task that there is, or makes one while there are few
abbrev pub may_come : (tasks templates : ℕ) → Event → Bool
may_come tasks templates (Step task) = is_task tasks task.0
may_come tasks templates (Kill task) = is_task tasks task.0
may_come tasks templates (Hangup task phone) = is_task tasks task.0
may_come tasks templates (Spawn place) = nat_lt place templates && nat_lt tasks most_tasks

-- so does each of these, after those before it
abbrev pub may_all_come : (tasks templates : ℕ) → List Event → Bool
may_all_come tasks templates [] = true
may_all_come tasks templates (e ∷ es) =
    may_come tasks templates e && may_all_come (tasks_after tasks e) templates es

-- how many tasks there are behind the first events
abbrev pub first_tasks : Search → ℕ
first_tasks s = tasks_behind (length s.plan.tasks) s.from

-- there may be so many kills and so many tasks of each template, and each event is on a task that there is by then
abbrev pub may_try : Search → List Event → Bool
may_try s es =
    is_within s.kills (kills_in es)
    && (are_few s.spawns es && may_all_come (first_tasks s) (length s.plan.templates) es)

-- each of these events is a move
abbrev pub AreOf : (moves es : List Event) → Type 0
AreOf moves [] = ⊤
AreOf moves (e ∷ es) = ((m : ℕ) × (slice_get moves m ≡ Some e)) × AreOf moves es

-- a search may try these events behind those that come first
pub record Made (s : Search) (es : List Event) : Type 0 where
  pub of_moves : AreOf s.moves es
  pub tried : may_try s es ≡ true

-- ---- where they lead

-- the state that the first events leave, and the state behind these too
abbrev pub first_state : Search → RunState
first_state s = state_after (start s.plan) s.from

abbrev pub state_behind : Search → List Event → RunState
state_behind s es = state_after (first_state s) es

-- the entries of the last of these events; where there is none, those before
abbrev pub last_told : List Entry → RunState → List Event → List Entry
last_told before now [] = before
last_told before now (e ∷ es) = last_told (turn now e).entries (turn now e).state es

-- the event of a move
abbrev pub event_at : List Event → ℕ → Event
event_at moves m = slice_index_or moves m (Spawn 0)

-- the events of moves by their numbers, of which the newest comes first
abbrev pub events_of : (moves : List Event) → List ℕ → List Event
events_of moves [] = []
events_of moves (m ∷ p) = events_of moves p ++ event_at moves m ∷ []
