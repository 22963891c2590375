-- What a written text adds to a schedule, wherever it stands behind whole lines.
use Rattle.std.specs.Prelude.{ℕ, ◌≡◌, ◌≢◌, ◌+◌, ◌*◌, ◌≤◌, ⊤, true, false, List, [], ◌∷◌, ◌++◌, length, All, Some, replicate, ◌⊎◌, codes, decimal}
use Rattle.std.specs.List.{AllPairs}
use Rattle.ipc_ids.specs.Tables.{most_events, most_tasks}
use Rattle.ipc_ids.specs.declared.numbers.TaskNo.{TaskNo}
use Rattle.ipc_ids.specs.declared.message.Event.{Event}
use Rattle.ipc_ids.specs.declared.message.Event.TheVariants as events
use Rattle.script_lines.specs.declared.plan.TaskPlan.{TaskPlan}
use Rattle.script_lines.specs.Names.{task_named}
use Rattle.script_lines.specs.Plan.{Plan}
use Rattle.script_lines.specs.Sound.{IsTask}
use Rattle.script_lines.specs.Text.{lines}
use Rattle.script_lines.specs.Word.{is_name}
use Rattle.script_reader.specs.EventLine.{EventsAndNames, is_taken, after_event_line}
use Rattle.script_reader.specs.Reading.{lines_from}
use Rattle.script_reader.specs.Schedule.{tasks_after}

-- the event is on one of so many tasks
abbrev pub IsOnTask : ℕ → Event → Type 0
IsOnTask tasks (events.Step task) = IsTask tasks task.0
IsOnTask tasks (events.Kill task) = IsTask tasks task.0
IsOnTask tasks (events.Hangup task phone) = IsTask tasks task.0
IsOnTask tasks (events.Spawn place) = ⊥

-- it may come many times in a row, as one line says it
abbrev pub IsStep : Event → Type 0
IsStep (events.Step task) = ⊤
IsStep (events.Kill task) = ⊥
IsStep (events.Hangup task phone) = ⊥
IsStep (events.Spawn place) = ⊥

-- each task has a name as lines have them
abbrev pub AreNamed : List TaskPlan → Type 0
AreNamed tasks = All (λ task. is_name task.name ≡ true) tasks

-- so has each task and each template of a script
pub record IsNamed (plan : Plan) : Type 0 where
  pub tasks : AreNamed plan.tasks
  pub templates : AreNamed plan.templates

-- the names of all tasks that there are, as lines have them: no two are the same, and there are at most 64
pub record AreNames (names : List (List ℕ)) : Type 0 where
  pub good : All (λ name. is_name name ≡ true) names
  pub differ : AllPairs (λ a b. a ≢ b) names
  pub few : length names ≤ most_tasks

-- the word is the name of the task
abbrev pub IsNameOf : List (List ℕ) → TaskNo → List ℕ → Type 0
IsNameOf names task word = (is_name word ≡ true) × (task_named names word ≡ Some task)

-- a task that is made may have this name
pub record IsNew (templates names : List (List ℕ)) (name : List ℕ) : Type 0 where
  pub good : is_name name ≡ true
  pub free : is_taken templates names name ≡ false

-- t and a number: what the tasks are called that no line names
abbrev pub made_name : ℕ → List ℕ
made_name number = codes "t" ++ decimal number

-- how many tasks there are behind events
abbrev pub tasks_behind : ℕ → List Event → ℕ
tasks_behind tasks [] = tasks
tasks_behind tasks (event ∷ later) = tasks_behind (tasks_after tasks event) later

-- the lines so far with these events more, and the names that are known behind them
abbrev pub with_more : EventsAndNames → List Event → List (List ℕ) → EventsAndNames
with_more before more known = record { events = before.events ++ more; names = known }

-- where just these names are known, the text adds these events, and so many lines, and behind it those names are known
pub record Adds (templates names : List (List ℕ)) (text : List ℕ) (more : List Event) (known : List (List ℕ))
    : Type 0 where
  pub count : ℕ
  pub read : (n : ℕ) (before : EventsAndNames) (rest : List ℕ)
      → before.names ≡ names → length before.events + length more ≤ most_events
      → lines_from (after_event_line templates) n before (lines (text ++ rest))
      ≡ lines_from (after_event_line templates) (n + count) (with_more before more known) (lines rest)

-- a text that adds these events, at most 44 bytes for each, was put behind; those names are of all tasks then
pub record Writes (templates names : List (List ℕ)) (old new : List ℕ) (more : List Event) (known : List (List ℕ))
    : Type 0 where
  pub line : List ℕ
  pub parts : new ≡ old ++ line
  pub adds : Adds templates names line more known
  pub short : length line ≤ 44 * length more
  pub all : length known ≡ tasks_behind (length names) more

-- the events begin with this one, so many times, and these stand behind; more than once only where it is a step
pub record IsFront (whole : List Event) (first : Event) (count : ℕ) (others : List Event) : Type 0 where
  pub parts : whole ≡ replicate count first ++ others
  pub some : 1 ≤ count
  pub times : IsStep first ⊎ (count ≡ 1)

-- some of the events were put behind a text, so that these names are known, and these events are left
pub record IsUnderWay (templates names : List (List ℕ)) (old new : List ℕ) (left whole : List Event)
    (known : List (List ℕ)) : Type 0 where
  pub done : List Event
  pub parts : whole ≡ done ++ left
  pub wrote : Writes templates names old new done known
