-- What a line of a schedule says, for the tasks of a script, after the events so far.
use Rattle.std.specs.Prelude.{ℕ, ◌+◌, ◌<◌, ⊤, List, [], ◌∷◌, ◌++◌, length, ◌&&◌, nat_le, nat_lt, Option, Some, None, Result, Ok, Err, replicate, if◌then◌else◌, codes}
use Rattle.std.specs.Option.{option_and_then, ok_or}
use Rattle.std.specs.Str.{bytes_eq}
use Rattle.ipc_ids.specs.Tables.{named_in, most_tasks, most_events}
use Rattle.ipc_ids.specs.declared.numbers.TaskNo.{TaskNo}
use Rattle.ipc_ids.specs.declared.message.Event.{Event}
use Rattle.ipc_ids.specs.declared.message.Event.TheVariants as events
use Rattle.script_lines.specs.declared.fault.Reason.{Reason}
use Rattle.script_lines.specs.declared.fault.Reason.TheVariants.{WrongCount, UnknownName, TooManyEvents}
use Rattle.script_reader.specs.declared.schedule.EventVerb.{EventVerb}
use Rattle.script_reader.specs.declared.schedule.EventVerb.TheVariants.{Step, Kill, Hangup, Spawn}
use Rattle.script_lines.specs.Word.{number, name_of}
use Rattle.script_lines.specs.Operation.{◌>>=◌, needed}
use Rattle.script_lines.specs.Plan.{Plan}
use Rattle.script_lines.specs.Sound.{IsTask}
use Rattle.script_lines.specs.Names.{task_named}

-- the task that an event is on; one that makes a task is on none
abbrev pub task_of_event : Event → TaskNo
task_of_event (events.Step task) = task
task_of_event (events.Kill task) = task
task_of_event (events.Hangup task phone) = task
task_of_event (events.Spawn place) = record { 0 = 0 }

-- with so many tasks and templates, the event is on a task that was made, or makes one while there are few
abbrev pub MayCome : (tasks templates : ℕ) → Event → Type 0
MayCome tasks templates (events.Step task) = IsTask tasks task.0
MayCome tasks templates (events.Kill task) = IsTask tasks task.0
MayCome tasks templates (events.Hangup task phone) = IsTask tasks task.0
MayCome tasks templates (events.Spawn place) = (place < templates) × (tasks < most_tasks)

-- how many tasks there are after it
abbrev pub tasks_after : ℕ → Event → ℕ
tasks_after tasks (events.Step task) = tasks
tasks_after tasks (events.Kill task) = tasks
tasks_after tasks (events.Hangup task phone) = tasks
tasks_after tasks (events.Spawn place) = tasks + 1

-- each event may come after those before it
abbrev pub MayAllCome : (tasks templates : ℕ) → List Event → Type 0
MayAllCome tasks templates [] = ⊤
MayAllCome tasks templates (event ∷ later) = MayCome tasks templates event × MayAllCome (tasks_after tasks event) templates later

-- the event is on a task of the script
abbrev pub IsOnTaskOf : Plan → Event → Type 0
IsOnTaskOf script event = IsTask (length script.tasks) (task_of_event event).0

-- the first words of a schedule's lines
abbrev pub event_verbs : List (List ℕ × EventVerb)
event_verbs = (codes "step", Step) ∷ (codes "kill", Kill) ∷ (codes "hangup", Hangup) ∷ (codes "spawn", Spawn) ∷ []

unfoldable pub event_verb_of : List ℕ → Option EventVerb
event_verb_of word = named_in event_verbs word

-- x N, where N is from 1 to 65,536
unfoldable pub count_of : List ℕ → List ℕ → Option ℕ
count_of times word =
    option_and_then
    (λ n. if bytes_eq times (codes "x") && nat_le 1 n && nat_le n most_events then Some n else None)
    (number word)

-- so many steps of the task of a name
unfoldable pub step_with : List (List ℕ) → List ℕ → Option ℕ → Result (Event × ℕ) Reason
step_with names name count = do
  name ← needed (name_of name)
  count ← needed count
  task ← ok_or (task_named names name) UnknownName
  Ok (events.Step task, count)

-- NAME, or NAME x N
unfoldable pub step_of : List (List ℕ) → List (List ℕ) → Result (Event × ℕ) Reason
step_of names (name ∷ []) = step_with names name (Some 1)
step_of names (name ∷ times ∷ count ∷ []) = step_with names name (count_of times count)
step_of names _ = Err WrongCount

-- NAME
unfoldable pub kill_of : List (List ℕ) → List (List ℕ) → Result (Event × ℕ) Reason
kill_of names (name ∷ []) = do
  name ← needed (name_of name)
  task ← ok_or (task_named names name) UnknownName
  Ok (events.Kill task, 1)
kill_of names _ = Err WrongCount

-- NAME N
unfoldable pub hangup_of : List (List ℕ) → List (List ℕ) → Result (Event × ℕ) Reason
hangup_of names (name ∷ phone ∷ []) = do
  name ← needed (name_of name)
  phone ← needed (number phone)
  task ← ok_or (task_named names name) UnknownName
  Ok (events.Hangup task phone, 1)
hangup_of names _ = Err WrongCount

-- an event so many times more, if there is room for it
unfoldable pub with_events : List Event → Event → ℕ → Result (List Event) Reason
with_events before event count =
    if nat_lt most_events (length before + count) then Err TooManyEvents else Ok (before ++ replicate count event)
