-- The tasks whose names were looked up last, and what a line says of them.
use Rattle.std.specs.Prelude.{◌≡◌, ◌≢◌, ℕ, true, List, [], ◌++◌, Some}
use Rattle.ipc_ids.specs.declared.message.Event.TheVariants as events
use Rattle.ipc_ids.specs.declared.numbers.TaskNo.{TaskNo}
use Rattle.script_lines.specs.Names.{task_named}
use Rattle.script_lines.specs.Text.{first_line, behind}
use Rattle.script_lines.specs.Word.{is_name}
use Rattle.script_reader.specs.declared.recent.NamedTask.{NamedTask}
use Rattle.script_reader.specs.declared.recent.RecentTasks.{RecentTasks}
use Rattle.script_reader.specs.declared.recent.TaskSteps.{TaskSteps}
use Rattle.script_reader.specs.EventLine.{EventsAndNames, with_repeated, after_event_line}

-- this is a name, and the task has it
abbrev pub Has : List (List ℕ) → TaskNo → List ℕ → Type 0
Has names task name = (is_name name ≡ true) × (task_named names name ≡ Some task)

-- the task has the name, if it is not empty
abbrev pub Knows : List (List ℕ) → NamedTask → Type 0
Knows names known = known.name.now ≢ [] → Has names known.task known.name.now

-- both tasks have their names
abbrev pub KnowsBoth : List (List ℕ) → RecentTasks → Type 0
KnowsBoth names recent = Knows names recent.last × Knows names recent.before

-- the text begins with the name of the task, and these stand behind it
pub record BeginsWithName (names : List (List ℕ)) (text : List ℕ) (task : TaskNo) (rest : List ℕ) : Type 0 where
  pub name : List ℕ
  pub has : Has names task name
  pub parts : text ≡ name ++ rest

-- with these names, the first line says so many steps of a task, and these stand behind it
pub record SaysStepsOf (names : List (List ℕ)) (text : List ℕ) (steps : TaskSteps) : Type 0 where
  pub said : (templates : List (List ℕ)) (before : EventsAndNames) → before.names ≡ names
      → after_event_line templates before (first_line text) ≡ with_repeated before (events.Step steps.task, steps.count)
  pub left : behind text ≡ Some steps.others.now
