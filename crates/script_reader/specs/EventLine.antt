-- What a line of a schedule says where tasks are made on the way: the names that are known grow with the lines.
use Rattle.std.specs.Prelude.{◌≡◌, ℕ, ⊤, true, false, ◌||◌, List, [], ◌∷◌, ◌++◌, length, nat_le, is_some, Bool, Option, Some, None, Result, Ok, Err, if◌then◌else◌}
use Rattle.std.specs.List.{list_all}
use Rattle.std.specs.Option.{ok_or}
use Rattle.ipc_ids.specs.Tables.{most_tasks}
use Rattle.ipc_ids.specs.declared.message.Event.{Event}
use Rattle.ipc_ids.specs.declared.message.Event.TheVariants as events
use Rattle.script_lines.specs.declared.fault.Reason.{Reason}
use Rattle.script_lines.specs.declared.fault.Reason.TheVariants.{BadByte, UnknownOperation, UnknownName, NameTaken, TooMany, WrongCount}
use Rattle.script_reader.specs.declared.schedule.EventVerb.{EventVerb}
use Rattle.script_reader.specs.declared.schedule.EventVerb.TheVariants.{Step, Kill, Hangup, Spawn}
use Rattle.script_lines.specs.Text.{is_allowed, words}
use Rattle.script_lines.specs.Word.{name_of}
use Rattle.script_lines.specs.Operation.{◌>>=◌, needed}
use Rattle.script_lines.specs.Names.{task_names, place_of, is_ns}
use Rattle.script_lines.specs.Plan.{Plan}
use Rattle.script_reader.specs.Grammar.{Spells}
use Rattle.script_reader.specs.Schedule.{step_of, kill_of, hangup_of, event_verb_of, with_events}

-- what the lines so far say: the events, and the names of all tasks that there are after them
pub record EventsAndNames : Type 0 where
  pub events : List Event
  pub names : List (List ℕ)

-- before the first line there are the tasks of the script
abbrev pub no_events : Plan → EventsAndNames
no_events script = record { events = []; names = task_names script.tasks }

-- a test that holds is a fault with this reason
abbrev pub unless : Bool → Reason → Result ⊤ Reason
unless true reason = Err reason
unless false reason = Ok tt

-- a new task has no name of a task so far or of a template, nor that of the naming service
unfoldable pub is_taken : (templates names : List (List ℕ)) → List ℕ → Bool
is_taken templates names name = is_some (place_of names name) || is_some (place_of templates name) || is_ns name

-- the place of the template that makes the next task, where it may have this name
unfoldable pub spawn_place : (templates names : List (List ℕ)) → List ℕ → List ℕ → Result ℕ Reason
spawn_place templates names template name = do
  template ← needed (name_of template)
  name ← needed (name_of name)
  place ← ok_or (place_of templates template) UnknownName
  free ← unless (is_taken templates names name) NameTaken
  room ← unless (nat_le most_tasks (length names)) TooMany
  Ok place

-- the event, and the name of its task, which is known from now on
abbrev pub with_spawn : EventsAndNames → ℕ → List ℕ → Result EventsAndNames Reason
with_spawn before place name =
    with_events before.events (events.Spawn place) 1
    >>= λ events. Ok (record { events = events; names = before.names ++ name ∷ [] })

-- TEMPLATE NAME
abbrev pub spawn_of : (templates : List (List ℕ)) → EventsAndNames → List (List ℕ) → Result EventsAndNames Reason
spawn_of templates before (template ∷ name ∷ []) =
    spawn_place templates before.names template name >>= λ place. with_spawn before place name
spawn_of templates before _ = Err WrongCount

-- any other event, so many times
abbrev pub with_repeated : EventsAndNames → Event × ℕ → Result EventsAndNames Reason
with_repeated before said =
    with_events before.events said.0 said.1 >>= λ events. Ok (record { events = events; names = before.names })

-- what a first word says
abbrev pub after_event_verb : (templates : List (List ℕ)) → EventsAndNames → Option EventVerb → List (List ℕ) → Result EventsAndNames Reason
after_event_verb templates before None others = Err UnknownOperation
after_event_verb templates before (Some Step) others = step_of before.names others >>= with_repeated before
after_event_verb templates before (Some Kill) others = kill_of before.names others >>= with_repeated before
after_event_verb templates before (Some Hangup) others = hangup_of before.names others >>= with_repeated before
after_event_verb templates before (Some Spawn) others = spawn_of templates before others

-- a line without words is passed over
abbrev pub after_event_words : (templates : List (List ℕ)) → EventsAndNames → List (List ℕ) → Result EventsAndNames Reason
after_event_words templates before [] = Ok before
after_event_words templates before (first ∷ others) = after_event_verb templates before (event_verb_of first) others

unfoldable pub after_event_line : (templates : List (List ℕ)) → EventsAndNames → List ℕ → Result EventsAndNames Reason
after_event_line templates before line =
    if list_all is_allowed line then after_event_words templates before (words line) else Err BadByte

-- the names are those of the script
abbrev pub after_event : Plan → EventsAndNames → List ℕ → Result EventsAndNames Reason
after_event script before line = after_event_line (task_names script.templates) before line

-- the bytes spell these events: there are names with which the lines make them
abbrev pub SpellsEvents : Plan → List ℕ → List Event → Type 0
SpellsEvents script text events =
    (made : EventsAndNames) × Spells (after_event script) (no_events script) text made × (made.events ≡ events)
