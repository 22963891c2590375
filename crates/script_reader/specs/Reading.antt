-- Reading a text from its first line on: what it spells, or its first fault with the number of the line.
use Rattle.std.specs.Prelude.{◌≡◌, ℕ, ◌+◌, List, [], ◌∷◌, length, ⊤, Option, Some, None, Result, Ok, Err, nat_lt, if◌then◌else◌}
use Rattle.std.specs.Global.{Vec}
use Rattle.ipc_ids.specs.Tables.{most_bytes}
use Rattle.ipc_ids.specs.declared.message.Event.{Event}
use Rattle.script_lines.specs.declared.fault.Reason.{Reason}
use Rattle.script_lines.specs.declared.fault.Reason.TheVariants.{TooLong}
use Rattle.script_lines.specs.declared.fault.ScriptFault.{ScriptFault}
use Rattle.script_lines.specs.declared.fault.ScriptFault.TheVariants as scripts
use Rattle.script_lines.specs.declared.fault.ScheduleFault.{ScheduleFault}
use Rattle.script_lines.specs.declared.fault.ScheduleFault.TheVariants as schedules
use Rattle.script_lines.specs.Text.{lines}
use Rattle.script_lines.specs.Plan.{Plan}
use Rattle.script_lines.specs.ScriptParts.{ScriptParts, no_parts, script_of_parts}
use Rattle.script_lines.specs.Line.{after_line}
use Rattle.script_reader.specs.EventLine.{EventsAndNames, no_events, after_event}

-- the line with this number, and then the others
abbrev pub at_line : {A : Type 0} → ℕ → Result A Reason → (A → Result A (ℕ × Reason)) → Result A (ℕ × Reason)
at_line n (Ok next) others = others next
at_line n (Err reason) others = Err (n, reason)

-- lines numbered from n on, of x
abbrev pub lines_from : {A : Type 0} → (A → List ℕ → Result A Reason) → ℕ → A → List (List ℕ) → Result A (ℕ × Reason)
lines_from after n x [] = Ok x
lines_from after n x (line ∷ others) =
    at_line n (after x line) (λ next. lines_from after (n + 1) next others)

-- what a text spells, or its first fault
unfoldable pub reading : {A : Type 0} → (A → List ℕ → Result A Reason) → A → List ℕ → Result A (ℕ × Reason)
reading after nothing text =
    if nat_lt most_bytes (length text) then Err (0, TooLong) else lines_from after 1 nothing (lines text)

-- the script of both parts
abbrev pub plan_from_parts : Result ScriptParts (ℕ × Reason) → Result Plan (ℕ × Reason)
plan_from_parts (Ok w) = Ok (script_of_parts w)
plan_from_parts (Err fault) = Err fault

-- the script that bytes spell, or their first fault
abbrev pub script_of : List ℕ → Result Plan (ℕ × Reason)
script_of text = plan_from_parts (reading after_line no_parts text)

-- the events alone
abbrev pub events_alone : Result EventsAndNames (ℕ × Reason) → Result (List Event) (ℕ × Reason)
events_alone (Ok made) = Ok made.events
events_alone (Err fault) = Err fault

-- the events that bytes spell for the tasks of a script, or their first fault
abbrev pub schedule_of : Plan → List ℕ → Result (List Event) (ℕ × Reason)
schedule_of script text = events_alone (reading (after_event script) (no_events script) text)

-- a fault with its place; none where memory ran out
abbrev pub fault_in_script : ScriptFault → Option (ℕ × Reason)
fault_in_script (scripts.Bad line reason) = Some (line, reason)
fault_in_script scripts.NoMemory = None

abbrev pub fault_in_schedule : ScheduleFault → Option (ℕ × Reason)
fault_in_schedule (schedules.Bad line reason) = Some (line, reason)
fault_in_schedule schedules.NoMemory = None

-- the fault is the first one, unless memory ran out
abbrev pub Fails : {A : Type 0} → Option (ℕ × Reason) → Result A (ℕ × Reason) → Type 0
Fails None said = ⊤
Fails (Some fault) said = said ≡ Err fault

-- the answer is what is said, unless memory ran out
abbrev pub Agrees : {A F : Type 0} → (F → Option (ℕ × Reason)) → Result A F → Result A (ℕ × Reason) → Type 0
Agrees fault_in (Ok made) said = said ≡ Ok made
Agrees fault_in (Err fault) said = Fails (fault_in fault) said

-- what a call made of a value is what is said, unless memory ran out
abbrev pub Reads : {A F : Type 0} → (F → Option (ℕ × Reason)) → Result ⊤ F → A → Result A (ℕ × Reason) → Type 0
Reads fault_in (Ok _) new said = said ≡ Ok new
Reads fault_in (Err fault) new said = Fails (fault_in fault) said

-- a schedule's events as a list
abbrev pub events_in : Result (Vec Event) ScheduleFault → Result (List Event) ScheduleFault
events_in (Ok events) = Ok events.items
events_in (Err fault) = Err fault
