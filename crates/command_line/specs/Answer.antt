-- What the program answers for the bytes of a script and a schedule: a status and a text.
use Rattle.std.specs.Prelude.{ℕ, ◌++◌, List, Result, Ok, Err, codes, decimal}
use Rattle.ipc_ids.specs.declared.message.Event.{Event}
use Rattle.script_lines.specs.declared.fault.Reason.{Reason}
use Rattle.script_lines.specs.Text.{text_of_reason}
use Rattle.script_lines.specs.Plan.{Plan}
use Rattle.script_reader.specs.Reading.{script_of, schedule_of}
use Rattle.task_system.specs.Run.{run}
use Rattle.trace_print.specs.Text.{text_of}
use Rattle.command_line.specs.declared.status.Status.{Status}
use Rattle.command_line.specs.declared.status.Status.TheVariants.{Done, BadScript, BadSchedule}

-- the line that tells the first fault of a file: which file, the number of its line, and the reason
abbrev pub fault_line : List ℕ → ℕ × Reason → List ℕ
fault_line file fault =
    file ++ codes " line " ++ decimal fault.0 ++ codes ": " ++ text_of_reason fault.1 ++ codes "\n"

-- for a script that was read, and what the schedule spells or its first fault
abbrev pub answer_for_events : Plan → Result (List Event) (ℕ × Reason) → Status × List ℕ
answer_for_events script (Ok events) = (Done, text_of (run script events))
answer_for_events script (Err fault) = (BadSchedule, fault_line (codes "schedule") fault)

-- for what the script spells or its first fault, and the bytes of the schedule
abbrev pub answer_for_script : Result Plan (ℕ × Reason) → List ℕ → Status × List ℕ
answer_for_script (Ok script) schedule = answer_for_events script (schedule_of script schedule)
answer_for_script (Err fault) schedule = (BadScript, fault_line (codes "script") fault)

-- for the bytes of the two files: the run's text, or the line of the first fault,
-- where any fault of the script comes before those of the schedule
abbrev pub answer_of : List ℕ → List ℕ → Status × List ℕ
answer_of script schedule = answer_for_script (script_of script) schedule
