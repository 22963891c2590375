-- What is due for a script and a schedule, from what was read of them.
use Rattle.std.proofs.Common.{◌≡◌, ℕ, List, Option, Result, Ok, Err, refl, sym, ap, ◌∙◌}
use Rattle.std.specs.Prelude.{codes}
use Rattle.ipc_ids.specs.declared.message.Event.{Event}
use Rattle.script_lines.specs.declared.fault.Reason.{Reason}
use Rattle.script_lines.specs.Plan.{Plan}
use Rattle.script_lines.specs.Sound.{IsSound}
use Rattle.script_reader.specs.Reading.{script_of, schedule_of}
use Rattle.task_system.specs.Run.{run}
use Rattle.trace_print.specs.Text.{text_of}
use Rattle.command_line.specs.Answer.{answer_for_events, answer_for_script, fault_line}
use Rattle.command_line.specs.Due.{DueForBytes, DueForSchedule}
use Rattle.command_line.specs.LawfulRun.{WritesRun, WritesLawfulRun}
use Rattle.command_line.specs.declared.status.Status.{Status}
use Rattle.command_line.specs.declared.status.Status.TheVariants.{Done, BadSchedule}
use Rattle.command_line.proofs.LawfulTexts.{text_is_lawful}

-- the run of a schedule that was read
pub due_run : (plan : Plan) (schedule : List ℕ) (events : List Event) (s : Status) → schedule_of plan schedule ≡ Ok events
    → s ≡ Done → DueForSchedule plan schedule s (text_of (run plan events))
due_run plan schedule events s read e =
    ap (answer_for_events plan) read ∙ ap (λ (s : Status). (s, text_of (run plan events))) (sym e)

-- the first fault of one that was not
pub due_fault : (plan : Plan) (schedule : List ℕ) (fault : ℕ × Reason) (s : Status) → schedule_of plan schedule ≡ Err fault
    → s ≡ BadSchedule → DueForSchedule plan schedule s (fault_line (codes "schedule") fault)
due_fault plan schedule fault s read e =
    ap (answer_for_events plan) read ∙ ap (λ (s : Status). (s, fault_line (codes "schedule") fault)) (sym e)

-- what is due for the script that was read is due for its bytes
pub read_first : (script schedule : List ℕ) (plan : Plan) → script_of script ≡ Ok plan
    → (s : Status) (t : List ℕ) → DueForSchedule plan schedule s t → DueForBytes script schedule s t
read_first script schedule plan read s t due =
    ap (λ (r : Result Plan (ℕ × Reason)). answer_for_script r schedule) read ∙ due

-- a run of a script that was read keeps the laws
pub lawful_of_read : (script schedule : List ℕ) (plan : Plan) (old new : Option (List ℕ)) → IsSound plan
    → script_of script ≡ Ok plan → WritesRun plan schedule old new → WritesLawfulRun script schedule old new
lawful_of_read script schedule plan old new sound read written =
    let text : List ℕ = text_of (run plan written.0) in
    (text, text_is_lawful script schedule text plan written.0 sound read written.1 refl, written.2)
