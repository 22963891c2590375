-- The texts of runs that keep the laws, from the bytes of two files to the words of a command line.
use Rattle.std.proofs.Common.{◌≡◌, ◌≢◌, ℕ, List, sym, subst, ◌∙◌, Option, Ok}
use Rattle.ipc_ids.specs.declared.message.Event.{Event}
use Rattle.io_edge.specs.Edge.{Gives}
use Rattle.script_lines.specs.Plan.{Plan}
use Rattle.script_lines.specs.Sound.{IsSound}
use Rattle.script_reader.specs.Reading.{script_of, schedule_of}
use Rattle.task_system.specs.Run.{run}
use Rattle.std.specs.Io.KnownBytes.{Appends}
use Rattle.trace_print.specs.Text.{text_of}
use Rattle.schedule_replay.specs.Generator.{generated_plan, generated_events}
use Rattle.schedule_replay.proofs.GeneratedScript.{generated_is_sound, generated_may}
use Rattle.script_reader.proofs.KnownTasks.{read_may}
use Rattle.command_line.specs.Command.{Command, command_of}
use Rattle.command_line.specs.Due.{Files}
use Rattle.command_line.specs.Summary.{summary_line}
use Rattle.command_line.specs.declared.status.Status.{Status}
use Rattle.command_line.specs.declared.status.Status.TheVariants.{Done, WriteFailed, NoMemory}
use Rattle.command_line.specs.LawfulRun.{IsLawfulText, WritesLawfulRun, WritesLawfulRunOfFiles, WritesLawfulSummary, WritesLawfulRunFor, WritesLawfulRunOf}
use Rattle.command_line.proofs.Dues.{SpellTheSame, held}
use Rattle.run_laws.proofs.LawfulRuns.{run_is_lawful}

-- the text of the run of a script that was read
pub text_is_lawful : (script schedule text : List ℕ) (plan : Plan) (events : List Event)
    → IsSound plan → script_of script ≡ Ok plan → schedule_of plan schedule ≡ Ok events
    → text ≡ text_of (run plan events) → IsLawfulText script schedule text
text_is_lawful script schedule text plan events sound first second is = record {
  plan = plan;
  events = events;
  spells_plan = first;
  spells_events = second;
  laws = (run_is_lawful plan events sound (read_may plan schedule events second)).laws;
  wakes = (run_is_lawful plan events sound (read_may plan schedule events second)).wakes;
  text_is = is;
}

-- it is so of other bytes that spell the same
lawful_alike : (a b x y text : List ℕ) → SpellTheSame a x → SpellTheSame b y → IsLawfulText a b text → IsLawfulText x y text
lawful_alike a b x y text h k is = record {
  plan = is.plan;
  events = is.events;
  spells_plan = sym h.0 ∙ is.spells_plan;
  spells_events = sym (k.1 is.plan) ∙ is.spells_events;
  laws = is.laws;
  wakes = is.wakes;
  text_is = is.text_is;
}

-- what was written for the bytes that were loaded is so for the files:
-- the second load came after the first, and each list of bytes was lent
pub lawful_of_files : (files later : Files) (script schedule a b x y : List ℕ) (old new : Option (List ℕ))
    → later ≡ files → x ≡ a → y ≡ b → Gives files script 1048577 a → Gives later schedule 1048577 b
    → WritesLawfulRun x y old new → WritesLawfulRunOfFiles files script schedule old new
lawful_of_files files later script schedule a b x y old new same lent lent2 g h is =
    let first = held files script a g in
    let second = held files schedule b (subst (λ (v : Files). Gives v schedule 1048577 b) same h) in
    let told : WritesLawfulRun a b old new =
    subst (λ v. WritesLawfulRun a v old new) lent2 (subst (λ v. WritesLawfulRun v y old new) lent is) in
    let lawful = lawful_alike a b first.0 second.0 told.0 first.2 second.2 told.1 in
    (first.0, second.0, first.1, second.1, (told.0, lawful, told.2))

-- a run that was done was written, and memory was found
pub done_is_no_fault : (s : Status) → s ≡ Done → s ≢ WriteFailed
done_is_no_fault s e h = cc

pub done_is_no_want : (s : Status) → s ≡ Done → s ≢ NoMemory
done_is_no_want s e h = cc

-- the run of generated input keeps the laws, and this line sums it up
pub summary_is_lawful : (seed events : ℕ) (old new : Option (List ℕ))
    → Appends old new (summary_line seed events) → WritesLawfulSummary seed events old new
summary_is_lawful seed events old new h =
    ((run_is_lawful generated_plan (generated_events seed events) generated_is_sound (generated_may seed events)).laws, h)

-- the command that the words are
pub lawful_for : (words : List (List ℕ)) (files : Files) (command : Option Command) (old new : Option (List ℕ))
    → command ≡ command_of words
    → WritesLawfulRunFor command files old new → WritesLawfulRunOf words files old new
lawful_for words files command old new e is =
    subst (λ (v : Option Command). WritesLawfulRunFor v files old new) e is
