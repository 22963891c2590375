-- When the program writes a run that keeps the laws.
use Rattle.std.specs.Prelude.{ℕ, ◌≡◌, List, Option, None, Some, Ok}
use Rattle.std.specs.Io.KnownBytes.{Appends}
use Rattle.ipc_ids.specs.declared.message.Event.{Event}
use Rattle.script_lines.specs.Plan.{Plan}
use Rattle.script_reader.specs.Reading.{script_of, schedule_of}
use Rattle.io_edge.specs.Edge.{Holds}
use Rattle.task_system.specs.Run.{run}
use Rattle.run_laws.specs.LawfulRun.{KeepsLaws, LosesNoWake}
use Rattle.schedule_replay.specs.Generator.{generated_plan}
use Rattle.trace_print.specs.Text.{text_of}
use Rattle.command_line.specs.Command.{Command, Replay, Generate, Check, command_of}
use Rattle.law_check.specs.Finding.{IsLawfulTrace}
use Rattle.command_line.specs.Due.{Files}
use Rattle.command_line.specs.Summary.{generated_run, summary_line}

-- what was written is the whole text of the run of a script that was read
abbrev pub WritesRun : Plan → List ℕ → Option (List ℕ) → Option (List ℕ) → Type 0
WritesRun script schedule old new =
    (events : List Event) × (schedule_of script schedule ≡ Ok events) × Appends old new (text_of (run script events))

-- the bytes of a script and of a schedule spell a run that keeps the laws, and this is its text
pub record IsLawfulText (script schedule text : List ℕ) : Type 0 where
  pub plan : Plan
  pub events : List Event
  pub spells_plan : script_of script ≡ Ok plan
  pub spells_events : schedule_of plan schedule ≡ Ok events
  pub laws : KeepsLaws plan (run plan events)
  pub wakes : LosesNoWake plan events
  pub text_is : text ≡ text_of (run plan events)

-- what was written is the whole text of such a run
abbrev pub WritesLawfulRun : List ℕ → List ℕ → Option (List ℕ) → Option (List ℕ) → Type 0
WritesLawfulRun script schedule old new =
    (text : List ℕ) × IsLawfulText script schedule text × Appends old new text

-- the same of the bytes that two files have, by their names
abbrev pub WritesLawfulRunOfFiles : Files → List ℕ → List ℕ → Option (List ℕ) → Option (List ℕ) → Type 0
WritesLawfulRunOfFiles files script schedule old new =
    (first : List ℕ) × (second : List ℕ)
    × Holds files script first × Holds files schedule second × WritesLawfulRun first second old new

-- the run that a seed and a number of events generate keeps the laws, and what was written is the whole line that sums
-- it up
abbrev pub WritesLawfulSummary : ℕ → ℕ → Option (List ℕ) → Option (List ℕ) → Type 0
WritesLawfulSummary seed events old new =
    KeepsLaws generated_plan (generated_run seed events) × Appends old new (summary_line seed events)

-- the file of a trace has the text of entries that satisfy the four laws
abbrev pub HasLawfulTrace : Files → List ℕ → Type 0
HasLawfulTrace files trace = (bytes : List ℕ) × Holds files trace bytes × IsLawfulTrace bytes

-- the file of a trace has no such text
abbrev pub HasNoLawfulTrace : Files → List ℕ → Type 0
HasNoLawfulTrace files trace = (bytes : List ℕ) × Holds files trace bytes × (IsLawfulTrace bytes → ⊥)

-- a trace is refused only where its file has no such text
abbrev pub RefusesTraceFor : Option Command → Files → Type 0
RefusesTraceFor (Some (Check trace)) files = HasNoLawfulTrace files trace
RefusesTraceFor _ files = ⊥

-- the same of the command that the words are
abbrev pub RefusesTraceOf : List (List ℕ) → Files → Type 0
RefusesTraceOf words files = RefusesTraceFor (command_of words) files

-- what a command that is done comes to: the text of a run that keeps the laws, the line that sums one up, or a trace
-- that keeps the four laws of the check; words that are no command come to nothing
abbrev pub WritesLawfulRunFor : Option Command → Files → Option (List ℕ) → Option (List ℕ) → Type 0
WritesLawfulRunFor None files old new = ⊥
WritesLawfulRunFor (Some (Replay script schedule)) files old new = WritesLawfulRunOfFiles files script schedule old new
WritesLawfulRunFor (Some (Generate seed events)) files old new = WritesLawfulSummary seed events old new
WritesLawfulRunFor (Some (Check trace)) files old new = HasLawfulTrace files trace

-- the same of the command that the words are
abbrev pub WritesLawfulRunOf : List (List ℕ) → Files → Option (List ℕ) → Option (List ℕ) → Type 0
WritesLawfulRunOf words files old new = WritesLawfulRunFor (command_of words) files old new
