-- Which status with which text is due for a command line, and how much of the text was written.
use Rattle.std.specs.Prelude.{◌≡◌, ◌≢◌, ◌⊎◌, ◌++◌, ℕ, List, [], ◌∷◌, Bool, true, false, None, Some, codes, nat_lt}
use Rattle.std.specs.declared.option.Option.{Option}
use Rattle.std.specs.Io.KnownBytes.{Appends}
use Rattle.io_edge.specs.Edge.{times, Holds, AppendsStart}
use Rattle.command_line.specs.declared.status.Status.{Status}
use Rattle.command_line.specs.declared.status.Status.TheVariants.{Done, Usage, CannotRead, WriteFailed, NoMemory}
use Rattle.script_lines.specs.Plan.{Plan}
use Rattle.script_reader.specs.Reading.{schedule_of}
use Rattle.command_line.specs.Answer.{answer_of, answer_for_events}
use Rattle.command_line.specs.Command.{Command, Replay, Generate, Check, command_of}
use Rattle.command_line.specs.Check.{DueForTrace}
use Rattle.command_line.specs.Summary.{summary_line}

-- files, each a name and its bytes, where a shelf tells them
abbrev pub Files : Type 0
Files = Option (List (List ℕ × List ℕ))

-- names of files
abbrev pub Names : Type 0
Names = List (List ℕ)

-- which status may come with which text
abbrev pub Answers : Type 1
Answers = Status → List ℕ → Type 0

-- the names of the two files that a command loads, if it loads any
abbrev pub names_of : Option Command → Option (List ℕ × List ℕ)
names_of None = None
names_of (Some (Replay script schedule)) = Some (script, schedule)
names_of (Some (Generate seed events)) = None
names_of (Some (Check trace)) = Some (trace, trace)

-- likewise of the words of a command line
abbrev pub files_of : List (List ℕ) → Option (List ℕ × List ℕ)
files_of words = names_of (command_of words)

-- the line for words that are no command
abbrev pub usage_line : List ℕ
usage_line = codes "usage: hipc replay SCRIPT SCHEDULE\n"

-- the line that names a file that could not be loaded
abbrev pub cannot_line : List ℕ → List ℕ
cannot_line name = codes "cannot read " ++ name ++ codes "\n"

-- the load of this name failed in a call:
-- among the names whose load failed it stands more often after the call than before
abbrev pub lost : Names → Names → List ℕ → Bool
lost before after name = nat_lt (times name before) (times name after)

-- due for a script that was read, and the bytes of a schedule
abbrev pub DueForSchedule : Plan → List ℕ → Answers
DueForSchedule script schedule status text =
    answer_for_events script (schedule_of script schedule) ≡ (status, text)

-- due for the bytes of the two files
abbrev pub DueForBytes : List ℕ → List ℕ → Answers
DueForBytes script schedule status text = answer_of script schedule ≡ (status, text)

-- due for the names of two files: either the script was lost, or else the schedule,
-- or else it is due for the bytes that they have
abbrev pub DueForNames : Files → List ℕ → List ℕ → Bool → Bool → Answers
DueForNames files script schedule true second status text =
    (status ≡ CannotRead) × (text ≡ cannot_line script)
DueForNames files script schedule false true status text =
    (status ≡ CannotRead) × (text ≡ cannot_line schedule)
DueForNames files script schedule false false status text =
    (first : List ℕ) × (second : List ℕ)
    × Holds files script first × Holds files schedule second × DueForBytes first second status text

-- due for the names of two files, by the names whose load failed before and after
abbrev pub DueForFiles : Files → Names → Names → List ℕ → List ℕ → Answers
DueForFiles files before after script schedule =
    DueForNames files script schedule (lost before after script) (lost before after schedule)

-- due for the run that a seed and a number of events generate: the line that sums it up
abbrev pub DueForNumbers : ℕ → ℕ → Answers
DueForNumbers seed events status text = (status ≡ Done) × (text ≡ summary_line seed events)

-- due for the name of a trace, which was lost or not
abbrev pub DueForTraceFile : Files → List ℕ → Bool → Answers
DueForTraceFile files trace true status text = (status ≡ CannotRead) × (text ≡ cannot_line trace)
DueForTraceFile files trace false status text =
    (bytes : List ℕ) × Holds files trace bytes × DueForTrace bytes status text

-- due for the command that the words are, or for words that are none
abbrev pub DueForCommand : Files → Names → Names → Option Command → Answers
DueForCommand files before after None status text = (status ≡ Usage) × (text ≡ usage_line)
DueForCommand files before after (Some (Replay script schedule)) status text =
    DueForFiles files before after script schedule status text
DueForCommand files before after (Some (Generate seed events)) status text = DueForNumbers seed events status text
DueForCommand files before after (Some (Check trace)) status text =
    DueForTraceFile files trace (lost before after trace) status text

-- due for the words, by the files and the names whose load failed before and after the call
abbrev pub Due : List (List ℕ) → Files → Names → Names → Answers
Due words files before after = DueForCommand files before after (command_of words)

-- the status is due with a text that was written whole, unless a put failed or memory was wanted
abbrev pub Whole : Answers → Option (List ℕ) → Option (List ℕ) → Status → Type 0
Whole due old new status =
    status ≢ WriteFailed → status ≢ NoMemory
    → (text : List ℕ) × due status text × Appends old new text

-- a prefix of a text that is due was written
abbrev pub Part : Answers → Option (List ℕ) → Option (List ℕ) → Type 0
Part due old new =
    (status : Status) × (text : List ℕ) × due status text × AppendsStart old new text

-- in the call no load failed, or just one did, of one of these names
abbrev pub LosesOneAtMost : Option (List ℕ × List ℕ) → Names → Names → Type 0
LosesOneAtMost None before after = after ≡ before
LosesOneAtMost (Some names) before after =
    (after ≡ before) ⊎ (after ≡ before ++ names.0 ∷ []) ⊎ (after ≡ before ++ names.1 ∷ [])
