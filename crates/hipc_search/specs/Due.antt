-- Which status with which text is due for a command line, and how much of the text was written.
use Rattle.std.specs.Prelude.{ℕ, ◌≡◌, ◌≢◌, ◌++◌, List, [], Bool, true, false, Option, None, Some, Result, Ok, Err, codes, length}
use Rattle.std.specs.Option.{option_map, unwrap_or}
use Rattle.std.specs.Io.KnownBytes.{Appends}
use Rattle.io_edge.specs.Edge.{Holds, AppendsStart}
use Rattle.script_lines.specs.declared.fault.Reason.{Reason}
use Rattle.script_lines.specs.Plan.{Plan}
use Rattle.script_reader.specs.EventLine.{EventsAndNames, no_events}
use Rattle.script_reader.specs.Reading.{script_of}
use Rattle.command_line.specs.Due.{Files, Names, cannot_line, lost}
use Rattle.schedule_search.specs.declared.outcome.Outcome.{Outcome}
use Rattle.schedule_search.specs.declared.outcome.Outcome.TheVariants as outcomes
use Rattle.schedule_search.specs.declared.at_rest.RestingStates.{RestingStates}
use Rattle.schedule_search.specs.declared.at_rest.RestingStates.TheVariants as surveys
use Rattle.schedule_search.specs.Search.{Search}
use Rattle.schedule_search.specs.Right.{IsRight}
use Rattle.schedule_search.specs.Survey.{IsSurvey, schedules_of}
use Rattle.hipc_search.specs.declared.status.Status.{Status}
use Rattle.hipc_search.specs.declared.status.Status.TheVariants.{Found, FoundWithin, NoneAtAll, NoneWithin, NotKnown, Usage, CannotRead, BadScript, BadSchedule, BadGoal, WriteFailed, NoMemory}
use Rattle.hipc_search.specs.Command.{Command, Asks, Goals, Survey, goals_text, command_of}
use Rattle.hipc_search.specs.Line.{usage_line, fault_line, none_line, none_within_line, not_known_line}
use Rattle.hipc_search.specs.Asking.{first_events, search_for}
use Rattle.hipc_search.specs.Schedule.{IsSchedule}
use Rattle.hipc_search.specs.Survey.{IsListing, all_line, all_within_line}

-- which status may come with which text
abbrev pub Answers : Type 1
Answers = Status → List ℕ → Type 0

-- this status, with this text
abbrev pub Says : Status → List ℕ → Answers
Says said line status text = (status ≡ said) × (text ≡ line)

-- a status that comes with a text that is due: each but these two
abbrev pub IsOfText : Status → Type 0
IsOfText status = (status ≢ WriteFailed) × (status ≢ NoMemory)

-- ---- the search

-- due for the outcome of a search
abbrev pub DueForOutcome : Search → (most room : ℕ) → (before goal : List ℕ) → Outcome → Answers
DueForOutcome s most room before goal (outcomes.Found events) status text =
    (status ≡ Found) × IsSchedule s before goal events.items text
DueForOutcome s most room before goal (outcomes.NoneWithin states) status text =
    Says NoneWithin (none_within_line most states) status text
DueForOutcome s most room before goal (outcomes.NoneAtAll states) status text =
    Says NoneAtAll (none_line states) status text
DueForOutcome s most room before goal outcomes.NoRoom status text = Says NotKnown (not_known_line room) status text

-- due for a search: for an outcome that is right
abbrev pub DueForSearch : Search → (most room : ℕ) → (before goal : List ℕ) → Answers
DueForSearch s most room before goal status text =
    (outcome : Outcome) × IsRight s most outcome × DueForOutcome s most room before goal outcome status text

-- ---- the survey

-- due for what a survey answers
abbrev pub DueForResting : Search → (most room : ℕ) → (before : List ℕ) → RestingStates → Answers
DueForResting s most room before (surveys.All schedules states) status text =
    let listed = schedules_of schedules.items in
    (status ≡ Found) × IsListing s before listed (all_line (length listed) states) text
DueForResting s most room before (surveys.Within schedules states) status text =
    let listed = schedules_of schedules.items in
    (status ≡ FoundWithin) × IsListing s before listed (all_within_line most (length listed) states) text
DueForResting s most room before surveys.NoRoom status text = Says NotKnown (not_known_line room) status text

-- due for a survey: for an answer that is right
abbrev pub DueForSurvey : Search → (most room : ℕ) → (before : List ℕ) → Answers
DueForSurvey s most room before status text =
    (resting : RestingStates) × IsSurvey s most resting × DueForResting s most room before resting status text

-- due by what is asked
abbrev pub DueForAsks : Search → (most room : ℕ) → (before : List ℕ) → Asks → Answers
DueForAsks s most room before (Goals first later) status text =
    DueForSearch s most room before (goals_text first later) status text
DueForAsks s most room before Survey status text = DueForSurvey s most room before status text

-- ---- the files

-- due for what is searched, or the line of its first fault
abbrev pub DueForAsked : Command → (before : List ℕ) → Result Search (List ℕ) → Answers
DueForAsked c before (Err line) status text = Says BadGoal line status text
DueForAsked c before (Ok s) status text = DueForAsks s c.events c.states before c.asks status text

-- due for the events that come first and the names behind them, or the first fault of their file
abbrev pub DueForEvents : Command → Plan → (before : List ℕ) → Result EventsAndNames (ℕ × Reason) → Answers
DueForEvents c plan before (Err fault) status text =
    Says BadSchedule (fault_line (codes "schedule line") fault) status text
DueForEvents c plan before (Ok first) status text = DueForAsked c before (search_for c plan first) status text

-- due for a script and the bytes of a schedule that comes first, if one does; what is found stands on lines of its own
-- behind them
abbrev pub DueForPlan : Command → Plan → Option (List ℕ) → Answers
DueForPlan c plan None status text = DueForEvents c plan [] (Ok (no_events plan)) status text
DueForPlan c plan (Some bytes) status text =
    DueForEvents c plan (bytes ++ codes "\n") (first_events plan bytes) status text

-- due for a script that was read, or its first fault
abbrev pub DueForScript : Command → Result Plan (ℕ × Reason) → Option (List ℕ) → Answers
DueForScript c (Err fault) first status text = Says BadScript (fault_line (codes "script line") fault) status text
DueForScript c (Ok plan) first status text = DueForPlan c plan first status text

-- due for the bytes of the script, and of a schedule that comes first
abbrev pub DueForBytes : Command → List ℕ → Option (List ℕ) → Answers
DueForBytes c script first status text = DueForScript c (script_of script) first status text

-- ---- the words

-- due for the name of a script, which was lost or not
abbrev pub DueForOne : Files → Command → Bool → Answers
DueForOne files c true status text = Says CannotRead (cannot_line c.script) status text
DueForOne files c false status text =
    (script : List ℕ) × Holds files c.script script × DueForBytes c script None status text

-- due for the names of a script and of a schedule: either the script was lost, or else the schedule, or else it is due
-- for the bytes that they have
abbrev pub DueForBoth : Files → Command → List ℕ → (script_lost first_lost : Bool) → Answers
DueForBoth files c name true second status text = Says CannotRead (cannot_line c.script) status text
DueForBoth files c name false true status text = Says CannotRead (cannot_line name) status text
DueForBoth files c name false false status text =
    (script : List ℕ) × (first : List ℕ)
    × Holds files c.script script × Holds files name first × DueForBytes c script (Some first) status text

-- due for the names of the files, by the names whose load failed before and after
abbrev pub DueForFiles : Files → (before after : Names) → Command → Option (List ℕ) → Answers
DueForFiles files before after c None status text = DueForOne files c (lost before after c.script) status text
DueForFiles files before after c (Some name) status text =
    DueForBoth files c name (lost before after c.script) (lost before after name) status text

-- due for the command that the words are, or for words that are none
abbrev pub DueForCommand : Files → (before after : Names) → Option Command → Answers
DueForCommand files before after None status text = Says Usage usage_line status text
DueForCommand files before after (Some c) status text = DueForFiles files before after c c.from status text

-- due for the words, by the files and the names whose load failed before and after the call
abbrev pub Due : List (List ℕ) → Files → (before after : Names) → Answers
Due words files before after status text = DueForCommand files before after (command_of words) status text

-- the names of the files that a command loads: of the script, and of the schedule where there is one
abbrev pub loaded_by : Command → List ℕ × List ℕ
loaded_by c = (c.script, unwrap_or c.from c.script)

-- likewise of the words of a command line
abbrev pub files_of : List (List ℕ) → Option (List ℕ × List ℕ)
files_of words = option_map loaded_by (command_of words)

-- ---- what was written

-- the status is due with a text that was written whole, unless a put failed or memory was wanted
abbrev pub Whole : Answers → Option (List ℕ) → Option (List ℕ) → Status → Type 0
Whole due old new status =
    status ≢ WriteFailed → status ≢ NoMemory
    → (text : List ℕ) × due status text × Appends old new text

-- a prefix of a text that is due was written
abbrev pub Part : Answers → Option (List ℕ) → Option (List ℕ) → Type 0
Part due old new =
    (status : Status) × (text : List ℕ) × due status text × AppendsStart old new text
