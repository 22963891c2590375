-- Which command the words of a command line are.
use Rattle.std.specs.Prelude.{ℕ, ◌≤◌, List, [], ◌∷◌, ⊤, Option, None, Some, codes, nat_le, map, String, string_bytes, if◌then◌else◌}
use Rattle.std.specs.declared.alloc.Global.{Global}
use Rattle.std.specs.Str.{bytes_eq}
use Rattle.ipc_ids.specs.Tables.{most_events}
use Rattle.script_lines.specs.Word.{number}
use Rattle.command_line.specs.declared.command.Command.{Command as Said}
use Rattle.command_line.specs.declared.command.Command.TheVariants as form

-- what the program is asked to do: to replay a schedule over a script, by the names of their files,
-- or to run generated input, by a seed and a number of events
pub data Command : Type 0 where
  Replay : (script schedule : List ℕ) → Command
  Generate : (seed events : ℕ) → Command
  Check : (trace : List ℕ) → Command

-- words as bytes
abbrev pub texts : List (String Global) → List (List ℕ)
texts words = map string_bytes words

-- for what two words spell: two numbers, the second at most the most events of a run
abbrev pub generate : Option ℕ → Option ℕ → Option Command
generate None events = None
generate (Some seed) None = None
generate (Some seed) (Some events) = if nat_le events most_events then Some (Generate seed events) else None

-- the words are `replay SCRIPT SCHEDULE`, or `gen SEED EVENTS`, or no command
abbrev pub command_of : List (List ℕ) → Option Command
command_of (command ∷ first ∷ second ∷ []) =
    if bytes_eq command (codes "replay") then Some (Replay first second)
    else (if bytes_eq command (codes "gen") then generate (number first) (number second) else None)
command_of (command ∷ trace ∷ []) = if bytes_eq command (codes "check") then Some (Check trace) else None
command_of words = None

-- the command as the code has it, which lends the words
abbrev pub said : Said → Command
said (form.Replay script schedule) = Replay script.now schedule.now
said (form.Generate seed events) = Generate seed events
said (form.Check trace) = Check trace.now

-- a command asks for no more events than a run may have
abbrev pub HasFewEvents : Said → Type 0
HasFewEvents (form.Replay script schedule) = ⊤
HasFewEvents (form.Generate seed events) = events ≤ most_events
HasFewEvents (form.Check trace) = ⊤
