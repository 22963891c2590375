use Rattle.std.proofs.Common.{◌≡◌, Ok}
use Rattle.script_lines.proofs.Lines.{here, lines_of, size_of}
use Rattle.script_lines.specs.Names.{task_names}
use Rattle.script_lines.specs.Text.{lines}
use Rattle.script_reader.specs.EventLine.{EventsAndNames, no_events, after_event}
use Rattle.script_reader.specs.Reading.{lines_from}
use Rattle.hipc_search.proofs.Knowing.{IsLeft}
use Rattle.hipc_search.proofs.known.names_behind.Given as goal

-- the names are known behind the lines that were read
abbrev pub invariant-loop-left : goal.invariant-loop-left
invariant-loop-left l =
    (made : EventsAndNames) → lines_from (after_event l.script) 1 (no_events l.script) (lines l.bytes) ≡ Ok made
    → IsLeft (task_names l.script.templates) l.names (lines_of (here l.left)) made

abbrev pub decreases-loop-left : goal.decreases-loop-left
decreases-loop-left l = size_of (here l.left)
