-- A run whose text is written event by event, through a buffer.
use Rattle.std.specs.Prelude.{◌≡◌, ◌≤◌, ◌+◌, ◌-◌, ◌++◌, ℕ, List, Option, None, Some, length, take, ⊤}
use Rattle.std.specs.Io.KnownBytes.{Appends}
use Rattle.ipc_ids.specs.declared.message.Event.{Event}
use Rattle.trace_print.specs.Text.{text_of}
use Rattle.script_lines.specs.Plan.{Plan}
use Rattle.task_system.specs.Run.{run}

-- some bytes were written, and followed by those in the buffer they are the text
abbrev pub Sent : Option (List ℕ) → Option (List ℕ) → List ℕ → List ℕ → Type 0
Sent old new buffer text = (sent : List ℕ) × Appends old new sent × (sent ++ buffer ≡ text)

-- the text is at most so many bytes longer than what was written, where the sink tells its bytes
abbrev pub IsAheadBy : ℕ → Option (List ℕ) → Option (List ℕ) → List ℕ → Type 0
IsAheadBy most None new text = ⊤
IsAheadBy most (Some old) None text = ⊤
IsAheadBy most (Some old) (Some new) text = length text + length old ≤ length new + most

-- all but the last
abbrev pub but_last : List Event → List Event
but_last events = take (length events - 1) events

-- of the events that were taken from the feed, all but the last are written,
-- except for at most so many bytes of their text
abbrev pub KeepsUp : ℕ → Plan → List Event → List Event → Option (List ℕ) → Option (List ℕ) → Type 0
KeepsUp most plan all left old new =
    (taken : List Event) × (all ≡ taken ++ left) × IsAheadBy most old new (text_of (run plan (but_last taken)))
