-- The line that sums up the run of generated input.
use Rattle.std.specs.Prelude.{ℕ, ◌+◌, ◌++◌, List, Bool, true, false, length, count_by, codes, decimal}
use Rattle.ipc_ids.specs.declared.entry.Entry.{Entry}
use Rattle.ipc_ids.specs.declared.entry.Entry.TheVariants as entry
use Rattle.trace_print.specs.Text.{text_of}
use Rattle.task_system.specs.Run.{run}
use Rattle.schedule_replay.specs.Generator.{generated_plan, generated_events}
use Rattle.command_line.specs.declared.summary.Tally.{Tally}

abbrev pub is_accepted : Entry → Bool
is_accepted (entry.Accepted call from method to) = true
is_accepted _ = false

abbrev pub is_answered : Entry → Bool
is_answered (entry.Answered call reply by) = true
is_answered _ = false

abbrev pub is_vanished : Entry → Bool
is_vanished (entry.Vanished call) = true
is_vanished _ = false

abbrev pub is_delivered : Entry → Bool
is_delivered (entry.Delivered call to) = true
is_delivered _ = false

-- a tally with these entries counted too: how many tell that a call is accepted, answered, vanished or
-- delivered, and how many bytes their text has
abbrev pub with_entries : Tally → List Entry → Tally
with_entries tally entries =
    record {
      calls = tally.calls + count_by is_accepted entries;
      answered = tally.answered + count_by is_answered entries;
      vanished = tally.vanished + count_by is_vanished entries;
      delivered = tally.delivered + count_by is_delivered entries;
      bytes = tally.bytes + length (text_of entries);
    }

abbrev pub no_tally : Tally
no_tally = record { calls = 0; answered = 0; vanished = 0; delivered = 0; bytes = 0 }

-- what the entries come to
abbrev pub tally_of : List Entry → Tally
tally_of entries = with_entries no_tally entries

-- so many events, and the calls and answers of a tally
abbrev pub first_half : ℕ → Tally → List ℕ
first_half events tally =
    codes "events " ++ decimal events
    ++ codes " calls " ++ decimal tally.calls
    ++ codes " answered " ++ decimal tally.answered

-- what vanished and what was delivered, and the bytes
abbrev pub second_half : Tally → List ℕ
second_half tally =
    codes " vanished " ++ decimal tally.vanished
    ++ codes " delivered " ++ decimal tally.delivered
    ++ codes " bytes " ++ decimal tally.bytes
    ++ codes "\n"

-- the line of so many events and what they come to
abbrev pub tally_line : ℕ → Tally → List ℕ
tally_line events tally = first_half events tally ++ second_half tally

-- the entries of the run that a seed and a number of events generate
abbrev pub generated_run : ℕ → ℕ → List Entry
generated_run seed events = run generated_plan (generated_events seed events)

-- the line that sums it up
abbrev pub summary_line : ℕ → ℕ → List ℕ
summary_line seed events = tally_line events (tally_of (generated_run seed events))
