-- Argument 5 of a CONNECT_ME_TO that a task holds tells the phone that the entries of the run say to be kept for it,
-- the one that an answer EOK connects.
use Rattle.std.specs.Prelude.{ℕ, ◌+◌, ◌*◌, ◌≡◌, List, ◌++◌, Some, slice_index}
use Rattle.ipc_ids.specs.declared.numbers.Label.{Label}
use Rattle.ipc_ids.specs.declared.numbers.TaskNo.{TaskNo}
use Rattle.ipc_ids.specs.declared.message.Event.{Event}
use Rattle.ipc_ids.specs.declared.entry.Entry.{Entry}
use Rattle.ipc_ids.specs.Methods.{connect_me_to}
use Rattle.ipc_ids.specs.Holdings.{newest_first}
use Rattle.script_lines.specs.Plan.{Plan}
use Rattle.call_slab.specs.declared.call.Call.{Call}
use Rattle.call_slab.specs.declared.call.Place.TheVariants.{Dispatched}
use Rattle.answerbox.specs.Calls.{CallTable, call_at}
use Rattle.task_system.specs.Run.{start, run, state_after}
use Rattle.run_determined.specs.PhoneCauses.{asked_for}

-- of each CONNECT_ME_TO among these calls that a task holds, argument 5 tells caller and phone in one number, for the
-- phone that is kept by these entries, the newest first
abbrev pub TellKeptPhones : List Entry → CallTable → Type 0
TellKeptPhones q calls =
    (n : ℕ) (c : Call) (t : TaskNo) (l : Label) → call_at calls n ≡ Some c → c.place ≡ Dispatched t
    → c.request.method ≡ connect_me_to → asked_for n q ≡ Some l
    → slice_index c.msg.args 4 ≡ 64 * l.task.0 + l.phone.0

-- so it is after each event of a run
abbrev pub ConnectCallsTellTheirPhone : Plan → List Event → Type 0
ConnectCallsTellTheirPhone plan events =
    (done later : List Event) → events ≡ done ++ later →
    TellKeptPhones (newest_first (run plan done)) (state_after (start plan) done).kernel.calls
