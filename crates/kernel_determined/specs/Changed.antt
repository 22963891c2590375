-- What a machine did, changed in one thing: the memory, a phone, a call, or what is told.
use Rattle.std.specs.Prelude.{ℕ, List}
use Rattle.std.specs.FinMap.{insert}
use Rattle.ipc_ids.specs.declared.entry.Entry.{Entry}
use Rattle.call_slab.specs.declared.call.Call.{Call}
use Rattle.answerbox.specs.Calls.{CallTable}
use Rattle.switchboard.specs.State.{KernelState, Transition, with_calls}
use Rattle.switchboard.specs.Serving.{Served}

-- the call with this number has this record
abbrev pub with_call : CallTable → ℕ → Call → CallTable
with_call calls n c =
    record { records = insert calls.records n c; next_number = calls.next_number; next_stamp = calls.next_stamp }

-- a request, with this state after it, or with these entries
abbrev pub served_to : Served → KernelState → Served
served_to done after = record { state = after; outcome = done.outcome; entries = done.entries }

abbrev pub served_telling : Served → List Entry → Served
served_telling done told = record { state = done.state; outcome = done.outcome; entries = told }

-- a kill, likewise
abbrev pub ended_in : Transition → KernelState → Transition
ended_in done after = record { state = after; entries = done.entries }

abbrev pub ended_telling : Transition → List Entry → Transition
ended_telling done told = record { state = done.state; entries = told }

-- the state, with this record of that call
abbrev pub other_call : KernelState → ℕ → Call → KernelState
other_call k n c = with_calls k (with_call k.calls n c)
