-- What a forward answers, and the calls after it.
use Rattle.std.specs.Prelude.{◌≡◌, ℕ, if◌then◌else◌, Option, None, Some, Result, Ok, Err}
use Rattle.std.specs.Option.{option_map_or}
use Rattle.ipc_ids.specs.declared.message.Msg.{Msg}
use Rattle.ipc_ids.specs.declared.message.Mode.{Mode}
use Rattle.ipc_ids.specs.declared.message.PhoneState.{PhoneState}
use Rattle.ipc_ids.specs.declared.message.PhoneState.TheVariants.{Free, Connecting, Connected, HungUp, Slammed}
use Rattle.ipc_ids.specs.declared.numbers.Label.{Label}
use Rattle.ipc_ids.specs.declared.numbers.TaskNo.{TaskNo}
use Rattle.call_slab.specs.declared.call.Call.{Call}
use Rattle.call_slab.specs.declared.call.Place.TheVariants.{Incoming}
use Rattle.answerbox.specs.Calls.{CallTable, call_at, put_at, active_calls}
use Rattle.forwarding.specs.declared.passing.Forwarded.{Forwarded}
use Rattle.forwarding.specs.declared.passing.ForwardFault.{ForwardFault}
use Rattle.forwarding.specs.declared.passing.ForwardFault.TheVariants.{NotHeld, NotForwardable, NotConnected}
use Rattle.forwarding.specs.Forwarding.{is_held, is_forwardable, msg_after, label_after}

-- the task to which the phone leads
abbrev pub callee_of : Option PhoneState → Result TaskNo ForwardFault
callee_of None = Err NotConnected
callee_of (Some Free) = Err NotConnected
callee_of (Some Connecting) = Err NotConnected
callee_of (Some (Connected to)) = Ok to
callee_of (Some HungUp) = Err NotConnected
callee_of (Some Slammed) = Err NotConnected

-- the task that gets the call next, or the first test that fails
abbrev pub receiver_of : TaskNo → Option PhoneState → Option Msg → Call → Result TaskNo ForwardFault
receiver_of by phone change c =
    if is_held by c then (if is_forwardable change c then callee_of phone else Err NotForwardable) else Err NotHeld

abbrev pub as_forwarded : ℕ → Result TaskNo ForwardFault → Result Forwarded ForwardFault
as_forwarded n (Err fault) = Err fault
as_forwarded n (Ok to) = Ok (record { call = record { 0 = n }; to = to })

-- what the task is answered that wants to pass on call n over a phone in this state
abbrev pub forward_answer : CallTable → TaskNo → Option PhoneState → ℕ → Option Msg → Result Forwarded ForwardFault
forward_answer calls by phone n change =
    as_forwarded n (option_map_or (receiver_of by phone change) (call_at calls n) (Err NotHeld))

-- the record as the next receiver sees it
abbrev pub call_after : TaskNo → ℕ → Mode → Option Msg → Call → Call
call_after by through mode change c = record c { msg = msg_after change c; label = label_after by through mode c }

-- after the answer the call is the last that came to its receiver; after a fault nothing has changed
abbrev pub table_after : CallTable → TaskNo → ℕ → Mode → Option Msg → Result Forwarded ForwardFault → CallTable
table_after calls by through mode change (Err fault) = calls
table_after calls by through mode change (Ok forwarded) =
    option_map_or (λ c. put_at calls (call_after by through mode change c) (Incoming forwarded.to)) (call_at calls forwarded.call.0) calls

-- each phone has as many active calls as before
abbrev pub KeepsActive : CallTable → CallTable → Type 0
KeepsActive old new = (phone : Label) → active_calls new phone ≡ active_calls old phone
