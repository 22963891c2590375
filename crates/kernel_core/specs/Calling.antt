-- A call by task t over its phone p.
use Rattle.std.specs.Prelude.{ℕ, Bool, true, false, not, if◌then◌else◌, nat_le, Option, None, Some, Result, Ok, Err}
use Rattle.ipc_ids.specs.declared.numbers.TaskNo.{TaskNo}
use Rattle.ipc_ids.specs.declared.numbers.Code.{Code}
use Rattle.ipc_ids.specs.declared.message.Msg.{Msg}
use Rattle.ipc_ids.specs.declared.message.PhoneState.{PhoneState}
use Rattle.ipc_ids.specs.declared.message.PhoneState.TheVariants.{Free, Connecting, Connected, HungUp, Slammed}
use Rattle.ipc_ids.specs.Codes.{enoent, eperm, elimit, ehangup}
use Rattle.ipc_ids.specs.declared.methods.MethodKind.{MethodKind}
use Rattle.ipc_ids.specs.declared.methods.MethodKind.TheVariants.{PhoneHungUp, ConnectToMe, ConnectMeTo, DataWrite, DataRead, ShareOut, ShareIn, Unused, User}
use Rattle.ipc_ids.specs.Methods.{kind_of}
use Rattle.ipc_ids.specs.Tables.{most_active}
use Rattle.call_slab.specs.declared.call.Call.{Call}
use Rattle.call_slab.specs.declared.call.Place.TheVariants.{Incoming, Answers}
use Rattle.answerbox.specs.Calls.{active_calls}
use Rattle.switchboard.specs.State.{KernelState, phone_at, label_of}
use Rattle.switchboard.specs.Joins.{new_call, acceptance, answer_at_once}
use Rattle.switchboard.specs.Serving.{Handed, Served, refusal}
use Rattle.kernel_core.specs.Moments.{before_send}

-- the call goes to task u, where its method allows it to be sent, and else it is answered at once
abbrev pub sent_to : TaskNo → KernelState → Call → Result Handed Code → Served
sent_to u k c (Ok handed) = acceptance handed (Some u)
sent_to u k c (Err code) = answer_at_once k (record c { place = Answers c.from.task }) code

-- a call that is not refused, over a phone in this state
abbrev pub call_through : KernelState → TaskNo → ℕ → Msg → PhoneState → Served
call_through k t p msg Free = refusal k enoent
call_through k t p msg Connecting = refusal k enoent
call_through k t p msg (Connected u) = sent_to u k (new_call k t p msg (Incoming u)) (before_send k (new_call k t p msg (Incoming u)))
call_through k t p msg HungUp = answer_at_once k (new_call k t p msg (Answers t)) ehangup
call_through k t p msg Slammed = answer_at_once k (new_call k t p msg (Answers t)) enoent

-- whether a task may call with a method of this kind
abbrev pub is_callable : MethodKind → Bool
is_callable PhoneHungUp = false
is_callable ConnectToMe = true
is_callable ConnectMeTo = true
is_callable DataWrite = true
is_callable DataRead = true
is_callable ShareOut = true
is_callable ShareIn = true
is_callable Unused = false
is_callable User = true

-- a phone has so many active calls at most
abbrev pub call_tested : KernelState → TaskNo → ℕ → Msg → PhoneState → Served
call_tested k t p msg state =
    if not (is_callable (kind_of msg.method)) then refusal k eperm
    else (if nat_le most_active (active_calls k.calls (label_of t p)) then refusal k elimit else call_through k t p msg state)

-- a phone that is out of range, free or connecting comes first
abbrev pub call_over : KernelState → TaskNo → ℕ → Msg → Option PhoneState → Served
call_over k t p msg None = refusal k enoent
call_over k t p msg (Some Free) = refusal k enoent
call_over k t p msg (Some Connecting) = refusal k enoent
call_over k t p msg (Some (Connected u)) = call_tested k t p msg (Connected u)
call_over k t p msg (Some HungUp) = call_tested k t p msg HungUp
call_over k t p msg (Some Slammed) = call_tested k t p msg Slammed

abbrev pub call : KernelState → TaskNo → ℕ → Msg → Served
call k t p msg = call_over k t p msg (phone_at k t p)
