-- A forward by task t of call n, which it holds, over its phone p.
use Rattle.std.specs.Prelude.{ℕ, [], Option, None, Some, Result, Ok, Err}
use Rattle.ipc_ids.specs.declared.numbers.TaskNo.{TaskNo}
use Rattle.ipc_ids.specs.declared.numbers.Code.{Code}
use Rattle.ipc_ids.specs.declared.message.Msg.{Msg}
use Rattle.ipc_ids.specs.declared.message.Mode.{Mode}
use Rattle.ipc_ids.specs.declared.message.Outcome.TheVariants.{Done, Refused}
use Rattle.ipc_ids.specs.Codes.{enoent, eperm, eforward}
use Rattle.call_slab.specs.declared.call.Call.{Call}
use Rattle.answerbox.specs.Calls.{call_at}
use Rattle.forwarding.specs.declared.passing.Forwarded.{Forwarded}
use Rattle.forwarding.specs.declared.passing.ForwardFault.{ForwardFault}
use Rattle.forwarding.specs.declared.passing.ForwardFault.TheVariants.{NotHeld, NotForwardable, NotConnected}
use Rattle.forwarding.specs.Forwarding.{msg_after, label_after}
use Rattle.forwarding.specs.Routes.{forward_answer}
use Rattle.switchboard.specs.State.{KernelState, phone_at}
use Rattle.switchboard.specs.Serving.{refusal, Served, telling}
use Rattle.switchboard.specs.Joins.{bare_reply, passage, settle_live}

-- the kernel answers the call, and the task is refused with this code
abbrev pub failed_forward : KernelState → Option Call → Code → Served
failed_forward k c code = telling (settle_live k (bare_reply eforward) None c) (Refused code)

-- the call goes on to the task that the answer names
abbrev pub passing_on : KernelState → TaskNo → ℕ → Mode → Option Msg → Forwarded → Option Call → Served
passing_on k t p mode change forwarded None = record { state = k; outcome = Done; entries = [] }
passing_on k t p mode change forwarded (Some c) = telling (passage (msg_after change c) (label_after t p mode c) t forwarded.to k c) Done

-- what follows from the answer of the tests for this live call
abbrev pub forward_told : KernelState → TaskNo → ℕ → Mode → Option Msg → Option Call → Result Forwarded ForwardFault → Served
forward_told k t p mode change c (Ok forwarded) = passing_on k t p mode change forwarded c
forward_told k t p mode change c (Err NotHeld) = refusal k enoent
forward_told k t p mode change c (Err NotForwardable) = failed_forward k c eperm
forward_told k t p mode change c (Err NotConnected) = failed_forward k c enoent

abbrev pub forward : KernelState → TaskNo → ℕ → ℕ → Mode → Option Msg → Served
forward k t n p mode change = forward_told k t p mode change (call_at k.calls n) (forward_answer k.calls t (phone_at k t p) n change)
