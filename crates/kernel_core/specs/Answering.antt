-- An answer by task t to a call that it holds.
use Rattle.std.specs.Prelude.{ℕ, Bool, true, false, if◌then◌else◌, Option, None, Some}
use Rattle.ipc_ids.specs.declared.numbers.TaskNo.{TaskNo}
use Rattle.ipc_ids.specs.declared.message.Reply.{Reply}
use Rattle.ipc_ids.specs.declared.message.Outcome.TheVariants.{Done}
use Rattle.ipc_ids.specs.Codes.{enoent}
use Rattle.call_slab.specs.declared.call.Call.{Call}
use Rattle.answerbox.specs.Calls.{call_at}
use Rattle.forwarding.specs.Forwarding.{is_held}
use Rattle.switchboard.specs.State.{KernelState, Transition}
use Rattle.switchboard.specs.Kept.{accepts}
use Rattle.switchboard.specs.Joins.{answer_to, lives, settle, vanishing}
use Rattle.switchboard.specs.Serving.{Served, telling, refusal}
use Rattle.kernel_core.specs.Moments.{on_accept}

-- the live call, where task t holds it
abbrev pub held_call : TaskNo → Option Call → Option Call
held_call t None = None
held_call t (Some c) = if is_held t c then Some c else None

-- a call that task t accepts goes to the answers of its caller, unless that has ended
abbrev pub accept_for : KernelState → TaskNo → Reply → Call → Option TaskNo → Bool → Transition
accept_for k t reply c None lives = vanishing k c
accept_for k t reply c (Some caller) false = vanishing k c
accept_for k t reply c (Some caller) true = answer_to (on_accept k c reply t caller) (Some t) caller

-- a reply with the code EOK accepts; every other one is settled as the kernel's own are
abbrev pub answer_call : KernelState → TaskNo → Reply → Call → Transition
answer_call k t reply c = if accepts reply.code then accept_for k t reply c c.caller (lives k c.caller) else settle k c reply (Some t)

abbrev pub answer_held : KernelState → TaskNo → Reply → Option Call → Served
answer_held k t reply None = refusal k enoent
answer_held k t reply (Some c) = telling (answer_call k t reply c) Done

abbrev pub answer : KernelState → TaskNo → ℕ → Reply → Served
answer k t n reply = answer_held k t reply (held_call t (call_at k.calls n))
