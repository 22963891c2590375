-- A receive by task t: answers come before calls, and answers that nobody waits for are dropped.
use Rattle.std.specs.Prelude.{if◌then◌else◌, [], Option, None, Some}
use Rattle.ipc_ids.specs.declared.numbers.TaskNo.{TaskNo}
use Rattle.ipc_ids.specs.declared.message.Outcome.TheVariants.{Empty}
use Rattle.call_slab.specs.declared.call.Call.{Call}
use Rattle.call_slab.specs.declared.call.Place.TheVariants.{Incoming, Answers}
use Rattle.answerbox.specs.Calls.{front, calls_at}
use Rattle.switchboard.specs.State.{KernelState, Transition, drain}
use Rattle.switchboard.specs.Joins.{drop_answer, delivery, reception}
use Rattle.switchboard.specs.Serving.{Served, then_serve}
use Rattle.kernel_core.specs.Moments.{on_receive, on_delivery}

-- of the first answer and the first incoming call the answer
abbrev pub receive_first : KernelState → TaskNo → Option Call → Option Call → Served
receive_first k t (Some answer) incoming = delivery t (on_delivery k answer t)
receive_first k t None (Some c) = reception t (on_receive k c t)
receive_first k t None None = record { state = k; outcome = Empty; entries = [] }

abbrev pub receive_now : TaskNo → KernelState → Served
receive_now t k = receive_first k t (front k.calls (Answers t)) (front k.calls (Incoming t))

-- the answer, where nobody waits for it
abbrev pub unawaited : Option Call → Option Call
unawaited None = None
unawaited (Some c) = if c.discard then Some c else None

abbrev pub next_unawaited : TaskNo → KernelState → Option Call
next_unawaited t k = unawaited (front k.calls (Answers t))

-- the answers at the front that nobody waits for, as many at most as stand there
abbrev pub drop_unawaited : TaskNo → KernelState → Transition
drop_unawaited t k = drain (next_unawaited t) (drop_answer t) (calls_at k.calls (Answers t)) k

abbrev pub receive : KernelState → TaskNo → Served
receive k t = then_serve (drop_unawaited t k) (receive_now t)
