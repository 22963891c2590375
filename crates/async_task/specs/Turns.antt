-- Whose turn it is in the next event.
use Rattle.std.specs.Prelude.{List, [], ◌∷◌, Option, None, Some}
use Rattle.ipc_ids.specs.declared.numbers.CallNo.{CallNo}
use Rattle.ipc_ids.specs.declared.numbers.FibrilNo.{FibrilNo}
use Rattle.ipc_ids.specs.declared.numbers.Code.{Code}
use Rattle.ipc_ids.specs.declared.op.Op.{Op}
use Rattle.fibril_core.specs.Fibrils.{current}
use Rattle.async_task.specs.declared.context.Context.{Context}
use Rattle.async_task.specs.AsyncState.{AsyncState, context_at, present_op}

-- who does the next event: the manager, which gives this answer; a fibril, which keeps this and does
-- this operation, or ends where it has none; or the manager, which receives
pub data Turn : Type 0 where
  Work : CallNo → Code → Turn
  Run : FibrilNo → Context → Option Op → Turn
  Receive : Turn

-- of the ready fibril that has been ready longest, with what it keeps
abbrev pub turn_of : AsyncState → FibrilNo → Option Context → Turn
turn_of a f None = Receive
turn_of a f (Some t) = Run f t (present_op a t)

-- where no fibril is ready, the manager receives
abbrev pub fibril_turn : AsyncState → Option FibrilNo → Turn
fibril_turn a None = Receive
fibril_turn a (Some f) = turn_of a f (context_at a f)

-- where an answer is owed, it is given first
abbrev pub work_turn : AsyncState → List (CallNo × Code) → Turn
work_turn a (w ∷ ws) = Work w.0 w.1
work_turn a [] = fibril_turn a (current a.order)

-- whose turn it is
abbrev pub turn_now : AsyncState → Turn
turn_now a = work_turn a a.work
