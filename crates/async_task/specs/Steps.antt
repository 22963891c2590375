-- What an outcome makes of an async task.
use Rattle.std.specs.Prelude.{ℕ, suc, zero, Bool, true, false, List, [], ◌∷◌, Option, None, Some}
use Rattle.std.specs.Prelude.{slice_get}
use Rattle.std.specs.List.{find}
use Rattle.ipc_ids.specs.declared.numbers.TaskNo.{TaskNo}
use Rattle.ipc_ids.specs.declared.numbers.CallNo.{CallNo}
use Rattle.ipc_ids.specs.declared.numbers.FibrilNo.{FibrilNo}
use Rattle.ipc_ids.specs.declared.numbers.Code.{Code}
use Rattle.ipc_ids.specs.declared.message.Outcome.{Outcome}
use Rattle.ipc_ids.specs.declared.message.Outcome.TheVariants as outcome
use Rattle.ipc_ids.specs.declared.op.Body.{Body}
use Rattle.ipc_ids.specs.declared.op.Op.{Op}
use Rattle.ipc_ids.specs.declared.op.Op.TheVariants as op
use Rattle.registers.specs.Registers.{value_in}
use Rattle.fibril_core.specs.Fibrils.{no_fibrils}
use Rattle.fibril_core.specs.Conns.{no_conns, conn_of_fibril}
use Rattle.fibril_core.specs.Conns as conns
use Rattle.async_sessions.specs.Sessions.{no_sessions}
use Rattle.async_task.specs.declared.context.Context.{Context}
use Rattle.async_task.specs.Turns.{Turn}
use Rattle.async_task.specs.Turns as turn
use Rattle.async_task.specs.Contexts.{new_context, slot_at, handle_at}
use Rattle.async_task.specs.AsyncState.{AsyncState, Transition, without_entries, with_context}
use Rattle.async_task.specs.Turns.{turn_now}
use Rattle.async_task.specs.Wanted.{phone_by, plan_begin, plan_close}
use Rattle.async_task.specs.Calls.{call_slot, send_over, wait_slot, next_call, with_taken}
use Rattle.async_task.specs.Calls.{yield_op, after_raw}
use Rattle.async_task.specs.Exchanges.{open_session, begin_op, end_op, close_op}
use Rattle.async_task.specs.Answers.{is_of_call, take_answer}
use Rattle.async_task.specs.Connections.{receive_call, end_fibril, with_fibril}

-- the present fibril, which is f, does an operation
abbrev pub do_op : AsyncState → FibrilNo → Context → Op → Outcome → Transition
do_op a f t (op.CallSlot k phone method args) o = call_slot a f t k o (slot_at t k)
do_op a f t (op.Send k x method args) o =
    send_over a f t k o (slot_at t k) (phone_by a.pool f (handle_at t x))
do_op a f t (op.Wait k) o = wait_slot a f t k (slot_at t k)
do_op a f t op.Next o =
    next_call (with_taken a f) f t (conns.take_answer (conn_of_fibril f a.conns))
do_op a f t op.Yield o = without_entries (yield_op a f t)
do_op a f t (op.OpenSession s phone m) o = open_session a f t s (value_in t.registers phone) m
do_op a f t (op.Begin x s) o = begin_op a f t x s o (plan_begin a f t x s)
do_op a f t (op.End x) o = end_op a f t x (handle_at t x)
do_op a f t (op.Close s) o = close_op a f t s o (plan_close a s)
do_op a f t other o = without_entries (with_context a f (after_raw t other o))

-- the manager received something, or nothing
abbrev pub manage : AsyncState → Outcome → Transition
manage a (outcome.Received n msg label) = receive_call a n msg label
manage a (outcome.Answered n reply) = take_answer a n reply (find (is_of_call n) a.awaited)
manage a _ = without_entries a

-- what is left of the work once its first answer was made
abbrev pub rest_of : List (CallNo × Code) → List (CallNo × Code)
rest_of [] = []
rest_of (w ∷ ws) = ws

abbrev pub step_in : AsyncState → Outcome → Turn → Transition
step_in a o (turn.Work n c) = without_entries (record a { work = rest_of a.work })
step_in a o (turn.Run f t None) = end_fibril a f
step_in a o (turn.Run f t (Some p)) = do_op a f t p o
step_in a o turn.Receive = manage a o

-- one event, whose request had this outcome
abbrev pub step : AsyncState → Outcome → Transition
step a o = step_in a o (turn_now a)

-- a task before its fibrils start
abbrev pub bare_task : TaskNo → List Body → AsyncState
bare_task me bodies =
    record {
      me = me;
      bodies = bodies;
      order = no_fibrils;
      contexts = [];
      conns = no_conns;
      pool = no_sessions;
      awaited = [];
      work = [];
    }

-- a fibril starts in the body with this number, unless that is the body of connections
abbrev pub start_in : ℕ → Bool → AsyncState → AsyncState
start_in n false a = with_fibril a (new_context n)
start_in n true a = a

abbrev pub start_at : ℕ → Option Body → AsyncState → AsyncState
start_at n None a = a
start_at n (Some body) a = start_in n body.connection a

-- the first n bodies have started
abbrev pub start_bodies : ℕ → AsyncState → AsyncState
start_bodies zero a = a
start_bodies (suc n) a = start_at n (slice_get a.bodies n) (start_bodies n a)
