-- Operations on sessions and exchanges.
use Rattle.std.specs.Prelude.{ℕ, ⊤, Bool, true, false, ◌==◌, [], ◌∷◌, ◌++◌}
use Rattle.std.specs.Prelude.{Option, None, Some, Result, Ok, Err}
use Rattle.ipc_ids.specs.declared.numbers.CallNo.{CallNo}
use Rattle.ipc_ids.specs.declared.numbers.FibrilNo.{FibrilNo}
use Rattle.ipc_ids.specs.declared.numbers.ExchangeNo.{ExchangeNo}
use Rattle.ipc_ids.specs.declared.numbers.Code.{Code}
use Rattle.ipc_ids.specs.declared.message.ExchangeMode.{ExchangeMode}
use Rattle.ipc_ids.specs.declared.message.ExchangeMode.TheVariants as mode
use Rattle.ipc_ids.specs.declared.message.Why.TheVariants as why
use Rattle.ipc_ids.specs.declared.message.Outcome.{Outcome}
use Rattle.ipc_ids.specs.declared.message.Outcome.TheVariants as outcome
use Rattle.ipc_ids.specs.declared.entry.Entry.TheVariants as entry
use Rattle.ipc_ids.specs.Codes.{enoent, elimit}
use Rattle.fibril_core.specs.Fibrils.{FibrilOrder, block_on, wake_all}
use Rattle.async_sessions.specs.declared.sessions.Begin.{Begin}
use Rattle.async_sessions.specs.declared.sessions.Begin.TheVariants as begin
use Rattle.async_sessions.specs.declared.sessions.Close.{Close}
use Rattle.async_sessions.specs.declared.sessions.Close.TheVariants as close
use Rattle.async_sessions.specs.declared.sessions.Ended.{Ended}
use Rattle.async_sessions.specs.Sessions.{Open, session_at, mode_answer, made, make_after}
use Rattle.async_sessions.specs.Sessions.{begun_after, dropped, held_by, end_answer, end_after}
use Rattle.async_sessions.specs.Sessions.{close_after}
use Rattle.async_task.specs.declared.context.Context.{Context}
use Rattle.async_task.specs.Contexts.{with_short, after_done, after_outcome, after_begun}
use Rattle.async_task.specs.Contexts.{after_ended}
use Rattle.async_task.specs.AsyncState.{AsyncState, Transition, without_entries, with_context}
use Rattle.async_task.specs.Calls.{refuse_op, block}

-- with these sessions and exchanges
abbrev pub with_pool : AsyncState → Open → AsyncState
with_pool a o = record a { pool = o }

-- a session was made, or not
abbrev pub open_outcome : AsyncState → FibrilNo → Context → Result ⊤ Code → Transition
open_outcome a f t (Ok x) = without_entries (with_context a f (after_done t))
open_outcome a f t (Err c) = refuse_op a f t c

-- a fibril makes session s over a phone
abbrev pub open_session :
    AsyncState → FibrilNo → Context → ℕ → ℕ → ExchangeMode → Transition
open_session a f t s phone m =
    open_outcome (with_pool a (make_after a.pool s phone m (session_at a.pool s))) f t
    (made (session_at a.pool s))

-- a begin ends with exchange e under handle x
abbrev pub finish_begin :
    AsyncState → FibrilNo → Context → ℕ → ℕ → ExchangeNo → ExchangeMode → ℕ → Transition
finish_begin a f t x s e m phone =
    record {
      state = with_context a f (after_begun t x e);
      entries = entry.Begins a.me f e m s phone ∷ [];
    }

-- a begin comes to exchange e, where the session is in use
abbrev pub begin_exchange :
    AsyncState → FibrilNo → Context → ℕ → ℕ → ExchangeNo → ℕ → Option ExchangeMode → Transition
begin_exchange a f t x s e phone None = without_entries a
begin_exchange a f t x s e phone (Some m) =
    finish_begin (with_pool a (begun_after a.pool f s e phone m)) f t x s e m phone

-- a begin ends with a refusal
abbrev pub refuse_begin : AsyncState → FibrilNo → Context → Code → Transition
refuse_begin a f t c = refuse_op a f (with_short t false) c

-- the connect call of a begin was accepted: the present fibril, which is f, awaits the answer
abbrev pub send_connect : AsyncState → FibrilNo → CallNo → Transition
send_connect a f n =
    record {
      state =
          record a {
            order = block_on a.order (why.Answer n);
            awaited = a.awaited ++ record { call = n; fibril = f; slot = None } ∷ [];
          };
      entries = entry.Sent a.me f n None ∷ entry.Blocks a.me f (why.Answer n) ∷ [];
    }

-- a connect call was refused: at the limit the begin goes on without it
abbrev pub connect_refused_by : AsyncState → FibrilNo → Context → Code → Bool → Transition
connect_refused_by a f t c true = without_entries (with_context a f (with_short t true))
connect_refused_by a f t c false = refuse_begin a f t c

abbrev pub connect_refused : AsyncState → FibrilNo → Context → Code → Transition
connect_refused a f t c = connect_refused_by a f t c (c.0 == elimit.0)

-- the connect call of a begin was accepted, or the kernel refused it
abbrev pub connect_outcome : AsyncState → FibrilNo → Context → Outcome → Transition
connect_outcome a f t (outcome.Accepted n) = send_connect a f n
connect_outcome a f t (outcome.Refused c) = connect_refused a f t c
connect_outcome a f t _ = without_entries a

-- an idle exchange, whose phone is hung up, leaves the task
abbrev pub drop_idle : AsyncState → FibrilNo → ExchangeNo → Transition
drop_idle a f e =
    record { state = with_pool a (dropped a.pool e); entries = entry.Drops a.me f e ∷ [] }

-- a fibril begins an exchange of session s under handle x, which comes to that
abbrev pub begin_op :
    AsyncState → FibrilNo → Context → ℕ → ℕ → Outcome → Begin → Transition
begin_op a f t x s o (begin.Begun e phone) =
    begin_exchange a f t x s e phone (mode_answer (session_at a.pool s))
begin_op a f t x s o (begin.Connect phone) = connect_outcome a f t o
begin_op a f t x s o (begin.HangIdle e phone) =
    drop_idle (with_context a f (with_short t false)) f e
begin_op a f t x s o begin.WaitMutex = block a f (why.Mutex s)
begin_op a f t x s o begin.WaitPhone =
    block (with_context a f (with_short t false)) f why.Phone
begin_op a f t x s o (begin.Refused c) = refuse_begin a f t c
begin_op a f t x s o begin.NoMemory = without_entries a

-- whom the end of an exchange makes ready
abbrev pub wake_waiters : FibrilOrder → ExchangeMode → ℕ → FibrilOrder
wake_waiters o mode.Atomic s = o
wake_waiters o mode.Serialize s = wake_all o (why.Mutex s)
wake_waiters o mode.Parallel s = wake_all o why.Phone

-- exchange e of handle x has ended, or is not begun
abbrev pub end_outcome :
    AsyncState → FibrilNo → Context → ℕ → ExchangeNo → Result Ended Code → Transition
end_outcome a f t x e (Err c) = refuse_op a f t c
end_outcome a f t x e (Ok of) =
    record {
      state =
          record (with_context a f (after_ended t x)) {
            order = wake_waiters a.order of.mode of.session;
          };
      entries = entry.ExchangeEnds a.me f e ∷ [];
    }

-- a fibril ends the exchange that handle x names
abbrev pub end_op : AsyncState → FibrilNo → Context → ℕ → Option ExchangeNo → Transition
end_op a f t x None = refuse_op a f t enoent
end_op a f t x (Some e) =
    end_outcome (with_pool a (end_after a.pool e (held_by f e a.pool.exchanges))) f t x e
    (end_answer (held_by f e a.pool.exchanges))

-- what the fibril keeps and tells of a close that came to that
abbrev pub close_outcome : AsyncState → FibrilNo → Context → Outcome → Close → Transition
close_outcome a f t o (close.HangIdle e phone) =
    record { state = a; entries = entry.Drops a.me f e ∷ [] }
close_outcome a f t o (close.Last phone) = without_entries (with_context a f (after_outcome t o))
close_outcome a f t o (close.Refused c) = refuse_op a f t c

-- a fibril closes session s, which comes to that
abbrev pub close_op : AsyncState → FibrilNo → Context → ℕ → Outcome → Close → Transition
close_op a f t s o plan = close_outcome (with_pool a (close_after a.pool s plan)) f t o plan
