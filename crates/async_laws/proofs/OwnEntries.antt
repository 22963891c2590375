-- The entries that a program makes are those of its fibrils.
use Rattle.std.proofs.Common.{ℕ, Bool, true, false, Option, Some, None, Result, Ok, Err}
use Rattle.std.proofs.Common.{arith}
use Rattle.std.specs.Prelude.{⊤, ◌==◌, slice_index, position}
use Rattle.std.specs.List.{find}
use Rattle.ipc_ids.specs.declared.numbers.CallNo.{CallNo}
use Rattle.ipc_ids.specs.declared.numbers.FibrilNo.{FibrilNo}
use Rattle.ipc_ids.specs.declared.numbers.ExchangeNo.{ExchangeNo}
use Rattle.ipc_ids.specs.declared.numbers.Code.{Code}
use Rattle.ipc_ids.specs.declared.numbers.Label.{Label}
use Rattle.ipc_ids.specs.declared.message.Msg.{Msg}
use Rattle.ipc_ids.specs.declared.message.Reply.{Reply}
use Rattle.ipc_ids.specs.declared.message.ExchangeMode.{ExchangeMode}
use Rattle.ipc_ids.specs.declared.message.ExchangeMode.TheVariants as mode
use Rattle.ipc_ids.specs.declared.op.Op.{Op}
use Rattle.ipc_ids.specs.declared.op.Op.TheVariants as op
use Rattle.ipc_ids.specs.declared.message.Outcome.{Outcome}
use Rattle.ipc_ids.specs.declared.message.Outcome.TheVariants as outcome
use Rattle.ipc_ids.specs.Codes.{eok, elimit}
use Rattle.ipc_ids.specs.Methods.{connect_me_to}
use Rattle.ipc_ids.proofs.Common.{is_same}
use Rattle.registers.specs.Registers.{value_in}
use Rattle.fibril_core.specs.declared.conn.Taken.{Taken}
use Rattle.fibril_core.specs.Fibrils.{why_of}
use Rattle.fibril_core.specs.Conns as conns
use Rattle.fibril_core.specs.Conns.{conn_of_fibril}
use Rattle.async_sessions.specs.declared.sessions.Ended.{Ended}
use Rattle.async_sessions.specs.declared.sessions.Begin.{Begin}
use Rattle.async_sessions.specs.declared.sessions.Begin.TheVariants as begin
use Rattle.async_sessions.specs.declared.sessions.Close.{Close}
use Rattle.async_sessions.specs.Sessions.{session_at, mode_answer, made, make_after, end_answer}
use Rattle.async_sessions.specs.Sessions.{end_after, held_by, close_after}
use Rattle.async_task.specs.declared.awaited.Awaited.{Awaited}
use Rattle.async_task.specs.declared.context.Slot.{Slot}
use Rattle.async_task.specs.declared.context.Context.{Context}
use Rattle.async_task.specs.Turns.{Turn}
use Rattle.async_task.specs.Turns as turn
use Rattle.async_task.specs.Contexts.{slot_at, handle_at}
use Rattle.async_task.specs.AsyncState.{AsyncState, context_at, present_op}
use Rattle.async_task.specs.Turns.{turn_now}
use Rattle.async_task.specs.Wanted.{phone_by, plan_begin, plan_close}
use Rattle.async_task.specs.Calls.{call_slot, send_over, wait_slot, next_call, with_taken}
use Rattle.async_task.specs.Exchanges.{with_pool, open_outcome, begin_exchange, connect_refused_by}
use Rattle.async_task.specs.Exchanges.{connect_outcome, begin_op, end_outcome, end_op}
use Rattle.async_task.specs.Exchanges.{close_outcome}
use Rattle.async_task.specs.Answers.{is_of_call, connect, answer_begin_by, answer_begin_at}
use Rattle.async_task.specs.Answers.{give_answer, is_for, wake_if, forget_call, take_answer}
use Rattle.async_task.specs.Connections.{connect_call, receive_call_by, is_of_connections}
use Rattle.async_task.specs.Steps.{do_op, manage, step_in}
use Rattle.async_laws.specs.Links.{AreOwn, EntriesAreOwn}

own_call :
    (a : AsyncState) (f : FibrilNo) (t : Context) (k : ℕ) (o : Outcome) (s : Slot) →
    AreOwn a.me.0 (call_slot a f t k o s).entries
own_call a f t k o s = grind (arith, is_same a.me.0)

own_send :
    (a : AsyncState) (f : FibrilNo) (t : Context) (k : ℕ) (o : Outcome) (s : Slot)
    (phone : Option ℕ) → AreOwn a.me.0 (send_over a f t k o s phone).entries
own_send a f t k o s None = (is_same a.me.0, tt)
own_send a f t k o s (Some phone) = own_call a f t k o s

own_wait : (a : AsyncState) (f : FibrilNo) (t : Context) (k : ℕ) (s : Slot) →
    AreOwn a.me.0 (wait_slot a f t k s).entries
own_wait a f t k s = grind (arith, is_same a.me.0)

own_next : (a : AsyncState) (f : FibrilNo) (t : Context) (s : Taken) →
    AreOwn a.me.0 (next_call a f t s).entries
own_next a f t s = grind (arith, is_same a.me.0)

own_open : (a : AsyncState) (f : FibrilNo) (t : Context) (r : Result ⊤ Code) →
    AreOwn a.me.0 (open_outcome a f t r).entries
own_open a f t (Ok x) = tt
own_open a f t (Err c) = (is_same a.me.0, tt)

own_begun :
    (a : AsyncState) (f : FibrilNo) (t : Context) (x s : ℕ) (e : ExchangeNo) (phone : ℕ)
    (m : Option ExchangeMode) → AreOwn a.me.0 (begin_exchange a f t x s e phone m).entries
own_begun a f t x s e phone None = tt
own_begun a f t x s e phone (Some m) = (is_same a.me.0, tt)

own_refused : (a : AsyncState) (f : FibrilNo) (t : Context) (c : Code) (b : Bool) →
    AreOwn a.me.0 (connect_refused_by a f t c b).entries
own_refused a f t c true = tt
own_refused a f t c false = (is_same a.me.0, tt)

own_connect : (a : AsyncState) (f : FibrilNo) (t : Context) (o : Outcome) →
    AreOwn a.me.0 (connect_outcome a f t o).entries
own_connect a f t (outcome.Accepted n) = (is_same a.me.0, (is_same a.me.0, tt))
own_connect a f t (outcome.Refused c) = own_refused a f t c (c.0 == elimit.0)
own_connect a f t _ = tt

own_begin :
    (a : AsyncState) (f : FibrilNo) (t : Context) (x s : ℕ) (o : Outcome) (plan : Begin) →
    AreOwn a.me.0 (begin_op a f t x s o plan).entries
own_begin a f t x s o (begin.Begun e phone) =
    own_begun a f t x s e phone (mode_answer (session_at a.pool s))
own_begin a f t x s o (begin.Connect phone) = own_connect a f t o
own_begin a f t x s o (begin.HangIdle e phone) = (is_same a.me.0, tt)
own_begin a f t x s o begin.WaitMutex = (is_same a.me.0, tt)
own_begin a f t x s o begin.WaitPhone = (is_same a.me.0, tt)
own_begin a f t x s o (begin.Refused c) = (is_same a.me.0, tt)
own_begin a f t x s o begin.NoMemory = tt

own_ended :
    (a : AsyncState) (f : FibrilNo) (t : Context) (x : ℕ) (e : ExchangeNo) (r : Result Ended Code) →
    AreOwn a.me.0 (end_outcome a f t x e r).entries
own_ended a f t x e (Ok of) = (is_same a.me.0, tt)
own_ended a f t x e (Err c) = (is_same a.me.0, tt)

own_end : (a : AsyncState) (f : FibrilNo) (t : Context) (x : ℕ) (h : Option ExchangeNo) →
    AreOwn a.me.0 (end_op a f t x h).entries
own_end a f t x None = (is_same a.me.0, tt)
own_end a f t x (Some e) =
    own_ended (with_pool a (end_after a.pool e (held_by f e a.pool.exchanges))) f t x e
    (end_answer (held_by f e a.pool.exchanges))

own_close : (a : AsyncState) (f : FibrilNo) (t : Context) (o : Outcome) (plan : Close) →
    AreOwn a.me.0 (close_outcome a f t o plan).entries
own_close a f t o plan = grind (arith, is_same a.me.0)

own_op : (a : AsyncState) (f : FibrilNo) (t : Context) (p : Op) (o : Outcome) →
    AreOwn a.me.0 (do_op a f t p o).entries
own_op a f t (op.CallSlot k phone method args) o = own_call a f t k o (slot_at t k)
own_op a f t (op.Send k x method args) o =
    own_send a f t k o (slot_at t k) (phone_by a.pool f (handle_at t x))
own_op a f t (op.Wait k) o = own_wait a f t k (slot_at t k)
own_op a f t op.Next o =
    own_next (with_taken a f) f t (conns.take_answer (conn_of_fibril f a.conns))
own_op a f t (op.OpenSession s phone m) o =
    own_open (with_pool a (make_after a.pool s (value_in t.registers phone) m (session_at a.pool s))) f t
    (made (session_at a.pool s))
own_op a f t (op.Begin x s) o = own_begin a f t x s o (plan_begin a f t x s)
own_op a f t (op.End x) o = own_end a f t x (handle_at t x)
own_op a f t (op.Close s) o =
    own_close (with_pool a (close_after a.pool s (plan_close a s))) f t o (plan_close a s)
own_op a f t _ o = tt

own_connected :
    (a : AsyncState) (f : FibrilNo) (t : Context) (x s phone : ℕ) (m : Option ExchangeMode) →
    AreOwn a.me.0 (connect a f t x s phone m).entries
own_connected a f t x s phone (Some mode.Parallel) = (is_same a.me.0, tt)
own_connected a f t x s phone (Some mode.Atomic) = tt
own_connected a f t x s phone (Some mode.Serialize) = tt
own_connected a f t x s phone None = tt

own_answer_begin :
    (a : AsyncState) (f : FibrilNo) (t : Context) (x s : ℕ) (r : Reply) (b : Bool) →
    AreOwn a.me.0 (answer_begin_by a f t x s r b).entries
own_answer_begin a f t x s r true =
    own_connected a f t x s (slice_index r.args 4) (mode_answer (session_at a.pool s))
own_answer_begin a f t x s r false = own_refused a f t r.code (r.code.0 == elimit.0)

own_begin_at : (a : AsyncState) (f : FibrilNo) (t : Context) (r : Reply) (p : Option Op) →
    AreOwn a.me.0 (answer_begin_at a f t r p).entries
own_begin_at a f t r (Some (op.Begin x s)) = own_answer_begin a f t x s r (r.code.0 == eok.0)
own_begin_at a f t r _ = tt

own_give :
    (a : AsyncState) (f : FibrilNo) (n : CallNo) (r : Reply) (b : Bool) (k : Option ℕ)
    (t : Option Context) → AreOwn a.me.0 (give_answer a f n r b k t).entries
own_give a f n r b (Some k) (Some t) = tt
own_give a f n r b None (Some t) = own_begin_at a f t r (present_op a t)
own_give a f n r b (Some k) None = tt
own_give a f n r b None None = tt

own_answer : (a : AsyncState) (n : CallNo) (r : Reply) (w : Option Awaited) →
    AreOwn a.me.0 (take_answer a n r w).entries
own_answer a n r None = tt
own_answer a n r (Some w) =
    let b : Bool = is_for n (why_of a.order w.fibril) in
    let c : AsyncState = forget_call (wake_if a w.fibril b) n in
    (is_same a.me.0, own_give c w.fibril n r b w.slot (context_at c w.fibril))

own_connect_call :
    (a : AsyncState) (n : CallNo) (msg : Msg) (label : Label) (body : Option ℕ) →
    AreOwn a.me.0 (connect_call a n msg label body).entries
own_connect_call a n msg label None = tt
own_connect_call a n msg label (Some body) = (is_same a.me.0, tt)

own_receive : (a : AsyncState) (n : CallNo) (msg : Msg) (label : Label) (b : Bool) →
    AreOwn a.me.0 (receive_call_by a n msg label b).entries
own_receive a n msg label true =
    own_connect_call a n msg label (position is_of_connections a.bodies)
own_receive a n msg label false = tt

own_manage : (a : AsyncState) (o : Outcome) → AreOwn a.me.0 (manage a o).entries
own_manage a (outcome.Received n msg label) =
    own_receive a n msg label (msg.method == connect_me_to)
own_manage a (outcome.Answered n r) = own_answer a n r (find (is_of_call n) a.awaited)
own_manage a _ = tt

own_turn : (a : AsyncState) (o : Outcome) (s : Turn) → AreOwn a.me.0 (step_in a o s).entries
own_turn a o (turn.Work n c) = tt
own_turn a o (turn.Run f t None) = (is_same a.me.0, tt)
own_turn a o (turn.Run f t (Some p)) = own_op a f t p o
own_turn a o turn.Receive = own_manage a o

pub own_entries : EntriesAreOwn
own_entries a o = own_turn a o (turn_now a)
