-- How many stamps, fibrils and numbers one event uses, and that each connection keeps its fibril.
use Rattle.std.proofs.Common.{ℕ, suc, zero, ◌+◌, ◌^◌, ◌<◌, ◌≤◌, ◌≡◌, Bool, true, false, List}
use Rattle.std.proofs.Common.{length, Option}
use Rattle.std.proofs.Common.{Some, None, refl, ◌∙◌, arith}
use Rattle.std.specs.Prelude.{if◌then◌else◌, ◌==◌, slice_index, position}
use Rattle.std.specs.List.{find}
use Rattle.std.proofs.lemmas.Grind.{common_steps}
use Rattle.std.proofs.lemmas.Bool.{cases_Bool}
use Rattle.ipc_ids.specs.declared.numbers.CallNo.{CallNo}
use Rattle.ipc_ids.specs.declared.numbers.FibrilNo.{FibrilNo}
use Rattle.ipc_ids.specs.declared.numbers.ExchangeNo.{ExchangeNo}
use Rattle.ipc_ids.specs.declared.numbers.Code.{Code}
use Rattle.ipc_ids.specs.declared.numbers.Label.{Label}
use Rattle.ipc_ids.specs.declared.message.Msg.{Msg}
use Rattle.ipc_ids.specs.declared.message.Reply.{Reply}
use Rattle.ipc_ids.specs.declared.message.Why.{Why}
use Rattle.ipc_ids.specs.declared.message.Why.TheVariants as why
use Rattle.ipc_ids.specs.declared.message.ExchangeMode.{ExchangeMode}
use Rattle.ipc_ids.specs.declared.message.ExchangeMode.TheVariants as mode
use Rattle.ipc_ids.specs.declared.op.Op.{Op}
use Rattle.ipc_ids.specs.declared.op.Op.TheVariants as op
use Rattle.ipc_ids.specs.declared.message.Outcome.{Outcome}
use Rattle.ipc_ids.specs.declared.message.Outcome.TheVariants as outcome
use Rattle.ipc_ids.specs.Codes.{eok, elimit}
use Rattle.ipc_ids.specs.Methods.{connect_me_to}
use Rattle.fibril_core.specs.declared.fibrils.Status.{Status}
use Rattle.fibril_core.specs.declared.fibrils.Status.TheVariants.{Ready, Blocked}
use Rattle.fibril_core.specs.declared.fibrils.Fibril.{Fibril}
use Rattle.fibril_core.specs.declared.conn.Conn.{Conn}
use Rattle.fibril_core.specs.declared.conn.Taken.{Taken}
use Rattle.fibril_core.specs.declared.conn.Taken.TheVariants as taken
use Rattle.fibril_core.specs.declared.conn.Routed.{Routed}
use Rattle.fibril_core.specs.declared.conn.Routed.TheVariants as routed
use Rattle.fibril_core.specs.Fibrils.{FibrilOrder, first_with, number_of, current, why_of}
use Rattle.fibril_core.specs.Fibrils.{next_number}
use Rattle.fibril_core.specs.Fibrils.{with_status, found_with, found_over, block_on}
use Rattle.fibril_core.specs.Fibrils.{make_ready, wake_times}
use Rattle.fibril_core.specs.Conns as conns
use Rattle.fibril_core.specs.Conns.{conn_of_fibril, conn_of_label, fibril_of, route_answer}
use Rattle.async_sessions.specs.declared.sessions.Session.{Session}
use Rattle.async_sessions.specs.declared.sessions.Exchange.{Exchange}
use Rattle.async_sessions.specs.declared.sessions.Begin.{Begin}
use Rattle.async_sessions.specs.declared.sessions.Begin.TheVariants as begin
use Rattle.async_sessions.specs.declared.sessions.Close.{Close}
use Rattle.async_sessions.specs.declared.sessions.Close.TheVariants as close
use Rattle.async_sessions.specs.Sessions as pool
use Rattle.async_sessions.specs.Sessions.{Open, session_at, mode_answer, made, make_after}
use Rattle.async_sessions.specs.Sessions.{begun_after}
use Rattle.async_sessions.specs.Sessions.{held_by, end_answer, end_after, close_after}
use Rattle.async_task.specs.declared.awaited.Awaited.{Awaited}
use Rattle.async_task.specs.declared.context.Slot.{Slot}
use Rattle.async_task.specs.declared.context.Slot.TheVariants as slot
use Rattle.async_task.specs.declared.context.Context.{Context}
use Rattle.async_task.specs.Turns.{Turn}
use Rattle.async_task.specs.Turns as turn
use Rattle.async_task.specs.Contexts.{slot_at, handle_at}
use Rattle.registers.specs.Registers.{value_in}
use Rattle.async_task.specs.AsyncState.{AsyncState, AreServed, context_at, present_op}
use Rattle.async_task.specs.Turns.{turn_now}
use Rattle.async_task.specs.Wanted.{phone_by, plan_begin, plan_close}
use Rattle.async_task.specs.Calls.{call_slot, send_over, wait_slot, next_call, with_taken}
use Rattle.async_task.specs.Exchanges.{with_pool, open_outcome, begin_exchange, connect_refused_by}
use Rattle.async_task.specs.Exchanges.{connect_outcome, begin_op, wake_waiters}
use Rattle.async_task.specs.Exchanges.{end_outcome, end_op, close_op}
use Rattle.async_task.specs.Answers.{is_of_call, answer_slot, connect, answer_begin_by}
use Rattle.async_task.specs.Answers.{answer_begin_at, give_answer, is_for, wake_if, forget_call}
use Rattle.async_task.specs.Answers.{take_answer}
use Rattle.async_task.specs.Connections.{hand_over, wake_reader, reach_blocked, after_route}
use Rattle.async_task.specs.Connections.{route_call, reach_holder, called_label, with_connection}
use Rattle.async_task.specs.Connections.{start_connection, connect_call, receive_call_by}
use Rattle.async_task.specs.Connections.{is_of_connections, end_fibril}
use Rattle.async_task.specs.Steps.{do_op, manage, step_in, step}
use Rattle.async_task.proofs.Served.{served_more, served_taken, served_routed, served_started}
use Rattle.async_task.proofs.Served.{served_finished}
use Rattle.async_task.specs.Program.{IsWithinCount}

-- the fibrils after at most so many stamps
pub record Stamps (n : ℕ) (o q : FibrilOrder) : Type 0 where
  pub stamps : q.next_stamp ≤ o.next_stamp + n
  pub fibrils : length q.fibrils ≡ length o.fibrils

no_stamp : (o : FibrilOrder) → Stamps 0 o o
no_stamp o = record { stamps = omega arith; fibrils = refl }

status_stamps : (o : FibrilOrder) (f : FibrilNo) (s : Status) → Stamps 1 o (with_status o f s)
status_stamps o f s = record { stamps = omega arith; fibrils = grind (arith, common_steps) }

found_stamps : (o : FibrilOrder) (s : Status) (f : Option FibrilNo) → Stamps 1 o (found_with o s f)
found_stamps o s None = record { stamps = omega arith; fibrils = refl }
found_stamps o s (Some f) = status_stamps o f s

block_stamps : (o : FibrilOrder) (w : Why) → Stamps 1 o (block_on o w)
block_stamps o w = found_stamps o (Blocked w) (current o)

over_stamps : (o : FibrilOrder) (x : Option Fibril) → Stamps 1 o (found_over o x)
over_stamps o None = record { stamps = omega arith; fibrils = refl }
over_stamps o (Some x) = record { stamps = omega arith; fibrils = grind (arith, common_steps) }

times_stamps : (n : ℕ) (o : FibrilOrder) (w : Why) → Stamps n o (wake_times n o w)
times_stamps zero o w = record { stamps = omega arith; fibrils = refl }
times_stamps (suc n) o w =
    let before : Stamps n o (wake_times n o w) = times_stamps n o w in
    let one : Stamps 1 (wake_times n o w) (wake_times (suc n) o w) =
    found_stamps (wake_times n o w) Ready
    (number_of (first_with (Blocked w) (wake_times n o w).fibrils)) in
    record {
      stamps = grind (arith, before.stamps, one.stamps);
      fibrils = one.fibrils ∙ before.fibrils;
    }

wake_stamps : (o : FibrilOrder) (m : ExchangeMode) (s : ℕ) →
    Stamps (length o.fibrils) o (wake_waiters o m s)
wake_stamps o mode.Atomic s = record { stamps = omega arith; fibrils = refl }
wake_stamps o mode.Serialize s = times_stamps (length o.fibrils) o (why.Mutex s)
wake_stamps o mode.Parallel s = times_stamps (length o.fibrils) o why.Phone

-- the exchanges after at most one number and one stamp
pub record Numbers (o q : Open) : Type 0 where
  pub numbers : q.next_number ≤ suc o.next_number
  pub stamps : q.next_stamp ≤ suc o.next_stamp

no_number : (o : Open) → Numbers o o
no_number o = record { numbers = omega arith; stamps = omega arith }

begun_numbers :
    (o : Open) (f : FibrilNo) (s : ℕ) (e : ExchangeNo) (phone : ℕ) (m : ExchangeMode) →
    Numbers o (begun_after o f s e phone m)
begun_numbers o f s e phone m = grind (arith, cases_Bool (e.0 == o.next_number))

ended_numbers : (o : Open) (e : ExchangeNo) (m : ExchangeMode) → Numbers o (pool.ended o e m)
ended_numbers o e mode.Atomic = record { numbers = omega arith; stamps = omega arith }
ended_numbers o e mode.Serialize = record { numbers = omega arith; stamps = omega arith }
ended_numbers o e mode.Parallel = record { numbers = omega arith; stamps = omega arith }

close_numbers : (o : Open) (s : ℕ) (plan : Close) → Numbers o (close_after o s plan)
close_numbers o s (close.HangIdle e phone) = record { numbers = omega arith; stamps = omega arith }
close_numbers o s (close.Last phone) = record { numbers = omega arith; stamps = omega arith }
close_numbers o s (close.Refused c) = no_number o

-- the state after one event
pub record Near (a b : AsyncState) : Type 0 where
  pub me : b.me ≡ a.me
  pub stamps : b.order.next_stamp ≤ a.order.next_stamp + (length a.order.fibrils + 2)
  pub fibrils : length b.order.fibrils ≤ suc (length a.order.fibrils)
  pub exchanges : b.pool.next_number ≤ suc a.pool.next_number
  pub exchange_stamps : b.pool.next_stamp ≤ suc a.pool.next_stamp
  pub served : AreServed (length a.order.fibrils) a.conns →
      AreServed (length b.order.fibrils) b.conns

serves_same : (n m : ℕ) (cs : List Conn) → m ≡ n → AreServed n cs → AreServed m cs
serves_same n m cs e h = rw e h

-- a state with at most so many stamps more, whose connections have their fibrils where those had
near :
    (k : ℕ) (a b : AsyncState) → Stamps k a.order b.order → k ≤ length a.order.fibrils + 2 →
    Numbers a.pool b.pool → b.me ≡ a.me → ((n : ℕ) → AreServed n a.conns → AreServed n b.conns) →
    Near a b
near k a b s h m e served = record {
  me = e;
  stamps = grind (arith, s.stamps, h);
  fibrils = grind (arith, s.fibrils);
  exchanges = m.numbers;
  exchange_stamps = m.stamps;
  served = λ i. serves_same (length a.order.fibrils) (length b.order.fibrils) b.conns s.fibrils
      (served (length a.order.fibrils) i);
}

-- all but what the fibrils keep, the awaited calls and the work is as it was
pub record Like (a b : AsyncState) : Type 0 where
  pub me : b.me ≡ a.me
  pub order : b.order ≡ a.order
  pub conns : b.conns ≡ a.conns
  pub pool : Numbers a.pool b.pool

like : (a b : AsyncState) → b.me ≡ a.me → b.order ≡ a.order → b.conns ≡ a.conns →
    b.pool ≡ a.pool → Like a b
like a b m o c p = record { me = m; order = o; conns = c; pool = rw p (no_number a.pool) }

like_near : (a b : AsyncState) → Like a b → Near a b
like_near a b h =
    near 0 a b (rw h.order (no_stamp a.order)) (omega arith) h.pool h.me (λ n i. rw h.conns i)

rests : (a b : AsyncState) → b.me ≡ a.me → b.order ≡ a.order → b.conns ≡ a.conns →
    b.pool ≡ a.pool → Near a b
rests a b m o c p = like_near a b (like a b m o c p)

blocks : (a b : AsyncState) (w : Why) → b.me ≡ a.me → b.order ≡ block_on a.order w →
    b.conns ≡ a.conns → b.pool ≡ a.pool → Near a b
blocks a b w m o c p =
    near 1 a b (rw o (block_stamps a.order w)) (omega arith) (rw p (no_number a.pool)) m
    (λ n i. rw c i)

pools : (a b : AsyncState) → b.me ≡ a.me → b.order ≡ a.order → b.conns ≡ a.conns →
    Numbers a.pool b.pool → Near a b
pools a b m o c p = like_near a b (record { me = m; order = o; conns = c; pool = p })

-- operations that call and wait

call_near :
    (a : AsyncState) (f : FibrilNo) (t : Context) (k : ℕ) (o : Outcome) (s : Slot) →
    Near a (call_slot a f t k o s).state
call_near a f t k (outcome.Accepted n) slot.Closed = rests a _ refl refl refl refl
call_near a f t k (outcome.Refused c) slot.Closed = rests a _ refl refl refl refl
call_near a f t k _ slot.Closed = rests a _ refl refl refl refl
call_near a f t k o (slot.Sent n) = rests a _ refl refl refl refl
call_near a f t k o (slot.Answered n r) = rests a _ refl refl refl refl

send_near :
    (a : AsyncState) (f : FibrilNo) (t : Context) (k : ℕ) (o : Outcome) (s : Slot)
    (phone : Option ℕ) → Near a (send_over a f t k o s phone).state
send_near a f t k o s None = rests a _ refl refl refl refl
send_near a f t k o s (Some phone) = call_near a f t k o s

wait_near : (a : AsyncState) (f : FibrilNo) (t : Context) (k : ℕ) (s : Slot) →
    Near a (wait_slot a f t k s).state
wait_near a f t k slot.Closed = rests a _ refl refl refl refl
wait_near a f t k (slot.Sent n) = blocks a _ (why.Answer n) refl refl refl refl
wait_near a f t k (slot.Answered n r) = rests a _ refl refl refl refl

taken_near : (a b : AsyncState) (f : FibrilNo) → Near (with_taken a f) b → Near a b
taken_near a b f h = record {
  me = h.me;
  stamps = h.stamps;
  fibrils = h.fibrils;
  exchanges = h.exchanges;
  exchange_stamps = h.exchange_stamps;
  served = λ i. h.served (served_taken (length a.order.fibrils) f a.conns i);
}

next_near : (a : AsyncState) (f : FibrilNo) (t : Context) (s : Taken) →
    Near a (next_call a f t s).state
next_near a f t (taken.Call n msg label) = rests a _ refl refl refl refl
next_near a f t (taken.HungUp label) = rests a _ refl refl refl refl
next_near a f t taken.Wait = blocks a _ why.Message refl refl refl refl
next_near a f t taken.NoConnection = rests a _ refl refl refl refl

-- operations on sessions and exchanges

open_near :
    (a : AsyncState) (f : FibrilNo) (t : Context) (s phone : ℕ) (m : ExchangeMode)
    (x : Option Session) →
    Near a (open_outcome (with_pool a (make_after a.pool s phone m x)) f t (made x)).state
open_near a f t s phone m None =
    pools a _ refl refl refl (record { numbers = omega arith; stamps = omega arith })
open_near a f t s phone m (Some x) = rests a _ refl refl refl refl

begun_near :
    (a : AsyncState) (f : FibrilNo) (t : Context) (x s : ℕ) (e : ExchangeNo) (phone : ℕ)
    (m : Option ExchangeMode) → Near a (begin_exchange a f t x s e phone m).state
begun_near a f t x s e phone None = rests a _ refl refl refl refl
begun_near a f t x s e phone (Some m) =
    pools a _ refl refl refl (begun_numbers a.pool f s e phone m)

refused_like : (a : AsyncState) (f : FibrilNo) (t : Context) (c : Code) (b : Bool) →
    Like a (connect_refused_by a f t c b).state
refused_like a f t c true = like a _ refl refl refl refl
refused_like a f t c false = like a _ refl refl refl refl

connect_near : (a : AsyncState) (f : FibrilNo) (t : Context) (o : Outcome) →
    Near a (connect_outcome a f t o).state
connect_near a f t (outcome.Accepted n) = blocks a _ (why.Answer n) refl refl refl refl
connect_near a f t (outcome.Refused c) = like_near a _ (refused_like a f t c (c.0 == elimit.0))
connect_near a f t _ = rests a _ refl refl refl refl

begin_near :
    (a : AsyncState) (f : FibrilNo) (t : Context) (x s : ℕ) (o : Outcome) (plan : Begin) →
    Near a (begin_op a f t x s o plan).state
begin_near a f t x s o (begin.Begun e phone) =
    begun_near a f t x s e phone (mode_answer (session_at a.pool s))
begin_near a f t x s o (begin.Connect phone) = connect_near a f t o
begin_near a f t x s o (begin.HangIdle e phone) =
    pools a _ refl refl refl (record { numbers = omega arith; stamps = omega arith })
begin_near a f t x s o begin.WaitMutex = blocks a _ (why.Mutex s) refl refl refl refl
begin_near a f t x s o begin.WaitPhone = blocks a _ why.Phone refl refl refl refl
begin_near a f t x s o (begin.Refused c) = rests a _ refl refl refl refl
begin_near a f t x s o begin.NoMemory = rests a _ refl refl refl refl

ended_near :
    (a : AsyncState) (f : FibrilNo) (t : Context) (x : ℕ) (e : ExchangeNo) (h : Option Exchange) →
    Near a (end_outcome (with_pool a (end_after a.pool e h)) f t x e (end_answer h)).state
ended_near a f t x e None = rests a _ refl refl refl refl
ended_near a f t x e (Some y) =
    near (length a.order.fibrils) a _ (wake_stamps a.order y.mode y.session) (omega arith)
    (ended_numbers a.pool e y.mode) refl (λ n i. i)

end_near : (a : AsyncState) (f : FibrilNo) (t : Context) (x : ℕ) (h : Option ExchangeNo) →
    Near a (end_op a f t x h).state
end_near a f t x None = rests a _ refl refl refl refl
end_near a f t x (Some e) = ended_near a f t x e (held_by f e a.pool.exchanges)

close_near : (a : AsyncState) (f : FibrilNo) (t : Context) (s : ℕ) (o : Outcome) (plan : Close) →
    Near a (close_op a f t s o plan).state
close_near a f t s o (close.HangIdle e phone) =
    pools a _ refl refl refl (close_numbers a.pool s (close.HangIdle e phone))
close_near a f t s o (close.Last phone) =
    pools a _ refl refl refl (close_numbers a.pool s (close.Last phone))
close_near a f t s o (close.Refused c) = rests a _ refl refl refl refl

op_near : (a : AsyncState) (f : FibrilNo) (t : Context) (p : Op) (o : Outcome) →
    Near a (do_op a f t p o).state
op_near a f t (op.CallSlot k phone method args) o = call_near a f t k o (slot_at t k)
op_near a f t (op.Send k x method args) o =
    send_near a f t k o (slot_at t k) (phone_by a.pool f (handle_at t x))
op_near a f t (op.Wait k) o = wait_near a f t k (slot_at t k)
op_near a f t op.Next o =
    taken_near a _ f
    (next_near (with_taken a f) f t (conns.take_answer (conn_of_fibril f a.conns)))
op_near a f t op.Yield o =
    near 1 a _ (found_stamps a.order Ready (current a.order)) (omega arith) (no_number a.pool) refl
    (λ n i. i)
op_near a f t (op.OpenSession s phone m) o =
    open_near a f t s (value_in t.registers phone) m (session_at a.pool s)
op_near a f t (op.Begin x s) o = begin_near a f t x s o (plan_begin a f t x s)
op_near a f t (op.End x) o = end_near a f t x (handle_at t x)
op_near a f t (op.Close s) o = close_near a f t s o (plan_close a s)
op_near a f t _ o = rests a _ refl refl refl refl

-- answers

slot_like :
    (a : AsyncState) (f : FibrilNo) (k : ℕ) (n : CallNo) (r : Reply) (b : Bool) (t : Context) →
    Like a (answer_slot a f k n r b t)
slot_like a f k n r true t = like a _ refl refl refl refl
slot_like a f k n r false t = like a _ refl refl refl refl

connected_like :
    (a : AsyncState) (f : FibrilNo) (t : Context) (x s phone : ℕ) (m : Option ExchangeMode) →
    Like a (connect a f t x s phone m).state
connected_like a f t x s phone (Some mode.Parallel) =
    record {
      me = refl;
      order = refl;
      conns = refl;
      pool = record { numbers = omega arith; stamps = omega arith };
    }
connected_like a f t x s phone _ = like a _ refl refl refl refl

begin_like :
    (a : AsyncState) (f : FibrilNo) (t : Context) (x s : ℕ) (r : Reply) (b : Bool) →
    Like a (answer_begin_by a f t x s r b).state
begin_like a f t x s r true =
    connected_like a f t x s (slice_index r.args 4) (mode_answer (session_at a.pool s))
begin_like a f t x s r false = refused_like a f t r.code (r.code.0 == elimit.0)

begin_at_like : (a : AsyncState) (f : FibrilNo) (t : Context) (r : Reply) (p : Option Op) →
    Like a (answer_begin_at a f t r p).state
begin_at_like a f t r (Some (op.Begin x s)) = begin_like a f t x s r (r.code.0 == eok.0)
begin_at_like a f t r _ = like a _ refl refl refl refl

give_like :
    (a : AsyncState) (f : FibrilNo) (n : CallNo) (r : Reply) (b : Bool) (k : Option ℕ)
    (t : Option Context) → Like a (give_answer a f n r b k t).state
give_like a f n r b (Some k) (Some t) = slot_like a f k n r b t
give_like a f n r b None (Some t) = begin_at_like a f t r (present_op a t)
give_like a f n r b (Some k) None = like a _ refl refl refl refl
give_like a f n r b None None = like a _ refl refl refl refl

woken_stamps : (o : FibrilOrder) (f : FibrilNo) (b : Bool) →
    Stamps 1 o (if b then make_ready o f else o)
woken_stamps o f true = status_stamps o f Ready
woken_stamps o f false = record { stamps = omega arith; fibrils = refl }

answer_near : (a : AsyncState) (n : CallNo) (r : Reply) (w : Option Awaited) →
    Near a (take_answer a n r w).state
answer_near a n r None = rests a _ refl refl refl refl
answer_near a n r (Some w) =
    let b : Bool = is_for n (why_of a.order w.fibril) in
    let c : AsyncState = forget_call (wake_if a w.fibril b) n in
    let h : Like c (give_answer c w.fibril n r b w.slot (context_at c w.fibril)).state =
    give_like c w.fibril n r b w.slot (context_at c w.fibril) in
    near 1 a _ (rw h.order (woken_stamps a.order w.fibril b)) (omega arith) h.pool h.me
    (λ m i. rw h.conns i)

-- calls that come

hand_like : (a : AsyncState) (f : FibrilNo) (s : Taken) (t : Option Context) →
    Like a (hand_over a f s t)
hand_like a f (taken.Call n msg label) (Some t) = like a _ refl refl refl refl
hand_like a f (taken.Call n msg label) None = like a _ refl refl refl refl
hand_like a f (taken.HungUp label) (Some t) = like a _ refl refl refl refl
hand_like a f (taken.HungUp label) None = like a _ refl refl refl refl
hand_like a f taken.Wait t = like a _ refl refl refl refl
hand_like a f taken.NoConnection t = like a _ refl refl refl refl

-- at most one stamp more, whose connections have their fibrils where those had
pub record Reached (a b : AsyncState) : Type 0 where
  pub me : b.me ≡ a.me
  pub order : Stamps 1 a.order b.order
  pub pool : Numbers a.pool b.pool
  pub served : (n : ℕ) → AreServed n a.conns → AreServed n b.conns

not_reached : (a : AsyncState) → Reached a a
not_reached a = record {
  me = refl;
  order = record { stamps = omega arith; fibrils = refl };
  pool = no_number a.pool;
  served = λ n i. i;
}

reader_reached : (a : AsyncState) (f : FibrilNo) → Reached a (wake_reader a f)
reader_reached a f =
    let b : AsyncState =
    record a { conns = conns.take_next f a.conns; order = make_ready a.order f } in
    let h : Like b (wake_reader a f) =
    hand_like b f (conns.take_answer (conn_of_fibril f a.conns)) (context_at a f) in
    record {
      me = h.me;
      order = rw h.order (status_stamps a.order f Ready);
      pool = h.pool;
      served = λ n i. rw h.conns (served_taken n f a.conns i);
    }

blocked_reached : (a : AsyncState) (f : FibrilNo) (w : Option Why) →
    Reached a (reach_blocked a f w)
blocked_reached a f (Some why.Message) = reader_reached a f
blocked_reached a f _ = not_reached a

reached_near : (a b : AsyncState) → Reached a b → Near a b
reached_near a b h = near 1 a b h.order (omega arith) h.pool h.me h.served

routed_near : (a : AsyncState) (n : CallNo) (r : Routed) → Near a (after_route a n r)
routed_near a n (routed.Queued f) =
    reached_near a _ (blocked_reached a f (why_of a.order f))
routed_near a n (routed.Closed f) =
    reached_near a _ (blocked_reached a f (why_of a.order f))
routed_near a n routed.Unknown = rests a _ refl refl refl refl

route_near : (a : AsyncState) (n : CallNo) (msg : Msg) (label : Label) →
    Near a (route_call a n msg label)
route_near a n msg label =
    let b : AsyncState = record a { conns = conns.route label n msg a.conns } in
    let h : Near b (route_call a n msg label) =
    routed_near b n (route_answer msg.method (conn_of_label label a.conns)) in
    record {
      me = h.me;
      stamps = h.stamps;
      fibrils = h.fibrils;
      exchanges = h.exchanges;
      exchange_stamps = h.exchange_stamps;
      served = λ i. h.served (served_routed (length a.order.fibrils) label n msg a.conns i);
    }

holder_reached : (a : AsyncState) (f : Option FibrilNo) → Reached a (reach_holder a f)
holder_reached a None = not_reached a
holder_reached a (Some f) = blocked_reached a f (why_of a.order f)

start_near :
    (a : AsyncState) (n : CallNo) (msg : Msg) (from : Label) (body : ℕ) (label : Label) →
    Near a (start_connection a n msg from body label).state
start_near a n msg from body label =
    let b : AsyncState = with_connection a label (next_number a.order) in
    let c : AsyncState = reach_holder b (fibril_of (conn_of_label label a.conns)) in
    let h : Reached b c = holder_reached b (fibril_of (conn_of_label label a.conns)) in
    record {
      me = h.me;
      stamps = grind (arith, h.order.stamps);
      fibrils = grind (arith, common_steps, h.order.fibrils);
      exchanges = h.pool.numbers;
      exchange_stamps = h.pool.stamps;
      served = λ i.
          serves_same (length a.order.fibrils + 1) _ c.conns
          (grind (arith, common_steps, h.order.fibrils))
          (h.served (length a.order.fibrils + 1)
          (served_started (length a.order.fibrils + 1) label (next_number a.order) a.conns
          (served_more (length a.order.fibrils) (length a.order.fibrils + 1) a.conns
          (omega arith) i)
          (omega arith)));
    }

connect_call_near : (a : AsyncState) (n : CallNo) (msg : Msg) (label : Label) (body : Option ℕ) →
    Near a (connect_call a n msg label body).state
connect_call_near a n msg label None = route_near a n msg label
connect_call_near a n msg label (Some body) =
    start_near a n msg label body (called_label msg)

receive_near : (a : AsyncState) (n : CallNo) (msg : Msg) (label : Label) (b : Bool) →
    Near a (receive_call_by a n msg label b).state
receive_near a n msg label true =
    connect_call_near a n msg label (position is_of_connections a.bodies)
receive_near a n msg label false = route_near a n msg label

manage_near : (a : AsyncState) (o : Outcome) → Near a (manage a o).state
manage_near a (outcome.Received n msg label) =
    receive_near a n msg label (msg.method == connect_me_to)
manage_near a (outcome.Answered n r) = answer_near a n r (find (is_of_call n) a.awaited)
manage_near a _ = rests a _ refl refl refl refl

end_fibril_near : (a : AsyncState) (f : FibrilNo) → Near a (end_fibril a f).state
end_fibril_near a f =
    near 1 a _ (over_stamps a.order (first_with Ready a.order.fibrils)) (omega arith)
    (no_number a.pool) refl (λ n i. served_finished n f a.conns i)

turn_near : (a : AsyncState) (o : Outcome) (s : Turn) → Near a (step_in a o s).state
turn_near a o (turn.Work n c) = rests a _ refl refl refl refl
turn_near a o (turn.Run f t None) = end_fibril_near a f
turn_near a o (turn.Run f t (Some p)) = op_near a f t p o
turn_near a o turn.Receive = manage_near a o

-- one event
pub step_near : (a : AsyncState) (o : Outcome) → Near a (step a o).state
step_near a o = turn_near a o (turn_now a)

-- one more event stays within what the count of events allows
pub step_within : (a : AsyncState) (o : Outcome) (n : ℕ) → IsWithinCount a n → n < 2 ^ 24 →
    IsWithinCount (step a o).state (n + 1)
step_within a o n h few =
    let e : Near a (step a o).state = step_near a o in
    record {
      fibrils = grind (arith, e.fibrils, h.fibrils);
      stamps = grind (arith, e.stamps, h.stamps, h.fibrils, few);
      exchanges = grind (arith, e.exchanges, h.exchanges);
      exchange_stamps = grind (arith, e.exchange_stamps, h.exchange_stamps);
      served = e.served h.served;
    }
