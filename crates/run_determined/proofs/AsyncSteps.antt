-- A step of a task with fibrils: the task keeps its number and its bodies, and a call that a fibril sends is the one that
-- the task has just been told of as accepted.
use Rattle.std.proofs.Common.{◌≡◌, ℕ, Bool, true, false, List, [], ◌∷◌, Option, Some, None, Result, Ok, Err, refl}
use Rattle.std.specs.Prelude.{⊤, ◌==◌, slice_index, position}
use Rattle.std.specs.List.{find}
use Rattle.ipc_ids.specs.declared.numbers.CallNo.{CallNo}
use Rattle.ipc_ids.specs.declared.numbers.FibrilNo.{FibrilNo}
use Rattle.ipc_ids.specs.declared.numbers.ExchangeNo.{ExchangeNo}
use Rattle.ipc_ids.specs.declared.numbers.Code.{Code}
use Rattle.ipc_ids.specs.declared.numbers.Label.{Label}
use Rattle.ipc_ids.specs.declared.message.Msg.{Msg}
use Rattle.ipc_ids.specs.declared.message.Reply.{Reply}
use Rattle.ipc_ids.specs.declared.message.ExchangeMode.{ExchangeMode}
use Rattle.ipc_ids.specs.declared.message.ExchangeMode.TheVariants as mode
use Rattle.ipc_ids.specs.declared.op.Op.{Op}
use Rattle.ipc_ids.specs.declared.op.Op.TheVariants as op
use Rattle.ipc_ids.specs.declared.message.Outcome.{Outcome}
use Rattle.ipc_ids.specs.declared.message.Outcome.TheVariants as outcome
use Rattle.ipc_ids.specs.declared.entry.Entry.{Entry}
use Rattle.ipc_ids.specs.declared.entry.Entry.TheVariants as entry
use Rattle.ipc_ids.specs.Codes.{eok, elimit}
use Rattle.ipc_ids.specs.Methods.{connect_me_to}
use Rattle.registers.specs.Registers.{value_in}
use Rattle.fibril_core.specs.declared.conn.Taken.{Taken}
use Rattle.fibril_core.specs.declared.conn.Taken.TheVariants as taken
use Rattle.fibril_core.specs.Fibrils.{why_of, next_number}
use Rattle.fibril_core.specs.Conns as conns
use Rattle.fibril_core.specs.Conns.{conn_of_fibril}
use Rattle.async_sessions.specs.declared.sessions.Ended.{Ended}
use Rattle.async_sessions.specs.declared.sessions.Begin.{Begin}
use Rattle.async_sessions.specs.declared.sessions.Begin.TheVariants as begin
use Rattle.async_sessions.specs.declared.sessions.Close.{Close}
use Rattle.async_sessions.specs.declared.sessions.Close.TheVariants as close
use Rattle.async_sessions.specs.Sessions.{session_at, mode_answer, made, make_after, end_answer, end_after, held_by, close_after}
use Rattle.async_task.specs.declared.awaited.Awaited.{Awaited}
use Rattle.async_task.specs.declared.context.Slot.{Slot}
use Rattle.async_task.specs.declared.context.Slot.TheVariants as slot
use Rattle.async_task.specs.declared.context.Context.{Context}
use Rattle.async_task.specs.Turns.{Turn, turn_now}
use Rattle.async_task.specs.Turns as turn
use Rattle.async_task.specs.Contexts.{slot_at, handle_at}
use Rattle.async_task.specs.AsyncState.{AsyncState, Transition, context_at, present_op}
use Rattle.async_task.specs.Wanted.{phone_by, plan_begin, plan_close}
use Rattle.async_task.specs.Calls.{call_outcome, call_slot, send_over, wait_slot, next_call, with_taken}
use Rattle.async_task.specs.Exchanges.{with_pool, open_outcome, begin_exchange, connect_refused_by, connect_outcome, begin_op, end_outcome, end_op, close_outcome}
use Rattle.async_task.specs.Answers.{is_of_call, connect, answer_begin_by, answer_begin_at, give_answer, is_for, wake_if, forget_call, take_answer, answer_slot}
use Rattle.async_task.specs.Connections.{connect_call, receive_call_by, is_of_connections, hand_over, reach_blocked, reach, after_route, route_call, reach_holder, called_label, with_connection}
use Rattle.async_task.specs.Steps.{do_op, manage, step_in, step}
use Rattle.ipc_ids.specs.declared.message.Why.{Why}
use Rattle.ipc_ids.specs.declared.message.Why.TheVariants as why
use Rattle.fibril_core.specs.declared.conn.Routed.{Routed}
use Rattle.fibril_core.specs.declared.conn.Routed.TheVariants as routed

-- a call that this entry says was sent is the one of the outcome
abbrev pub IsSentAs : Outcome → Entry → Type 0
IsSentAs o (entry.Sent t f n slot) = o ≡ outcome.Accepted n
IsSentAs o _ = ⊤

abbrev pub AreSentAs : Outcome → List Entry → Type 0
AreSentAs o [] = ⊤
AreSentAs o (e ∷ es) = IsSentAs o e × AreSentAs o es

-- the number and the bodies of a task are as they were
abbrev pub IsStill : AsyncState → AsyncState → Type 0
IsStill a b = (b.me ≡ a.me) × (b.bodies ≡ a.bodies)

-- both hold of this step of a task that is told this
abbrev IsStep : Outcome → AsyncState → Transition → Type 0
IsStep o a s = IsStill a s.state × AreSentAs o s.entries

-- ---- operations

module _ (o : Outcome) (a : AsyncState) (f : FibrilNo) (t : Context) where
  wait_steps : (k : ℕ) (s : Slot) → IsStep o a (wait_slot a f t k s)
  wait_steps k slot.Closed = ((refl, refl), (tt, tt))
  wait_steps k (slot.Sent n) = ((refl, refl), (tt, tt))
  wait_steps k (slot.Answered n reply) = ((refl, refl), tt)

  next_steps : (s : Taken) → IsStep o a (next_call a f t s)
  next_steps (taken.Call n msg label) = ((refl, refl), tt)
  next_steps (taken.HungUp label) = ((refl, refl), tt)
  next_steps taken.Wait = ((refl, refl), (tt, tt))
  next_steps taken.NoConnection = ((refl, refl), (tt, tt))

  open_steps : (r : Result ⊤ Code) → IsStep o a (open_outcome a f t r)
  open_steps (Ok x) = ((refl, refl), tt)
  open_steps (Err c) = ((refl, refl), (tt, tt))

  begun_steps : (x s : ℕ) (e : ExchangeNo) (phone : ℕ) (m : Option ExchangeMode)
      → IsStep o a (begin_exchange a f t x s e phone m)
  begun_steps x s e phone None = ((refl, refl), tt)
  begun_steps x s e phone (Some m) = ((refl, refl), (tt, tt))

  refused_steps : (c : Code) (b : Bool) → IsStep o a (connect_refused_by a f t c b)
  refused_steps c true = ((refl, refl), tt)
  refused_steps c false = ((refl, refl), (tt, tt))

  ended_steps : (x : ℕ) (e : ExchangeNo) (r : Result Ended Code) → IsStep o a (end_outcome a f t x e r)
  ended_steps x e (Ok of) = ((refl, refl), (tt, tt))
  ended_steps x e (Err c) = ((refl, refl), (tt, tt))

  close_steps : (plan : Close) → IsStep o a (close_outcome a f t o plan)
  close_steps (close.HangIdle e phone) = ((refl, refl), (tt, tt))
  close_steps (close.Last phone) = ((refl, refl), tt)
  close_steps (close.Refused c) = ((refl, refl), (tt, tt))

  connected_steps : (x s phone : ℕ) (m : Option ExchangeMode) → IsStep o a (connect a f t x s phone m)
  connected_steps x s phone (Some mode.Parallel) = ((refl, refl), (tt, tt))
  connected_steps x s phone _ = ((refl, refl), tt)

  slot_steps : (k : ℕ) (s : Slot) → IsStep o a (call_slot a f t k o s)
  slot_steps k slot.Closed = call_steps o where
    call_steps : (o : Outcome) → IsStep o a (call_outcome a f t k o)
    call_steps (outcome.Accepted n) = ((refl, refl), (refl, tt))
    call_steps (outcome.Refused c) = ((refl, refl), tt)
    call_steps _ = ((refl, refl), tt)
  slot_steps k (slot.Sent n) = ((refl, refl), (tt, tt))
  slot_steps k (slot.Answered n reply) = ((refl, refl), (tt, tt))

  over_steps : (k : ℕ) (s : Slot) (phone : Option ℕ) → IsStep o a (send_over a f t k o s phone)
  over_steps k s None = ((refl, refl), (tt, tt))
  over_steps k s (Some phone) = slot_steps k s

end_steps : (o : Outcome) (a : AsyncState) (f : FibrilNo) (t : Context) (x : ℕ) (h : Option ExchangeNo)
    → IsStep o a (end_op a f t x h)
end_steps o a f t x None = ((refl, refl), (tt, tt))
end_steps o a f t x (Some e) =
    ended_steps o (with_pool a (end_after a.pool e (held_by f e a.pool.exchanges))) f t x e
    (end_answer (held_by f e a.pool.exchanges))

connect_steps : (o : Outcome) (a : AsyncState) (f : FibrilNo) (t : Context) → IsStep o a (connect_outcome a f t o)
connect_steps (outcome.Accepted n) a f t = ((refl, refl), (refl, (tt, tt)))
connect_steps (outcome.Refused c) a f t = refused_steps (outcome.Refused c) a f t c (c.0 == elimit.0)
connect_steps _ a f t = ((refl, refl), tt)

begin_steps : (o : Outcome) (a : AsyncState) (f : FibrilNo) (t : Context) (x s : ℕ) (plan : Begin)
    → IsStep o a (begin_op a f t x s o plan)
begin_steps o a f t x s (begin.Begun e phone) = begun_steps o a f t x s e phone (mode_answer (session_at a.pool s))
begin_steps o a f t x s (begin.Connect phone) = connect_steps o a f t
begin_steps o a f t x s begin.NoMemory = ((refl, refl), tt)
begin_steps o a f t x s _ = ((refl, refl), (tt, tt))

op_steps : (o : Outcome) (a : AsyncState) (f : FibrilNo) (t : Context) (p : Op) → IsStep o a (do_op a f t p o)
op_steps o a f t (op.CallSlot k phone method args) = slot_steps o a f t k (slot_at t k)
op_steps o a f t (op.Send k x method args) = over_steps o a f t k (slot_at t k) (phone_by a.pool f (handle_at t x))
op_steps o a f t (op.Wait k) = wait_steps o a f t k (slot_at t k)
op_steps o a f t op.Next = next_steps o (with_taken a f) f t (conns.take_answer (conn_of_fibril f a.conns))
op_steps o a f t (op.OpenSession s phone m) =
    open_steps o (with_pool a (make_after a.pool s (value_in t.registers phone) m (session_at a.pool s))) f t
    (made (session_at a.pool s))
op_steps o a f t (op.Begin x s) = begin_steps o a f t x s (plan_begin a f t x s)
op_steps o a f t (op.End x) = end_steps o a f t x (handle_at t x)
op_steps o a f t (op.Close s) = close_steps o (with_pool a (close_after a.pool s (plan_close a s))) f t (plan_close a s)
op_steps o a f t _ = ((refl, refl), tt)

-- ---- answers

answer_begin_steps : (o : Outcome) (a : AsyncState) (f : FibrilNo) (t : Context) (x s : ℕ) (r : Reply) (b : Bool)
    → IsStep o a (answer_begin_by a f t x s r b)
answer_begin_steps o a f t x s r true =
    connected_steps o a f t x s (slice_index r.args 4) (mode_answer (session_at a.pool s))
answer_begin_steps o a f t x s r false = refused_steps o a f t r.code (r.code.0 == elimit.0)

begin_at_steps : (o : Outcome) (a : AsyncState) (f : FibrilNo) (t : Context) (r : Reply) (p : Option Op)
    → IsStep o a (answer_begin_at a f t r p)
begin_at_steps o a f t r (Some (op.Begin x s)) = answer_begin_steps o a f t x s r (r.code.0 == eok.0)
begin_at_steps o a f t r _ = ((refl, refl), tt)

answer_slot_still : (a : AsyncState) (f : FibrilNo) (k : ℕ) (n : CallNo) (r : Reply) (b : Bool) (t : Context)
    → IsStill a (answer_slot a f k n r b t)
answer_slot_still a f k n r true t = (refl, refl)
answer_slot_still a f k n r false t = (refl, refl)

give_steps : (o : Outcome) (a : AsyncState) (f : FibrilNo) (n : CallNo) (r : Reply) (b : Bool) (k : Option ℕ)
    (t : Option Context) → IsStep o a (give_answer a f n r b k t)
give_steps o a f n r b (Some k) (Some t) = (answer_slot_still a f k n r b t, tt)
give_steps o a f n r b None (Some t) = begin_at_steps o a f t r (present_op a t)
give_steps o a f n r b (Some k) None = ((refl, refl), tt)
give_steps o a f n r b None None = ((refl, refl), tt)

answer_steps : (o : Outcome) (a : AsyncState) (n : CallNo) (r : Reply) (w : Option Awaited)
    → IsStep o a (take_answer a n r w)
answer_steps o a n r None = ((refl, refl), tt)
answer_steps o a n r (Some w) =
    let b : Bool = is_for n (why_of a.order w.fibril) in
    let c : AsyncState = forget_call (wake_if a w.fibril b) n in
    let g = give_steps o c w.fibril n r b w.slot (context_at c w.fibril) in
    (g.0, (tt, g.1))

-- ---- calls

hand_still : (a : AsyncState) (f : FibrilNo) (s : Taken) (t : Option Context) → IsStill a (hand_over a f s t)
hand_still a f (taken.Call n msg label) (Some t) = (refl, refl)
hand_still a f (taken.HungUp label) (Some t) = (refl, refl)
hand_still a f (taken.Call n msg label) None = (refl, refl)
hand_still a f (taken.HungUp label) None = (refl, refl)
hand_still a f taken.Wait t = (refl, refl)
hand_still a f taken.NoConnection t = (refl, refl)

blocked_still : (a : AsyncState) (f : FibrilNo) (w : Option Why) → IsStill a (reach_blocked a f w)
blocked_still a f (Some why.Message) = hand_still _ f (conns.take_answer (conn_of_fibril f a.conns)) (context_at a f)
blocked_still a f _ = (refl, refl)

reach_still : (a : AsyncState) (f : FibrilNo) → IsStill a (reach a f)
reach_still a f = blocked_still a f (why_of a.order f)

route_still : (a : AsyncState) (n : CallNo) (s : Routed) → IsStill a (after_route a n s)
route_still a n (routed.Queued f) = reach_still a f
route_still a n (routed.Closed f) = reach_still a f
route_still a n routed.Unknown = (refl, refl)

holder_still : (a : AsyncState) (f : Option FibrilNo) → IsStill a (reach_holder a f)
holder_still a None = (refl, refl)
holder_still a (Some f) = reach_still a f

routed_still : (a : AsyncState) (n : CallNo) (msg : Msg) (label : Label) → IsStill a (route_call a n msg label)
routed_still a n msg label =
    route_still (record a { conns = conns.route label n msg a.conns }) n
    (conns.route_answer msg.method (conns.conn_of_label label a.conns))

connect_call_steps : (o : Outcome) (a : AsyncState) (n : CallNo) (msg : Msg) (label : Label) (body : Option ℕ)
    → IsStep o a (connect_call a n msg label body)
connect_call_steps o a n msg label None = (routed_still a n msg label, tt)
connect_call_steps o a n msg label (Some body) = (
  holder_still (with_connection a (called_label msg) (next_number a.order))
      (conns.fibril_of (conns.conn_of_label (called_label msg) a.conns)),
  (tt, tt),
)

receive_steps : (o : Outcome) (a : AsyncState) (n : CallNo) (msg : Msg) (label : Label) (b : Bool)
    → IsStep o a (receive_call_by a n msg label b)
receive_steps o a n msg label true = connect_call_steps o a n msg label (position is_of_connections a.bodies)
receive_steps o a n msg label false = (routed_still a n msg label, tt)

manage_steps : (o : Outcome) (a : AsyncState) → IsStep o a (manage a o)
manage_steps (outcome.Received n msg label) a =
    receive_steps (outcome.Received n msg label) a n msg label (msg.method == connect_me_to)
manage_steps (outcome.Answered n r) a = answer_steps (outcome.Answered n r) a n r (find (is_of_call n) a.awaited)
manage_steps _ a = ((refl, refl), tt)

-- ---- a step

turn_steps : (o : Outcome) (a : AsyncState) (s : Turn) → IsStep o a (step_in a o s)
turn_steps o a (turn.Work n c) = ((refl, refl), tt)
turn_steps o a (turn.Run f t None) = ((refl, refl), (tt, tt))
turn_steps o a (turn.Run f t (Some p)) = op_steps o a f t p
turn_steps o a turn.Receive = manage_steps o a

pub step_still : (a : AsyncState) (o : Outcome) → IsStill a (step a o).state
step_still a o = (turn_steps o a (turn_now a)).0

pub step_sends : (a : AsyncState) (o : Outcome) → AreSentAs o (step a o).entries
step_sends a o = (turn_steps o a (turn_now a)).1
