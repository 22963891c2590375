-- An outcome keeps the number and the bodies of an async task.
use Rattle.std.proofs.Common.{◌≡◌, ℕ, Bool, true, false, refl, ◌∙◌, Option, None, Some, Result, Ok, Err}
use Rattle.std.specs.Bool.{⊤}
use Rattle.ipc_ids.specs.declared.numbers.CallNo.{CallNo}
use Rattle.ipc_ids.specs.declared.numbers.FibrilNo.{FibrilNo}
use Rattle.ipc_ids.specs.declared.numbers.ExchangeNo.{ExchangeNo}
use Rattle.ipc_ids.specs.declared.numbers.Code.{Code}
use Rattle.ipc_ids.specs.declared.numbers.Label.{Label}
use Rattle.ipc_ids.specs.declared.message.Msg.{Msg}
use Rattle.ipc_ids.specs.declared.message.Reply.{Reply}
use Rattle.ipc_ids.specs.declared.message.Why.{Why}
use Rattle.ipc_ids.specs.declared.message.Why.TheVariants as why
use Rattle.ipc_ids.specs.declared.message.ExchangeMode.{ExchangeMode}
use Rattle.ipc_ids.specs.declared.message.ExchangeMode.TheVariants as mode
use Rattle.ipc_ids.specs.declared.message.Outcome.{Outcome}
use Rattle.ipc_ids.specs.declared.message.Outcome.TheVariants.{Done, Refused, Accepted, Received, Answered, Empty, Bytes}
use Rattle.ipc_ids.specs.declared.op.Op.{Op}
use Rattle.ipc_ids.specs.declared.op.Op.TheVariants as op
use Rattle.fibril_core.specs.declared.conn.Taken.{Taken}
use Rattle.fibril_core.specs.declared.conn.Taken.TheVariants as taken
use Rattle.fibril_core.specs.declared.conn.Routed.{Routed}
use Rattle.fibril_core.specs.declared.conn.Routed.TheVariants as routed
use Rattle.fibril_core.specs.Fibrils.{why_of, next_number}
use Rattle.fibril_core.specs.Conns.{conn_of_label, fibril_of, route_answer}
use Rattle.fibril_core.specs.Conns as conns
use Rattle.async_sessions.specs.declared.sessions.Begin.{Begin}
use Rattle.async_sessions.specs.declared.sessions.Begin.TheVariants as begin
use Rattle.async_sessions.specs.declared.sessions.Close.{Close}
use Rattle.async_sessions.specs.declared.sessions.Close.TheVariants as close
use Rattle.async_sessions.specs.declared.sessions.Ended.{Ended}
use Rattle.async_sessions.specs.Sessions.{end_after, end_answer, held_by as is_held, make_after, made, session_at, close_after}
use Rattle.async_task.specs.Wanted.{plan_close}
use Rattle.registers.specs.Registers.{value_in}
use Rattle.async_task.specs.declared.awaited.Awaited.{Awaited}
use Rattle.async_task.specs.declared.context.Context.{Context}
use Rattle.async_task.specs.declared.context.Slot.{Slot}
use Rattle.async_task.specs.declared.context.Slot.TheVariants as slot
use Rattle.async_task.specs.AsyncState.{AsyncState}
use Rattle.async_task.specs.Turns.{Turn, turn_now}
use Rattle.async_task.specs.Turns as turn
use Rattle.async_task.specs.Answers.{answer_slot, connect, answer_begin_by, answer_begin_at, give_answer, take_answer}
use Rattle.async_task.specs.Calls.{call_outcome, call_slot, send_over, wait_slot, next_call, with_taken}
use Rattle.async_task.specs.Connections.{hand_over, reach_blocked, reach, after_route, reach_holder, called_label, connect_call, receive_call_by, route_call, with_connection}
use Rattle.async_task.specs.Exchanges.{with_pool, open_outcome, begin_exchange, connect_refused_by, connect_outcome, begin_op, end_outcome, end_op, close_outcome}
use Rattle.async_task.specs.Steps.{do_op, manage, step_in}
use Rattle.async_task.specs.Program as async_task

pub record Kept (a b : AsyncState) : Type 0 where
  pub me : b.me ≡ a.me
  pub bodies : b.bodies ≡ a.bodies

abbrev same : {a : AsyncState} → Kept a a
same = record { me = refl; bodies = refl }

called : (a : AsyncState) (f : FibrilNo) (t : Context) (k : ℕ) (o : Outcome) → Kept a (call_outcome a f t k o).state
called a f t k Done = same
called a f t k (Refused code) = record { me = refl; bodies = refl }
called a f t k (Accepted call) = record { me = refl; bodies = refl }
called a f t k (Received call msg label) = same
called a f t k (Answered call reply) = same
called a f t k Empty = same
called a f t k (Bytes b) = same

called_slot : (a : AsyncState) (f : FibrilNo) (t : Context) (k : ℕ) (o : Outcome) (s : Slot)
    → Kept a (call_slot a f t k o s).state
called_slot a f t k o slot.Closed = called a f t k o
called_slot a f t k o (slot.Sent n) = record { me = refl; bodies = refl }
called_slot a f t k o (slot.Answered n r) = record { me = refl; bodies = refl }

sent : (a : AsyncState) (f : FibrilNo) (t : Context) (k : ℕ) (o : Outcome) (s : Slot) (p : Option ℕ)
    → Kept a (send_over a f t k o s p).state
sent a f t k o s None = record { me = refl; bodies = refl }
sent a f t k o s (Some phone) = called_slot a f t k o s

has_waited : (a : AsyncState) (f : FibrilNo) (t : Context) (k : ℕ) (s : Slot) → Kept a (wait_slot a f t k s).state
has_waited a f t k slot.Closed = record { me = refl; bodies = refl }
has_waited a f t k (slot.Sent n) = record { me = refl; bodies = refl }
has_waited a f t k (slot.Answered n r) = record { me = refl; bodies = refl }

took : (a : AsyncState) (f : FibrilNo) (t : Context) (x : Taken) → Kept a (next_call (with_taken a f) f t x).state
took a f t (taken.Call n msg label) = record { me = refl; bodies = refl }
took a f t (taken.HungUp label) = record { me = refl; bodies = refl }
took a f t taken.Wait = record { me = refl; bodies = refl }
took a f t taken.NoConnection = record { me = refl; bodies = refl }

opened : (a b : AsyncState) (f : FibrilNo) (t : Context) (r : Result ⊤ Code) → Kept a b
    → Kept a (open_outcome b f t r).state
opened a b f t (Ok x) h = record { me = h.me; bodies = h.bodies }
opened a b f t (Err c) h = record { me = h.me; bodies = h.bodies }

exchanged : (a : AsyncState) (f : FibrilNo) (t : Context) (x s : ℕ) (e : ExchangeNo) (phone : ℕ)
    (m : Option ExchangeMode) → Kept a (begin_exchange a f t x s e phone m).state
exchanged a f t x s e phone None = same
exchanged a f t x s e phone (Some m) = record { me = refl; bodies = refl }

refused : (a : AsyncState) (f : FibrilNo) (t : Context) (c : Code) (b : Bool)
    → Kept a (connect_refused_by a f t c b).state
refused a f t c true = record { me = refl; bodies = refl }
refused a f t c false = record { me = refl; bodies = refl }

connected : (a : AsyncState) (f : FibrilNo) (t : Context) (o : Outcome) → Kept a (connect_outcome a f t o).state
connected a f t Done = same
connected a f t (Refused code) = refused a f t code _
connected a f t (Accepted call) = record { me = refl; bodies = refl }
connected a f t (Received call msg label) = same
connected a f t (Answered call reply) = same
connected a f t Empty = same
connected a f t (Bytes b) = same

begun : (a : AsyncState) (f : FibrilNo) (t : Context) (x s : ℕ) (o : Outcome) (b : Begin)
    → Kept a (begin_op a f t x s o b).state
begun a f t x s o (begin.Begun e phone) = exchanged a f t x s e phone _
begun a f t x s o (begin.Connect phone) = connected a f t o
begun a f t x s o (begin.HangIdle e phone) = record { me = refl; bodies = refl }
begun a f t x s o begin.WaitMutex = record { me = refl; bodies = refl }
begun a f t x s o begin.WaitPhone = record { me = refl; bodies = refl }
begun a f t x s o (begin.Refused c) = record { me = refl; bodies = refl }
begun a f t x s o begin.NoMemory = same

ended_as : (a b : AsyncState) (f : FibrilNo) (t : Context) (x : ℕ) (e : ExchangeNo) (r : Result Ended Code) → Kept a b
    → Kept a (end_outcome b f t x e r).state
ended_as a b f t x e (Ok of) h = record { me = h.me; bodies = h.bodies }
ended_as a b f t x e (Err c) h = record { me = h.me; bodies = h.bodies }

ended : (a : AsyncState) (f : FibrilNo) (t : Context) (x : ℕ) (e : Option ExchangeNo) → Kept a (end_op a f t x e).state
ended a f t x None = record { me = refl; bodies = refl }
ended a f t x (Some e) =
    ended_as a (with_pool a (end_after a.pool e (is_held f e a.pool.exchanges))) f t x e
    (end_answer (is_held f e a.pool.exchanges)) (record { me = refl; bodies = refl })

closed : (a b : AsyncState) (f : FibrilNo) (t : Context) (o : Outcome) (c : Close) → Kept a b
    → Kept a (close_outcome b f t o c).state
closed a b f t o (close.HangIdle e phone) h = h
closed a b f t o (close.Last phone) h = record { me = h.me; bodies = h.bodies }
closed a b f t o (close.Refused c) h = record { me = h.me; bodies = h.bodies }

did : (a : AsyncState) (f : FibrilNo) (t : Context) (p : Op) (o : Outcome) → Kept a (do_op a f t p o).state
did a f t (op.Set k value) o = record { me = refl; bodies = refl }
did a f t (op.Jump to) o = record { me = refl; bodies = refl }
did a f t (op.JumpEqual left right to) o = record { me = refl; bodies = refl }
did a f t (op.JumpDiffer left right to) o = record { me = refl; bodies = refl }
did a f t (op.Call phone method args) o = record { me = refl; bodies = refl }
did a f t op.Receive o = record { me = refl; bodies = refl }
did a f t (op.Answer call code args) o = record { me = refl; bodies = refl }
did a f t (op.Forward call phone mode) o = record { me = refl; bodies = refl }
did a f t (op.ForwardWith call phone mode method args) o = record { me = refl; bodies = refl }
did a f t (op.Hangup phone) o = record { me = refl; bodies = refl }
did a f t (op.Area base pages rights) o = record { me = refl; bodies = refl }
did a f t (op.Unarea base) o = record { me = refl; bodies = refl }
did a f t (op.Poke address bytes) o = record { me = refl; bodies = refl }
did a f t (op.Peek address count) o = record { me = refl; bodies = refl }
did a f t (op.CallSlot slot phone method args) o = called_slot a f t slot o _
did a f t (op.Send slot handle method args) o = sent a f t slot o _ _
did a f t (op.Wait slot) o = has_waited a f t slot _
did a f t op.Next o = took a f t _
did a f t op.Yield o = record { me = refl; bodies = refl }
did a f t (op.OpenSession session phone m) o =
    opened a (with_pool a (make_after a.pool session (value_in t.registers phone) m (session_at a.pool session))) f t
    (made (session_at a.pool session)) (record { me = refl; bodies = refl })
did a f t (op.Begin handle session) o = begun a f t handle session o _
did a f t (op.End handle) o = ended a f t handle _
did a f t (op.Close session) o =
    closed a (with_pool a (close_after a.pool session (plan_close a session))) f t o
    (plan_close a session) (record { me = refl; bodies = refl })

-- a call comes
handed : (a b : AsyncState) (f : FibrilNo) (x : Taken) (t : Option Context) → Kept a b → Kept a (hand_over b f x t)
handed a b f (taken.Call n msg label) (Some t) h = record { me = h.me; bodies = h.bodies }
handed a b f (taken.HungUp label) (Some t) h = record { me = h.me; bodies = h.bodies }
handed a b f taken.Wait (Some t) h = h
handed a b f taken.NoConnection (Some t) h = h
handed a b f (taken.Call n msg label) None h = h
handed a b f (taken.HungUp label) None h = h
handed a b f taken.Wait None h = h
handed a b f taken.NoConnection None h = h

reached_by : (a b : AsyncState) (f : FibrilNo) (w : Option Why) → Kept a b → Kept a (reach_blocked b f w)
reached_by a b f (Some why.Message) h = handed a _ f _ _ (record { me = h.me; bodies = h.bodies })
reached_by a b f (Some (why.Answer n)) h = h
reached_by a b f (Some (why.Mutex s)) h = h
reached_by a b f (Some why.Phone) h = h
reached_by a b f None h = h

reached : (a b : AsyncState) (f : FibrilNo) → Kept a b → Kept a (reach b f)
reached a b f h = reached_by a b f (why_of b.order f) h

routed_to : (a b : AsyncState) (n : CallNo) (r : Routed) → Kept a b → Kept a (after_route b n r)
routed_to a b n (routed.Queued f) h = reached a b f h
routed_to a b n (routed.Closed f) h = reached a b f h
routed_to a b n routed.Unknown h = record { me = h.me; bodies = h.bodies }

held_by : (a b : AsyncState) (o : Option FibrilNo) → Kept a b → Kept a (reach_holder b o)
held_by a b None h = h
held_by a b (Some f) h = reached a b f h

routes : (a : AsyncState) (n : CallNo) (msg : Msg) (label : Label) → Kept a (route_call a n msg label)
routes a n msg label =
    routed_to a (record a { conns = conns.route label n msg a.conns }) n
    (route_answer msg.method (conn_of_label label a.conns)) (record { me = refl; bodies = refl })

connects : (a : AsyncState) (n : CallNo) (msg : Msg) (label : Label) (o : Option ℕ)
    → Kept a (connect_call a n msg label o).state
connects a n msg label None = routes a n msg label
connects a n msg label (Some body) =
    let given : Label = called_label msg in
    let b : AsyncState = with_connection a given (next_number a.order) in
    let holder : Option FibrilNo = fibril_of (conn_of_label given a.conns) in
    let h : Kept a (reach_holder b holder) = held_by a b holder (record { me = refl; bodies = refl }) in
    record { me = h.me; bodies = h.bodies }

receives : (a : AsyncState) (n : CallNo) (msg : Msg) (label : Label) (b : Bool)
    → Kept a (receive_call_by a n msg label b).state
receives a n msg label true = connects a n msg label _
receives a n msg label false = routes a n msg label

-- an answer comes
slot_answered : (a b : AsyncState) (f : FibrilNo) (k : ℕ) (n : CallNo) (reply : Reply) (woken : Bool) (t : Context)
    → Kept a b → Kept a (answer_slot b f k n reply woken t)
slot_answered a b f k n reply true t h = record { me = h.me; bodies = h.bodies }
slot_answered a b f k n reply false t h = record { me = h.me; bodies = h.bodies }

has_phone : (a b : AsyncState) (f : FibrilNo) (t : Context) (x s phone : ℕ) (m : Option ExchangeMode) → Kept a b
    → Kept a (connect b f t x s phone m).state
has_phone a b f t x s phone (Some mode.Parallel) h = record { me = h.me; bodies = h.bodies }
has_phone a b f t x s phone (Some mode.Atomic) h = h
has_phone a b f t x s phone (Some mode.Serialize) h = h
has_phone a b f t x s phone None h = h

kept_on : (a b c : AsyncState) → Kept a b → Kept b c → Kept a c
kept_on a b c h k = record { me = k.me ∙ h.me; bodies = k.bodies ∙ h.bodies }

begin_answered : (a b : AsyncState) (f : FibrilNo) (t : Context) (x s : ℕ) (reply : Reply) (ok : Bool) → Kept a b
    → Kept a (answer_begin_by b f t x s reply ok).state
begin_answered a b f t x s reply true h = has_phone a b f t x s _ _ h
begin_answered a b f t x s reply false h = kept_on a b _ h (refused b f t reply.code _)

at_begin : (a b : AsyncState) (f : FibrilNo) (t : Context) (reply : Reply) (o : Option Op) → Kept a b
    → Kept a (answer_begin_at b f t reply o).state
at_begin a b f t reply None h = h
at_begin a b f t reply (Some (op.Set k value)) h = h
at_begin a b f t reply (Some (op.Jump to)) h = h
at_begin a b f t reply (Some (op.JumpEqual left right to)) h = h
at_begin a b f t reply (Some (op.JumpDiffer left right to)) h = h
at_begin a b f t reply (Some (op.Call phone method args)) h = h
at_begin a b f t reply (Some op.Receive) h = h
at_begin a b f t reply (Some (op.Answer call code args)) h = h
at_begin a b f t reply (Some (op.Forward call phone mode)) h = h
at_begin a b f t reply (Some (op.ForwardWith call phone mode method args)) h = h
at_begin a b f t reply (Some (op.Hangup phone)) h = h
at_begin a b f t reply (Some (op.Area base pages rights)) h = h
at_begin a b f t reply (Some (op.Unarea base)) h = h
at_begin a b f t reply (Some (op.Poke address bytes)) h = h
at_begin a b f t reply (Some (op.Peek address count)) h = h
at_begin a b f t reply (Some (op.CallSlot slot phone method args)) h = h
at_begin a b f t reply (Some (op.Send slot handle method args)) h = h
at_begin a b f t reply (Some (op.Wait slot)) h = h
at_begin a b f t reply (Some op.Next) h = h
at_begin a b f t reply (Some op.Yield) h = h
at_begin a b f t reply (Some (op.OpenSession session phone mode)) h = h
at_begin a b f t reply (Some (op.Begin handle session)) h = begin_answered a b f t handle session reply _ h
at_begin a b f t reply (Some (op.End handle)) h = h
at_begin a b f t reply (Some (op.Close session)) h = h

given : (a b : AsyncState) (f : FibrilNo) (n : CallNo) (reply : Reply) (woken : Bool) (k : Option ℕ)
    (t : Option Context) → Kept a b → Kept a (give_answer b f n reply woken k t).state
given a b f n reply woken (Some k) (Some t) h = slot_answered a b f k n reply woken t h
given a b f n reply woken None (Some t) h = at_begin a b f t reply _ h
given a b f n reply woken (Some k) None h = h
given a b f n reply woken None None h = h

answered : (a : AsyncState) (n : CallNo) (reply : Reply) (o : Option Awaited) → Kept a (take_answer a n reply o).state
answered a n reply None = same
answered a n reply (Some w) = given a _ w.fibril n reply _ w.slot _ (record { me = refl; bodies = refl })

managed : (a : AsyncState) (o : Outcome) → Kept a (manage a o).state
managed a Done = same
managed a (Refused code) = same
managed a (Accepted call) = same
managed a (Received call msg label) = receives a call msg label _
managed a (Answered call reply) = answered a call reply _
managed a Empty = same
managed a (Bytes b) = same

stepped : (a : AsyncState) (o : Outcome) (whose : Turn) → Kept a (step_in a o whose).state
stepped a o (turn.Work n c) = record { me = refl; bodies = refl }
stepped a o (turn.Run f t None) = record { me = refl; bodies = refl }
stepped a o (turn.Run f t (Some p)) = did a f t p o
stepped a o turn.Receive = managed a o

pub async_keeps : (p : async_task.AsyncTask) (o : Outcome) → Kept p.state (async_task.after p o).state
async_keeps p o = stepped p.state o (turn_now p.state)
