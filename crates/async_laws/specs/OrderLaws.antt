-- In which order fibrils go on and calls are taken, and what becomes of a call that comes.
use Rattle.std.specs.Prelude.{ℕ, ◌≡◌, ◌≢◌, ◌+◌, ◌⊎◌, false, List, [], ◌∷◌, ◌++◌, length, Some}
use Rattle.std.specs.Prelude.{None, slice_get, position}
use Rattle.ipc_ids.specs.declared.numbers.CallNo.{CallNo}
use Rattle.ipc_ids.specs.declared.numbers.FibrilNo.{FibrilNo}
use Rattle.ipc_ids.specs.declared.numbers.Label.{Label}
use Rattle.ipc_ids.specs.declared.message.Msg.{Msg}
use Rattle.ipc_ids.specs.declared.message.Outcome.{Outcome}
use Rattle.ipc_ids.specs.declared.message.Outcome.TheVariants as outcome
use Rattle.ipc_ids.specs.declared.op.Op.TheVariants as op
use Rattle.ipc_ids.specs.Codes.{ehangup, elimit}
use Rattle.ipc_ids.specs.Methods.{connect_me_to}
use Rattle.fibril_core.specs.declared.conn.Conn.{Conn}
use Rattle.fibril_core.specs.declared.conn.Queued.{Queued}
use Rattle.fibril_core.specs.declared.conn.Taken.TheVariants as taken
use Rattle.fibril_core.specs.declared.fibrils.Status.TheVariants.{Ready}
use Rattle.fibril_core.specs.FibrilLaws.{Becomes}
use Rattle.fibril_core.specs.Conns.{route_to, take_first, take_answer, leads_to}
use Rattle.async_sessions.specs.declared.sessions.Begin.TheVariants as begin
use Rattle.async_task.specs.declared.context.Context.{Context}
use Rattle.async_task.specs.Turns as turn
use Rattle.async_task.specs.AsyncState.{AsyncState, context_at}
use Rattle.async_task.specs.Turns.{turn_now}
use Rattle.async_task.specs.Wanted.{plan_begin}
use Rattle.async_task.specs.Connections.{is_of_connections}
use Rattle.async_task.specs.Steps.{step}
use Rattle.async_laws.specs.NoLostWakes.{KeepsWakes}

-- a fibril that yields stands behind all others then
abbrev pub YieldsGoBehind : Type 0
YieldsGoBehind =
    (a : AsyncState) (o : Outcome) (f : FibrilNo) (t : Context) → KeepsWakes a →
    turn_now a ≡ turn.Run f t (Some op.Yield) → Becomes a.order (step a o).state.order f.0 Ready

-- a call is last in the queue now, and each that was there stands where it stood
pub record IsLast (call : CallNo) (msg : Msg) (old new : List Queued) : Type 0 where
  pub others : (i : ℕ) (q : Queued) → slice_get old i ≡ Some q → slice_get new i ≡ Some q
  pub last : slice_get new (length old) ≡ Some (record { call = call; msg = msg })
  pub one : length new ≡ length old + 1

-- a call that comes to a connection is the last of its queue, or it is its close call, where it had
-- none, and the queue is as it was
abbrev pub RoutesGoLast : Type 0
RoutesGoLast =
    (c : Conn) (call : CallNo) (msg : Msg) →
    (IsLast call msg c.queue (route_to call msg c).queue × ((route_to call msg c).close_call ≡ c.close_call)) ⊎
    ((msg.method ≡ 0) × (c.close_call ≡ None) × ((route_to call msg c).close_call ≡ Some call)
    × ((route_to call msg c).queue ≡ c.queue))

-- what is taken stood first, and each other is one place nearer
abbrev pub FirstIsTaken : Type 0
FirstIsTaken =
    (c : Conn) (call : CallNo) (msg : Msg) (label : Label) →
    take_answer (Some c) ≡ taken.Call call msg label →
    (slice_get c.queue 0 ≡ Some (record { call = call; msg = msg })) ×
    ((i : ℕ) → slice_get (take_first c).queue i ≡ slice_get c.queue (i + 1))

-- a call that no connection takes, and that starts none, is owed the answer EHANGUP
abbrev pub StrayCallsAreRefused : Type 0
StrayCallsAreRefused =
    (a : AsyncState) (n : CallNo) (msg : Msg) (label : Label) → turn_now a ≡ turn.Receive →
    ((msg.method ≢ connect_me_to) ⊎ (position is_of_connections a.bodies ≡ None)) →
    ((i : ℕ) (c : Conn) → slice_get a.conns i ≡ Some c → leads_to label c ≡ false) →
    (step a (outcome.Received n msg label)).state.work ≡ a.work ++ (n, ehangup) ∷ []

-- after its connect call met the limit, a begin asks for no connect call
abbrev pub LimitsAreHeeded : Type 0
LimitsAreHeeded =
    (a : AsyncState) (f : FibrilNo) (t u : Context) (x s phone p : ℕ) → KeepsWakes a →
    turn_now a ≡ turn.Run f t (Some (op.Begin x s)) →
    plan_begin a f t x s ≡ begin.Connect phone →
    context_at (step a (outcome.Refused elimit)).state f ≡ Some u →
    plan_begin (step a (outcome.Refused elimit)).state f u x s ≢ begin.Connect p
