-- The state of an async task, what a step of it gives, and within which bounds it is safe.
use Rattle.std.specs.Prelude.{ℕ, ◌≡◌, ◌+◌, ◌-◌, ◌^◌, ◌<◌, ◌≤◌, ◌++◌, if◌then◌else◌, List, [], ◌∷◌}
use Rattle.std.specs.Prelude.{length}
use Rattle.std.specs.Prelude.{⊤, Option, None, Some, is_some, slice_get, slice_set}
use Rattle.ipc_ids.specs.declared.numbers.TaskNo.{TaskNo}
use Rattle.ipc_ids.specs.declared.numbers.CallNo.{CallNo}
use Rattle.ipc_ids.specs.declared.numbers.FibrilNo.{FibrilNo}
use Rattle.ipc_ids.specs.declared.numbers.Code.{Code}
use Rattle.ipc_ids.specs.declared.op.Op.{Op}
use Rattle.ipc_ids.specs.declared.op.Body.{Body}
use Rattle.ipc_ids.specs.declared.entry.Entry.{Entry}
use Rattle.ipc_ids.specs.Trace.{TraceState}
use Rattle.fibril_core.specs.declared.conn.Conn.{Conn}
use Rattle.fibril_core.specs.Fibrils.{FibrilOrder}
use Rattle.async_sessions.specs.Sessions.{Open}
use Rattle.async_task.specs.declared.awaited.Awaited.{Awaited}
use Rattle.async_task.specs.declared.context.Context.{Context}
use Rattle.async_task.specs.Contexts.{new_context}
use Rattle.async_task.specs.Kept.{kept_at}

-- the task's own number; its bodies; its fibrils, by their stamps and by what each keeps, which is
-- nothing once it has ended; its connections, sessions and exchanges; the calls whose answers are
-- awaited; the answers that it owes
pub record AsyncState : Type 0 where
  pub me : TaskNo
  pub bodies : List Body
  pub order : FibrilOrder
  pub contexts : List (Option Context)
  pub conns : List Conn
  pub pool : Open
  pub awaited : List Awaited
  pub work : List (CallNo × Code)

-- for how many more of each there is room
pub record Room : Type 0 where
  pub fibrils : ℕ
  pub contexts : ℕ
  pub exchanges : ℕ
  pub awaited : ℕ
  pub work : ℕ

-- the state, and for how many more things and connections there is room
pub record MachineState : Type 0 where
  pub state : AsyncState
  pub room : Room
  pub conn_room : ℕ

-- what a step gives
pub record Transition : Type 0 where
  pub state : AsyncState
  pub entries : List Entry

-- a machine and a trace come out of a step as it says
pub record Does (after : MachineState) (told now : TraceState) (step : Transition) : Type 0 where
  pub state : after.state ≡ step.state
  pub entries : now.entries ≡ told.entries ++ step.entries

-- neither the state nor the entries have changed
pub record Stays (m after : MachineState) (told now : TraceState) : Type 0 where
  pub state : after.state ≡ m.state
  pub entries : now.entries ≡ told.entries

-- the fibril of each connection is one of the first n
abbrev pub AreServed : ℕ → List Conn → Type 0
AreServed n [] = ⊤
AreServed n (c ∷ cs) = (c.fibril.0 ≤ n) × AreServed n cs

-- there are numbers and stamps for whatever comes next, and each connection has its fibril
pub record IsWithinLimits (a : AsyncState) : Type 0 where
  pub fibrils : length a.order.fibrils < 2 ^ 32
  pub stamps : a.order.next_stamp < 2 ^ 61
  pub exchanges : a.pool.next_number < 2 ^ 62
  pub exchange_stamps : a.pool.next_stamp < 2 ^ 62
  pub served : AreServed (length a.order.fibrils) a.conns

-- there is room for the two entries, the call, the answer and the exchange that an event may add
pub record IsReady (m : MachineState) (told : TraceState) : Type 0 where
  pub entries : 2 ≤ told.spare
  pub exchanges : 0 < m.room.exchanges
  pub awaited : 0 < m.room.awaited
  pub work : 0 < m.room.work
  pub limits : IsWithinLimits m.state

-- at most n fibrils were added, with a stamp each, and nothing else but what they keep has changed
pub record Grows (n : ℕ) (a after : AsyncState) : Type 0 where
  pub bodies : after.bodies ≡ a.bodies
  pub fibrils : length after.order.fibrils ≤ length a.order.fibrils + n
  pub stamps : after.order.next_stamp ≤ a.order.next_stamp + n
  pub conns : after.conns ≡ a.conns
  pub pool : after.pool ≡ a.pool

-- a step without entries
abbrev pub without_entries : AsyncState → Transition
without_entries a = record { state = a; entries = [] }

-- what the fibril with this number keeps; nothing where there is none or it has ended
abbrev pub context_at : AsyncState → FibrilNo → Option Context
context_at a f = kept_at a.contexts (f.0 - 1)

-- that or, where there is none, a new one
abbrev pub or_new : Option Context → Context
or_new (Some t) = t
or_new None = new_context 0

-- what the fibril with this number keeps; a new context where it keeps nothing
abbrev pub context_or_new : AsyncState → FibrilNo → Context
context_or_new a f = or_new (context_at a f)

-- it keeps that from now on, if it kept something
abbrev pub with_context : AsyncState → FibrilNo → Context → AsyncState
with_context a f t =
    record a {
      contexts =
          if is_some (context_at a f) then slice_set a.contexts (f.0 - 1) (Some t)
          else a.contexts;
    }

-- it keeps nothing from now on
abbrev pub without_context : AsyncState → FibrilNo → AsyncState
without_context a f = record a { contexts = slice_set a.contexts (f.0 - 1) None }

-- the operation at a place of a body
abbrev pub op_in : Option Body → ℕ → Option Op
op_in None place = None
op_in (Some body) place = slice_get body.ops place

-- the present operation of a fibril; none at the end of its body
abbrev pub present_op : AsyncState → Context → Option Op
present_op a t = op_in (slice_get a.bodies t.body) t.place
