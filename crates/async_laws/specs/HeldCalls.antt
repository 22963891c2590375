-- No call that came is lost: it is queued at a connection, is its close call, or is owed an answer,
-- until that answer is made or a fibril takes it.
use Rattle.std.specs.Prelude.{ℕ, ◌≡◌, ◌⊎◌, List, [], ◌∷◌, Some, slice_get}
use Rattle.ipc_ids.specs.declared.numbers.CallNo.{CallNo}
use Rattle.ipc_ids.specs.declared.numbers.FibrilNo.{FibrilNo}
use Rattle.ipc_ids.specs.declared.numbers.Code.{Code}
use Rattle.ipc_ids.specs.declared.numbers.Label.{Label}
use Rattle.ipc_ids.specs.declared.message.Msg.{Msg}
use Rattle.ipc_ids.specs.declared.message.Why.TheVariants as why
use Rattle.ipc_ids.specs.declared.message.Outcome.{Outcome}
use Rattle.ipc_ids.specs.declared.message.Outcome.TheVariants as outcome
use Rattle.ipc_ids.specs.declared.entry.Entry.TheVariants as entry
use Rattle.ipc_ids.specs.Methods.{connect_me_to}
use Rattle.fibril_core.specs.Fibrils.{why_of}
use Rattle.async_task.specs.Contexts.{at_next, with_received}
use Rattle.ipc_ids.specs.declared.op.Op.TheVariants as op
use Rattle.fibril_core.specs.declared.conn.Conn.{Conn}
use Rattle.fibril_core.specs.declared.conn.Queued.{Queued}
use Rattle.fibril_core.specs.declared.conn.Taken.TheVariants as taken
use Rattle.fibril_core.specs.Conns.{take_answer, conn_of_fibril}
use Rattle.async_task.specs.declared.context.Context.{Context}
use Rattle.async_task.specs.Turns as turn
use Rattle.async_task.specs.AsyncState.{AsyncState, Transition, context_at}
use Rattle.async_task.specs.Turns.{turn_now}
use Rattle.async_task.specs.Steps.{step}
use Rattle.async_laws.specs.NoLostWakes.{KeepsWakes}

-- call n stands in the queue
pub record IsIn (n : CallNo) (qs : List Queued) : Type 0 where
  pub place : ℕ
  pub queued : Queued
  pub there : slice_get qs place ≡ Some queued
  pub named : queued.call ≡ n

-- it is queued at the connection, or is its close call
abbrev pub IsWith : CallNo → Conn → Type 0
IsWith n c = IsIn n c.queue ⊎ (c.close_call ≡ Some n)

-- so at the connection of some fibril
pub record IsHeld (n : CallNo) (cs : List Conn) : Type 0 where
  pub fibril : FibrilNo
  pub conn : Conn
  pub own : conn_of_fibril fibril cs ≡ Some conn
  pub with_it : IsWith n conn

-- an answer to it is owed
pub record IsOwed (n : CallNo) (ws : List (CallNo × Code)) : Type 0 where
  pub place : ℕ
  pub code : Code
  pub there : slice_get ws place ≡ Some (n, code)

abbrev pub IsKept : CallNo → AsyncState → Type 0
IsKept n a = IsHeld n a.conns ⊎ IsOwed n a.work

-- the fibril whose turn it is takes it by `next`
pub record IsTakenNow (n : CallNo) (a : AsyncState) : Type 0 where
  pub fibril : FibrilNo
  pub context : Context
  pub turn_is : turn_now a ≡ turn.Run fibril context (Some op.Next)
  pub msg : Msg
  pub label : Label
  pub is_taken : take_answer (conn_of_fibril fibril a.conns) ≡ taken.Call n msg label

-- what was kept is kept after an event, unless its answer was made or its fibril took it
abbrev pub KeptCallsStay : Type 0
KeptCallsStay =
    (a : AsyncState) (o : Outcome) (n : CallNo) → KeepsWakes a → IsKept n a →
    IsKept n (step a o).state ⊎ ((c : Code) × (turn_now a ≡ turn.Work n c)) ⊎ IsTakenNow n a

-- a fibril waited for a message and has it now
pub record IsHanded (n : CallNo) (a after : AsyncState) : Type 0 where
  pub fibril : FibrilNo
  pub waited : why_of a.order fibril ≡ Some why.Message
  pub msg : Msg
  pub label : Label
  pub handed : (t : Context) → context_at a fibril ≡ Some t →
      context_at after fibril ≡ Some (at_next (with_received t n msg label))

-- a call that came is kept, or handed to the fibril that waited for it, or has started a connection
abbrev pub Comes : AsyncState → CallNo → Msg → Transition → Type 0
Comes a n msg s =
    IsKept n s.state ⊎ IsHanded n a s.state ⊎
    ((msg.method ≡ connect_me_to) × (f : FibrilNo) × (label : Label)
    × (s.entries ≡ entry.Starts a.me f label ∷ []))

abbrev pub ReceivedCallsCome : Type 0
ReceivedCallsCome =
    (a : AsyncState) (n : CallNo) (msg : Msg) (label : Label) → KeepsWakes a →
    turn_now a ≡ turn.Receive → Comes a n msg (step a (outcome.Received n msg label))
