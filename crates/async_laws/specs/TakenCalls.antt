-- What a fibril is told by `next`, in the words of its registers.
use Rattle.std.specs.Prelude.{ℕ, ◌≡◌, ◌≢◌, ◌+◌, ◌^◌, ◌<◌, ◌≤◌, ◌⊎◌, true, List, [], ◌∷◌, length}
use Rattle.std.specs.Prelude.{Some, slice_get, slice_index, replicate, position}
use Rattle.ipc_ids.specs.declared.numbers.CallNo.{CallNo}
use Rattle.ipc_ids.specs.declared.numbers.FibrilNo.{FibrilNo}
use Rattle.ipc_ids.specs.declared.numbers.Label.{Label}
use Rattle.ipc_ids.specs.declared.message.Msg.{Msg}
use Rattle.ipc_ids.specs.declared.message.Why.TheVariants as why
use Rattle.ipc_ids.specs.declared.message.Outcome.{Outcome}
use Rattle.ipc_ids.specs.declared.message.Outcome.TheVariants as outcome
use Rattle.ipc_ids.specs.declared.op.Op.TheVariants as op
use Rattle.ipc_ids.specs.Methods.{connect_me_to}
use Rattle.fibril_core.specs.declared.conn.Conn.{Conn}
use Rattle.fibril_core.specs.declared.conn.Queued.{Queued}
use Rattle.fibril_core.specs.Fibrils.{why_of}
use Rattle.async_task.specs.declared.context.Context.{Context}
use Rattle.async_task.specs.Turns as turn
use Rattle.async_task.specs.Contexts.{new_context}
use Rattle.async_task.specs.Connections.{is_of_connections}
use Rattle.async_task.specs.AsyncState.{AsyncState, context_at}
use Rattle.async_task.specs.Turns.{turn_now}
use Rattle.async_task.specs.Steps.{step}
use Rattle.async_laws.specs.NoLostWakes.{KeepsWakes}

-- a register of which a call that is taken says nothing: r1, r9 to r15, and those from r18 on
abbrev pub IsUntold : ℕ → Type 0
IsUntold k = (k ≡ 1) ⊎ (((9 ≤ k) × (k ≤ 15)) ⊎ (18 ≤ k))

-- what the registers of a fibril tell of a call that it takes, and that the others stay
pub record TellCall (n : CallNo) (msg : Msg) (label : Label) (before after : List ℕ) : Type 0 where
  pub done : slice_get after 0 ≡ Some 0
  pub number : slice_get after 2 ≡ Some n.0
  pub method : slice_get after 3 ≡ Some msg.method
  -- r4 to r8
  pub args : (i : ℕ) → i < 5 → slice_get after (4 + i) ≡ Some (slice_index msg.args i)
  pub task : slice_get after 16 ≡ Some label.task.0
  pub phone : slice_get after 17 ≡ Some label.phone.0
  pub others : (k : ℕ) → IsUntold k → slice_get after k ≡ slice_get before k

-- fibril f, which kept t, has this call in its registers and goes on behind its `next`; nothing else changes of what it
-- keeps, and nothing of what another fibril keeps
pub record Takes (f : FibrilNo) (t : Context) (n : CallNo) (msg : Msg) (label : Label) (a after : AsyncState)
    : Type 0 where
  pub now : Context
  pub here : context_at after f ≡ Some now
  pub registers : TellCall n msg label t.registers now.registers
  pub place : t.place < 2 ^ 62 → now.place ≡ t.place + 1
  pub rest : now ≡ record t { registers = now.registers; place = now.place }
  pub others : (g : FibrilNo) → 1 ≤ g.0 → g.0 ≢ f.0 → context_at after g ≡ context_at a g

-- the message of a closing: method 0, and arguments 0
abbrev pub closing : Msg
closing = record { method = 0; args = 0 ∷ 0 ∷ 0 ∷ 0 ∷ 0 ∷ [] }

abbrev pub no_call : CallNo
no_call = record { 0 = 0 }

-- fibril f serves this connection, has 32 registers, and keeps t
pub record Serves (f : FibrilNo) (c : Conn) (t : Context) (a : AsyncState) : Type 0 where
  pub place : ℕ
  pub there : slice_get a.conns place ≡ Some c
  pub own : c.fibril ≡ f
  pub keeps : context_at a f ≡ Some t
  pub many : length t.registers ≡ 32

-- a fibril that does `next` takes the call that stands first at its connection
abbrev pub NextTakesTheFirst : Type 0
NextTakesTheFirst =
    (a : AsyncState) (o : Outcome) (f : FibrilNo) (t : Context) (c : Conn) (q : Queued) → KeepsWakes a →
    turn_now a ≡ turn.Run f t (Some op.Next) → Serves f c t a → slice_get c.queue 0 ≡ Some q →
    Takes f t q.call q.msg c.label a (step a o).state

-- where none stands there and the connection is closed, it takes call 0 with method 0
abbrev pub NextTellsTheClosing : Type 0
NextTellsTheClosing =
    (a : AsyncState) (o : Outcome) (f : FibrilNo) (t : Context) (c : Conn) → KeepsWakes a →
    turn_now a ≡ turn.Run f t (Some op.Next) → Serves f c t a → c.queue ≡ [] → c.closed ≡ true →
    Takes f t no_call closing c.label a (step a o).state

-- a fibril that waits in `next` of this connection, to which the label leads
pub record WaitsAt (f : FibrilNo) (c : Conn) (t : Context) (label : Label) (a : AsyncState) : Type 0 where
  pub serves : Serves f c t a
  pub leads : c.routes ≡ true
  pub labelled : c.label ≡ label
  pub waits : why_of a.order f ≡ Some why.Message

-- it takes a call that comes there at once
abbrev pub WaitersTakeAtOnce : Type 0
WaitersTakeAtOnce =
    (a : AsyncState) (n : CallNo) (msg : Msg) (label : Label) (f : FibrilNo) (t : Context) (c : Conn) →
    KeepsWakes a → turn_now a ≡ turn.Receive → WaitsAt f c t label a →
    msg.method ≢ connect_me_to → msg.method ≢ 0 →
    Takes f t n msg label a (step a (outcome.Received n msg label)).state

-- and hears of a hangup as of a closing
abbrev pub WaitersHearHangups : Type 0
WaitersHearHangups =
    (a : AsyncState) (n : CallNo) (msg : Msg) (label : Label) (f : FibrilNo) (t : Context) (c : Conn) →
    KeepsWakes a → turn_now a ≡ turn.Receive → WaitsAt f c t label a → msg.method ≡ 0 →
    Takes f t no_call closing label a (step a (outcome.Received n msg label)).state

-- the fibril of a connection that starts stands before that body, with the connect call in its registers
pub record KnowsItsCall (n : CallNo) (msg : Msg) (label : Label) (body : ℕ) (a after : AsyncState) : Type 0 where
  pub now : Context
  pub here : slice_get after.contexts (length a.contexts) ≡ Some (Some now)
  pub registers : TellCall n msg label (replicate 32 0) now.registers
  pub rest : now ≡ record (new_context body) { registers = now.registers }

-- so it is where a connect call comes and the task has a body of connections
abbrev pub StartedOnesKnowTheirCall : Type 0
StartedOnesKnowTheirCall =
    (a : AsyncState) (n : CallNo) (msg : Msg) (label : Label) (body : ℕ) → turn_now a ≡ turn.Receive →
    msg.method ≡ connect_me_to → position is_of_connections a.bodies ≡ Some body →
    KnowsItsCall n msg label body a (step a (outcome.Received n msg label)).state
