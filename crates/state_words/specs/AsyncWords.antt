-- What is written of an async task: all but its number, its bodies and how many outcomes it took.
use Rattle.std.specs.Prelude.{ℕ, List, [], ◌∷◌, ◌++◌}
use Rattle.ipc_ids.specs.declared.numbers.CallNo.{CallNo}
use Rattle.ipc_ids.specs.declared.numbers.Code.{Code}
use Rattle.ipc_ids.specs.declared.numbers.ExchangeNo.{ExchangeNo}
use Rattle.ipc_ids.specs.declared.message.Why.{Why}
use Rattle.ipc_ids.specs.declared.message.Why.TheVariants as why
use Rattle.ipc_ids.specs.declared.message.ExchangeMode.{ExchangeMode}
use Rattle.ipc_ids.specs.declared.message.ExchangeMode.TheVariants.{Atomic, Serialize, Parallel}
use Rattle.fibril_core.specs.declared.fibrils.Status.{Status}
use Rattle.fibril_core.specs.declared.fibrils.Status.TheVariants.{Ready, Blocked, Ended}
use Rattle.fibril_core.specs.declared.fibrils.Fibril.{Fibril}
use Rattle.fibril_core.specs.declared.conn.Conn.{Conn}
use Rattle.fibril_core.specs.declared.conn.Queued.{Queued}
use Rattle.fibril_core.specs.Fibrils.{FibrilOrder}
use Rattle.async_sessions.specs.declared.sessions.Session.{Session}
use Rattle.async_sessions.specs.declared.sessions.Held.{Held}
use Rattle.async_sessions.specs.declared.sessions.Held.TheVariants.{By, Idle}
use Rattle.async_sessions.specs.declared.sessions.Exchange.{Exchange}
use Rattle.async_sessions.specs.Sessions.{Open}
use Rattle.async_task.specs.declared.awaited.Awaited.{Awaited}
use Rattle.async_task.specs.declared.context.Context.{Context}
use Rattle.async_task.specs.declared.context.Slot.{Slot}
use Rattle.async_task.specs.declared.context.Slot.TheVariants as slot
use Rattle.async_task.specs.AsyncState.{AsyncState}
use Rattle.async_task.specs.Program.{AsyncTask}
use Rattle.state_words.specs.Words.{number_words, bool_words, list_words, option_words}
use Rattle.state_words.specs.CallWords.{label_words, msg_words, reply_words}

-- what a fibril waits for
abbrev pub why_words : Why → List ℕ
why_words (why.Answer n) = 0 ∷ n.0 ∷ []
why_words (why.Mutex s) = 1 ∷ s ∷ []
why_words why.Phone = 2 ∷ []
why_words why.Message = 3 ∷ []

-- whether a fibril goes on
abbrev pub status_words : Status → List ℕ
status_words Ready = 0 ∷ []
status_words Ended = 1 ∷ []
status_words (Blocked w) = 2 ∷ why_words w

-- a fibril
abbrev pub fibril_words : Fibril → List ℕ
fibril_words x = number_words x.number.0 ++ (status_words x.status ++ number_words x.stamp)

-- all fibrils, and the stamp that comes next
abbrev pub order_words : FibrilOrder → List ℕ
order_words o = list_words fibril_words o.fibrils ++ number_words o.next_stamp

-- what a slot holds
abbrev pub slot_words : Slot → List ℕ
slot_words slot.Closed = 0 ∷ []
slot_words (slot.Sent n) = 1 ∷ n.0 ∷ []
slot_words (slot.Answered n reply) = 2 ∷ (number_words n.0 ++ reply_words reply)

-- the exchange that a handle names
abbrev pub exchange_number_words : ExchangeNo → List ℕ
exchange_number_words e = number_words e.0

-- what a fibril keeps
abbrev pub context_words : Context → List ℕ
context_words t =
    number_words t.body
    ++ (number_words t.place
    ++ (list_words number_words t.registers
    ++ (list_words slot_words t.slots
    ++ (list_words (option_words exchange_number_words) t.handles ++ bool_words t.short))))

-- the call that closed a connection
abbrev pub call_number_words : CallNo → List ℕ
call_number_words n = number_words n.0

-- a queued call
abbrev pub queued_words : Queued → List ℕ
queued_words q = number_words q.call.0 ++ msg_words q.msg

-- a connection
abbrev pub conn_words : Conn → List ℕ
conn_words c =
    number_words c.fibril.0
    ++ (label_words c.label
    ++ (bool_words c.routes
    ++ (list_words queued_words c.queue
    ++ (bool_words c.closed ++ option_words call_number_words c.close_call))))

-- how exchanges share a phone
abbrev pub mode_words : ExchangeMode → List ℕ
mode_words Atomic = 0 ∷ []
mode_words Serialize = 1 ∷ []
mode_words Parallel = 2 ∷ []

-- whether a fibril has begun an exchange
abbrev pub held_words : Held → List ℕ
held_words Idle = 0 ∷ []
held_words (By f) = 1 ∷ f.0 ∷ []

-- a session
abbrev pub session_words : Session → List ℕ
session_words s = number_words s.phone ++ mode_words s.mode

-- an exchange
abbrev pub exchange_words : Exchange → List ℕ
exchange_words e =
    number_words e.number.0
    ++ (number_words e.session
    ++ (number_words e.phone ++ (mode_words e.mode ++ (held_words e.held ++ number_words e.stamp))))

-- the sessions, their exchanges, and the number and the stamp that come next
abbrev pub pool_words : Open → List ℕ
pool_words o =
    list_words (option_words session_words) o.sessions
    ++ (list_words exchange_words o.exchanges
    ++ (number_words o.next_number ++ number_words o.next_stamp))

-- a call whose answer is awaited
abbrev pub awaited_words : Awaited → List ℕ
awaited_words w = number_words w.call.0 ++ (number_words w.fibril.0 ++ option_words number_words w.slot)

-- an answer that is owed
abbrev pub owed_words : CallNo × Code → List ℕ
owed_words p = number_words p.0.0 ++ number_words p.1.0

-- an async task
abbrev pub async_words : AsyncState → List ℕ
async_words a =
    order_words a.order
    ++ (list_words (option_words context_words) a.contexts
    ++ (list_words conn_words a.conns
    ++ (pool_words a.pool ++ (list_words awaited_words a.awaited ++ list_words owed_words a.work))))

-- the task as if it had taken no outcome
abbrev pub async_quiet : AsyncTask → AsyncTask
async_quiet p = record { state = p.state; taken = 0 }
