-- A task of seven fibrils for examples, whose numbers are all apart. Its second fibril does an operation: of those that
-- are ready it has been so longest.
use Rattle.std.specs.Prelude.{ℕ, true, false, List, [], ◌∷◌, Option, None, Some, replicate}
use Rattle.ipc_ids.specs.declared.numbers.TaskNo.{TaskNo}
use Rattle.ipc_ids.specs.declared.numbers.FibrilNo.{FibrilNo}
use Rattle.ipc_ids.specs.declared.numbers.ExchangeNo.{ExchangeNo}
use Rattle.ipc_ids.specs.declared.message.ExchangeMode.{ExchangeMode}
use Rattle.ipc_ids.specs.declared.message.ExchangeMode.TheVariants.{Atomic, Serialize, Parallel}
use Rattle.ipc_ids.specs.declared.message.Why.TheVariants as why
use Rattle.ipc_ids.specs.declared.op.Body.{Body}
use Rattle.ipc_ids.specs.declared.op.Value.TheVariants.{Register}
use Rattle.ipc_ids.specs.declared.op.Op.{Op}
use Rattle.ipc_ids.specs.declared.op.Op.TheVariants as op
use Rattle.fibril_core.specs.declared.conn.Conn.{Conn}
use Rattle.fibril_core.specs.declared.conn.Queued.{Queued}
use Rattle.fibril_core.specs.declared.fibrils.Status.{Status}
use Rattle.fibril_core.specs.declared.fibrils.Status.TheVariants as status
use Rattle.fibril_core.specs.declared.fibrils.Fibril.{Fibril}
use Rattle.fibril_core.specs.Fibrils.{FibrilOrder}
use Rattle.async_sessions.specs.declared.sessions.Session.{Session}
use Rattle.async_sessions.specs.declared.sessions.Held.{Held}
use Rattle.async_sessions.specs.declared.sessions.Held.TheVariants.{By, Idle}
use Rattle.async_sessions.specs.declared.sessions.Exchange.{Exchange}
use Rattle.async_sessions.specs.Sessions.{Open}
use Rattle.async_task.specs.declared.awaited.Awaited.{Awaited}
use Rattle.async_task.specs.declared.context.Slot.{Slot}
use Rattle.async_task.specs.declared.context.Slot.TheVariants as slot
use Rattle.async_task.specs.declared.context.Context.{Context}
use Rattle.async_task.specs.AsyncState.{AsyncState}
use Rattle.program_examples.specs.Apart.{from, five, call_number, message, reply, label}

-- the numbers of the task, of a fibril and of an exchange
abbrev pub task_number : TaskNo
task_number = record { 0 = 40 }

abbrev pub fibril : ℕ → FibrilNo
fibril n = record { 0 = n }

abbrev pub exchange : ℕ → ExchangeNo
exchange n = record { 0 = n }

-- a body that is not that of connections
abbrev pub body : List Op → Body
body ops = record { connection = false; ops = ops }

-- the operation is the third of the second body; connections have the third body
abbrev pub bodies : Op → List Body
bodies o =
    body (op.Wait 6 ∷ [])
    ∷ body (op.Yield ∷ op.Next ∷ o ∷ [])
    ∷ record { connection = true; ops = op.Unarea (Register 9) ∷ [] }
    ∷ body (op.Begin 1 4 ∷ [])
    ∷ body (op.Begin 0 9 ∷ [])
    ∷ []

-- a fibril, and since when it is so
abbrev pub fibril_as : ℕ → Status → ℕ → Fibril
fibril_as n state stamp = record { number = fibril n; status = state; stamp = stamp }

-- fibrils 2 and 3 are ready; 6 has waited for the mutex of session 4 longer than 4, and 7 for a phone longer than 5
abbrev pub fibrils : (first second fourth fifth sixth seventh : Fibril) → List Fibril
fibrils first second fourth fifth sixth seventh =
    first ∷ second ∷ fibril_as 3 status.Ready 8 ∷ fourth ∷ fifth ∷ sixth ∷ seventh ∷ []

-- the first waits for the answer of call 71
abbrev pub first : Fibril
first = fibril_as 1 (status.Blocked (why.Answer (call_number 71))) 3

-- the second is ready, and has been longer than the third
abbrev pub second : Fibril
second = fibril_as 2 status.Ready 5

-- two wait for the mutex of session 4, and two for a phone
abbrev pub fourth : Fibril
fourth = fibril_as 4 (status.Blocked (why.Mutex 4)) 6

abbrev pub fifth : Fibril
fifth = fibril_as 5 (status.Blocked why.Phone) 7

abbrev pub sixth : Fibril
sixth = fibril_as 6 (status.Blocked (why.Mutex 4)) 4

abbrev pub seventh : Fibril
seventh = fibril_as 7 (status.Blocked why.Phone) 2

-- all of them
abbrev pub order : FibrilOrder
order = record { fibrils = fibrils first second fourth fifth sixth seventh; next_stamp = 9 }

-- the second fibril as it is from now on, the last of all
abbrev pub order_with : Status → FibrilOrder
order_with state =
    record { fibrils = fibrils first (fibril_as 2 state 9) fourth fifth sixth seventh; next_stamp = 10 }

-- slots 3 and 4 of the second fibril hold a call each, whose answer has come or not
abbrev pub slots : (third fourth fifth : Slot) → List Slot
slots third fourth fifth =
    slot.Closed ∷ slot.Closed ∷ slot.Closed ∷ third ∷ fourth ∷ fifth ∷ slot.Closed ∷ slot.Closed ∷ []

-- a call whose answer has not come, and one whose answer has
abbrev pub sent : Slot
sent = slot.Sent (call_number 72)

abbrev pub answered : Slot
answered = slot.Answered (call_number 73) (reply 74 (five 75 76 77 78 79))

-- handles 2, 3 and 5 of it name exchanges that it has begun, and 4 one that another has
abbrev pub handles : (second third fifth sixth : Option ExchangeNo) → List (Option ExchangeNo)
handles second third fifth sixth =
    None ∷ None ∷ second ∷ third ∷ Some (exchange 36) ∷ fifth ∷ sixth ∷ None ∷ []

-- what the second fibril keeps: it stands at the operation, and its registers hold 200 to 231
abbrev pub own : Context
own =
    record {
      body = 1;
      place = 2;
      registers = from 200 32;
      slots = slots sent answered slot.Closed;
      handles = handles (Some (exchange 31)) (Some (exchange 34)) (Some (exchange 37)) None;
      short = false;
    }

-- so it goes on, with these registers
abbrev pub gone_on : List ℕ → Context
gone_on registers = record own { place = 3; registers = registers }

-- what another fibril keeps, at the start of a body
abbrev pub other : (number body : ℕ) → Option Context
other number body =
    Some (record {
      body = body;
      place = 0;
      registers = from number 32;
      slots = replicate 8 slot.Closed;
      handles = replicate 8 None;
      short = false;
    })

-- what all keep, where the second fibril keeps this, or has ended
abbrev pub all_keep : Option Context → List (Option Context)
all_keep t =
    other 1000 0 ∷ t ∷ other 3000 2 ∷ other 4000 3 ∷ other 5000 4 ∷ other 6000 3 ∷ other 7000 4 ∷ []

abbrev pub kept : Context → List (Option Context)
kept t = all_keep (Some t)

-- two calls wait at the connection of the second fibril
abbrev pub connection : List Queued → Conn
connection queue =
    record {
      fibril = fibril 2;
      label = label 7 8;
      routes = true;
      queue = queue;
      closed = false;
      close_call = None;
    }

-- a call that waits there
abbrev pub queued : ℕ → ℕ → Queued
queued n method = record { call = call_number n; msg = message method (five 91 92 93 94 95) }

-- a session over this phone
abbrev pub session : ℕ → ExchangeMode → Option Session
session phone mode = Some (record { phone = phone; mode = mode })

-- sessions 3 to 7 and 9 are in use
abbrev pub sessions : (seventh eighth : Option Session) → List (Option Session)
sessions seventh eighth =
    None ∷ None ∷ None ∷ session 53 Atomic ∷ session 54 Serialize ∷ session 55 Parallel ∷ session 56 Parallel
    ∷ seventh ∷ eighth ∷ session 59 Parallel ∷ None ∷ None ∷ None ∷ None ∷ None ∷ None ∷ []

-- an exchange
abbrev pub exchange_as : ℕ → ℕ → ℕ → ExchangeMode → Held → ℕ → Exchange
exchange_as n s phone mode held stamp =
    record { number = exchange n; session = s; phone = phone; mode = mode; held = held; stamp = stamp }

-- the exchanges that some fibril has begun: 31, 34 and 37 the second one, and 36 the third
abbrev pub begun_31 : Exchange
begun_31 = exchange_as 31 5 61 Parallel (By (fibril 2)) 0

abbrev pub begun_34 : Exchange
begun_34 = exchange_as 34 4 54 Serialize (By (fibril 2)) 0

abbrev pub begun_36 : Exchange
begun_36 = exchange_as 36 3 53 Atomic (By (fibril 3)) 0

abbrev pub begun_37 : Exchange
begun_37 = exchange_as 37 3 53 Atomic (By (fibril 2)) 0

-- those that are idle: 33 has been so longest of session 5, and 35 of all
abbrev pub idle_32 : Exchange
idle_32 = exchange_as 32 5 62 Parallel Idle 12

abbrev pub idle_33 : Exchange
idle_33 = exchange_as 33 5 63 Parallel Idle 11

abbrev pub idle_35 : Exchange
idle_35 = exchange_as 35 6 64 Parallel Idle 10

-- all of them
abbrev pub exchanges : List Exchange
exchanges = begun_31 ∷ idle_32 ∷ idle_33 ∷ begun_34 ∷ idle_35 ∷ begun_36 ∷ begun_37 ∷ []

-- the sessions and the exchanges
abbrev pub pool : Open
pool =
    record {
      sessions = sessions (session 57 Serialize) None;
      exchanges = exchanges;
      next_number = 38;
      next_stamp = 13;
    }

-- none of the exchanges is idle
abbrev pub busy_pool : Open
busy_pool = record pool { exchanges = begun_31 ∷ begun_34 ∷ begun_36 ∷ begun_37 ∷ [] }

-- call n is awaited by a fibril, in a slot or for its begin
abbrev pub awaits : ℕ → ℕ → Option ℕ → Awaited
awaits n f place = record { call = call_number n; fibril = fibril f; slot = place }

-- two answers are awaited
abbrev pub awaited : List Awaited
awaited = awaits 71 1 (Some 6) ∷ awaits 72 2 (Some 3) ∷ []

-- the task, before the second fibril does this operation
abbrev pub task : Op → AsyncState
task o =
    record {
      me = task_number;
      bodies = bodies o;
      order = order;
      contexts = kept own;
      conns = connection (queued 81 601 ∷ queued 82 602 ∷ []) ∷ [];
      pool = pool;
      awaited = awaited;
      work = [];
    }

-- the same where a connect call of its begin met the limit
abbrev pub short_task : Op → AsyncState
short_task o = record (task o) { contexts = kept (record own { short = true }) }
