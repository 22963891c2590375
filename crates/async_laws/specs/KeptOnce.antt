-- A call that a task with fibrils keeps is kept once: it stands in one queue, at one place there, or is the close call
-- of one connection, or is owed one answer.
use Rattle.std.specs.Prelude.{ℕ, ◌≡◌, ◌≤◌, ◌+◌, ◌⊎◌, ◌==◌, if◌then◌else◌, List, [], ◌∷◌, Option, None, Some}
use Rattle.std.specs.Prelude.{⊤}
use Rattle.ipc_ids.specs.declared.numbers.TaskNo.{TaskNo}
use Rattle.ipc_ids.specs.declared.numbers.CallNo.{CallNo}
use Rattle.ipc_ids.specs.declared.numbers.FibrilNo.{FibrilNo}
use Rattle.ipc_ids.specs.declared.numbers.Code.{Code}
use Rattle.ipc_ids.specs.declared.numbers.Label.{Label}
use Rattle.ipc_ids.specs.declared.message.Msg.{Msg}
use Rattle.ipc_ids.specs.declared.message.Outcome.{Outcome}
use Rattle.ipc_ids.specs.declared.message.Outcome.TheVariants as outcome
use Rattle.ipc_ids.specs.declared.entry.Entry.TheVariants as entry
use Rattle.ipc_ids.specs.declared.op.Body.{Body}
use Rattle.ipc_ids.specs.Methods.{connect_me_to}
use Rattle.fibril_core.specs.declared.conn.Conn.{Conn}
use Rattle.fibril_core.specs.declared.conn.Queued.{Queued}
use Rattle.async_task.specs.Turns as turn
use Rattle.async_task.specs.AsyncState.{AsyncState, Transition}
use Rattle.async_task.specs.Turns.{turn_now}
use Rattle.async_task.specs.Program.{started}
use Rattle.async_task.specs.Steps.{step}
use Rattle.async_laws.specs.NoLostWakes.{KeepsWakes}
use Rattle.async_laws.specs.HeldCalls.{IsTakenNow, IsHanded}

-- one where the first call is the second, else none
abbrev pub once : CallNo → CallNo → ℕ
once m n = if m.0 == n.0 then 1 else 0

-- at how many places of the queue call n stands
abbrev pub times_in : CallNo → List Queued → ℕ
times_in n [] = 0
times_in n (q ∷ qs) = once q.call n + times_in n qs

-- whether it is the close call, as a number
abbrev pub times_closing : CallNo → Option CallNo → ℕ
times_closing n None = 0
times_closing n (Some m) = once m n

-- how often it is kept at these connections
abbrev pub times_held : CallNo → List Conn → ℕ
times_held n [] = 0
times_held n (c ∷ cs) = (times_in n c.queue + times_closing n c.close_call) + times_held n cs

-- how many of these answers are owed to it
abbrev pub times_owed : CallNo → List (CallNo × Code) → ℕ
times_owed n [] = 0
times_owed n (w ∷ ws) = once w.0 n + times_owed n ws

-- how often the task keeps it
abbrev pub times_kept : CallNo → AsyncState → ℕ
times_kept n a = times_held n a.conns + times_owed n a.work

-- each call is kept once at most
abbrev pub AreKeptOnce : AsyncState → Type 0
AreKeptOnce a = (n : CallNo) → times_kept n a ≤ 1

-- a call that comes is not kept yet
abbrev pub IsUnkept : AsyncState → Outcome → Type 0
IsUnkept a (outcome.Received n msg label) = times_kept n a ≡ 0
IsUnkept a _ = ⊤

-- so it is at the start
abbrev pub StartKeepsOnce : Type 0
StartKeepsOnce = (me : TaskNo) (bodies : List Body) → AreKeptOnce (started me bodies)

-- and after each event
abbrev pub EachKeepsOnce : Type 0
EachKeepsOnce = (a : AsyncState) (o : Outcome) → AreKeptOnce a → IsUnkept a o → AreKeptOnce (step a o).state

-- a connection has started with this call
abbrev pub HasStarted : AsyncState → Msg → Transition → Type 0
HasStarted a msg s =
    (msg.method ≡ connect_me_to) × (f : FibrilNo) × (label : Label) × (s.entries ≡ entry.Starts a.me f label ∷ [])

-- a call that comes is kept once more, or no more than before where a fibril has it now, or a connection
abbrev pub ComesOnce : AsyncState → CallNo → Msg → Transition → Type 0
ComesOnce a n msg s =
    (times_kept n s.state ≡ times_kept n a + 1) ⊎
    ((times_kept n s.state ≤ times_kept n a) × (IsHanded n a s.state ⊎ HasStarted a msg s))

abbrev pub ReceivedCallsComeOnce : Type 0
ReceivedCallsComeOnce =
    (a : AsyncState) (n : CallNo) (msg : Msg) (label : Label) → KeepsWakes a → turn_now a ≡ turn.Receive →
    ComesOnce a n msg (step a (outcome.Received n msg label))

-- a call whose answer is made, or which a fibril takes, is kept once less
abbrev pub KeptCallsGoOnce : Type 0
KeptCallsGoOnce =
    (a : AsyncState) (o : Outcome) (n : CallNo) → ((c : Code) × (turn_now a ≡ turn.Work n c)) ⊎ IsTakenNow n a →
    times_kept n (step a o).state + 1 ≡ times_kept n a
