-- Wrong machines that the laws refuse, each on one small state.
use Rattle.std.proofs.Common.{ℕ, ◌≡◌, ◌≤◌, ap, false, true, Option, Some, None, List, [], ◌∷◌, refl, inl, arith}
use Rattle.std.specs.Prelude.{replicate, if◌then◌else◌}
use Rattle.ipc_ids.specs.declared.numbers.CallNo.{CallNo}
use Rattle.ipc_ids.specs.declared.numbers.Label.{Label}
use Rattle.ipc_ids.specs.declared.message.Msg.{Msg}
use Rattle.ipc_ids.specs.declared.message.Outcome.TheVariants as outcome
use Rattle.ipc_ids.specs.Codes.{ehangup, elimit}
use Rattle.fibril_core.specs.declared.conn.Conn.{Conn}
use Rattle.fibril_core.specs.declared.conn.Queued.{Queued}
use Rattle.fibril_core.specs.Fibrils.{no_fibrils}
use Rattle.async_sessions.specs.Sessions.{no_sessions}
use Rattle.async_task.specs.declared.context.Context.{Context}
use Rattle.async_task.specs.Contexts.{new_context, after_refused}
use Rattle.async_task.specs.AsyncState.{AsyncState}
use Rattle.async_task.specs.Steps.{step}
use Rattle.async_laws.specs.KeptOnce.{AreKeptOnce}
use Rattle.async_laws.specs.LimitLaws.{Remembers}
use Rattle.async_laws.specs.TakenCalls.{TellCall}

abbrev call : CallNo
call = record { 0 = 9 }

abbrev msg : Msg
msg = record { method = 600; args = 1 ∷ 2 ∷ 3 ∷ 4 ∷ 5 ∷ [] }

abbrev label : Label
label = record { task = record { 0 = 7 }; phone = record { 0 = 8 } }

abbrev zeros : List ℕ
zeros = replicate 32 0

-- a number of it
abbrev value : Option ℕ → ℕ
value None = 0
value (Some n) = n

-- the arguments stand one register too low
too_low : TellCall call msg label zeros
    (0 ∷ 0 ∷ 9 ∷ 1 ∷ 2 ∷ 3 ∷ 4 ∷ 5 ∷ 0 ∷ 0 ∷ 0 ∷ 0 ∷ 0 ∷ 0 ∷ 0 ∷ 0 ∷ 7 ∷ 8 ∷ []) → ⊥
too_low law = let e : 1 ≡ 600 = ap value law.method in omega (arith, e)

-- the label's phone stands where its task should
turned_label : TellCall call msg label zeros
    (0 ∷ 0 ∷ 9 ∷ 600 ∷ 1 ∷ 2 ∷ 3 ∷ 4 ∷ 5 ∷ 0 ∷ 0 ∷ 0 ∷ 0 ∷ 0 ∷ 0 ∷ 0 ∷ 8 ∷ 7 ∷ []) → ⊥
turned_label law = let e : 8 ≡ 7 = ap value law.task in omega (arith, e)

-- r1 has changed, of which the call says nothing
r1_written : TellCall call msg label zeros
    (0 ∷ 9 ∷ 9 ∷ 600 ∷ 1 ∷ 2 ∷ 3 ∷ 4 ∷ 5 ∷ 0 ∷ 0 ∷ 0 ∷ 0 ∷ 0 ∷ 0 ∷ 0 ∷ 7 ∷ 8 ∷ []) → ⊥
r1_written law = let e : 9 ≡ 0 = ap value (law.others 1 (inl refl)) in omega (arith, e)

-- a connection of this fibril, where the call stands, or where it is the close call
abbrev conn : ℕ → List Queued → Option CallNo → Conn
conn f queue close =
    record {
      fibril = record { 0 = f };
      label = label;
      routes = true;
      queue = queue;
      closed = false;
      close_call = close;
    }

abbrev queued : List Queued
queued = record { call = call; msg = msg } ∷ []

-- a task with these connections
abbrev task : List Conn → AsyncState
task cs =
    record {
      me = record { 0 = 1 };
      bodies = [];
      order = no_fibrils;
      contexts = Some (new_context 0) ∷ [];
      conns = cs;
      pool = no_sessions;
      awaited = [];
      work = [];
    }

-- the call stands in the queues of two connections
two_queues : AreKeptOnce (task (conn 1 queued None ∷ conn 2 queued None ∷ [])) → ⊥
two_queues law = let two : 2 ≤ 1 = law call in omega (arith, two)

-- it is queued and closes the connection
queued_and_closing : AreKeptOnce (task (conn 1 queued (Some call) ∷ [])) → ⊥
queued_and_closing law = let two : 2 ≤ 1 = law call in omega (arith, two)

-- it is queued and owed an answer
queued_and_owed : AreKeptOnce (record (task (conn 1 queued None ∷ [])) { work = (call, ehangup) ∷ [] }) → ⊥
queued_and_owed law = let two : 2 ≤ 1 = law call in omega (arith, two)

-- a fibril's place, and a number for whether it keeps that it met the limit
abbrev place_in : Option Context → ℕ
place_in None = 0
place_in (Some t) = t.place

abbrev short_in : Option Context → ℕ
short_in None = 0
short_in (Some t) = if t.short then 1 else 0

-- a begin whose connect call met the limit is told ELIMIT, and goes on behind it
told_the_limit : Remembers (record { 0 = 1 }) (new_context 0) (task [])
    (record (task []) { contexts = Some (after_refused (new_context 0) elimit) ∷ [] }) → ⊥
told_the_limit law = let e : 1 ≡ 0 = ap place_in law.here in omega (arith, e)

-- it forgets the limit
limit_forgotten : Remembers (record { 0 = 1 }) (new_context 0) (task []) (task []) → ⊥
limit_forgotten law = let e : 0 ≡ 1 = ap short_in law.here in omega (arith, e)

-- Why no call may come again while it is kept: no fibril of this task is ready, so it receives, and the call that is
-- queued comes once more, as it can where a fibril passed it on by its number and it was passed back.
comes_again : AreKeptOnce (step (task (conn 1 queued None ∷ [])) (outcome.Received call msg label)).state → ⊥
comes_again law = let two : 2 ≤ 1 = law call in omega (arith, two)
