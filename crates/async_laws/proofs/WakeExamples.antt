-- No wake-up is lost, at work on small states: for each reason to wait a state that keeps it, and one
-- in which what the fibril waits for has come and the fibril is blocked all the same.
use Rattle.std.proofs.Common.{ℕ, zero, suc, ◌≡◌, ap, sym, subst, false, true, Some, None, List, [], ◌∷◌, refl, inl, inr}
use Rattle.std.specs.Prelude.{replicate}
use Rattle.ipc_ids.specs.declared.numbers.CallNo.{CallNo}
use Rattle.ipc_ids.specs.declared.numbers.FibrilNo.{FibrilNo}
use Rattle.ipc_ids.specs.declared.message.Why.{Why}
use Rattle.ipc_ids.specs.declared.message.Why.TheVariants as why
use Rattle.ipc_ids.specs.declared.message.ExchangeMode.{ExchangeMode}
use Rattle.ipc_ids.specs.declared.message.ExchangeMode.TheVariants.{Serialize, Parallel}
use Rattle.fibril_core.specs.declared.conn.Conn.{Conn}
use Rattle.fibril_core.specs.declared.conn.Queued.{Queued}
use Rattle.fibril_core.specs.declared.fibrils.Status.TheVariants.{Blocked}
use Rattle.fibril_core.specs.Fibrils.{FibrilOrder, why_at, fibril_at}
use Rattle.async_sessions.specs.declared.sessions.Exchange.{Exchange}
use Rattle.async_sessions.specs.declared.sessions.Held.{Held}
use Rattle.async_sessions.specs.declared.sessions.Held.TheVariants.{By, Idle}
use Rattle.async_sessions.specs.Sessions.{Open, no_sessions}
use Rattle.async_sessions.specs.SessionLaws.{IsAmong, IsIdleOf}
use Rattle.async_task.specs.declared.awaited.Awaited.{Awaited}
use Rattle.async_task.specs.Contexts.{new_context}
use Rattle.async_task.specs.AsyncState.{AsyncState}
use Rattle.async_laws.specs.NoLostWakes.{IsStillToCome, NoWakeIsLost}

abbrev first : FibrilNo
first = record { 0 = 1 }

abbrev call : CallNo
call = record { 0 = 1 }

-- one fibril, which is blocked on that
abbrev alone : Why → FibrilOrder
alone w =
    record {
      fibrils = record { number = first; status = Blocked w; stamp = 1 } ∷ [];
      next_stamp = 2;
    }

-- a task of that fibril, with these awaited calls, connections and exchanges
abbrev blocked : Why → List Awaited → List Conn → Open → AsyncState
blocked w ws cs o =
    record {
      me = record { 0 = 1 };
      bodies = [];
      order = alone w;
      contexts = Some (new_context 0) ∷ [];
      conns = cs;
      pool = o;
      awaited = ws;
      work = [];
    }

-- only the first fibril is blocked, and on that
one_blocked : (w v : Why) (n : ℕ) → why_at (fibril_at (alone w) n) ≡ Some v → (n ≡ 1) × (w ≡ v)
one_blocked w v zero h = absurd (cc h)
one_blocked w v (suc zero) h = (refl, cc h)
one_blocked w v (suc (suc n)) h = absurd (cc h)

-- so no wake-up is lost where what that one waits for has not come
keeps :
    (w : Why) (ws : List Awaited) (cs : List Conn) (o : Open) →
    IsStillToCome (blocked w ws cs o) first w → NoWakeIsLost (blocked w ws cs o)
keeps w ws cs o here f v h =
    let that : (f.0 ≡ 1) × (w ≡ v) = one_blocked w v f.0 h in
    let same : first ≡ f = ap (λ (n : ℕ). the_fibril n) (sym that.0) in
    subst (λ (g : FibrilNo). IsStillToCome (blocked w ws cs o) g v) same
    (subst (λ (u : Why). IsStillToCome (blocked w ws cs o) first u) that.1 here) where
      the_fibril : ℕ → FibrilNo
      the_fibril n = record { 0 = n }

-- the answer of call 1, which the fibril awaits in slot 0
abbrev in_slot : List Awaited
in_slot = record { call = call; fibril = first; slot = Some 0 } ∷ []

awaited_answer : NoWakeIsLost (blocked (why.Answer call) in_slot [] no_sessions)
awaited_answer = keeps (why.Answer call) in_slot [] no_sessions (Some 0, refl)

-- the answer came: nobody awaits it any more
answer_came : NoWakeIsLost (blocked (why.Answer call) [] [] no_sessions) → ⊥
answer_came law = cc ((law first (why.Answer call) refl).1)

-- an exchange of session 0 in that mode, which is held so
abbrev exchange : ExchangeMode → Held → Exchange
exchange m held =
    record {
      number = record { 0 = 1 };
      session = 0;
      phone = 3;
      mode = m;
      held = held;
      stamp = 0;
    }

-- the session with that exchange
abbrev one_exchange : ExchangeMode → Held → Open
one_exchange m held =
    record {
      sessions = Some (record { phone = 3; mode = m }) ∷ replicate 15 None;
      exchanges = exchange m held ∷ [];
      next_number = 2;
      next_stamp = 1;
    }

-- another fibril has begun it
abbrev begun : Held
begun = By (record { 0 = 2 })

-- session 0 is serialized, and no exchange of it is begun
abbrev free_session : Open
free_session =
    record {
      sessions = Some (record { phone = 3; mode = Serialize }) ∷ replicate 15 None;
      exchanges = [];
      next_number = 2;
      next_stamp = 1;
    }

-- an exchange of the serialized session is begun
held_session : NoWakeIsLost (blocked (why.Mutex 0) [] [] (one_exchange Serialize begun))
held_session =
    keeps (why.Mutex 0) [] [] (one_exchange Serialize begun)
    (refl, (exchange Serialize begun, record { among = inl refl; session = refl; begun = tt }))

-- that exchange has ended
exchange_ended : NoWakeIsLost (blocked (why.Mutex 0) [] [] free_session) → ⊥
exchange_ended law = ((law first (why.Mutex 0) refl).1).1.among

-- the one exchange of the task is begun
no_phone : NoWakeIsLost (blocked why.Phone [] [] (one_exchange Parallel begun))
no_phone = keeps why.Phone [] [] (one_exchange Parallel begun) none where
  none : (x : Exchange) → IsIdleOf None (exchange Parallel begun ∷ []) x → ⊥
  none x idle = free_by idle.among idle.idle where
    free_by : IsAmong x (exchange Parallel begun ∷ []) → x.held ≡ Idle → ⊥
    free_by (inl same) free = cc (ap (λ (y : Exchange). y.held) same, free)
    free_by (inr other) free = other

-- it is idle, so its phone is free
phone_is_free : NoWakeIsLost (blocked why.Phone [] [] (one_exchange Parallel Idle)) → ⊥
phone_is_free law =
    law first why.Phone refl (exchange Parallel Idle)
    (record { among = inl refl; idle = refl; session = refl })

-- the connection that the fibril serves, with this queue
abbrev served : List Queued → Conn
served queue =
    record {
      fibril = first;
      label = record { task = record { 0 = 2 }; phone = record { 0 = 0 } };
      routes = true;
      queue = queue;
      closed = false;
      close_call = None;
    }

no_message : NoWakeIsLost (blocked why.Message [] (served [] ∷ []) no_sessions)
no_message = keeps why.Message [] (served [] ∷ []) no_sessions (record { conn = served []; own = refl; is_open = refl; empty = refl })

abbrev queued : Queued
queued = record { call = call; msg = record { method = 512; args = replicate 5 0 } }

-- a call is queued there
message_came : NoWakeIsLost (blocked why.Message [] (served (queued ∷ []) ∷ []) no_sessions) → ⊥
message_came law =
    let quiet = law first why.Message refl in
    let same : served (queued ∷ []) ≡ quiet.conn = cc (quiet.own) in
    cc (ap (λ (c : Conn). c.queue) same, quiet.empty)

-- the connection is closed
connection_closed : NoWakeIsLost (blocked why.Message [] (record (served []) { closed = true } ∷ []) no_sessions) → ⊥
connection_closed law =
    let quiet = law first why.Message refl in
    let same : record (served []) { closed = true } ≡ quiet.conn = cc (quiet.own) in
    cc (ap (λ (c : Conn). c.closed) same, quiet.is_open)
