-- No call that came is lost: what is kept stays so in each event.
use Rattle.std.proofs.Common.{ℕ, zero, suc, ◌≡◌, ◌≢◌, ◌⊎◌, inl, inr, Bool, true, false}
use Rattle.std.proofs.Common.{length, Option, Some, None, List, [], ◌∷◌, ◌++◌, refl, sym, ◌∙◌, ap, subst}
use Rattle.std.specs.Prelude.{⊤, if◌then◌else◌, ◌==◌, slice_get, slice_index, position}
use Rattle.std.specs.Prelude.{Result, Ok, Err}
use Rattle.std.specs.List.{find}
use Rattle.std.proofs.lemmas.Bool.{cases_eq, eqb-true, and_parts}
use Rattle.ipc_ids.specs.declared.numbers.CallNo.{CallNo}
use Rattle.ipc_ids.specs.declared.numbers.Code.{Code}
use Rattle.ipc_ids.specs.declared.numbers.ExchangeNo.{ExchangeNo}
use Rattle.ipc_ids.specs.declared.numbers.FibrilNo.{FibrilNo}
use Rattle.ipc_ids.specs.declared.numbers.Label.{Label}
use Rattle.ipc_ids.specs.declared.message.Msg.{Msg}
use Rattle.ipc_ids.specs.declared.message.Reply.{Reply}
use Rattle.ipc_ids.specs.declared.message.Why.{Why}
use Rattle.ipc_ids.specs.declared.message.Why.TheVariants as why
use Rattle.ipc_ids.specs.declared.message.ExchangeMode.{ExchangeMode}
use Rattle.ipc_ids.specs.declared.message.ExchangeMode.TheVariants as mode
use Rattle.ipc_ids.specs.declared.message.Outcome.{Outcome}
use Rattle.ipc_ids.specs.declared.message.Outcome.TheVariants as outcome
use Rattle.ipc_ids.specs.declared.op.Op.{Op}
use Rattle.ipc_ids.specs.declared.op.Op.TheVariants as op
use Rattle.ipc_ids.specs.Codes.{eok, elimit, ehangup}
use Rattle.ipc_ids.specs.Methods.{connect_me_to}
use Rattle.registers.specs.Registers.{value_in}
use Rattle.fibril_core.specs.declared.conn.Conn.{Conn}
use Rattle.fibril_core.specs.declared.conn.Queued.{Queued}
use Rattle.fibril_core.specs.declared.conn.Taken.{Taken}
use Rattle.fibril_core.specs.declared.conn.Taken.TheVariants as taken
use Rattle.fibril_core.specs.declared.conn.Routed.TheVariants as routed
use Rattle.fibril_core.specs.Fibrils.{why_of, make_ready, next_number}
use Rattle.fibril_core.specs.Conns as conns
use Rattle.fibril_core.specs.Conns.{conn_of_fibril, conn_of_label, fibril_of, route_to, closes, is_open}
use Rattle.fibril_core.specs.Conns.{take_answer, take_first, leads_to, lose_label, owed_by, start, finish}
use Rattle.fibril_core.specs.Conns.{route_answer}
use Rattle.fibril_core.specs.ConnLaws.{IsSound as AreSoundConns, after_loss}
use Rattle.fibril_core.proofs.Connections.{take_changes, route_changes, starts, owes_in_order, finds}
use Rattle.fibril_core.proofs.Connections.{fibril_there, sound_routed, sound_started}
use Rattle.async_sessions.specs.declared.sessions.Begin.{Begin}
use Rattle.async_sessions.specs.declared.sessions.Begin.TheVariants as begin
use Rattle.async_sessions.specs.declared.sessions.Close.{Close}
use Rattle.async_sessions.specs.declared.sessions.Close.TheVariants as close
use Rattle.async_sessions.specs.declared.sessions.Ended.{Ended}
use Rattle.async_sessions.specs.Sessions.{session_at, mode_answer, made, make_after, held_by, end_answer, end_after}
use Rattle.async_task.specs.declared.awaited.Awaited.{Awaited}
use Rattle.async_task.specs.declared.context.Slot.{Slot}
use Rattle.async_task.specs.declared.context.Slot.TheVariants as slot
use Rattle.async_task.specs.declared.context.Context.{Context}
use Rattle.async_task.specs.Turns.{Turn}
use Rattle.async_task.specs.Turns as turn
use Rattle.async_task.specs.Contexts.{slot_at, handle_at, at_next, with_received}
use Rattle.async_laws.proofs.WakeSlots.{context_set}
use Rattle.async_task.specs.AsyncState.{AsyncState, without_entries, context_at, present_op}
use Rattle.async_task.specs.Turns.{turn_now, work_turn}
use Rattle.async_task.specs.Wanted.{plan_begin, plan_close, phone_by}
use Rattle.async_task.specs.Calls.{call_slot, send_over, wait_slot, next_call, with_taken}
use Rattle.async_task.specs.Exchanges.{open_outcome, begin_exchange, connect_outcome, connect_refused_by}
use Rattle.async_task.specs.Exchanges.{begin_op, end_outcome, end_op, close_op, with_pool}
use Rattle.async_task.specs.Answers.{is_of_call, connect, answer_begin_by, answer_begin_at}
use Rattle.async_task.specs.Answers.{give_answer, is_for, wake_if, forget_call, take_answer as take_reply}
use Rattle.async_task.specs.Connections.{hand_over, reach_blocked, reach, after_route, route_call}
use Rattle.async_task.specs.Connections.{reach_holder, start_connection, connect_call, receive_call_by}
use Rattle.async_task.specs.Connections.{is_of_connections, called_label, end_fibril}
use Rattle.async_task.specs.Steps.{do_op, manage, rest_of, step_in, step}
use Rattle.async_task.proofs.Served.{serves_none}
use Rattle.async_laws.specs.NoLostWakes.{IsQuiet, KeepsWakes}
use Rattle.async_laws.specs.HeldCalls.{IsHanded, Comes, ReceivedCallsCome}
use Rattle.async_laws.specs.HeldCalls.{IsIn, IsWith, IsHeld, IsOwed, IsKept, IsTakenNow, KeptCallsStay}
use Rattle.async_laws.proofs.WakeConns.{take_others, route_none, route_others, finish_others, own_fibril}
use Rattle.async_laws.proofs.OrderLaws.{at_last, before_last, open_is}

-- what an event leaves of the calls that are kept
abbrev pub IsSame : AsyncState → AsyncState → Type 0
IsSame a b = (b.conns ≡ a.conns) × (b.work ≡ a.work)

same_kept : (a b : AsyncState) (n : CallNo) → IsSame a b → IsKept n a → IsKept n b
same_kept a b n same kept = rw (same.0, same.1) kept

-- operations that leave connections and work as they are

call_same : (a : AsyncState) (f : FibrilNo) (t : Context) (k : ℕ) (o : Outcome) (s : Slot) →
    IsSame a (call_slot a f t k o s).state
call_same a f t k (outcome.Accepted n) slot.Closed = (refl, refl)
call_same a f t k (outcome.Refused c) slot.Closed = (refl, refl)
call_same a f t k _ slot.Closed = (refl, refl)
call_same a f t k o (slot.Sent n) = (refl, refl)
call_same a f t k o (slot.Answered n r) = (refl, refl)

send_same : (a : AsyncState) (f : FibrilNo) (t : Context) (k : ℕ) (o : Outcome) (s : Slot)
    (phone : Option ℕ) → IsSame a (send_over a f t k o s phone).state
send_same a f t k o s None = (refl, refl)
send_same a f t k o s (Some phone) = call_same a f t k o s

wait_same : (a : AsyncState) (f : FibrilNo) (t : Context) (k : ℕ) (s : Slot) →
    IsSame a (wait_slot a f t k s).state
wait_same a f t k slot.Closed = (refl, refl)
wait_same a f t k (slot.Sent n) = (refl, refl)
wait_same a f t k (slot.Answered n r) = (refl, refl)

pub next_same : (a : AsyncState) (f : FibrilNo) (t : Context) (s : Taken) →
    IsSame a (next_call a f t s).state
next_same a f t (taken.Call n msg label) = (refl, refl)
next_same a f t (taken.HungUp label) = (refl, refl)
next_same a f t taken.Wait = (refl, refl)
next_same a f t taken.NoConnection = (refl, refl)

open_same : (a : AsyncState) (f : FibrilNo) (t : Context) (r : Result ⊤ Code) →
    IsSame a (open_outcome a f t r).state
open_same a f t (Ok x) = (refl, refl)
open_same a f t (Err c) = (refl, refl)

refused_same : (a : AsyncState) (f : FibrilNo) (t : Context) (c : Code) (b : Bool) →
    IsSame a (connect_refused_by a f t c b).state
refused_same a f t c true = (refl, refl)
refused_same a f t c false = (refl, refl)

connect_same : (a : AsyncState) (f : FibrilNo) (t : Context) (o : Outcome) →
    IsSame a (connect_outcome a f t o).state
connect_same a f t (outcome.Accepted n) = (refl, refl)
connect_same a f t (outcome.Refused c) = refused_same a f t c (c.0 == elimit.0)
connect_same a f t _ = (refl, refl)

begun_same : (a : AsyncState) (f : FibrilNo) (t : Context) (x s : ℕ) (e : ExchangeNo) (phone : ℕ)
    (m : Option ExchangeMode) → IsSame a (begin_exchange a f t x s e phone m).state
begun_same a f t x s e phone None = (refl, refl)
begun_same a f t x s e phone (Some m) = (refl, refl)

begin_same : (a : AsyncState) (f : FibrilNo) (t : Context) (x s : ℕ) (o : Outcome) (plan : Begin) →
    IsSame a (begin_op a f t x s o plan).state
begin_same a f t x s o (begin.Begun e phone) =
    begun_same a f t x s e phone (mode_answer (session_at a.pool s))
begin_same a f t x s o (begin.Connect phone) = connect_same a f t o
begin_same a f t x s o (begin.HangIdle e phone) = (refl, refl)
begin_same a f t x s o begin.WaitMutex = (refl, refl)
begin_same a f t x s o begin.WaitPhone = (refl, refl)
begin_same a f t x s o (begin.Refused c) = (refl, refl)
begin_same a f t x s o begin.NoMemory = (refl, refl)

ended_same : (a : AsyncState) (f : FibrilNo) (t : Context) (x : ℕ) (e : ExchangeNo)
    (r : Result Ended Code) → IsSame a (end_outcome a f t x e r).state
ended_same a f t x e (Ok of) = (refl, refl)
ended_same a f t x e (Err c) = (refl, refl)

end_same : (a : AsyncState) (f : FibrilNo) (t : Context) (x : ℕ) (h : Option ExchangeNo) →
    IsSame a (end_op a f t x h).state
end_same a f t x None = (refl, refl)
end_same a f t x (Some e) =
    let b : AsyncState = with_pool a (end_after a.pool e (held_by f e a.pool.exchanges)) in
    let same : IsSame b (end_outcome b f t x e (end_answer (held_by f e a.pool.exchanges))).state =
    ended_same b f t x e (end_answer (held_by f e a.pool.exchanges)) in
    (same.0, same.1)

close_same : (a : AsyncState) (f : FibrilNo) (t : Context) (s : ℕ) (o : Outcome) (plan : Close) →
    IsSame a (close_op a f t s o plan).state
close_same a f t s o (close.HangIdle e phone) = (refl, refl)
close_same a f t s o (close.Last phone) = (refl, refl)
close_same a f t s o (close.Refused c) = (refl, refl)

-- so does an answer that comes

connected_same : (a : AsyncState) (f : FibrilNo) (t : Context) (x s phone : ℕ)
    (m : Option ExchangeMode) → IsSame a (connect a f t x s phone m).state
connected_same a f t x s phone (Some mode.Parallel) = (refl, refl)
connected_same a f t x s phone (Some mode.Atomic) = (refl, refl)
connected_same a f t x s phone (Some mode.Serialize) = (refl, refl)
connected_same a f t x s phone None = (refl, refl)

answered_same : (a : AsyncState) (f : FibrilNo) (t : Context) (x s : ℕ) (r : Reply) (b : Bool) →
    IsSame a (answer_begin_by a f t x s r b).state
answered_same a f t x s r true =
    connected_same a f t x s (slice_index r.args 4) (mode_answer (session_at a.pool s))
answered_same a f t x s r false = refused_same a f t r.code (r.code.0 == elimit.0)

begin_at_same : (a : AsyncState) (f : FibrilNo) (t : Context) (r : Reply) (p : Option Op) →
    IsSame a (answer_begin_at a f t r p).state
begin_at_same a f t r (Some (op.Begin x s)) = answered_same a f t x s r (r.code.0 == eok.0)
begin_at_same a f t r _ = (refl, refl)

give_same : (a : AsyncState) (f : FibrilNo) (n : CallNo) (r : Reply) (b : Bool) (k : Option ℕ)
    (t : Option Context) → IsSame a (give_answer a f n r b k t).state
give_same a f n r true (Some k) (Some t) = (refl, refl)
give_same a f n r false (Some k) (Some t) = (refl, refl)
give_same a f n r b None (Some t) = begin_at_same a f t r (present_op a t)
give_same a f n r b (Some k) None = (refl, refl)
give_same a f n r b None None = (refl, refl)

reply_same : (a : AsyncState) (n : CallNo) (r : Reply) (w : Option Awaited) →
    IsSame a (take_reply a n r w).state
reply_same a n r None = (refl, refl)
reply_same a n r (Some w) =
    let woken : Bool = is_for n (why_of a.order w.fibril) in
    let b : AsyncState = forget_call (wake_if a w.fibril woken) n in
    let same = give_same b w.fibril n r woken w.slot (context_at b w.fibril) in
    (same.0, same.1)

pub answers_same : (a : AsyncState) (n : CallNo) (r : Reply) →
    IsSame a (manage a (outcome.Answered n r)).state
answers_same a n r = reply_same a n r (find (is_of_call n) a.awaited)

-- so does each operation but `next`
pub does_same_but_next : (a : AsyncState) (f : FibrilNo) (t : Context) (p : Op) (o : Outcome) →
    (p ≡ op.Next → ⊥) → IsSame a (do_op a f t p o).state
does_same_but_next a f t (op.CallSlot k phone method args) o other = call_same a f t k o (slot_at t k)
does_same_but_next a f t (op.Send k x method args) o other =
    send_same a f t k o (slot_at t k) (phone_by a.pool f (handle_at t x))
does_same_but_next a f t (op.Wait k) o other = wait_same a f t k (slot_at t k)
does_same_but_next a f t op.Next o other = absurd (other refl)
does_same_but_next a f t op.Yield o other = (refl, refl)
does_same_but_next a f t (op.OpenSession s phone m) o other =
    let b : AsyncState = with_pool a (make_after a.pool s (value_in t.registers phone) m (session_at a.pool s)) in
    let same : IsSame b (open_outcome b f t (made (session_at a.pool s))).state =
    open_same b f t (made (session_at a.pool s)) in
    (same.0, same.1)
does_same_but_next a f t (op.Begin x s) o other = begin_same a f t x s o (plan_begin a f t x s)
does_same_but_next a f t (op.End x) o other = end_same a f t x (handle_at t x)
does_same_but_next a f t (op.Close s) o other = close_same a f t s o (plan_close a s)
does_same_but_next a f t p o other = (refl, refl)

-- connections

still_held : (n : CallNo) (cs ds : List Conn) (h : IsHeld n cs) →
    conn_of_fibril h.fibril ds ≡ conn_of_fibril h.fibril cs → IsHeld n ds
still_held n cs ds h same = record {
  fibril = h.fibril;
  conn = h.conn;
  own = same ∙ h.own;
  with_it = h.with_it;
}

in_rest : (n : CallNo) (c : Conn) → IsIn n c.queue →
    IsIn n (take_first c).queue ⊎
    ((msg : Msg) × (label : Label) × (take_answer (Some c) ≡ taken.Call n msg label))
in_rest n c h = by c.queue refl h.place h.there
  where
    by : (qs : List Queued) → c.queue ≡ qs → (i : ℕ) → slice_get c.queue i ≡ Some h.queued →
        IsIn n (conns.rest_of c.queue) ⊎
        ((msg : Msg) × (label : Label) × (conns.take_from c c.queue ≡ taken.Call n msg label))
    by [] is i at = absurd (cc (at, ap (λ (qs : List Queued). slice_get qs i) is))
    by (q ∷ qs) is zero at =
        let there : slice_get (q ∷ qs) 0 ≡ Some h.queued =
        subst (λ (xs : List Queued). slice_get xs 0 ≡ Some h.queued) is at in
        let first : q ≡ h.queued = cc there in
        let named : q.call ≡ n = ap (λ (x : Queued). x.call) first ∙ h.named in
        inr (q.msg, c.label, rw is (ap (λ (m : CallNo). taken.Call m q.msg c.label) named))
    by (q ∷ qs) is (suc i) at =
        let there : slice_get qs i ≡ Some h.queued =
        subst (λ (xs : List Queued). slice_get xs (suc i) ≡ Some h.queued) is at in
        inl (rw is (record { place = i; queued = h.queued; there = there; named = h.named }))

-- a fibril asks for a call
take_held : (n : CallNo) (cs : List Conn) (f : FibrilNo) → AreSoundConns cs → IsHeld n cs →
    IsHeld n (conns.take_next f cs) ⊎
    ((msg : Msg) × (label : Label) × (take_answer (conn_of_fibril f cs) ≡ taken.Call n msg label))
take_held n cs f sound h = by (cases_eq h.fibril.0 f.0)
  where
    one : h.fibril.0 ≡ f.0 → h.fibril ≡ f
    one e = ap (λ (i : ℕ). record { 0 = i }) e

    own : h.fibril.0 ≡ f.0 → conn_of_fibril f cs ≡ Some h.conn
    own e = subst (λ (g : FibrilNo). conn_of_fibril g cs ≡ Some h.conn) (one e) h.own

    after : h.fibril.0 ≡ f.0 → conn_of_fibril f (conns.take_next f cs) ≡ Some (take_first h.conn)
    after e =
        subst (λ (g : FibrilNo). conn_of_fibril g (conns.take_next f cs) ≡ Some (take_first h.conn))
        (own_fibril f cs h.conn (own e)) (take_changes cs f h.conn sound (own e)).by_fibril

    queued : h.fibril.0 ≡ f.0 → IsIn n (take_first h.conn).queue ⊎
        ((msg : Msg) × (label : Label) × (take_answer (Some h.conn) ≡ taken.Call n msg label)) →
        IsHeld n (conns.take_next f cs) ⊎
        ((msg : Msg) × (label : Label) × (take_answer (conn_of_fibril f cs) ≡ taken.Call n msg label))
    queued e (inl i) =
        inl (record { fibril = f; conn = take_first h.conn; own = after e; with_it = inl i })
    queued e (inr i) = inr (i.0, i.1, rw (own e) i.2)

    with_by : h.fibril.0 ≡ f.0 → IsWith n h.conn → IsHeld n (conns.take_next f cs) ⊎
        ((msg : Msg) × (label : Label) × (take_answer (conn_of_fibril f cs) ≡ taken.Call n msg label))
    with_by e (inl i) = queued e (in_rest n h.conn i)
    with_by e (inr i) =
        inl (record { fibril = f; conn = take_first h.conn; own = after e; with_it = inr i })

    by : (h.fibril.0 ≡ f.0) ⊎ (h.fibril.0 ≢ f.0) → IsHeld n (conns.take_next f cs) ⊎
        ((msg : Msg) × (label : Label) × (take_answer (conn_of_fibril f cs) ≡ taken.Call n msg label))
    by (inl e) = with_by e h.with_it
    by (inr e) = inl (still_held n cs (conns.take_next f cs) h (take_others cs f h.fibril sound e))

-- a call comes to the connection

route_with : (n call : CallNo) (msg : Msg) (c : Conn) → IsWith n c → IsWith n (route_to call msg c)
route_with n call msg c h = by (closes msg.method c) refl h
  where
    by : (b : Bool) → closes msg.method c ≡ b → IsWith n c →
        IsWith n (if b then record c { close_call = Some call; closed = true }
        else record c { queue = c.queue ++ record { call = call; msg = msg } ∷ [] })
    by true is (inl i) = inl i
    by true is (inr i) =
        let none : c.close_call ≡ None =
        open_is c.close_call (and_parts (msg.method == 0) (is_open c.close_call) is).1 in
        absurd (cc (i, none))
    by false is (inl i) =
        inl (record {
          place = i.place;
          queued = i.queued;
          there = before_last c.queue i.place i.queued (record { call = call; msg = msg }) i.there;
          named = i.named;
        })
    by false is (inr i) = inr i

route_held : (n call : CallNo) (msg : Msg) (label : Label) (cs : List Conn) (c : Conn) →
    AreSoundConns cs → conn_of_label label cs ≡ Some c → (h : IsHeld n cs) →
    (d : Conn) × (conn_of_fibril h.fibril (conns.route label call msg cs) ≡ Some d) × IsWith n d
route_held n call msg label cs c sound is h = by (cases_eq h.fibril.0 c.fibril.0)
  where
    Goal : Type 0
    Goal = (d : Conn) × (conn_of_fibril h.fibril (conns.route label call msg cs) ≡ Some d) × IsWith n d

    own : conn_of_fibril c.fibril cs ≡ Some c
    own =
        let there : (i : ℕ) × (slice_get cs i ≡ Some c) = (finds (leads_to label) cs).there c is in
        fibril_there cs there.0 c sound there.1

    by : (h.fibril.0 ≡ c.fibril.0) ⊎ (h.fibril.0 ≢ c.fibril.0) → Goal
    by (inl e) =
        let one : c.fibril ≡ h.fibril = ap (λ (i : ℕ). record { 0 = i }) (sym e) in
        let here : conn_of_fibril h.fibril cs ≡ Some c =
        subst (λ (g : FibrilNo). conn_of_fibril g cs ≡ Some c) one own in
        let same : h.conn ≡ c = cc (h.own, here) in (
          route_to call msg c,
          subst (λ (g : FibrilNo). conn_of_fibril g (conns.route label call msg cs) ≡ Some (route_to call msg c))
              one (route_changes cs label call msg c sound is).by_fibril,
          route_with n call msg c (subst (λ (x : Conn). IsWith n x) same h.with_it),
        )
    by (inr e) = (h.conn, route_others cs label call msg c h.fibril sound is e ∙ h.own, h.with_it)

-- who waits for a message holds no call
quiet_holds_none : (n : CallNo) (cs : List Conn) (h : IsHeld n cs) → AreSoundConns cs →
    IsQuiet h.fibril cs → ⊥
quiet_holds_none n cs h sound quiet = by (subst (λ (x : Conn). IsWith n x) same h.with_it)
  where
    same : h.conn ≡ quiet.conn
    same = cc (h.own, quiet.own)

    none : quiet.conn.close_call ≡ None
    none =
        let there : (i : ℕ) × (slice_get cs i ≡ Some quiet.conn) =
        (finds (conns.serves h.fibril) cs).there quiet.conn quiet.own in
        (sound.closed there.0 quiet.conn there.1 quiet.is_open).1

    by : IsWith n quiet.conn → ⊥
    by (inl i) =
        let at : slice_get [] i.place ≡ Some i.queued =
        subst (λ (qs : List Queued). slice_get qs i.place ≡ Some i.queued) quiet.empty i.there in
        absurd (cc at)
    by (inr i) = absurd (cc (i, none))

pub hand_conns : (a : AsyncState) (f : FibrilNo) (s : Taken) (t : Option Context) →
    IsSame a (hand_over a f s t)
hand_conns a f (taken.Call n msg label) (Some t) = (refl, refl)
hand_conns a f (taken.Call n msg label) None = (refl, refl)
hand_conns a f (taken.HungUp label) (Some t) = (refl, refl)
hand_conns a f (taken.HungUp label) None = (refl, refl)
hand_conns a f taken.Wait t = (refl, refl)
hand_conns a f taken.NoConnection t = (refl, refl)

-- f is reached where the connections changed: what was held before is held
reach_held : (a : AsyncState) (cs : List Conn) (f : FibrilNo) (n : CallNo) → KeepsWakes a →
    AreSoundConns cs → (h : IsHeld n a.conns) → (d : Conn) → conn_of_fibril h.fibril cs ≡ Some d →
    IsWith n d → IsHeld n (reach (record a { conns = cs }) f).conns
reach_held a cs f n kept sound h d at with_it = by (why_of a.order f) refl
  where
    b : AsyncState
    b = record a { conns = cs }

    held : IsHeld n cs
    held = record { fibril = h.fibril; conn = d; own = at; with_it = with_it }

    apart : why_of a.order f ≡ Some why.Message → h.fibril.0 ≢ f.0
    apart is same =
        let one : f ≡ h.fibril = ap (λ (i : ℕ). record { 0 = i }) (sym same) in
        quiet_holds_none n a.conns h kept.conns
        (subst (λ (g : FibrilNo). IsQuiet g a.conns) one (kept.wakes f why.Message is))

    by : (v : Option Why) → why_of a.order f ≡ v → IsHeld n (reach_blocked b f v).conns
    by None is = held
    by (Some (why.Answer m)) is = held
    by (Some (why.Mutex s)) is = held
    by (Some why.Phone) is = held
    by (Some why.Message) is =
        let c : AsyncState =
        record b { conns = conns.take_next f cs; order = make_ready a.order f } in
        let same : IsSame c (hand_over c f (take_answer (conn_of_fibril f cs)) (context_at b f)) =
        hand_conns c f (take_answer (conn_of_fibril f cs)) (context_at b f) in
        rw same.0
        (still_held n cs (conns.take_next f cs) held (take_others cs f h.fibril sound (apart is)))

reach_work : (a : AsyncState) (f : FibrilNo) (v : Option Why) → (reach_blocked a f v).work ≡ a.work
reach_work a f (Some why.Message) =
    (hand_conns (record a { conns = conns.take_next f a.conns; order = make_ready a.order f }) f
    (take_answer (conn_of_fibril f a.conns)) (context_at a f)).1
reach_work a f None = refl
reach_work a f (Some (why.Answer n)) = refl
reach_work a f (Some (why.Mutex s)) = refl
reach_work a f (Some why.Phone) = refl

-- work

more_work : (n : CallNo) (ws xs : List (CallNo × Code)) → IsOwed n ws → IsOwed n (ws ++ xs)
more_work n ws xs h = record { place = h.place; code = h.code; there = by ws h.place h.there }
  where
    by : (ys : List (CallNo × Code)) (i : ℕ) → slice_get ys i ≡ Some (n, h.code) →
        slice_get (ys ++ xs) i ≡ Some (n, h.code)
    by [] i e = absurd (cc e)
    by (y ∷ ys) zero e = e
    by (y ∷ ys) (suc i) e = by ys i e

behind_work : (n : CallNo) (ws xs : List (CallNo × Code)) → IsOwed n xs → IsOwed n (ws ++ xs)
behind_work n [] xs h = h
behind_work n (w ∷ ws) xs h =
    let rest : IsOwed n (ws ++ xs) = behind_work n ws xs h in
    record { place = suc rest.place; code = rest.code; there = rest.there }

rest_owed : (n : CallNo) (ws : List (CallNo × Code)) → IsOwed n ws → IsOwed n (rest_of ws) ⊎
    ((c : Code) × (slice_get ws 0 ≡ Some (n, c)))
rest_owed n ws h = by ws h.place h.there
  where
    by : (ys : List (CallNo × Code)) (i : ℕ) → slice_get ys i ≡ Some (n, h.code) →
        IsOwed n (rest_of ys) ⊎ ((c : Code) × (slice_get ys 0 ≡ Some (n, c)))
    by [] i e = absurd (cc e)
    by (y ∷ ys) zero e = inr (h.code, e)
    by (y ∷ ys) (suc i) e = inl (record { place = i; code = h.code; there = e })

owed_with : (n : CallNo) (c : Conn) → IsWith n c → IsOwed n (owed_by (Some c))
owed_with n c (inl i) =
    record {
      place = i.place;
      code = ehangup;
      there =
          (owes_in_order c).queued i.place i.queued i.there
          ∙ ap (λ (m : CallNo). Some (m, ehangup)) i.named;
    }
owed_with n c (inr i) =
    record { place = length c.queue; code = eok; there = (owes_in_order c).closing n i }

-- a call comes

routes_kept : (a : AsyncState) (n m : CallNo) (msg : Msg) (label : Label) → KeepsWakes a →
    IsKept m a → IsKept m (route_call a n msg label)
routes_kept a n m msg label kept is = by (conn_of_label label a.conns) refl
  where
    cs : List Conn
    cs = conns.route label n msg a.conns

    b : AsyncState
    b = record a { conns = cs }

    reached : (c : Conn) → conn_of_label label a.conns ≡ Some c → IsKept m (reach b c.fibril)
    reached c at = held_by is
      where
        held_by : IsKept m a → IsKept m (reach b c.fibril)
        held_by (inl h) =
            let one = route_held m n msg label a.conns c kept.conns at h in
            inl (reach_held a cs c.fibril m kept (sound_routed a.conns label n msg kept.conns) h
            one.0 one.1 one.2)
        held_by (inr h) =
            inr (subst (λ (ws : List (CallNo × Code)). IsOwed m ws)
            (sym (reach_work b c.fibril (why_of a.order c.fibril))) h)

    routed_by : (c : Conn) → conn_of_label label a.conns ≡ Some c → (x : Bool) →
        IsKept m (after_route b n (if x then routed.Closed c.fibril else routed.Queued c.fibril))
    routed_by c at true = reached c at
    routed_by c at false = reached c at

    unrouted : conn_of_label label a.conns ≡ None → IsKept m a →
        IsKept m (record b { work = a.work ++ (n, ehangup) ∷ [] })
    unrouted at (inl h) =
        inl (subst (λ (ds : List Conn). IsHeld m ds) (sym (route_none a.conns label n msg at)) h)
    unrouted at (inr h) = inr (more_work m a.work ((n, ehangup) ∷ []) h)

    by : (c : Option Conn) → conn_of_label label a.conns ≡ c →
        IsKept m (after_route b n (route_answer msg.method c))
    by None at = unrouted at is
    by (Some c) at = routed_by c at (closes msg.method c)

-- a connection starts

lost_with : (n : CallNo) (label : Label) (c : Conn) → IsWith n c → IsWith n (lose_label label c)
lost_with n label c h = by (leads_to label c)
  where
    by : (b : Bool) → IsWith n (if b then record c { routes = false; closed = true } else c)
    by true = h
    by false = h

start_held : (n : CallNo) (label : Label) (f : FibrilNo) (cs : List Conn) →
    conn_of_fibril f cs ≡ None → (h : IsHeld n cs) →
    conn_of_fibril h.fibril (start label f cs) ≡ Some (lose_label label h.conn)
start_held n label f cs none h =
    (starts cs label f none).other_fibrils h.fibril other ∙ ap (after_loss label) h.own
  where
    other : h.fibril.0 ≢ f.0
    other e =
        let one : h.fibril ≡ f = ap (λ (i : ℕ). record { 0 = i }) e in
        absurd (cc (none, subst (λ (g : FibrilNo). conn_of_fibril g cs ≡ Some h.conn) one h.own))

starts_kept : (a : AsyncState) (n m : CallNo) (msg : Msg) (from : Label) (body : ℕ) (label : Label) →
    KeepsWakes a → IsKept m a → IsKept m (start_connection a n msg from body label).state
starts_kept a n m msg from body label kept is =
    reached (fibril_of (conn_of_label label a.conns)) is
  where
    f : FibrilNo
    f = next_number a.order

    cs : List Conn
    cs = start label f a.conns

    none : conn_of_fibril f a.conns ≡ None
    none = serves_none a.order a.conns kept.served

    reached : (g : Option FibrilNo) → IsKept m a →
        IsHeld m (reach_holder (record a { conns = cs }) g).conns ⊎
        IsOwed m (reach_holder (record a { conns = cs }) g).work
    reached None (inl h) =
        inl (record {
          fibril = h.fibril;
          conn = lose_label label h.conn;
          own = start_held m label f a.conns none h;
          with_it = lost_with m label h.conn h.with_it;
        })
    reached None (inr h) = inr h
    reached (Some g) (inl h) =
        inl (reach_held a cs g m kept (sound_started a.conns label f kept.conns none) h
        (lose_label label h.conn) (start_held m label f a.conns none h)
        (lost_with m label h.conn h.with_it))
    reached (Some g) (inr h) =
        inr (subst (λ (ws : List (CallNo × Code)). IsOwed m ws)
        (sym (reach_work (record a { conns = cs }) g (why_of a.order g))) h)

connect_call_kept : (a : AsyncState) (n m : CallNo) (msg : Msg) (label : Label) (body : Option ℕ) →
    KeepsWakes a → IsKept m a → IsKept m (connect_call a n msg label body).state
connect_call_kept a n m msg label None kept is = routes_kept a n m msg label kept is
connect_call_kept a n m msg label (Some body) kept is =
    starts_kept a n m msg label body (called_label msg) kept is

receive_kept : (a : AsyncState) (n m : CallNo) (msg : Msg) (label : Label) (b : Bool) →
    KeepsWakes a → IsKept m a → IsKept m (receive_call_by a n msg label b).state
receive_kept a n m msg label true kept is =
    connect_call_kept a n m msg label (position is_of_connections a.bodies) kept is
receive_kept a n m msg label false kept is = routes_kept a n m msg label kept is

manage_kept : (a : AsyncState) (o : Outcome) (m : CallNo) → KeepsWakes a → IsKept m a →
    IsKept m (manage a o).state
manage_kept a (outcome.Received n msg label) m kept is =
    receive_kept a n m msg label (msg.method == connect_me_to) kept is
manage_kept a (outcome.Answered n r) m kept is =
    same_kept a (manage a (outcome.Answered n r)).state m
    (reply_same a n r (find (is_of_call n) a.awaited)) is
manage_kept a _ m kept is = is

-- a fibril ends

finish_held : (n : CallNo) (cs : List Conn) (f : FibrilNo) → AreSoundConns cs → IsHeld n cs →
    IsHeld n (finish f cs) ⊎ IsOwed n (owed_by (conn_of_fibril f cs))
finish_held n cs f sound h = by (cases_eq h.fibril.0 f.0)
  where
    by : (h.fibril.0 ≡ f.0) ⊎ (h.fibril.0 ≢ f.0) →
        IsHeld n (finish f cs) ⊎ IsOwed n (owed_by (conn_of_fibril f cs))
    by (inl e) =
        let one : h.fibril ≡ f = ap (λ (i : ℕ). record { 0 = i }) e in
        let own : conn_of_fibril f cs ≡ Some h.conn =
        subst (λ (g : FibrilNo). conn_of_fibril g cs ≡ Some h.conn) one h.own in
        inr (subst (λ (q : Option Conn). IsOwed n (owed_by q)) (sym own) (owed_with n h.conn h.with_it))
    by (inr e) = inl (still_held n cs (finish f cs) h (finish_others cs f h.fibril sound e))

end_kept : (a : AsyncState) (f : FibrilNo) (m : CallNo) → KeepsWakes a → IsKept m a →
    IsKept m (end_fibril a f).state
end_kept a f m kept (inr h) = inr (more_work m a.work (owed_by (conn_of_fibril f a.conns)) h)
end_kept a f m kept (inl h) = by (finish_held m a.conns f kept.conns h)
  where
    by : IsHeld m (finish f a.conns) ⊎ IsOwed m (owed_by (conn_of_fibril f a.conns)) →
        IsKept m (end_fibril a f).state
    by (inl i) = inl i
    by (inr i) = inr (behind_work m a.work (owed_by (conn_of_fibril f a.conns)) i)

-- whose turn it is

-- what the event leaves, or what becomes of the call
abbrev pub Leaves : AsyncState → Outcome → CallNo → Turn → Type 0
Leaves a o n s =
    IsKept n (step_in a o s).state ⊎ ((c : Code) × (s ≡ turn.Work n c)) ⊎
    ((f : FibrilNo) × (t : Context) × (s ≡ turn.Run f t (Some op.Next)) × (msg : Msg) × (label : Label)
    × (take_answer (conn_of_fibril f a.conns) ≡ taken.Call n msg label))

does_same : (a : AsyncState) (f : FibrilNo) (t : Context) (p : Op) (o : Outcome) (n : CallNo) →
    IsSame a (do_op a f t p o).state → IsKept n a → Leaves a o n (turn.Run f t (Some p))
does_same a f t p o n same is = inl (same_kept a (do_op a f t p o).state n same is)

does_kept : (a : AsyncState) (f : FibrilNo) (t : Context) (p : Op) (o : Outcome) (n : CallNo) →
    KeepsWakes a → IsKept n a → Leaves a o n (turn.Run f t (Some p))
does_kept a f t (op.CallSlot k phone method args) o n kept is =
    does_same a f t (op.CallSlot k phone method args) o n (call_same a f t k o (slot_at t k)) is
does_kept a f t (op.Send k x method args) o n kept is =
    does_same a f t (op.Send k x method args) o n
    (send_same a f t k o (slot_at t k) (phone_by a.pool f (handle_at t x))) is
does_kept a f t (op.Wait k) o n kept is =
    does_same a f t (op.Wait k) o n (wait_same a f t k (slot_at t k)) is
does_kept a f t op.Next o n kept is = next_by is
  where
    s : Taken
    s = take_answer (conn_of_fibril f a.conns)

    b : AsyncState
    b = (next_call (with_taken a f) f t s).state

    same : IsSame (with_taken a f) b
    same = next_same (with_taken a f) f t s

    held_by : IsHeld n (conns.take_next f a.conns) ⊎
        ((msg : Msg) × (label : Label) × (take_answer (conn_of_fibril f a.conns) ≡ taken.Call n msg label)) →
        Leaves a o n (turn.Run f t (Some op.Next))
    held_by (inl h) = inl (same_kept (with_taken a f) b n same (inl h))
    held_by (inr h) = inr (inr (f, t, refl, h.0, h.1, h.2))

    next_by : IsKept n a → Leaves a o n (turn.Run f t (Some op.Next))
    next_by (inr h) = inl (same_kept (with_taken a f) b n same (inr h))
    next_by (inl h) = held_by (take_held n a.conns f kept.conns h)
does_kept a f t op.Yield o n kept is = does_same a f t op.Yield o n (refl, refl) is
does_kept a f t (op.OpenSession s phone m) o n kept is =
    let b : AsyncState = with_pool a (make_after a.pool s (value_in t.registers phone) m (session_at a.pool s)) in
    let same : IsSame b (open_outcome b f t (made (session_at a.pool s))).state =
    open_same b f t (made (session_at a.pool s)) in
    does_same a f t (op.OpenSession s phone m) o n (same.0, same.1) is
does_kept a f t (op.Begin x s) o n kept is =
    does_same a f t (op.Begin x s) o n (begin_same a f t x s o (plan_begin a f t x s)) is
does_kept a f t (op.End x) o n kept is =
    does_same a f t (op.End x) o n (end_same a f t x (handle_at t x)) is
does_kept a f t (op.Close s) o n kept is =
    does_same a f t (op.Close s) o n (close_same a f t s o (plan_close a s)) is
does_kept a f t p o n kept is = does_same a f t p o n (refl, refl) is

first_work : (a : AsyncState) (n m : CallNo) (c d : Code) (ws : List (CallNo × Code)) →
    work_turn a ws ≡ turn.Work m d → slice_get ws 0 ≡ Some (n, c) → turn.Work m d ≡ turn.Work n c
first_work a n m c d [] h e = absurd (cc e)
first_work a n m c d (w ∷ ws) h e =
    let one : w ≡ (n, c) = cc e in
    sym h ∙ ap (λ (v : CallNo × Code). turn.Work v.0 v.1) one

turn_kept : (a : AsyncState) (o : Outcome) (n : CallNo) (s : Turn) → KeepsWakes a → IsKept n a →
    turn_now a ≡ s → Leaves a o n s
turn_kept a o n (turn.Work m d) kept (inl h) is = inl (inl h)
turn_kept a o n (turn.Work m d) kept (inr h) is = by (rest_owed n a.work h)
  where
    by : IsOwed n (rest_of a.work) ⊎ ((c : Code) × (slice_get a.work 0 ≡ Some (n, c))) →
        Leaves a o n (turn.Work m d)
    by (inl i) = inl (inr i)
    by (inr i) = inr (inl (i.0, first_work a n m i.0 d a.work is i.1))
turn_kept a o n (turn.Run f t None) kept i is = inl (end_kept a f n kept i)
turn_kept a o n (turn.Run f t (Some p)) kept i is = does_kept a f t p o n kept i
turn_kept a o n turn.Receive kept i is = inl (manage_kept a o n kept i)

pub kept_calls_stay : KeptCallsStay
kept_calls_stay a o n kept is = by (turn_kept a o n (turn_now a) kept is refl)
  where
    by : Leaves a o n (turn_now a) →
        IsKept n (step a o).state ⊎ ((c : Code) × (turn_now a ≡ turn.Work n c)) ⊎ IsTakenNow n a
    by (inl h) = inl h
    by (inr (inl h)) = inr (inl h)
    by (inr (inr h)) =
        inr (inr (record {
          fibril = h.0;
          context = h.1;
          turn_is = h.2;
          msg = h.3;
          label = h.4;
          is_taken = h.5;
        }))

-- a call that comes

routed_with : (n : CallNo) (msg : Msg) (c : Conn) → IsWith n (route_to n msg c)
routed_with n msg c = by (closes msg.method c)
  where
    by : (b : Bool) → IsWith n (if b then record c { close_call = Some n; closed = true }
        else record c { queue = c.queue ++ record { call = n; msg = msg } ∷ [] })
    by true = inr refl
    by false =
        inl (record {
          place = length c.queue;
          queued = record { call = n; msg = msg };
          there = at_last c.queue (record { call = n; msg = msg });
          named = refl;
        })

-- what becomes of a call that a connection gets
routed_comes : (a : AsyncState) (n : CallNo) (msg : Msg) (label : Label) (c : Conn) →
    KeepsWakes a → conn_of_label label a.conns ≡ Some c →
    IsKept n (reach (record a { conns = conns.route label n msg a.conns }) c.fibril) ⊎
    IsHanded n a (reach (record a { conns = conns.route label n msg a.conns }) c.fibril)
routed_comes a n msg label c kept is = by (why_of a.order c.fibril) refl
  where
    f : FibrilNo
    f = c.fibril

    cs : List Conn
    cs = conns.route label n msg a.conns

    b : AsyncState
    b = record a { conns = cs }

    sound : AreSoundConns cs
    sound = sound_routed a.conns label n msg kept.conns

    held : IsHeld n cs
    held = record {
      fibril = f;
      conn = route_to n msg c;
      own = (route_changes a.conns label n msg c kept.conns is).by_fibril;
      with_it = routed_with n msg c;
    }

    d : AsyncState
    d = record b { conns = conns.take_next f cs; order = make_ready a.order f }

    waits : why_of a.order f ≡ Some why.Message → IsHeld n (conns.take_next f cs) ⊎
        ((m : Msg) × (l : Label) × (take_answer (conn_of_fibril f cs) ≡ taken.Call n m l)) →
        IsKept n (hand_over d f (take_answer (conn_of_fibril f cs)) (context_at b f)) ⊎
        IsHanded n a (hand_over d f (take_answer (conn_of_fibril f cs)) (context_at b f))
    waits at (inl h) =
        let same : IsSame d (hand_over d f (take_answer (conn_of_fibril f cs)) (context_at b f)) =
        hand_conns d f (take_answer (conn_of_fibril f cs)) (context_at b f) in
        inl (inl (rw same.0 h))
    waits at (inr h) =
        inr (record {
          fibril = f;
          waited = at;
          msg = h.0;
          label = h.1;
          handed = λ t here.
              subst (λ (s : Taken). context_at (hand_over d f s (context_at b f)) f ≡ Some (at_next (with_received t n h.0 h.1)))
              (sym h.2)
              (subst (λ (q : Option Context). context_at (hand_over d f (taken.Call n h.0 h.1) q) f ≡ Some (at_next (with_received t n h.0 h.1)))
              (sym here) (context_set d f t (at_next (with_received t n h.0 h.1)) here));
        })

    by : (v : Option Why) → why_of a.order f ≡ v →
        IsKept n (reach_blocked b f v) ⊎ IsHanded n a (reach_blocked b f v)
    by None at = inl (inl held)
    by (Some (why.Answer m)) at = inl (inl held)
    by (Some (why.Mutex s)) at = inl (inl held)
    by (Some why.Phone) at = inl (inl held)
    by (Some why.Message) at = waits at (take_held n cs f sound held)

route_comes : (a : AsyncState) (n : CallNo) (msg : Msg) (label : Label) → KeepsWakes a →
    IsKept n (route_call a n msg label) ⊎ IsHanded n a (route_call a n msg label)
route_comes a n msg label kept = by (conn_of_label label a.conns) refl
  where
    b : AsyncState
    b = record a { conns = conns.route label n msg a.conns }

    routed_by : (c : Conn) → conn_of_label label a.conns ≡ Some c → (x : Bool) →
        IsKept n (after_route b n (if x then routed.Closed c.fibril else routed.Queued c.fibril)) ⊎
        IsHanded n a (after_route b n (if x then routed.Closed c.fibril else routed.Queued c.fibril))
    routed_by c at true = routed_comes a n msg label c kept at
    routed_by c at false = routed_comes a n msg label c kept at

    by : (c : Option Conn) → conn_of_label label a.conns ≡ c →
        IsKept n (after_route b n (route_answer msg.method c)) ⊎
        IsHanded n a (after_route b n (route_answer msg.method c))
    by None at =
        inl (inr (behind_work n a.work ((n, ehangup) ∷ [])
        (record { place = 0; code = ehangup; there = refl })))
    by (Some c) at = routed_by c at (closes msg.method c)

pub received_calls_come : ReceivedCallsCome
received_calls_come a n msg label kept is =
    subst (λ (s : Turn). Comes a n msg (step_in a (outcome.Received n msg label) s)) (sym is)
    (asked (msg.method == connect_me_to) refl)
  where
    routed : Comes a n msg (without_entries (route_call a n msg label))
    routed = by (route_comes a n msg label kept)
      where
        by : IsKept n (route_call a n msg label) ⊎ IsHanded n a (route_call a n msg label) →
            Comes a n msg (without_entries (route_call a n msg label))
        by (inl h) = inl h
        by (inr h) = inr (inl h)

    bodies : msg.method ≡ connect_me_to → (p : Option ℕ) → Comes a n msg (connect_call a n msg label p)
    bodies e None = routed
    bodies e (Some body) = inr (inr (e, next_number a.order, called_label msg, refl))

    asked : (b : Bool) → (msg.method == connect_me_to) ≡ b →
        Comes a n msg (receive_call_by a n msg label b)
    asked false e = routed
    asked true e =
        bodies (eqb-true msg.method connect_me_to e) (position is_of_connections a.bodies)
