-- A call that a task with fibrils keeps is kept once.
use Rattle.std.proofs.Common.{ℕ, zero, suc, ◌+◌, ◌≡◌, ◌≤◌, ◌⊎◌, inl, inr, Bool, true, false}
use Rattle.std.proofs.Common.{length, map, Option, Some, None, List, [], ◌∷◌, ◌++◌, refl, sym, ◌∙◌, ap, subst, arith}
use Rattle.std.specs.Prelude.{if◌then◌else◌, ◌==◌, slice_get, slice_set, position}
use Rattle.std.specs.List.{remove}
use Rattle.std.proofs.lemmas.Bool.{eq-eqb, eqb-true}
use Rattle.ipc_ids.specs.declared.numbers.CallNo.{CallNo}
use Rattle.ipc_ids.specs.declared.numbers.Code.{Code}
use Rattle.ipc_ids.specs.declared.numbers.FibrilNo.{FibrilNo}
use Rattle.ipc_ids.specs.declared.numbers.Label.{Label}
use Rattle.ipc_ids.specs.declared.message.Msg.{Msg}
use Rattle.ipc_ids.specs.declared.message.Why.{Why}
use Rattle.ipc_ids.specs.declared.message.Why.TheVariants as why
use Rattle.ipc_ids.specs.declared.message.Outcome.{Outcome}
use Rattle.ipc_ids.specs.declared.message.Outcome.TheVariants as outcome
use Rattle.ipc_ids.specs.declared.op.Op.{Op}
use Rattle.ipc_ids.specs.declared.op.Op.TheVariants as op
use Rattle.ipc_ids.specs.declared.op.Body.{Body}
use Rattle.ipc_ids.specs.Codes.{ehangup}
use Rattle.ipc_ids.specs.Methods.{connect_me_to}
use Rattle.ipc_ids.proofs.Common.{and_second}
use Rattle.fibril_core.specs.declared.conn.Conn.{Conn}
use Rattle.fibril_core.specs.declared.conn.Queued.{Queued}
use Rattle.fibril_core.specs.declared.conn.Taken.{Taken}
use Rattle.fibril_core.specs.declared.conn.Taken.TheVariants as taken
use Rattle.fibril_core.specs.declared.conn.Routed.TheVariants as routed
use Rattle.fibril_core.specs.Fibrils.{why_of, make_ready, next_number, current}
use Rattle.fibril_core.specs.Conns as conns
use Rattle.fibril_core.specs.Conns.{conn_of_fibril, conn_of_label, conn_at, fibril_of, route_to, route_answer}
use Rattle.fibril_core.specs.Conns.{closes, is_open}
use Rattle.fibril_core.specs.Conns.{take_from, take_answer, take_first, took_first, with_conn, without_conn, routed_to}
use Rattle.fibril_core.specs.Conns.{leads_to, lose_label, lose_labels, serves, start, finish, hung_up}
use Rattle.fibril_core.specs.Conns.{close_answer, owed_by}
use Rattle.fibril_core.proofs.Searches.{found_place}
use Rattle.async_task.specs.declared.context.Context.{Context}
use Rattle.async_task.specs.Turns.{Turn}
use Rattle.async_task.specs.Turns as turn
use Rattle.async_task.specs.Contexts.{at_next, with_received}
use Rattle.async_task.specs.AsyncState.{AsyncState, without_entries, context_at}
use Rattle.async_task.specs.Turns.{turn_now, work_turn, fibril_turn, turn_of}
use Rattle.async_task.specs.Calls.{next_call, with_taken}
use Rattle.async_task.specs.Connections.{hand_over, reach_blocked, reach, after_route, route_call, reach_holder}
use Rattle.async_task.specs.Connections.{start_connection, connect_call, receive_call_by, is_of_connections}
use Rattle.async_task.specs.Connections.{called_label, end_fibril}
use Rattle.async_task.specs.Steps.{do_op, manage, rest_of, step_in, step, start_in, start_at, start_bodies, bare_task}
use Rattle.async_laws.specs.HeldCalls.{IsHanded}
use Rattle.async_laws.specs.KeptOnce.{once, times_in, times_closing, times_held, times_owed, times_kept}
use Rattle.async_laws.specs.KeptOnce.{IsUnkept, StartKeepsOnce, EachKeepsOnce, ComesOnce}
use Rattle.async_laws.specs.KeptOnce.{ReceivedCallsComeOnce, KeptCallsGoOnce}
use Rattle.async_laws.proofs.WakeSlots.{context_set}
use Rattle.async_laws.proofs.HeldCalls.{IsSame, does_same_but_next, answers_same, next_same, hand_conns}

once_self : (n : CallNo) → once n n ≡ 1
once_self n = rw (eq-eqb n.0 n.0 refl) refl

-- how often a call is kept at one connection
abbrev at : CallNo → Conn → ℕ
at m c = times_in m c.queue + times_closing m c.close_call

-- how often it is taken
abbrev taken_of : CallNo → Taken → ℕ
taken_of m (taken.Call n msg label) = once n m
taken_of m (taken.HungUp label) = 0
taken_of m taken.Wait = 0
taken_of m taken.NoConnection = 0

-- ---- one connection changes, or goes, or comes

held_set : (m : CallNo) (cs : List Conn) (i : ℕ) (c d : Conn) → slice_get cs i ≡ Some c →
    times_held m (slice_set cs i d) + at m c ≡ times_held m cs + at m d
held_set m [] i c d h = absurd (cc h)
held_set m (x ∷ cs) zero c d h =
    let one : x ≡ c = cc h in
    let same : at m x ≡ at m c = ap (λ (d : Conn). at m d) one in
    omega (arith, same)
held_set m (x ∷ cs) (suc i) c d h = let more = held_set m cs i c d h in omega (arith, more)

held_remove : (m : CallNo) (cs : List Conn) (i : ℕ) (c : Conn) → slice_get cs i ≡ Some c →
    times_held m (remove cs i) + at m c ≡ times_held m cs
held_remove m [] i c h = absurd (cc h)
held_remove m (x ∷ cs) zero c h =
    let one : x ≡ c = cc h in
    let same : at m x ≡ at m c = ap (λ (d : Conn). at m d) one in
    omega (arith, same)
held_remove m (x ∷ cs) (suc i) c h = let more = held_remove m cs i c h in omega (arith, more)

held_push : (m : CallNo) (cs : List Conn) (c : Conn) → times_held m (cs ++ c ∷ []) ≡ times_held m cs + at m c
held_push m [] c = omega arith
held_push m (x ∷ cs) c = let more = held_push m cs c in omega (arith, more)

lost_at : (m : CallNo) (label : Label) (c : Conn) → at m (lose_label label c) ≡ at m c
lost_at m label c = by (leads_to label c)
  where
    by : (b : Bool) → at m (if b then record c { routes = false; closed = true } else c) ≡ at m c
    by true = refl
    by false = refl

held_lost : (m : CallNo) (label : Label) (cs : List Conn) → times_held m (lose_labels label cs) ≡ times_held m cs
held_lost m label [] = refl
held_lost m label (c ∷ cs) =
    let one = lost_at m label c in
    let more = held_lost m label cs in
    omega (arith, one, more)

held_start : (m : CallNo) (label : Label) (f : FibrilNo) (cs : List Conn) →
    times_held m (start label f cs) ≡ times_held m cs
held_start m label f cs =
    let one = held_push m (lose_labels label cs) (conns.new_conn label f) in
    let more = held_lost m label cs in
    omega (arith, one, more)

-- ---- a fibril asks for a call

took_at : (m : CallNo) (c : Conn) → at m (take_first c) + taken_of m (take_answer (Some c)) ≡ at m c
took_at m c = by c.queue
  where
    none : (b : Bool) → taken_of m (if b then taken.HungUp c.label else taken.Wait) ≡ 0
    none true = refl
    none false = refl

    by : (qs : List Queued) →
        (times_in m (conns.rest_of qs) + times_closing m c.close_call) + taken_of m (take_from c qs)
        ≡ times_in m qs + times_closing m c.close_call
    by [] = let z = none c.closed in omega (arith, z)
    by (q ∷ qs) = omega arith

held_taken : (m : CallNo) (cs : List Conn) (f : FibrilNo) →
    times_held m (conns.take_next f cs) + taken_of m (take_answer (conn_of_fibril f cs)) ≡ times_held m cs
held_taken m cs f = by (position (serves f) cs)
  where
    found : (i : ℕ) (c : Option Conn) → slice_get cs i ≡ c →
        times_held m (with_conn cs (Some i) (took_first c)) + taken_of m (take_answer c) ≡ times_held m cs
    found i None is = omega arith
    found i (Some c) is =
        let one = held_set m cs i c (take_first c) is in
        let two = took_at m c in
        omega (arith, one, two)

    by : (p : Option ℕ) →
        times_held m (with_conn cs p (took_first (conn_at cs p))) + taken_of m (take_answer (conn_at cs p))
        ≡ times_held m cs
    by None = omega arith
    by (Some i) = found i (slice_get cs i) refl

-- ---- a call comes to a connection

queue_push : (m : CallNo) (qs : List Queued) (q : Queued) → times_in m (qs ++ q ∷ []) ≡ times_in m qs + once q.call m
queue_push m [] q = omega arith
queue_push m (x ∷ qs) q = let more = queue_push m qs q in omega (arith, more)

routed_at : (m n : CallNo) (msg : Msg) (c : Conn) → at m (route_to n msg c) ≡ at m c + once n m
routed_at m n msg c = by (closes msg.method c) refl
  where
    unclosed : (q : Option CallNo) → is_open q ≡ true → times_closing m q ≡ 0
    unclosed None h = refl
    unclosed (Some k) h = absurd (cc h)

    by : (b : Bool) → closes msg.method c ≡ b →
        at m (if b then record c {
          close_call =
              Some n;
          closed = true;
        } else record c { queue = c.queue ++ record { call = n; msg = msg } ∷ [] })
        ≡ at m c + once n m
    by true is =
        let none = unclosed c.close_call (and_second (msg.method == 0) (is_open c.close_call) is) in
        omega (arith, none)
    by false is = let more = queue_push m c.queue (record { call = n; msg = msg }) in omega (arith, more)

-- once where there is a connection
abbrev arrived : CallNo → CallNo → Option Conn → ℕ
arrived m n None = 0
arrived m n (Some c) = once n m

held_routed : (m n : CallNo) (msg : Msg) (label : Label) (cs : List Conn) →
    times_held m (conns.route label n msg cs) ≡ times_held m cs + arrived m n (conn_of_label label cs)
held_routed m n msg label cs = by (position (leads_to label) cs)
  where
    found : (i : ℕ) (c : Option Conn) → slice_get cs i ≡ c →
        times_held m (with_conn cs (Some i) (routed_to n msg c)) ≡ times_held m cs + arrived m n c
    found i None is = omega arith
    found i (Some c) is =
        let one = held_set m cs i c (route_to n msg c) is in
        let two = routed_at m n msg c in
        omega (arith, one, two)

    by : (p : Option ℕ) →
        times_held m (with_conn cs p (routed_to n msg (conn_at cs p))) ≡ times_held m cs + arrived m n (conn_at cs p)
    by None = omega arith
    by (Some i) = found i (slice_get cs i) refl

-- ---- answers that are owed

owed_both : (m : CallNo) (ws xs : List (CallNo × Code)) → times_owed m (ws ++ xs) ≡ times_owed m ws + times_owed m xs
owed_both m [] xs = omega arith
owed_both m (w ∷ ws) xs = let more = owed_both m ws xs in omega (arith, more)

owed_queue : (m : CallNo) (qs : List Queued) → times_owed m (map hung_up qs) ≡ times_in m qs
owed_queue m [] = refl
owed_queue m (q ∷ qs) = let more = owed_queue m qs in omega (arith, more)

owed_close : (m : CallNo) (q : Option CallNo) → times_owed m (close_answer q) ≡ times_closing m q
owed_close m None = refl
owed_close m (Some n) = omega arith

owed_at : (m : CallNo) (c : Conn) → times_owed m (owed_by (Some c)) ≡ at m c
owed_at m c =
    let one = owed_both m (map hung_up c.queue) (close_answer c.close_call) in
    let two = owed_queue m c.queue in
    let three = owed_close m c.close_call in
    omega (arith, one, two, three)

held_finished : (m : CallNo) (cs : List Conn) (f : FibrilNo) →
    times_held m (finish f cs) + times_owed m (owed_by (conn_of_fibril f cs)) ≡ times_held m cs
held_finished m cs f = by (position (serves f) cs) refl
  where
    found : (i : ℕ) (c : Option Conn) → slice_get cs i ≡ c → ((x : Conn) × (slice_get cs i ≡ Some x)) →
        times_held m (remove cs i) + times_owed m (owed_by c) ≡ times_held m cs
    found i None is there = let e = there.1 in absurd (cc (is, e))
    found i (Some c) is there =
        let one = held_remove m cs i c is in
        let two = owed_at m c in
        omega (arith, one, two)

    by : (p : Option ℕ) → position (serves f) cs ≡ p →
        times_held m (without_conn cs p) + times_owed m (owed_by (conn_at cs p)) ≡ times_held m cs
    by None e = omega arith
    by (Some i) e = let there = found_place (serves f) cs i e in found i (slice_get cs i) refl (there.0, there.1)

-- ---- what is kept

same_times : (m : CallNo) (a b : AsyncState) → IsSame a b → times_kept m b ≡ times_kept m a
same_times m a b same =
    ap (λ (cs : List Conn). times_held m cs + times_owed m b.work) same.0
    ∙ ap (λ (ws : List (CallNo × Code)). times_held m a.conns + times_owed m ws) same.1

-- a fibril is reached: what it takes is kept no more
abbrev handed : CallNo → AsyncState → FibrilNo → Option Why → ℕ
handed m b f (Some why.Message) = taken_of m (take_answer (conn_of_fibril f b.conns))
handed m b f _ = 0

reached_times : (m : CallNo) (b : AsyncState) (f : FibrilNo) (v : Option Why) →
    times_kept m (reach_blocked b f v) + handed m b f v ≡ times_kept m b
reached_times m b f (Some why.Message) =
    let d : AsyncState = record b { conns = conns.take_next f b.conns; order = make_ready b.order f } in
    let s : Taken = take_answer (conn_of_fibril f b.conns) in
    let one = same_times m d (hand_over d f s (context_at b f)) (hand_conns d f s (context_at b f)) in
    let two = held_taken m b.conns f in
    omega (arith, one, two)
reached_times m b f None = omega arith
reached_times m b f (Some (why.Answer n)) = omega arith
reached_times m b f (Some (why.Mutex s)) = omega arith
reached_times m b f (Some why.Phone) = omega arith

reached_few : (m : CallNo) (b : AsyncState) (f : FibrilNo) → times_kept m (reach b f) ≤ times_kept m b
reached_few m b f = let h = reached_times m b f (why_of b.order f) in omega (arith, h)

-- a call comes
routed_few : (m : CallNo) (a : AsyncState) (n : CallNo) (msg : Msg) (label : Label) →
    times_kept m (route_call a n msg label) ≤ times_kept m a + once n m
routed_few m a n msg label = by (conn_of_label label a.conns) (held_routed m n msg label a.conns)
  where
    b : AsyncState
    b = record a { conns = conns.route label n msg a.conns }

    routed_by : (c : Conn) → times_held m b.conns ≡ times_held m a.conns + once n m → (x : Bool) →
        times_kept m (after_route b n (if x then routed.Closed c.fibril else routed.Queued c.fibril))
        ≤ times_kept m a + once n m
    routed_by c h true = let few = reached_few m b c.fibril in omega (arith, h, few)
    routed_by c h false = let few = reached_few m b c.fibril in omega (arith, h, few)

    by : (q : Option Conn) → times_held m b.conns ≡ times_held m a.conns + arrived m n q →
        times_kept m (after_route b n (route_answer msg.method q)) ≤ times_kept m a + once n m
    by None h = let more = owed_both m a.work ((n, ehangup) ∷ []) in omega (arith, h, more)
    by (Some c) h = routed_by c h (closes msg.method c)

started_few : (m : CallNo) (a : AsyncState) (n : CallNo) (msg : Msg) (from : Label) (body : ℕ) (label : Label) →
    times_kept m (start_connection a n msg from body label).state ≤ times_kept m a
started_few m a n msg from body label = by (fibril_of (conn_of_label label a.conns))
  where
    b : AsyncState
    b = record a { conns = start label (next_number a.order) a.conns }

    same : times_kept m b ≡ times_kept m a
    same = let h = held_start m label (next_number a.order) a.conns in omega (arith, h)

    by : (g : Option FibrilNo) → times_kept m (reach_holder b g) ≤ times_kept m a
    by None = omega (arith, same)
    by (Some g) = let few = reached_few m b g in omega (arith, few, same)

connected_few : (m : CallNo) (a : AsyncState) (n : CallNo) (msg : Msg) (label : Label) (p : Option ℕ) →
    times_kept m (connect_call a n msg label p).state ≤ times_kept m a + once n m
connected_few m a n msg label None = routed_few m a n msg label
connected_few m a n msg label (Some body) =
    let few = started_few m a n msg label body (called_label msg) in
    omega (arith, few)

received_few : (m : CallNo) (a : AsyncState) (n : CallNo) (msg : Msg) (label : Label) (x : Bool) →
    times_kept m (receive_call_by a n msg label x).state ≤ times_kept m a + once n m
received_few m a n msg label true = connected_few m a n msg label (position is_of_connections a.bodies)
received_few m a n msg label false = routed_few m a n msg label

-- what comes in an event
abbrev comes : CallNo → Outcome → ℕ
comes m (outcome.Received n msg label) = once n m
comes m _ = 0

managed_few : (m : CallNo) (a : AsyncState) (o : Outcome) → times_kept m (manage a o).state ≤ times_kept m a + comes m o
managed_few m a (outcome.Received n msg label) = received_few m a n msg label (msg.method == connect_me_to)
managed_few m a (outcome.Answered n r) =
    let same = same_times m a (manage a (outcome.Answered n r)).state (answers_same a n r) in
    omega (arith, same)
managed_few m a _ = omega arith

rest_few : (m : CallNo) (ws : List (CallNo × Code)) → times_owed m (rest_of ws) ≤ times_owed m ws
rest_few m [] = omega arith
rest_few m (w ∷ ws) = omega arith

ended_same : (m : CallNo) (a : AsyncState) (f : FibrilNo) → times_kept m (end_fibril a f).state ≡ times_kept m a
ended_same m a f =
    let one = held_finished m a.conns f in
    let two = owed_both m a.work (owed_by (conn_of_fibril f a.conns)) in
    omega (arith, one, two)

-- a fibril does its operation

next_times : (m : CallNo) (a : AsyncState) (f : FibrilNo) (t : Context) (o : Outcome) →
    times_kept m (do_op a f t op.Next o).state + taken_of m (take_answer (conn_of_fibril f a.conns)) ≡ times_kept m a
next_times m a f t o =
    let s : Taken = take_answer (conn_of_fibril f a.conns) in
    let one =
    same_times m (with_taken a f) (next_call (with_taken a f) f t s).state (next_same (with_taken a f) f t s) in
    let two = held_taken m a.conns f in
    omega (arith, one, two)

does_few : (m : CallNo) (a : AsyncState) (f : FibrilNo) (t : Context) (p : Op) (o : Outcome) →
    times_kept m (do_op a f t p o).state ≤ times_kept m a
does_few m a f t op.Next o = let h = next_times m a f t o in omega (arith, h)
does_few m a f t p o =
    let same = same_times m a (do_op a f t p o).state (does_same_but_next a f t p o (λ e. absurd (cc e))) in
    omega (arith, same)

turn_few : (m : CallNo) (a : AsyncState) (o : Outcome) (s : Turn) →
    times_kept m (step_in a o s).state ≤ times_kept m a + comes m o
turn_few m a o (turn.Work n c) = let few = rest_few m a.work in omega (arith, few)
turn_few m a o (turn.Run f t None) = let same = ended_same m a f in omega (arith, same)
turn_few m a o (turn.Run f t (Some p)) = let few = does_few m a f t p o in omega (arith, few)
turn_few m a o turn.Receive = managed_few m a o

-- ---- the laws

comes_new : (m : CallNo) (a : AsyncState) (o : Outcome) → IsUnkept a o → times_kept m a ≤ 1 →
    times_kept m a + comes m o ≤ 1
comes_new m a (outcome.Received n msg label) new few = by (n.0 == m.0) refl
  where
    by : (x : Bool) → (n.0 == m.0) ≡ x → times_kept m a + (if x then 1 else 0) ≤ 1
    by true e =
        let same : n ≡ m = ap (λ (i : ℕ). let c : CallNo = record { 0 = i } in c) (eqb-true n.0 m.0 e) in
        let none : times_kept m a ≡ 0 = subst (λ (k : CallNo). times_kept k a ≡ 0) same new in
        omega (arith, none)
    by false e = omega (arith, few)
comes_new m a _ new few = omega (arith, few)

pub each_keeps_once : EachKeepsOnce
each_keeps_once a o kept new m =
    let few = turn_few m a o (turn_now a) in
    let bound = comes_new m a o new (kept m) in
    omega (arith, few, bound)

starts_none : (n : ℕ) (b : Bool) (a : AsyncState) (m : CallNo) → times_kept m (start_in n b a) ≡ times_kept m a
starts_none n false a m = refl
starts_none n true a m = refl

starts_at : (n : ℕ) (q : Option Body) (a : AsyncState) (m : CallNo) → times_kept m (start_at n q a) ≡ times_kept m a
starts_at n None a m = refl
starts_at n (Some body) a m = starts_none n body.connection a m

starts_all : (n : ℕ) (a : AsyncState) (m : CallNo) → times_kept m (start_bodies n a) ≡ times_kept m a
starts_all zero a m = refl
starts_all (suc n) a m = starts_at n (slice_get a.bodies n) (start_bodies n a) m ∙ starts_all n a m

pub start_keeps_once : StartKeepsOnce
start_keeps_once me bodies m =
    let none = starts_all (length bodies) (bare_task me bodies) m in
    omega (arith, none)

-- a call that is kept goes

no_answer : (n : CallNo) (c : Code) (a : AsyncState) (f : FibrilNo) (t : Option Context) →
    turn_of a f t ≡ turn.Work n c → ⊥
no_answer n c a f None h = cc h
no_answer n c a f (Some t) h = cc h

not_owed : (n : CallNo) (c : Code) (a : AsyncState) (q : Option FibrilNo) → fibril_turn a q ≡ turn.Work n c → ⊥
not_owed n c a None h = cc h
not_owed n c a (Some f) h = no_answer n c a f (context_at a f) h

first_work : (n : CallNo) (c : Code) (a : AsyncState) (ws : List (CallNo × Code)) → work_turn a ws ≡ turn.Work n c →
    times_owed n (rest_of ws) + 1 ≡ times_owed n ws
first_work n c a [] h = absurd (not_owed n c a (current a.order) h)
first_work n c a (w ∷ ws) h =
    let same : w.0 ≡ n = cc h in
    let one : once w.0 n ≡ 1 = subst (λ (k : CallNo). once k n ≡ 1) (sym same) (once_self n) in
    omega (arith, one)

pub kept_calls_go_once : KeptCallsGoOnce
kept_calls_go_once a o n (inl h) =
    let less = first_work n h.0 a a.work h.1 in
    let is : times_kept n (step a o).state ≡ times_held n a.conns + times_owed n (rest_of a.work) =
    ap (λ (s : Turn). times_kept n (step_in a o s).state) h.1 in
    omega (arith, less, is)
kept_calls_go_once a o n (inr h) =
    let is : times_kept n (step a o).state ≡ times_kept n (do_op a h.fibril h.context op.Next o).state =
    ap (λ (s : Turn). times_kept n (step_in a o s).state) h.turn_is in
    let times = next_times n a h.fibril h.context o in
    let one : taken_of n (take_answer (conn_of_fibril h.fibril a.conns)) ≡ 1 =
    ap (taken_of n) h.is_taken ∙ once_self n in
    omega (arith, is, times, one)

-- a call that comes

module _ (a : AsyncState) (n : CallNo) (msg : Msg) (label : Label) where
  abbrev b : AsyncState
  b = record a { conns = conns.route label n msg a.conns }

  -- it is kept once more, or the fibril has it now
  abbrev Ends : AsyncState → Type 0
  Ends after = (times_kept n after ≡ times_kept n a + 1) ⊎ ((times_kept n after ≤ times_kept n a) × IsHanded n a after)

  module _ (c : Conn) (found : conn_of_label label a.conns ≡ Some c) where
    more : times_kept n b ≡ times_kept n a + 1
    more =
        let h = held_routed n n msg label a.conns in
        let one : arrived n n (conn_of_label label a.conns) ≡ 1 = ap (arrived n n) found ∙ once_self n in
        omega (arith, h, one)

    abbrev d : AsyncState
    d = record b { conns = conns.take_next c.fibril b.conns; order = make_ready a.order c.fibril }

    -- what a fibril takes that waits there is this call, or none
    given : (s : Taken) → take_answer (conn_of_fibril c.fibril b.conns) ≡ s →
        why_of a.order c.fibril ≡ Some why.Message →
        taken_of n s + times_kept n (hand_over d c.fibril s (context_at b c.fibril)) ≡ times_kept n a + 1 →
        Ends (hand_over d c.fibril s (context_at b c.fibril))
    given (taken.Call k m l) is waits times = by (k.0 == n.0) refl times
      where
        by : (x : Bool) → (k.0 == n.0) ≡ x →
            (if x then 1 else 0) + times_kept n (hand_over d c.fibril (taken.Call k m l) (context_at b c.fibril))
            ≡ times_kept n a + 1 →
            Ends (hand_over d c.fibril (taken.Call k m l) (context_at b c.fibril))
        by true e h =
            let same : k ≡ n = ap (λ (i : ℕ). let x : CallNo = record { 0 = i } in x) (eqb-true k.0 n.0 e) in
            inr (
              omega (arith, h),
              record {
                fibril = c.fibril;
                waited = waits;
                msg = m;
                label = l;
                handed = λ t here.
                    subst (λ (q : Option Context).
                    context_at (hand_over d c.fibril (taken.Call k m l) q) c.fibril
                    ≡ Some (at_next (with_received t n m l)))
                    (sym here)
                    (subst (λ (j : CallNo).
                    context_at (hand_over d c.fibril (taken.Call k m l) (Some t)) c.fibril
                    ≡ Some (at_next (with_received t j m l)))
                    same (context_set d c.fibril t (at_next (with_received t k m l)) here));
              },
            )
        by false e h = inl (omega (arith, h))
    given (taken.HungUp l) is waits times = inl (omega (arith, times))
    given taken.Wait is waits times = inl (omega (arith, times))
    given taken.NoConnection is waits times = inl (omega (arith, times))

    ends_by : (v : Option Why) → why_of a.order c.fibril ≡ v → Ends (reach_blocked b c.fibril v)
    ends_by (Some why.Message) is =
        let s : Taken = take_answer (conn_of_fibril c.fibril b.conns) in
        let h = reached_times n b c.fibril (Some why.Message) in
        given s refl is (omega (arith, h, more))
    ends_by None is = inl more
    ends_by (Some (why.Answer k)) is = inl more
    ends_by (Some (why.Mutex s)) is = inl more
    ends_by (Some why.Phone) is = inl more

    routed_ends : (x : Bool) → Ends (after_route b n (if x then routed.Closed c.fibril else routed.Queued c.fibril))
    routed_ends true = ends_by (why_of a.order c.fibril) refl
    routed_ends false = ends_by (why_of a.order c.fibril) refl

  route_ends : Ends (route_call a n msg label)
  route_ends = by (conn_of_label label a.conns) refl
    where
      by : (q : Option Conn) → conn_of_label label a.conns ≡ q → Ends (after_route b n (route_answer msg.method q))
      by None e =
          let h = held_routed n n msg label a.conns in
          let none : arrived n n (conn_of_label label a.conns) ≡ 0 = ap (arrived n n) e in
          let owed = owed_both n a.work ((n, ehangup) ∷ []) in
          let one = once_self n in
          inl (omega (arith, h, none, owed, one))
      by (Some c) e = routed_ends c e (closes msg.method c)

  routed_once : ComesOnce a n msg (without_entries (route_call a n msg label))
  routed_once = by route_ends
    where
      by : Ends (route_call a n msg label) → ComesOnce a n msg (without_entries (route_call a n msg label))
      by (inl h) = inl h
      by (inr h) = inr (h.0, inl h.1)

pub received_calls_come_once : ReceivedCallsComeOnce
received_calls_come_once a n msg label kept is =
    subst (λ (s : Turn). ComesOnce a n msg (step_in a (outcome.Received n msg label) s)) (sym is)
    (asked (msg.method == connect_me_to) refl)
  where
    bodies : msg.method ≡ connect_me_to → (p : Option ℕ) → ComesOnce a n msg (connect_call a n msg label p)
    bodies e None = routed_once a n msg label
    bodies e (Some body) =
        inr (started_few n a n msg label body (called_label msg), inr (e, next_number a.order, called_label msg, refl))

    asked : (x : Bool) → (msg.method == connect_me_to) ≡ x → ComesOnce a n msg (receive_call_by a n msg label x)
    asked false e = routed_once a n msg label
    asked true e = bodies (eqb-true msg.method connect_me_to e) (position is_of_connections a.bodies)
