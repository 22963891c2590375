-- Connections, fibrils that start and end, and their turns keep that no wake-up is lost.
use Rattle.std.proofs.Common.{ℕ, zero, suc, ◌+◌, ◌-◌, ◌≡◌, ◌≢◌, ◌<◌, ◌⊎◌, inl, inr, Bool, true, false}
use Rattle.std.proofs.Common.{length, Option, Some, None, List, [], ◌∷◌, ◌++◌, refl, sym, ◌∙◌, ap, subst, arith}
use Rattle.std.specs.Prelude.{if◌then◌else◌, ◌==◌, slice_get, replicate}
use Rattle.std.specs.Prelude.{position}
use Rattle.std.specs.List.{find, filter}
use Rattle.std.proofs.lemmas.Bool.{cases_eq, eq-eqb, ne_eqb}
use Rattle.std.proofs.lemmas.Option.{slice_get_past}
use Rattle.ipc_ids.specs.declared.numbers.CallNo.{CallNo}
use Rattle.ipc_ids.specs.declared.numbers.FibrilNo.{FibrilNo}
use Rattle.ipc_ids.specs.declared.numbers.Code.{Code}
use Rattle.ipc_ids.specs.declared.numbers.Label.{Label}
use Rattle.ipc_ids.specs.declared.message.Msg.{Msg}
use Rattle.ipc_ids.specs.declared.message.Why.{Why}
use Rattle.ipc_ids.specs.declared.message.Why.TheVariants as why
use Rattle.ipc_ids.specs.declared.message.Outcome.{Outcome}
use Rattle.ipc_ids.specs.declared.message.Outcome.TheVariants as outcome
use Rattle.ipc_ids.specs.declared.op.Op.{Op}
use Rattle.ipc_ids.specs.Methods.{connect_me_to}
use Rattle.ipc_ids.specs.Replies.{Waiter}
use Rattle.fibril_core.specs.declared.conn.Conn.{Conn}
use Rattle.fibril_core.specs.declared.conn.Taken.{Taken}
use Rattle.fibril_core.specs.declared.conn.Taken.TheVariants as taken
use Rattle.fibril_core.specs.declared.conn.Routed.TheVariants as routed
use Rattle.fibril_core.specs.Fibrils.{FibrilOrder, current, why_of, why_at, fibril_at}
use Rattle.fibril_core.specs.Fibrils.{make_ready, spawned, end_current, next_number}
use Rattle.fibril_core.specs.Conns as conns
use Rattle.fibril_core.specs.Conns.{conn_of_fibril, conn_of_label, fibril_of, route_answer, finish}
use Rattle.fibril_core.specs.Conns.{start, closes}
use Rattle.fibril_core.proofs.Connections.{sound_routed, sound_taken, sound_started, sound_finished}
use Rattle.fibril_core.specs.ConnLaws.{IsSound as AreSoundConns}
use Rattle.async_sessions.specs.Sessions.{ended}
use Rattle.async_task.specs.declared.awaited.Awaited.{Awaited}
use Rattle.async_task.specs.declared.context.Slot.{Slot}
use Rattle.async_task.specs.declared.context.Slot.TheVariants as slot
use Rattle.async_task.specs.declared.context.Context.{Context}
use Rattle.async_task.specs.Turns.{Turn}
use Rattle.async_task.specs.Turns as turn
use Rattle.async_task.specs.Kept.{kept_at}
use Rattle.async_task.specs.Contexts.{slot_in, slot_at, new_context}
use Rattle.async_task.specs.Contexts.{at_next, with_received}
use Rattle.async_task.specs.AsyncState.{AsyncState, context_at, without_context}
use Rattle.async_task.specs.AsyncState.{AreServed}
use Rattle.async_task.specs.Turns.{turn_of, fibril_turn, work_turn, turn_now}
use Rattle.async_task.specs.Wanted.{bare_msg}
use Rattle.async_task.specs.Answers.{is_of_call, is_of_other_fibril}
use Rattle.async_task.specs.Answers.{take_answer}
use Rattle.async_task.specs.Connections.{hand_over, wake_reader, reach_blocked, reach, after_route}
use Rattle.async_task.specs.Connections.{route_call, reach_holder, called_label, with_fibril}
use Rattle.async_task.specs.Connections.{start_connection, connect_call, receive_call_by}
use Rattle.async_task.specs.Connections.{is_of_connections, end_fibril}
use Rattle.async_task.specs.Steps.{manage, step_in}
use Rattle.async_task.proofs.Served.{serves_none}
use Rattle.async_task.proofs.Filled.{closed_at}
use Rattle.async_laws.specs.KeptAnswers.{waiting}
use Rattle.async_laws.specs.KeptFibrils.{has_ended_at}
use Rattle.async_laws.specs.NoLostWakes.{IsQuiet}
use Rattle.async_laws.specs.NoLostWakes.{IsNewCall}
use Rattle.async_laws.proofs.AnswerFacts.{find_waiting}
use Rattle.async_laws.proofs.WakeOrders.{Eases, eases_ready, ready_not}
use Rattle.async_laws.proofs.WakeOrders.{eases_spawned}
use Rattle.async_laws.proofs.WakeOrders.{IsOver, is_over}
use Rattle.async_laws.proofs.WakeConns.{take_others, still_quiet, route_none, route_others}
use Rattle.async_laws.proofs.WakeConns.{start_quiet, finish_others}
use Rattle.async_laws.proofs.WakeSlots.{Keeps, carry, eased, connected, expects, works, one_fibril}
use Rattle.async_laws.proofs.WakeSlots.{kept_left, same_slots}
use Rattle.async_laws.proofs.WakeCalls.{IsPresent}
use Rattle.async_laws.proofs.WakeSessions.{does}
use Rattle.async_laws.proofs.WakeAnswers.{answers}

hands : (a : AsyncState) (f : FibrilNo) (s : Taken) (t : Option Context) → Keeps a →
    context_at a f ≡ t → Keeps (hand_over a f s t)
hands a f (taken.Call n msg label) (Some t) kept is =
    same_slots a f t (at_next (with_received t n msg label)) kept is refl
hands a f (taken.Call n msg label) None kept is = kept
hands a f (taken.HungUp label) (Some t) kept is =
    same_slots a f t (at_next (with_received t (record { 0 = 0 }) (bare_msg 0) label)) kept is refl
hands a f (taken.HungUp label) None kept is = kept
hands a f taken.Wait t kept is = kept
hands a f taken.NoConnection t kept is = kept

-- the connections change, of which only that of f may be quiet no more; f is reached
reaches : (a : AsyncState) (cs : List Conn) (f : FibrilNo) → Keeps a → AreSoundConns cs →
    ((g : FibrilNo) → why_of a.order g ≡ Some why.Message → g.0 ≢ f.0 → IsQuiet g a.conns →
    IsQuiet g cs) → Keeps (reach (record a { conns = cs }) f)
reaches a cs f kept sound quiet = by (why_of a.order f) refl
  where
    b : AsyncState
    b = record a { conns = cs }

    message : why_of a.order f ≡ Some why.Message → Keeps (wake_reader b f)
    message is =
        let c : AsyncState = record a { order = make_ready a.order f } in
        let eases : Eases a.order (make_ready a.order f) =
        eases_ready a.order f why.Message kept.order is in
        let away : (g : FibrilNo) → why_of (make_ready a.order f) g ≡ Some why.Message → g.0 ≢ f.0 =
        λ g h same. ready_not a.order f why.Message why.Message kept.order is
        (subst (λ (x : FibrilNo). why_of (make_ready a.order f) x ≡ Some why.Message)
        (one_fibril f g same) h) in
        hands (record c { conns = conns.take_next f cs }) f
        (conns.take_answer (conn_of_fibril f cs)) (context_at b f)
        (connected c (conns.take_next f cs) (eased a (make_ready a.order f) kept eases)
        (sound_taken cs f sound)
        (λ g h q. still_quiet g cs (conns.take_next f cs) (take_others cs f g sound (away g h))
        (quiet g (eases.waits g why.Message h) (away g h) q))) refl

    other : (v : Option Why) → why_of a.order f ≡ v → (v ≡ Some why.Message → ⊥) → Keeps b
    other v is not =
        connected a cs kept sound
        (λ g h q. quiet g h
        (λ same. not (sym is ∙ subst (λ (x : FibrilNo). why_of a.order x ≡ Some why.Message)
        (one_fibril f g same) h)) q)

    by : (v : Option Why) → why_of a.order f ≡ v → Keeps (reach_blocked b f v)
    by None is = other None is (λ h. cc h)
    by (Some why.Message) is = message is
    by (Some (why.Answer n)) is = other _ is (λ h. cc h)
    by (Some (why.Mutex s)) is = other _ is (λ h. cc h)
    by (Some why.Phone) is = other _ is (λ h. cc h)

routes : (a : AsyncState) (n : CallNo) (msg : Msg) (label : Label) → Keeps a →
    Keeps (route_call a n msg label)
routes a n msg label kept = by (conn_of_label label a.conns) refl
  where
    cs : List Conn
    cs = conns.route label n msg a.conns

    sound : AreSoundConns cs
    sound = sound_routed a.conns label n msg kept.conns

    reached : (c : Conn) → conn_of_label label a.conns ≡ Some c →
        Keeps (reach (record a { conns = cs }) c.fibril)
    reached c is =
        reaches a cs c.fibril kept sound
        (λ g h other q. still_quiet g a.conns cs
        (route_others a.conns label n msg c g kept.conns is other) q)

    routed_by : (c : Conn) → conn_of_label label a.conns ≡ Some c → (b : Bool) →
        Keeps (after_route (record a { conns = cs }) n
        (if b then routed.Closed c.fibril else routed.Queued c.fibril))
    routed_by c is true = reached c is
    routed_by c is false = reached c is

    by : (c : Option Conn) → conn_of_label label a.conns ≡ c →
        Keeps (after_route (record a { conns = cs }) n (route_answer msg.method c))
    by None is =
        let same : Keeps (record a { conns = cs }) =
        rw (route_none a.conns label n msg is) kept in
        works (record a { conns = cs }) _ same
    by (Some c) is = routed_by c is (closes msg.method c)

-- a fibril starts, none of whose slots has sent a call

pub context_push : (xs : List (Option Context)) (j : ℕ) (v x : Context) →
    kept_at (xs ++ Some v ∷ []) j ≡ Some x → (v ≡ x) ⊎ (kept_at xs j ≡ Some x)
context_push [] zero v x h = inl (cc h)
context_push [] (suc j) v x h = absurd (cc h)
context_push (y ∷ xs) zero v x h = inr h
context_push (y ∷ xs) (suc j) v x h = context_push xs j v x h

pub adds_fibril : (a : AsyncState) (t : Context) → Keeps a → t.slots ≡ replicate 8 slot.Closed →
    Keeps (with_fibril a t)
adds_fibril a t kept closed =
    let b : AsyncState = record a { order = spawned a.order } in
    let one : Keeps b = eased a (spawned a.order) kept (eases_spawned a.order kept.order) in
    record {
      wakes = λ f w h.
          carry b (with_fibril a t) f w (λ n i g. g) (λ s i g. g) (λ i g. g) (λ i g. g)
          (one.wakes f w h);
      slots = λ i k n x runs h g. by i k n x runs g (context_push a.contexts i t x h);
      order = one.order;
      pool = one.pool;
      conns = one.conns;
    }
  where
    by : (i k : ℕ) (n : CallNo) (x : Context) →
        has_ended_at (slice_get (spawned a.order).fibrils i) ≡ false → slot_at x k ≡ slot.Sent n →
        (t ≡ x) ⊎ (kept_at a.contexts i ≡ Some x) →
        (k < 8) × (waiting n.0 a.awaited ≡ Some (record { fibril = suc i; slot = Some k }))
    by i k n x runs g (inl is) =
        let at : slot_in (slice_get t.slots k) ≡ slot.Sent n =
        subst (λ (y : Context). slot_at y k ≡ slot.Sent n) (sym is) g in
        let none : slot_in (slice_get t.slots k) ≡ slot.Closed =
        ap (λ (ss : List Slot). slot_in (slice_get ss k)) closed ∙ closed_at 8 k in
        absurd (cc (at, none))
    by i k n x runs g (inr h) =
        (eased a (spawned a.order) kept (eases_spawned a.order kept.order)).slots i k n x runs h g

-- who is blocked is not the next fibril
not_next : (o : FibrilOrder) (g : FibrilNo) (w : Why) → why_of o g ≡ Some w →
    g.0 ≢ (next_number o).0
not_next o g w h same = by g.0 h same
  where
    by : (n : ℕ) → why_at (fibril_at o n) ≡ Some w → n ≡ length o.fibrils + 1 → ⊥
    by zero i e = cc i
    by (suc j) i e = absurd (grind (arith, slice_get_past o.fibrils j, i, e))

starts_one : (a : AsyncState) (n : CallNo) (msg : Msg) (from : Label) (body : ℕ) (label : Label) →
    Keeps a → AreServed (length a.order.fibrils) a.conns →
    Keeps (start_connection a n msg from body label).state
starts_one a n msg from body label kept served =
    adds_fibril (reach_holder b holder) (with_received (new_context body) n msg from)
    (reached holder refl) refl
  where
    f : FibrilNo
    f = next_number a.order

    holder : Option FibrilNo
    holder = fibril_of (conn_of_label label a.conns)

    cs : List Conn
    cs = start label f a.conns

    b : AsyncState
    b = record a { conns = cs }

    none : conn_of_fibril f a.conns ≡ None
    none = serves_none a.order a.conns served

    sound : AreSoundConns cs
    sound = sound_started a.conns label f kept.conns none

    either : (g : FibrilNo) → why_of a.order g ≡ Some why.Message → IsQuiet g a.conns →
        IsQuiet g cs ⊎ (holder ≡ Some g)
    either g h quiet =
        start_quiet a.conns label f g kept.conns none (not_next a.order g why.Message h) quiet

    reached : (h : Option FibrilNo) → holder ≡ h → Keeps (reach_holder b h)
    reached None is = connected a cs kept sound (λ g h quiet. by g (either g h quiet))
      where
        by : (g : FibrilNo) → IsQuiet g cs ⊎ (holder ≡ Some g) → IsQuiet g cs
        by g (inl q) = q
        by g (inr e) = absurd (cc (e, is))
    reached (Some h) is =
        reaches a cs h kept sound (λ g i other quiet. by g other (either g i quiet))
      where
        by : (g : FibrilNo) → g.0 ≢ h.0 → IsQuiet g cs ⊎ (holder ≡ Some g) → IsQuiet g cs
        by g other (inl q) = q
        by g other (inr e) =
            let same : h ≡ g = cc (e, is) in
            absurd (other (ap (λ (x : FibrilNo). x.0) (sym same)))

connects_call : (a : AsyncState) (n : CallNo) (msg : Msg) (label : Label) (body : Option ℕ) →
    Keeps a → AreServed (length a.order.fibrils) a.conns →
    Keeps (connect_call a n msg label body).state
connects_call a n msg label None kept served = routes a n msg label kept
connects_call a n msg label (Some body) kept served =
    starts_one a n msg label body (called_label msg) kept served

receives : (a : AsyncState) (n : CallNo) (msg : Msg) (label : Label) (b : Bool) → Keeps a →
    AreServed (length a.order.fibrils) a.conns → Keeps (receive_call_by a n msg label b).state
receives a n msg label true kept served =
    connects_call a n msg label (position is_of_connections a.bodies) kept served
receives a n msg label false kept served = routes a n msg label kept

manages : (a : AsyncState) (o : Outcome) → Keeps a → AreServed (length a.order.fibrils) a.conns →
    Keeps (manage a o).state
manages a (outcome.Received n msg label) kept served =
    receives a n msg label (msg.method == connect_me_to) kept served
manages a (outcome.Answered n r) kept served =
    answers a n r (find (is_of_call n) a.awaited) kept (find_waiting n a.awaited)
manages a _ kept served = kept

-- a fibril ends

keeps_others : (f : FibrilNo) (n : ℕ) (ws : List Awaited) (d : Waiter) → waiting n ws ≡ Some d →
    (d.fibril ≡ f.0 → ⊥) → waiting n (filter (is_of_other_fibril f) ws) ≡ Some d
keeps_others f n [] d h away = absurd (cc h)
keeps_others f n (w ∷ ws) d h away =
    grind (
      arith,
      keeps_others f n ws d,
      eq-eqb,
      ne_eqb,
      cases_eq w.call.0 n,
      cases_eq w.fibril.0 f.0,
      h,
      away,
    )

drops_context : (a : AsyncState) (f : FibrilNo) → Keeps a → Keeps (without_context a f)
drops_context a f kept = record {
  wakes = λ g w h.
      carry a (without_context a f) g w (λ n i v. v) (λ s i v. v) (λ i v. v) (λ i v. v)
      (kept.wakes g w h);
  slots = λ i k n x runs h g. kept.slots i k n x runs (kept_left a.contexts (f.0 - 1) i x h) g;
  order = kept.order;
  pool = kept.pool;
  conns = kept.conns;
}

ends_fibril : (a : AsyncState) (f : FibrilNo) (t : Context) → Keeps a → IsPresent a f t →
    Keeps (end_fibril a f).state
ends_fibril a f t kept now =
    works (record d { awaited = ws }) _
    (expects d ws three
    (λ g n h i. (i.0, keeps_others f n.0 a.awaited (record { fibril = g.0; slot = i.0 }) i.1 (away g (why.Answer n) h)))
    (λ i k n x runs h g.
    let was : (k < 8) × (waiting n.0 a.awaited ≡ Some (record { fibril = suc i; slot = Some k })) =
    three.slots i k n x runs h g in (
      was.0,
      keeps_others f n.0 a.awaited (record { fibril = suc i; slot = Some k }) was.1
          (λ same. over_here i runs same),
    )))
  where
    over : IsOver a.order (end_current a.order) f
    over = is_over a.order f kept.order now.current

    b : AsyncState
    b = record a { order = end_current a.order }

    c : AsyncState
    c = record b { conns = finish f a.conns }

    d : AsyncState
    d = without_context c f

    ws : List Awaited
    ws = filter (is_of_other_fibril f) a.awaited

    away : (g : FibrilNo) (w : Why) → why_of (end_current a.order) g ≡ Some w → g.0 ≡ f.0 → ⊥
    away g w h same =
        over.waits_not w
        (subst (λ (x : FibrilNo). why_of (end_current a.order) x ≡ Some w) (one_fibril f g same) h)

    two : Keeps c
    two =
        connected b (finish f a.conns) (eased a (end_current a.order) kept over.eases)
        (sound_finished a.conns f kept.conns)
        (λ g h quiet. still_quiet g a.conns (finish f a.conns)
        (finish_others a.conns f g kept.conns (away g why.Message h)) quiet)

    three : Keeps d
    three = drops_context c f two

    over_here : (i : ℕ) → has_ended_at (slice_get (end_current a.order).fibrils i) ≡ false →
        suc i ≡ f.0 → ⊥
    over_here i runs same =
        let place : i ≡ f.0 - 1 = grind (arith, same) in
        let ended : has_ended_at (slice_get (end_current a.order).fibrils i) ≡ true =
        rw place over.ended in
        absurd (cc (runs, ended))

-- whose turn it is

run_is : (a : AsyncState) (f g : FibrilNo) (t : Option Context) (u : Context) (p : Option Op) →
    turn_of a g t ≡ turn.Run f u p → (g ≡ f) × (t ≡ Some u)
run_is a f g None u p h = absurd (cc h)
run_is a f g (Some t) u p h = (cc h, cc h)

fibril_is : (a : AsyncState) (f : FibrilNo) (u : Context) (p : Option Op) (g : Option FibrilNo) →
    fibril_turn a g ≡ turn.Run f u p → (g ≡ Some f) × (context_at a f ≡ Some u)
fibril_is a f u p None h = absurd (cc h)
fibril_is a f u p (Some g) h =
    let one : (g ≡ f) × (context_at a g ≡ Some u) = run_is a f g (context_at a g) u p h in
    (ap (λ (i : FibrilNo). Some i) one.0, subst (λ (x : FibrilNo). context_at a x ≡ Some u) one.0 one.1)

pub present_is :
    (a : AsyncState) (f : FibrilNo) (u : Context) (p : Option Op) (ws : List (CallNo × Code)) →
    work_turn a ws ≡ turn.Run f u p → IsPresent a f u
present_is a f u p [] h =
    let one : (current a.order ≡ Some f) × (context_at a f ≡ Some u) =
    fibril_is a f u p (current a.order) h in
    record { current = one.0; context = one.1 }
present_is a f u p (w ∷ ws) h = absurd (cc h)

pub turns : (a : AsyncState) (o : Outcome) (s : Turn) → Keeps a →
    AreServed (length a.order.fibrils) a.conns → IsNewCall a o → turn_now a ≡ s →
    Keeps (step_in a o s).state
turns a o (turn.Work n c) kept served new is = works a _ kept
turns a o (turn.Run f t None) kept served new is =
    ends_fibril a f t kept (present_is a f t None a.work is)
turns a o (turn.Run f t (Some p)) kept served new is =
    does a f t p o kept (present_is a f t (Some p) a.work is) new
turns a o turn.Receive kept served new is = manages a o kept served
