-- In which order fibrils go on and calls are taken, and what becomes of a call that comes.
use Rattle.std.proofs.Common.{ℕ, zero, suc, ◌+◌, ◌≡◌, ◌≢◌, ◌⊎◌, inl, inr, Bool, true, false}
use Rattle.std.proofs.Common.{length, Option, Some, None, List, [], ◌∷◌, ◌++◌, refl, sym, ◌∙◌, ap, subst, arith}
use Rattle.std.specs.Prelude.{if◌then◌else◌, ◌==◌, slice_get, position}
use Rattle.std.proofs.lemmas.Bool.{eqb-true, and_parts}
use Rattle.ipc_ids.specs.declared.numbers.CallNo.{CallNo}
use Rattle.ipc_ids.specs.declared.numbers.Code.{Code}
use Rattle.ipc_ids.specs.declared.message.ExchangeMode.TheVariants as mode
use Rattle.ipc_ids.specs.declared.message.Outcome.TheVariants as outcome
use Rattle.ipc_ids.specs.declared.op.Op.TheVariants as op
use Rattle.ipc_ids.specs.Codes.{ehangup, elimit}
use Rattle.ipc_ids.specs.Methods.{connect_me_to}
use Rattle.fibril_core.specs.declared.conn.Conn.{Conn}
use Rattle.fibril_core.specs.declared.conn.Queued.{Queued}
use Rattle.fibril_core.specs.declared.conn.Taken.TheVariants as taken
use Rattle.fibril_core.specs.declared.fibrils.Status.TheVariants.{Ready}
use Rattle.fibril_core.specs.FibrilLaws.{Becomes}
use Rattle.fibril_core.specs.Conns.{closes, is_open, route_to, take_from}
use Rattle.fibril_core.specs.Conns.{conn_of_label, leads_to, rest_of, route_answer}
use Rattle.fibril_core.specs.Conns as conns
use Rattle.fibril_core.proofs.Orders.{found_becomes}
use Rattle.fibril_core.proofs.Connections.{finds}
use Rattle.async_sessions.specs.declared.sessions.Begin.{Begin}
use Rattle.async_sessions.specs.declared.sessions.Begin.TheVariants as begin
use Rattle.async_sessions.specs.Sessions.{session_at}
use Rattle.async_task.specs.declared.context.Context.{Context}
use Rattle.async_task.specs.Turns.{Turn}
use Rattle.async_task.specs.Contexts.{with_short, handle_at}
use Rattle.async_task.specs.AsyncState.{AsyncState, context_at, with_context}
use Rattle.async_task.specs.Wanted.{plan_begin, phone_by}
use Rattle.async_task.specs.Exchanges.{begin_op}
use Rattle.async_task.specs.Connections.{is_of_connections, connect_call, receive_call_by, after_route}
use Rattle.async_task.specs.Connections.{route_call}
use Rattle.async_task.specs.Steps.{step_in, step}
use Rattle.async_laws.specs.OrderLaws.{YieldsGoBehind, IsLast, RoutesGoLast, FirstIsTaken}
use Rattle.async_laws.specs.OrderLaws.{StrayCallsAreRefused, LimitsAreHeeded}
use Rattle.async_laws.proofs.WakeCalls.{IsPresent}
use Rattle.async_laws.proofs.WakeFibrils.{present_is}
use Rattle.async_laws.proofs.WakeSessions.{unless_is, answers_as}
use Rattle.async_laws.proofs.WakeSlots.{context_now}
use Rattle.async_laws.proofs.LimitLaws.{connect_says}

pub yields_go_behind : YieldsGoBehind
yields_go_behind a o f t kept is =
    subst (λ (s : Turn). Becomes a.order (step_in a o s).state.order f.0 Ready) (sym is)
    (found_becomes a.order Ready Ready f kept.order (present_is a f t (Some op.Yield) a.work is).current)

-- a list with one more at its end

pub before_last : (xs : List Queued) (i : ℕ) (q v : Queued) → slice_get xs i ≡ Some q →
    slice_get (xs ++ v ∷ []) i ≡ Some q
before_last [] i q v h = absurd (cc h)
before_last (x ∷ xs) zero q v h = h
before_last (x ∷ xs) (suc i) q v h = before_last xs i q v h

pub at_last : (xs : List Queued) (v : Queued) → slice_get (xs ++ v ∷ []) (length xs) ≡ Some v
at_last [] v = refl
at_last (x ∷ xs) v = at_last xs v

one_more : (xs : List Queued) (v : Queued) → length (xs ++ v ∷ []) ≡ length xs + 1
one_more [] v = refl
one_more (x ∷ xs) v = let more = one_more xs v in omega arith

pub open_is : (q : Option CallNo) → is_open q ≡ true → q ≡ None
open_is None h = refl
open_is (Some n) h = absurd (cc h)

pub routes_go_last : RoutesGoLast
routes_go_last c call msg = by (closes msg.method c) refl
  where
    by : (b : Bool) → closes msg.method c ≡ b →
        (IsLast call msg c.queue (route_to call msg c).queue × ((route_to call msg c).close_call ≡ c.close_call)) ⊎
        ((msg.method ≡ 0) × (c.close_call ≡ None) × ((route_to call msg c).close_call ≡ Some call)
        × ((route_to call msg c).queue ≡ c.queue))
    by true is =
        let parts : ((msg.method == 0) ≡ true) × (is_open c.close_call ≡ true) =
        and_parts (msg.method == 0) (is_open c.close_call) is in
        inr
        (eqb-true msg.method 0 parts.0, open_is c.close_call parts.1, rw is refl, rw is refl)
    by false is =
        let q : Queued = record { call = call; msg = msg } in
        rw is
        (inl (
          record {
            others = λ i x h. before_last c.queue i x q h;
            last = at_last c.queue q;
            one = one_more c.queue q;
          },
          refl,
        ))

pub first_is_taken : FirstIsTaken
first_is_taken c call msg label h = by c.queue refl h
  where
    by : (xs : List Queued) → c.queue ≡ xs → take_from c xs ≡ taken.Call call msg label →
        (slice_get c.queue 0 ≡ Some (record { call = call; msg = msg })) ×
        ((i : ℕ) → slice_get (rest_of c.queue) i ≡ slice_get c.queue (i + 1))
    by [] is e = none c.closed e
      where
        none : (b : Bool) → (if b then taken.HungUp c.label else taken.Wait) ≡ taken.Call call msg label →
            (slice_get c.queue 0 ≡ Some (record { call = call; msg = msg })) ×
            ((i : ℕ) → slice_get (rest_of c.queue) i ≡ slice_get c.queue (i + 1))
        none true e = absurd (cc e)
        none false e = absurd (cc e)
    by (q ∷ xs) is e =
        let first : q.call ≡ call = cc e in
        let second : q.msg ≡ msg = cc e in
        rw is (rw (first, second) refl, λ i. nearer i)
      where
        nearer : (i : ℕ) → slice_get xs i ≡ slice_get (q ∷ xs) (i + 1)
        nearer i = grind arith

pub stray_calls_are_refused : StrayCallsAreRefused
stray_calls_are_refused a n msg label is apart none =
    subst (λ (s : Turn). (step_in a (outcome.Received n msg label) s).state.work ≡ owed) (sym is)
    (asked (msg.method == connect_me_to) refl)
  where
    owed : List (CallNo × Code)
    owed = a.work ++ (n, ehangup) ∷ []

    no_conn : conn_of_label label a.conns ≡ None
    no_conn = by (conn_of_label label a.conns) refl
      where
        by : (q : Option Conn) → conn_of_label label a.conns ≡ q → q ≡ None
        by None e = refl
        by (Some c) e =
            let there : (i : ℕ) × (slice_get a.conns i ≡ Some c) =
            (finds (leads_to label) a.conns).there c e in
            absurd (cc ((finds (leads_to label) a.conns).some c e, none there.0 c there.1))

    routed : (route_call a n msg label).work ≡ owed
    routed =
        ap (λ (q : Option Conn).
        (after_route (record a { conns = conns.route label n msg a.conns }) n (route_answer msg.method q)).work)
        no_conn

    asked : (b : Bool) → (msg.method == connect_me_to) ≡ b →
        (receive_call_by a n msg label b).state.work ≡ owed
    asked false e = routed
    asked true e = bodies (position is_of_connections a.bodies) refl apart
      where
        bodies : (p : Option ℕ) → position is_of_connections a.bodies ≡ p →
            ((msg.method ≢ connect_me_to) ⊎ (position is_of_connections a.bodies ≡ None)) →
            (connect_call a n msg label p).state.work ≡ owed
        bodies None i h = routed
        bodies (Some p) i (inl other) = absurd (other (eqb-true msg.method connect_me_to e))
        bodies (Some p) i (inr missing) = absurd (cc (i, missing))

-- a begin that met the limit does not connect

pub limits_are_heeded : LimitsAreHeeded
limits_are_heeded a f t u x s phone p kept is plan at again =
    let now : IsPresent a f t = present_is a f t (Some (op.Begin x s)) a.work is in
    heeded now
    (subst (λ (q : AsyncState). context_at q f ≡ Some u) state at)
    (subst (λ (q : AsyncState). plan_begin q f u x s ≡ begin.Connect p) state again)
  where
    after : AsyncState
    after = with_context a f (with_short t true)

    state : (step a (outcome.Refused elimit)).state ≡ after
    state =
        ap (λ (r : Turn). (step_in a (outcome.Refused elimit) r).state) is
        ∙ ap (λ (q : Begin). (begin_op a f t x s (outcome.Refused elimit) q).state) plan

    limited : u.short ≡ true → plan_begin after f u x s ≡ begin.Connect p → ⊥
    limited short h =
        connect_says a.pool s (session_at a.pool s) p
        (answers_as a.pool s true (begin.Connect p)
        (unless_is _ _ (phone_by a.pool f (handle_at u x))
        (rw (← short) h) (λ c i. absurd (cc i))))

    heeded : IsPresent a f t → context_at after f ≡ Some u →
        plan_begin after f u x s ≡ begin.Connect p → ⊥
    heeded now there h =
        let same : with_short t true ≡ u = context_now a f t (with_short t true) u now.context there in
        limited (sym (ap (λ (c : Context). c.short) same)) h
