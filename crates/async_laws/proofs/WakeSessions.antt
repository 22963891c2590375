-- Begins, ends and closes keep that no wake-up is lost.
use Rattle.std.proofs.Common.{ℕ, ◌+◌, ◌-◌, ◌≡◌, Bool, true, false}
use Rattle.std.proofs.Common.{length, Option, Some, None, [], ◌∷◌, ◌++◌, refl, ap, subst, arith}
use Rattle.std.specs.Prelude.{◌==◌, slice_index}
use Rattle.ipc_ids.specs.declared.numbers.FibrilNo.{FibrilNo}
use Rattle.ipc_ids.specs.declared.numbers.ExchangeNo.{ExchangeNo}
use Rattle.ipc_ids.specs.declared.numbers.Code.{Code}
use Rattle.ipc_ids.specs.declared.message.Reply.{Reply}
use Rattle.ipc_ids.specs.declared.message.Why.{Why}
use Rattle.ipc_ids.specs.declared.message.Why.TheVariants as why
use Rattle.ipc_ids.specs.declared.message.ExchangeMode.{ExchangeMode}
use Rattle.ipc_ids.specs.declared.message.ExchangeMode.TheVariants as mode
use Rattle.ipc_ids.specs.declared.message.Outcome.{Outcome}
use Rattle.ipc_ids.specs.declared.message.Outcome.TheVariants as outcome
use Rattle.ipc_ids.specs.declared.op.Op.{Op}
use Rattle.ipc_ids.specs.declared.op.Op.TheVariants as op
use Rattle.ipc_ids.specs.Codes.{eok, elimit, enoent}
use Rattle.registers.specs.Registers.{value_in}
use Rattle.fibril_core.specs.Fibrils.{FibrilOrder, current, why_of}
use Rattle.fibril_core.specs.Fibrils.{yield_now, wake_all, next_number}
use Rattle.fibril_core.specs.Conns as conns
use Rattle.fibril_core.specs.Conns.{conn_of_fibril}
use Rattle.async_sessions.specs.declared.sessions.Session.{Session}
use Rattle.async_sessions.specs.declared.sessions.Exchange.{Exchange}
use Rattle.async_sessions.specs.declared.sessions.Begin.{Begin}
use Rattle.async_sessions.specs.declared.sessions.Begin.TheVariants as begin
use Rattle.async_sessions.specs.declared.sessions.Close.{Close}
use Rattle.async_sessions.specs.declared.sessions.Close.TheVariants as close
use Rattle.async_sessions.specs.Sessions.{Open, session_at, mode_answer, made, make_after}
use Rattle.async_sessions.specs.Sessions.{begin_answer, begin_after, begun_after, dropped, held_by}
use Rattle.async_sessions.specs.Sessions.{end_answer, end_after, ended, close_after, added}
use Rattle.async_sessions.specs.Sessions.{with_session}
use Rattle.async_sessions.specs.SessionLaws.{IsSound as AreSoundSessions, HasNoIdle, HasNoneBegun}
use Rattle.async_sessions.specs.SessionLaws.{HasOneBegun, IsLongestIdle, AnswersBegin, AnswersIn}
use Rattle.async_sessions.specs.SessionLaws.{AnswersClose}
use Rattle.async_sessions.proofs.Answers.{begin_answers, close_answers}
use Rattle.async_sessions.proofs.Sound.{sound_made, sound_begun, sound_connected}
use Rattle.async_sessions.proofs.Sound.{sound_ended, sound_closed}
use Rattle.async_task.specs.declared.awaited.Awaited.{Awaited}
use Rattle.async_task.specs.declared.context.Context.{Context}
use Rattle.async_task.specs.Contexts.{slot_at, handle_at}
use Rattle.async_task.specs.Contexts.{at_next, after_refused}
use Rattle.async_task.specs.Contexts.{with_short, after_begun, after_ended, after_done}
use Rattle.async_task.specs.Contexts.{after_outcome}
use Rattle.async_task.specs.AsyncState.{AsyncState, context_at, with_context}
use Rattle.async_task.specs.Wanted.{unless_held, phone_by, plan_begin, plan_close, any_waits}
use Rattle.async_task.specs.Calls.{after_raw}
use Rattle.async_task.specs.Exchanges.{with_pool, open_outcome, begin_exchange, connect_refused_by}
use Rattle.async_task.specs.Exchanges.{connect_outcome, begin_op, end_outcome, end_op, close_op}
use Rattle.async_task.specs.Exchanges.{wake_waiters}
use Rattle.async_task.specs.Answers.{connect}
use Rattle.async_task.specs.Answers.{answer_begin_by, answer_begin_at}
use Rattle.async_task.specs.Answers.{take_answer}
use Rattle.async_task.specs.Steps.{do_op}
use Rattle.async_laws.specs.KeptAnswers.{waiting}
use Rattle.async_laws.specs.NoLostWakes.{IsNewCall}
use Rattle.async_laws.proofs.WakeOrders.{eases_yield, eases_all}
use Rattle.async_laws.proofs.WakeOrders.{none_blocked}
use Rattle.async_laws.proofs.WakePools.{added_upholds, begun_upholds, dropped_upholds}
use Rattle.async_laws.proofs.WakePools.{made_upholds, last_upholds, drop_upholds, drop_leaves}
use Rattle.async_laws.proofs.WakePools.{wide_upholds, idle_upholds}
use Rattle.async_laws.proofs.WakeSlots.{Keeps, eased, pooled, upheld, blocks, same_slots}
use Rattle.async_laws.proofs.WakeCalls.{IsPresent, push_new, pushed, refused, sends_call}
use Rattle.async_laws.proofs.WakeCalls.{sends_over, waits_slot, asks_next}

opens : (a : AsyncState) (f : FibrilNo) (t : Context) (s phone : ℕ) (m : ExchangeMode)
    (x : Option Session) → Keeps a → IsPresent a f t → session_at a.pool s ≡ x →
    Keeps (open_outcome (with_pool a (make_after a.pool s phone m x)) f t (made x)).state
opens a f t s phone m None kept now is =
    let b : AsyncState = with_pool a (make_after a.pool s phone m None) in
    let sound : AreSoundSessions (make_after a.pool s phone m None) =
    subst (λ (q : Option Session). AreSoundSessions (make_after a.pool s phone m q)) is
    (sound_made a.pool s phone m kept.pool) in
    same_slots b f t (after_done t)
    (upheld a (make_after a.pool s phone m None) kept sound
    (made_upholds a.pool s phone m None is))
    now.context refl
opens a f t s phone m (Some x) kept now is =
    same_slots a f t (after_refused t _) kept now.context refl

pub unless_is : (plan p : Begin) (held : Option ℕ) → unless_held plan held ≡ p →
    ((c : Code) → p ≡ begin.Refused c → ⊥) → plan ≡ p
unless_is plan p held h not = grind (arith, not)

begins : (a : AsyncState) (f : FibrilNo) (t : Context) (x s : ℕ) (e : ExchangeNo) (phone : ℕ)
    (m : Option ExchangeMode) → Keeps a → IsPresent a f t →
    begin_answer a.pool s t.short (session_at a.pool s) ≡ begin.Begun e phone →
    mode_answer (session_at a.pool s) ≡ m → Keeps (begin_exchange a f t x s e phone m).state
begins a f t x s e phone None kept now plan is = kept
begins a f t x s e phone (Some m) kept now plan is =
    let p : Open = begun_after a.pool f s e phone m in
    let one : AreSoundSessions (begin_after a.pool f s (mode_answer (session_at a.pool s)) (begin.Begun e phone)) =
    subst (λ (q : Begin). AreSoundSessions (begin_after a.pool f s (mode_answer (session_at a.pool s)) q))
    plan (sound_begun a.pool f s t.short kept.pool) in
    let sound : AreSoundSessions p =
    subst (λ (q : Option ExchangeMode). AreSoundSessions (begin_after a.pool f s q (begin.Begun e phone)))
    is one in
    same_slots (with_pool a p) f t (after_begun t x e)
    (upheld a p kept sound (begun_upholds a.pool f s e phone m)) now.context refl

refused_connect : (a : AsyncState) (f : FibrilNo) (t : Context) (c : Code) (b : Bool) → Keeps a →
    context_at a f ≡ Some t → Keeps (connect_refused_by a f t c b).state
refused_connect a f t c true kept is = same_slots a f t (with_short t true) kept is refl
refused_connect a f t c false kept is =
    same_slots a f t (after_refused (with_short t false) c) kept is refl

connects : (a : AsyncState) (f : FibrilNo) (t : Context) (o : Outcome) → Keeps a →
    IsPresent a f t → IsNewCall a o → Keeps (connect_outcome a f t o).state
connects a f t (outcome.Accepted n) kept now new =
    let w : Awaited = record { call = n; fibril = f; slot = None } in
    blocks (record a { awaited = a.awaited ++ w ∷ [] }) f (why.Answer n)
    (pushed a w kept (new n refl)) now.current (None, push_new w a.awaited (new n refl))
connects a f t (outcome.Refused c) kept now new =
    refused_connect a f t c (c.0 == elimit.0) kept now.context
connects a f t _ kept now new = kept

-- what the answers of a begin say

hang_in : (o : Open) (s : ℕ) (short : Bool) (x : Session) (e : ExchangeNo) (phone : ℕ)
    (m : ExchangeMode) → AnswersIn o s short x (begin.HangIdle e phone) m →
    IsLongestIdle None o.exchanges e phone
hang_in o s short x e phone mode.Atomic h = absurd (cc h)
hang_in o s short x e phone mode.Serialize h = absurd h
hang_in o s short x e phone mode.Parallel h = h.2

hang_says : (o : Open) (s : ℕ) (short : Bool) (x : Option Session) (e : ExchangeNo) (phone : ℕ) →
    AnswersBegin o s short (begin.HangIdle e phone) x → IsLongestIdle None o.exchanges e phone
hang_says o s short None e phone h = absurd (cc h)
hang_says o s short (Some x) e phone h = hang_in o s short x e phone x.mode h

mutex_in : (o : Open) (s : ℕ) (short : Bool) (x : Session) (m : ExchangeMode) →
    AnswersIn o s short x begin.WaitMutex m → (m ≡ mode.Serialize) × HasOneBegun s o.exchanges
mutex_in o s short x mode.Atomic h = absurd (cc h)
mutex_in o s short x mode.Serialize h = (refl, h)
mutex_in o s short x mode.Parallel h = absurd h

mutex_says : (o : Open) (s : ℕ) (short : Bool) (x : Option Session) →
    AnswersBegin o s short begin.WaitMutex x →
    (mode_answer x ≡ Some mode.Serialize) × HasOneBegun s o.exchanges
mutex_says o s short None h = absurd (cc h)
mutex_says o s short (Some x) h =
    let one : (x.mode ≡ mode.Serialize) × HasOneBegun s o.exchanges =
    mutex_in o s short x x.mode h in
    (ap (λ (m : ExchangeMode). Some m) one.0, one.1)

phone_in : (o : Open) (s : ℕ) (short : Bool) (x : Session) (m : ExchangeMode) →
    AnswersIn o s short x begin.WaitPhone m → HasNoIdle None o.exchanges
phone_in o s short x mode.Atomic h = absurd (cc h)
phone_in o s short x mode.Serialize h = absurd h
phone_in o s short x mode.Parallel h = h.1

phone_says : (o : Open) (s : ℕ) (short : Bool) (x : Option Session) →
    AnswersBegin o s short begin.WaitPhone x → HasNoIdle None o.exchanges
phone_says o s short None h = absurd (cc h)
phone_says o s short (Some x) h = phone_in o s short x x.mode h

pub answers_as : (o : Open) (s : ℕ) (short : Bool) (p : Begin) →
    begin_answer o s short (session_at o s) ≡ p → AnswersBegin o s short p (session_at o s)
answers_as o s short p is =
    subst (λ (q : Begin). AnswersBegin o s short q (session_at o s)) is
    (begin_answers o s short (session_at o s))

begins_as : (a : AsyncState) (f : FibrilNo) (t : Context) (x s : ℕ) (o : Outcome) (plan : Begin) →
    Keeps a → IsPresent a f t → IsNewCall a o → plan_begin a f t x s ≡ plan →
    Keeps (begin_op a f t x s o plan).state
begins_as a f t x s o (begin.Begun e phone) kept now new is =
    begins a f t x s e phone (mode_answer (session_at a.pool s)) kept now
    (unless_is _ _ (phone_by a.pool f (handle_at t x)) is (λ c h. absurd (cc h))) refl
begins_as a f t x s o (begin.Connect phone) kept now new is = connects a f t o kept now new
begins_as a f t x s o (begin.HangIdle e phone) kept now new is =
    let plan : begin_answer a.pool s t.short (session_at a.pool s) ≡ begin.HangIdle e phone =
    unless_is _ _ (phone_by a.pool f (handle_at t x)) is (λ c h. absurd (cc h)) in
    let longest : IsLongestIdle None a.pool.exchanges e phone =
    hang_says a.pool s t.short (session_at a.pool s) e phone (answers_as a.pool s t.short _ plan) in
    let sound : AreSoundSessions (dropped a.pool e) =
    subst (λ (q : Begin). AreSoundSessions (begin_after a.pool f s (mode_answer (session_at a.pool s)) q))
    plan (sound_begun a.pool f s t.short kept.pool) in
    let b : AsyncState = with_context a f (with_short t false) in
    upheld b (dropped a.pool e) (same_slots a f t (with_short t false) kept now.context refl) sound
    (dropped_upholds a.pool None e phone kept.pool longest)
begins_as a f t x s o begin.WaitMutex kept now new is =
    let plan : begin_answer a.pool s t.short (session_at a.pool s) ≡ begin.WaitMutex =
    unless_is _ _ (phone_by a.pool f (handle_at t x)) is (λ c h. absurd (cc h)) in
    blocks a f (why.Mutex s) kept now.current
    (mutex_says a.pool s t.short (session_at a.pool s) (answers_as a.pool s t.short _ plan))
begins_as a f t x s o begin.WaitPhone kept now new is =
    let plan : begin_answer a.pool s t.short (session_at a.pool s) ≡ begin.WaitPhone =
    unless_is _ _ (phone_by a.pool f (handle_at t x)) is (λ c h. absurd (cc h)) in
    blocks (with_context a f (with_short t false)) f why.Phone
    (same_slots a f t (with_short t false) kept now.context refl) now.current
    (phone_says a.pool s t.short (session_at a.pool s) (answers_as a.pool s t.short _ plan))
begins_as a f t x s o (begin.Refused c) kept now new is =
    same_slots a f t (after_refused (with_short t false) c) kept now.context refl
begins_as a f t x s o begin.NoMemory kept now new is = kept

-- the end of an exchange, by the mode of its session
end_by_mode : (a : AsyncState) (f : FibrilNo) (e : ExchangeNo) (y : Exchange) (m : ExchangeMode) →
    Keeps a → held_by f e a.pool.exchanges ≡ Some y → y.mode ≡ m →
    AreSoundSessions (ended a.pool e m) →
    Keeps (record (with_pool a (ended a.pool e m)) { order = wake_waiters a.order m y.session })
end_by_mode a f e y mode.Atomic kept is of sound =
    pooled a (ended a.pool e mode.Atomic) kept sound
    (λ g s h held. wide_upholds a.pool f e y kept.pool is s held (λ i. absurd (cc (of, i))))
    (λ g h none. drop_leaves a.pool f e y kept.pool is none)
end_by_mode a f e y mode.Serialize kept is of sound =
    let w : Why = why.Mutex y.session in
    let r : FibrilOrder = wake_all a.order w in
    pooled (record a { order = r }) (ended a.pool e mode.Serialize)
    (eased a r kept (eases_all a.order w kept.order)) sound
    (λ g s h held. drop_upholds a.pool f e y kept.pool is s held
    (λ same. none_blocked a.order w g kept.order
    (subst (λ (n : ℕ). why_of r g ≡ Some (why.Mutex n)) same h)))
    (λ g h none. drop_leaves a.pool f e y kept.pool is none)
end_by_mode a f e y mode.Parallel kept is of sound =
    let r : FibrilOrder = wake_all a.order why.Phone in
    pooled (record a { order = r }) (ended a.pool e mode.Parallel)
    (eased a r kept (eases_all a.order why.Phone kept.order)) sound
    (λ g s h held. idle_upholds a.pool f e y kept.pool is s held (λ i. absurd (cc (of, i))))
    (λ g h none. absurd (none_blocked a.order why.Phone g kept.order h))

ends_as : (a : AsyncState) (f : FibrilNo) (t : Context) (x : ℕ) (e : ExchangeNo)
    (h : Option Exchange) → Keeps a → IsPresent a f t → held_by f e a.pool.exchanges ≡ h →
    Keeps (end_outcome (with_pool a (end_after a.pool e h)) f t x e (end_answer h)).state
ends_as a f t x e None kept now is = same_slots a f t (after_refused t enoent) kept now.context refl
ends_as a f t x e (Some y) kept now is =
    let sound : AreSoundSessions (ended a.pool e y.mode) =
    subst (λ (q : Option Exchange). AreSoundSessions (end_after a.pool e q)) is
    (sound_ended a.pool f e kept.pool) in
    same_slots
    (record (with_pool a (ended a.pool e y.mode)) { order = wake_waiters a.order y.mode y.session })
    f t (after_ended t x) (end_by_mode a f e y y.mode kept is refl sound) now.context refl

pub ends : (a : AsyncState) (f : FibrilNo) (t : Context) (x : ℕ) (h : Option ExchangeNo) → Keeps a →
    IsPresent a f t → Keeps (end_op a f t x h).state
ends a f t x None kept now = refused a f t enoent kept now
ends a f t x (Some e) kept now = ends_as a f t x e (held_by f e a.pool.exchanges) kept now refl

-- what the answers of a close say

close_hangs : (o : Open) (s : ℕ) (waiting : Bool) (x : Option Session) (e : ExchangeNo)
    (phone : ℕ) → AnswersClose o s waiting (close.HangIdle e phone) x →
    IsLongestIdle (Some s) o.exchanges e phone
close_hangs o s waiting None e phone h = absurd (cc h)
close_hangs o s waiting (Some x) e phone h = h.2

close_lasts : (o : Open) (s : ℕ) (waiting : Bool) (x : Option Session) (phone : ℕ) →
    AnswersClose o s waiting (close.Last phone) x → HasNoneBegun s o.exchanges
close_lasts o s waiting None phone h = absurd (cc h)
close_lasts o s waiting (Some x) phone h = h.1

closes_as : (a : AsyncState) (f : FibrilNo) (t : Context) (s : ℕ) (o : Outcome) (plan : Close) →
    Keeps a → IsPresent a f t → plan_close a s ≡ plan → Keeps (close_op a f t s o plan).state
closes_as a f t s o plan kept now is = by plan is
  where
    waits : Bool
    waits = any_waits (length a.contexts) a s

    says : (p : Close) → plan_close a s ≡ p → AnswersClose a.pool s waits p (session_at a.pool s)
    says p e =
        subst (λ (q : Close). AnswersClose a.pool s waits q (session_at a.pool s)) e
        (close_answers a.pool s waits (session_at a.pool s))

    sound : (p : Close) → plan_close a s ≡ p → AreSoundSessions (close_after a.pool s p)
    sound p e =
        subst (λ (q : Close). AreSoundSessions (close_after a.pool s q)) e
        (sound_closed a.pool s waits kept.pool)

    by : (p : Close) → plan_close a s ≡ p → Keeps (close_op a f t s o p).state
    by (close.HangIdle e phone) i =
        upheld a (dropped a.pool e) kept (sound (close.HangIdle e phone) i)
        (dropped_upholds a.pool (Some s) e phone kept.pool
        (close_hangs a.pool s waits (session_at a.pool s) e phone (says (close.HangIdle e phone) i)))
    by (close.Last phone) i =
        let b : AsyncState = with_pool a (with_session a.pool s None) in
        same_slots b f t (after_outcome t o)
        (upheld a (with_session a.pool s None) kept (sound (close.Last phone) i)
        (last_upholds a.pool s
        (close_lasts a.pool s waits (session_at a.pool s) phone (says (close.Last phone) i))))
        now.context refl
    by (close.Refused c) i = same_slots a f t (after_refused t c) kept now.context refl

pub does : (a : AsyncState) (f : FibrilNo) (t : Context) (p : Op) (o : Outcome) → Keeps a →
    IsPresent a f t → IsNewCall a o → Keeps (do_op a f t p o).state
does a f t (op.CallSlot k phone method args) o kept now new =
    sends_call a f t k o (slot_at t k) kept now new
does a f t (op.Send k x method args) o kept now new =
    sends_over a f t k o (slot_at t k) (phone_by a.pool f (handle_at t x)) kept now new
does a f t (op.Wait k) o kept now new = waits_slot a f t k (slot_at t k) kept now refl
does a f t op.Next o kept now new =
    asks_next a f t (conns.take_answer (conn_of_fibril f a.conns)) kept now refl
does a f t op.Yield o kept now new =
    same_slots (record a { order = yield_now a.order }) f t (at_next t)
    (eased a (yield_now a.order) kept (eases_yield a.order f kept.order now.current))
    now.context refl
does a f t (op.OpenSession s phone m) o kept now new =
    opens a f t s (value_in t.registers phone) m (session_at a.pool s) kept now refl
does a f t (op.Begin x s) o kept now new =
    begins_as a f t x s o (plan_begin a f t x s) kept now new refl
does a f t (op.End x) o kept now new = ends a f t x (handle_at t x) kept now
does a f t (op.Close s) o kept now new = closes_as a f t s o (plan_close a s) kept now refl
does a f t p o kept now new = same_slots a f t (after_raw t p o) kept now.context refl

-- an answer comes

connect_keeps : (a : AsyncState) (f : FibrilNo) (t : Context) (x s phone : ℕ)
    (m : Option ExchangeMode) → Keeps a → context_at a f ≡ Some t →
    mode_answer (session_at a.pool s) ≡ m → Keeps (connect a f t x s phone m).state
connect_keeps a f t x s phone (Some mode.Parallel) kept is of =
    let p : Open = added a.pool f s phone mode.Parallel in
    same_slots (with_pool a p) f t (after_begun t x (record { 0 = a.pool.next_number }))
    (upheld a p kept (sound_connected a.pool f s phone kept.pool of)
    (added_upholds a.pool f s phone mode.Parallel)) is refl
connect_keeps a f t x s phone (Some mode.Atomic) kept is of = kept
connect_keeps a f t x s phone (Some mode.Serialize) kept is of = kept
connect_keeps a f t x s phone None kept is of = kept

answers_begin_by : (a : AsyncState) (f : FibrilNo) (t : Context) (x s : ℕ) (r : Reply) (b : Bool) →
    Keeps a → context_at a f ≡ Some t → Keeps (answer_begin_by a f t x s r b).state
answers_begin_by a f t x s r true kept is =
    connect_keeps a f t x s (slice_index r.args 4) (mode_answer (session_at a.pool s)) kept is refl
answers_begin_by a f t x s r false kept is =
    refused_connect a f t r.code (r.code.0 == elimit.0) kept is

pub answers_begin : (a : AsyncState) (f : FibrilNo) (t : Context) (r : Reply) (p : Option Op) →
    Keeps a → context_at a f ≡ Some t → Keeps (answer_begin_at a f t r p).state
answers_begin a f t r (Some (op.Begin x s)) kept is =
    answers_begin_by a f t x s r (r.code.0 == eok.0) kept is
answers_begin a f t r _ kept is = kept
