-- What becomes of a begin whose connect call meets the limit.
use Rattle.std.proofs.Common.{ℕ, suc, ◌-◌, ◌≡◌, ◌≢◌, ◌⊎◌, inl, inr, Bool, true, false}
use Rattle.std.proofs.Common.{Option, Some, None, List, refl, sym, ◌∙◌, ap, subst, arith}
use Rattle.std.specs.Prelude.{⊤, if◌then◌else◌, ◌==◌, ◌||◌, slice_index, position}
use Rattle.std.specs.List.{find}
use Rattle.std.proofs.lemmas.Bool.{eq-eqb, eqb-true}
use Rattle.ipc_ids.specs.declared.numbers.CallNo.{CallNo}
use Rattle.ipc_ids.specs.declared.numbers.Code.{Code}
use Rattle.ipc_ids.specs.declared.numbers.ExchangeNo.{ExchangeNo}
use Rattle.ipc_ids.specs.declared.numbers.FibrilNo.{FibrilNo}
use Rattle.ipc_ids.specs.declared.numbers.Label.{Label}
use Rattle.ipc_ids.specs.declared.message.Msg.{Msg}
use Rattle.ipc_ids.specs.declared.message.Reply.{Reply}
use Rattle.ipc_ids.specs.declared.message.Why.{Why}
use Rattle.ipc_ids.specs.declared.message.Why.TheVariants as why
use Rattle.ipc_ids.specs.declared.message.ExchangeMode.{ExchangeMode}
use Rattle.ipc_ids.specs.declared.message.ExchangeMode.TheVariants as mode
use Rattle.ipc_ids.specs.declared.message.Outcome.{Outcome}
use Rattle.ipc_ids.specs.declared.message.Outcome.TheVariants as outcome
use Rattle.ipc_ids.specs.declared.op.Op.{Op}
use Rattle.ipc_ids.specs.declared.op.Op.TheVariants as op
use Rattle.ipc_ids.specs.Codes.{eok, enoent, ebusy, elimit}
use Rattle.ipc_ids.specs.Methods.{connect_me_to}
use Rattle.ipc_ids.specs.Replies.{Waiter}
use Rattle.registers.specs.Registers.{value_in}
use Rattle.fibril_core.specs.declared.conn.Conn.{Conn}
use Rattle.fibril_core.specs.declared.conn.Taken.{Taken}
use Rattle.fibril_core.specs.declared.conn.Taken.TheVariants as taken
use Rattle.fibril_core.specs.declared.conn.Routed.TheVariants as routed
use Rattle.fibril_core.specs.declared.fibrils.Status.TheVariants.{Ready}
use Rattle.fibril_core.specs.Fibrils.{why_of, make_ready, next_number}
use Rattle.fibril_core.specs.FibrilLaws.{status_of}
use Rattle.fibril_core.specs.Conns as conns
use Rattle.fibril_core.specs.Conns.{conn_of_fibril, conn_of_label, fibril_of, route_answer, closes, take_answer}
use Rattle.fibril_core.proofs.Orders.{first_number, ready_becomes}
use Rattle.async_sessions.specs.declared.sessions.Session.{Session}
use Rattle.async_sessions.specs.declared.sessions.Exchange.{Exchange}
use Rattle.async_sessions.specs.declared.sessions.Begin.{Begin}
use Rattle.async_sessions.specs.declared.sessions.Begin.TheVariants as begin
use Rattle.async_sessions.specs.declared.sessions.Close.{Close}
use Rattle.async_sessions.specs.declared.sessions.Close.TheVariants as close
use Rattle.async_sessions.specs.Sessions.{Open, session_at, mode_answer, made, make_after, held_by}
use Rattle.async_sessions.specs.Sessions.{end_answer, end_after}
use Rattle.async_sessions.specs.Sessions.{begin_answer, begun_after, added, any_begun, first_idle, close_idle}
use Rattle.async_sessions.specs.Sessions.{close_answer, close_after}
use Rattle.async_sessions.specs.SessionLaws.{AnswersBegin, AnswersIn}
use Rattle.async_task.specs.declared.awaited.Awaited.{Awaited}
use Rattle.async_task.specs.declared.context.Slot.{Slot}
use Rattle.async_task.specs.declared.context.Slot.TheVariants as slot
use Rattle.async_task.specs.declared.context.Context.{Context}
use Rattle.async_task.specs.Turns.{Turn}
use Rattle.async_task.specs.Turns as turn
use Rattle.async_task.specs.Contexts.{slot_at, handle_at, with_slot, with_short, at_next, with_received}
use Rattle.async_task.specs.Contexts.{new_context, after_done, after_refused, after_accepted, after_answered}
use Rattle.async_task.specs.Contexts.{after_begun}
use Rattle.async_task.specs.Kept.{kept_at}
use Rattle.async_task.specs.Contexts.{after_ended, after_outcome}
use Rattle.async_task.specs.AsyncState.{AsyncState, Transition, context_at, with_context, present_op}
use Rattle.async_task.specs.Turns.{turn_now}
use Rattle.async_task.specs.Wanted.{plan_begin, plan_close, phone_by, unless_held, bare_msg}
use Rattle.async_task.specs.Calls.{refuse_op, block, call_slot, send_over, wait_slot, next_call, with_taken, after_raw}
use Rattle.async_task.specs.Exchanges.{with_pool, open_outcome, begin_exchange, connect_refused_by, connect_outcome}
use Rattle.async_task.specs.Exchanges.{begin_op, end_outcome, end_op, close_op}
use Rattle.async_task.specs.Answers.{is_of_call, connect, answer_begin_by, answer_begin_at, give_answer}
use Rattle.async_task.specs.Answers.{is_for, wake_if}
use Rattle.async_task.specs.Answers.{forget_call, take_answer as take_reply}
use Rattle.async_task.specs.Connections.{hand_over, reach_blocked, reach, after_route, route_call, reach_holder}
use Rattle.async_task.specs.Connections.{with_fibril, start_connection, connect_call, receive_call_by}
use Rattle.async_task.specs.Connections.{is_of_connections}
use Rattle.async_task.specs.Connections.{called_label}
use Rattle.async_task.specs.Steps.{do_op, manage, step_in, step}
use Rattle.async_laws.specs.KeptAnswers.{waiter, waiting}
use Rattle.async_laws.specs.NoLostWakes.{KeepsWakes}
use Rattle.async_laws.specs.LimitLaws.{Remembers, IsToConnect, RefusalsAreRemembered}
use Rattle.async_laws.specs.LimitLaws.{AnswersAreRemembered, TheShortDoNotConnect, WasRefused, WasAnswered}
use Rattle.async_laws.specs.LimitLaws.{OnlyTheLimitMakesShort, TellsNoLimit, NobodyIsToldTheLimit}
use Rattle.async_laws.proofs.AnswerFacts.{waiter_of, find_waiting}
use Rattle.async_laws.proofs.WakeCalls.{IsPresent}
use Rattle.async_laws.proofs.WakeFibrils.{present_is, context_push}
use Rattle.async_laws.proofs.WakeSlots.{context_get, context_set, kept_left}
use Rattle.async_laws.proofs.WakeSessions.{unless_is, answers_as}
use Rattle.async_laws.proofs.TakenCalls.{context_apart, present_number, waiting_number}

-- ---- a begin that met the limit sends no connect call

pub connect_in : (o : Open) (s : ℕ) (x : Session) (p : ℕ) (m : ExchangeMode) →
    AnswersIn o s true x (begin.Connect p) m → ⊥
connect_in o s x p mode.Atomic h = absurd (cc h)
connect_in o s x p mode.Serialize h = h
connect_in o s x p mode.Parallel h = absurd (cc h.1)

pub connect_says : (o : Open) (s : ℕ) (x : Option Session) (p : ℕ) →
    AnswersBegin o s true (begin.Connect p) x → ⊥
connect_says o s None p h = absurd (cc h)
connect_says o s (Some x) p h = connect_in o s x p x.mode h

pub the_short_do_not_connect : TheShortDoNotConnect
the_short_do_not_connect a f t x s p short h =
    connect_says a.pool s (session_at a.pool s) p
    (answers_as a.pool s true (begin.Connect p)
    (unless_is _ _ (phone_by a.pool f (handle_at t x)) (rw (← short) h) (λ c i. absurd (cc i))))

-- ---- a begin keeps it in mind

present_ready : (a : AsyncState) (f : FibrilNo) (t : Context) → KeepsWakes a → IsPresent a f t →
    status_of a.order f.0 ≡ Some Ready
present_ready a f t kept now = (first_number a.order Ready f kept.order now.current).here

-- after a fibril, which has a number, keeps it in mind
remembers : (a b : AsyncState) (f : FibrilNo) (t : Context) → suc (f.0 - 1) ≡ f.0 → context_at a f ≡ Some t →
    b.contexts ≡ a.contexts → b.pool ≡ a.pool → status_of b.order f.0 ≡ Some Ready →
    Remembers f t a (with_context b f (with_short t true))
remembers a b f t own keeps same pool ready = record {
  here = context_set b f t (with_short t true) (ap (λ (ts : List (Option Context)). kept_at ts (f.0 - 1)) same ∙ keeps);
  others = λ g some other.
      context_apart b f g (with_short t true) (λ e. other (omega (arith, e, some, own)))
      ∙ ap (λ (ts : List (Option Context)). kept_at ts (g.0 - 1)) same;
  ready = ready;
  pool = pool;
}

pub refusals_are_remembered : RefusalsAreRemembered
refusals_are_remembered a f t kept h =
    subst (λ (b : AsyncState). Remembers f t a b) (sym state)
    (remembers a a f t (present_number a f t kept now) now.context refl refl (present_ready a f t kept now))
  where
    now : IsPresent a f t
    now = present_is a f t (Some (op.Begin h.handle h.session)) a.work h.turn_is

    state : (step a (outcome.Refused elimit)).state ≡ with_context a f (with_short t true)
    state =
        ap (λ (r : Turn). (step_in a (outcome.Refused elimit) r).state) h.turn_is
        ∙ ap (λ (q : Begin). (begin_op a f t h.handle h.session (outcome.Refused elimit) q).state) h.plan

one_waiter : (x y : Waiter) → Some x ≡ Some y → (x.fibril ≡ y.fibril) × (x.slot ≡ y.slot)
one_waiter x y h = let same : x ≡ y = cc h in (ap (λ (z : Waiter). z.fibril) same, ap (λ (z : Waiter). z.slot) same)

pub answers_are_remembered : AnswersAreRemembered
answers_are_remembered a f t n reply kept h limited = by (find (is_of_call n) a.awaited) refl
  where
    Goal : AsyncState → Type 0
    Goal b = Remembers f t a b

    by : (w : Option Awaited) → find (is_of_call n) a.awaited ≡ w → Goal (step a (outcome.Answered n reply)).state
    by None e =
        let none : waiting n.0 a.awaited ≡ None = find_waiting n a.awaited ∙ ap waiter_of e in
        let some = h.awaits in
        absurd (cc (none, some))
    by (Some w) e =
        let two : (w.fibril.0 ≡ f.0) × (w.slot ≡ None) =
        one_waiter (waiter w) (record { fibril = f.0; slot = None })
        (sym (find_waiting n a.awaited ∙ ap waiter_of e) ∙ h.awaits) in
        let own : w.fibril ≡ f = ap (λ (i : ℕ). let x : FibrilNo = record { 0 = i } in x) two.0 in
        subst Goal (sym (state w own two.1 e))
        (remembers a woken f t (waiting_number a.order f.0 (why.Answer n) h.blocked) h.keeps refl refl
        (ready_becomes a.order f kept.order (rw h.blocked refl)).status)
      where
        woken : AsyncState
        woken = forget_call (wake_if a f true) n

        state : (w : Awaited) → w.fibril ≡ f → w.slot ≡ None → find (is_of_call n) a.awaited ≡ Some w →
            (step a (outcome.Answered n reply)).state ≡ with_context woken f (with_short t true)
        state w own unslotted e =
            ap (λ (r : Turn). (step_in a (outcome.Answered n reply) r).state) h.turn_is
            ∙ ap (λ (q : Option Awaited). (take_reply a n reply q).state) e
            ∙ ap (λ (g : FibrilNo). given g (is_for n (why_of a.order g)) w.slot) own
            ∙ ap (λ (q : Option ℕ). given f (is_for n (why_of a.order f)) q) unslotted
            ∙ ap (λ (b : Bool). given f b None) for_it
            ∙ ap (λ (q : Option Context). (give_answer woken f n reply true None q).state) h.keeps
            ∙ ap (λ (p : Option Op). (answer_begin_at woken f t reply p).state) h.begins
            ∙ ap (λ (b : Bool). (answer_begin_by woken f t h.handle h.session reply b).state) not_ok
            ∙ ap (λ (b : Bool). (connect_refused_by woken f t reply.code b).state) short
          where
            given : FibrilNo → Bool → Option ℕ → AsyncState
            given g b q = (give_answer (forget_call (wake_if a g b) n) g n reply b q (context_at a g)).state

            for_it : is_for n (why_of a.order f) ≡ true
            for_it = ap (is_for n) h.blocked ∙ eq-eqb n.0 n.0 refl

            not_ok : (reply.code.0 == eok.0) ≡ false
            not_ok = ap (λ (c : Code). c.0 == eok.0) limited

            short : (reply.code.0 == elimit.0) ≡ true
            short = ap (λ (c : Code). c.0 == elimit.0) limited

-- ---- only the limit does so, and nobody is told it

coded : (c : Code) (n : ℕ) → c.0 ≡ n → (n ≡ 5 → ⊥) → c ≢ elimit
coded c n is other e = other (sym is ∙ ap (λ (x : Code). x.0) e)

not_enoent : enoent ≢ elimit
not_enoent = coded enoent 1 refl (λ e. omega (arith, e))

not_ebusy : ebusy ≢ elimit
not_ebusy = coded ebusy 8 refl (λ e. omega (arith, e))

begin_in_mode : (o : Open) (s : ℕ) (short : Bool) (x : Session) (c : Code) (m : ExchangeMode) →
    AnswersIn o s short x (begin.Refused c) m → ⊥
begin_in_mode o s short x c mode.Atomic h = absurd (cc h)
begin_in_mode o s short x c mode.Serialize h = h
begin_in_mode o s short x c mode.Parallel h = h

begin_says : (o : Open) (s : ℕ) (short : Bool) (x : Option Session) (c : Code) →
    AnswersBegin o s short (begin.Refused c) x → c ≢ elimit
begin_says o s short None c h = let same : c ≡ enoent = cc h in λ e. not_enoent (sym same ∙ e)
begin_says o s short (Some x) c h = absurd (begin_in_mode o s short x c x.mode h)

held_says : (plan : Begin) (held : Option ℕ) (c : Code) → unless_held plan held ≡ begin.Refused c →
    (plan ≡ begin.Refused c) ⊎ (c ≡ ebusy)
held_says (begin.Refused d) held c h = inl h
held_says (begin.Begun e phone) None c h = absurd (cc h)
held_says (begin.Connect phone) None c h = absurd (cc h)
held_says (begin.HangIdle e phone) None c h = absurd (cc h)
held_says begin.WaitMutex None c h = absurd (cc h)
held_says begin.WaitPhone None c h = absurd (cc h)
held_says begin.NoMemory None c h = absurd (cc h)
held_says (begin.Begun e phone) (Some p) c h = inr (sym (cc h))
held_says (begin.Connect phone) (Some p) c h = inr (sym (cc h))
held_says (begin.HangIdle e phone) (Some p) c h = inr (sym (cc h))
held_says begin.WaitMutex (Some p) c h = inr (sym (cc h))
held_says begin.WaitPhone (Some p) c h = inr (sym (cc h))
held_says begin.NoMemory (Some p) c h = inr (sym (cc h))

begin_code : (a : AsyncState) (f : FibrilNo) (t : Context) (x s : ℕ) (c : Code) →
    plan_begin a f t x s ≡ begin.Refused c → c ≢ elimit
begin_code a f t x s c h =
    by (held_says (begin_answer a.pool s t.short (session_at a.pool s)) (phone_by a.pool f (handle_at t x)) c h)
  where
    by : (begin_answer a.pool s t.short (session_at a.pool s) ≡ begin.Refused c) ⊎ (c ≡ ebusy) → c ≢ elimit
    by (inl e) = begin_says a.pool s t.short (session_at a.pool s) c (answers_as a.pool s t.short (begin.Refused c) e)
    by (inr e) = λ i. not_ebusy (sym e ∙ i)

close_code : (o : Open) (s : ℕ) (waits : Bool) (x : Option Session) (c : Code) →
    close_answer o s waits x ≡ close.Refused c → c ≢ elimit
close_code o s waits None c h = let same : enoent ≡ c = cc h in λ e. not_enoent (same ∙ e)
close_code o s waits (Some x) c h = by (waits || any_begun s o.exchanges) h
  where
    idle : (q : Option Exchange) → close_idle x q ≡ close.Refused c → c ≢ elimit
    idle None g = absurd (cc g)
    idle (Some y) g = absurd (cc g)

    by : (b : Bool) →
        (if b then close.Refused ebusy else close_idle x (first_idle (Some s) o.exchanges)) ≡ close.Refused c →
        c ≢ elimit
    by true g = let same : ebusy ≡ c = cc g in λ e. not_ebusy (same ∙ e)
    by false g = idle (first_idle (Some s) o.exchanges) g

-- what each part of an event keeps, where X is to say of the fibril at a place that it met the limit
module _ (X : ℕ → Type 0) (a : AsyncState) where
  abbrev Was : ℕ → Type 0
  Was i = (t : Context) × (kept_at a.contexts i ≡ Some t) × (t.short ≡ true)

  abbrev KeepsShort : AsyncState → Type 0
  KeepsShort b = (i : ℕ) (u : Context) → kept_at b.contexts i ≡ Some u → u.short ≡ true → Was i ⊎ X i

  abbrev Fair : Transition → Type 0
  Fair s = KeepsShort s.state × TellsNoLimit s.entries

  same_short : (b : AsyncState) → b.contexts ≡ a.contexts → KeepsShort b
  same_short b same i u at short = inl (u, ap (λ (ts : List (Option Context)). kept_at ts i) (sym same) ∙ at, short)

  put_short : (b : AsyncState) (f : FibrilNo) (t u : Context) → b.contexts ≡ a.contexts → context_at a f ≡ Some t →
      (u.short ≡ true → (t.short ≡ true) ⊎ X (f.0 - 1)) → KeepsShort (with_context b f u)
  put_short b f t u same is keeps i x at short = by (context_get b f u x i at)
    where
      new : f.0 - 1 ≡ i → (t.short ≡ true) ⊎ X (f.0 - 1) → Was i ⊎ X i
      new e (inl h) = inl (t, subst (λ (j : ℕ). kept_at a.contexts j ≡ Some t) e is, h)
      new e (inr h) = inr (subst X e h)

      by : ((f.0 - 1 ≡ i) × (u ≡ x)) ⊎ (kept_at b.contexts i ≡ Some x) → Was i ⊎ X i
      by (inl e) = new e.0 (keeps (ap (λ (c : Context). c.short) e.1 ∙ short))
      by (inr e) = same_short b same i x e short

  module _ (f : FibrilNo) (t : Context) (is : context_at a f ≡ Some t) where
    -- it keeps that, and nothing of it is about the limit
    kept : (b : AsyncState) (u : Context) → b.contexts ≡ a.contexts → u.short ≡ t.short →
        KeepsShort (with_context b f u)
    kept b u same short = put_short b f t u same is (λ h. inl (sym short ∙ h))

    freed : (b : AsyncState) (u : Context) → b.contexts ≡ a.contexts → u.short ≡ false → KeepsShort (with_context b f u)
    freed b u same short = put_short b f t u same is (λ h. absurd (cc (short, h)))

    refused : (b : AsyncState) (c : Code) → b.contexts ≡ a.contexts → c ≢ elimit → Fair (refuse_op b f t c)
    refused b c same other = (kept b (after_refused t c) same refl, (other, tt))

    called : (k : ℕ) (o : Outcome) (s : Slot) → Fair (call_slot a f t k o s)
    called k (outcome.Accepted n) slot.Closed = (kept a (after_accepted t k n) refl refl, tt)
    called k (outcome.Refused c) slot.Closed = (kept a (after_refused t c) refl refl, tt)
    called k _ slot.Closed = (same_short a refl, tt)
    called k o (slot.Sent n) = refused a ebusy refl not_ebusy
    called k o (slot.Answered n r) = refused a ebusy refl not_ebusy

    sent : (k : ℕ) (o : Outcome) (s : Slot) (phone : Option ℕ) → Fair (send_over a f t k o s phone)
    sent k o s None = refused a enoent refl not_enoent
    sent k o s (Some phone) = called k o s

    waits : (k : ℕ) (s : Slot) → Fair (wait_slot a f t k s)
    waits k slot.Closed = refused a enoent refl not_enoent
    waits k (slot.Sent n) = (same_short (block a f (why.Answer n)).state refl, tt)
    waits k (slot.Answered n r) = (kept a (after_answered t k n r) refl refl, tt)

    nexts : (s : Taken) → Fair (next_call (with_taken a f) f t s)
    nexts (taken.Call n msg label) = (kept (with_taken a f) (at_next (with_received t n msg label)) refl refl, tt)
    nexts (taken.HungUp label) =
        (kept (with_taken a f) (at_next (with_received t (record { 0 = 0 }) (bare_msg 0) label)) refl refl, tt)
    nexts taken.Wait = (same_short (block (with_taken a f) f why.Message).state refl, tt)
    nexts taken.NoConnection = refused (with_taken a f) enoent refl not_enoent

    opened : (o : Open) (x : Option Session) → Fair (open_outcome (with_pool a o) f t (made x))
    opened o None = (kept (with_pool a o) (after_done t) refl refl, tt)
    opened o (Some x) = refused (with_pool a o) ebusy refl not_ebusy

    begun : (x s : ℕ) (e : ExchangeNo) (phone : ℕ) (m : Option ExchangeMode) → Fair (begin_exchange a f t x s e phone m)
    begun x s e phone None = (same_short a refl, tt)
    begun x s e phone (Some m) =
        (freed (with_pool a (begun_after a.pool f s e phone m)) (after_begun t x e) refl refl, tt)

    -- a connect call of a begin was refused
    limited_by : (b : AsyncState) (c : Code) (x : Bool) → b.contexts ≡ a.contexts → (c.0 == elimit.0) ≡ x →
        (c ≡ elimit → X (f.0 - 1)) → Fair (connect_refused_by b f t c x)
    limited_by b c true same e met =
        let five : c ≡ elimit = ap (λ (i : ℕ). let y : Code = record { 0 = i } in y) (eqb-true c.0 elimit.0 e) in
        (put_short b f t (with_short t true) same is (λ h. inr (met five)), tt)
    limited_by b c false same e met =
        let other : c ≢ elimit = λ i. absurd (cc (e, ap (λ (y : Code). y.0 == elimit.0) i)) in
        (freed b (after_refused (with_short t false) c) same refl, (other, tt))

    connected : (o : Outcome) → (o ≡ outcome.Refused elimit → X (f.0 - 1)) → Fair (connect_outcome a f t o)
    connected (outcome.Accepted n) met = (same_short (connect_outcome a f t (outcome.Accepted n)).state refl, tt)
    connected (outcome.Refused c) met =
        limited_by a c (c.0 == elimit.0) refl refl (λ e. met (ap (λ (y : Code). outcome.Refused y) e))
    connected _ met = (same_short a refl, tt)

    begins : (x s : ℕ) (o : Outcome) (plan : Begin) → plan_begin a f t x s ≡ plan →
        ((phone : ℕ) → plan ≡ begin.Connect phone → o ≡ outcome.Refused elimit → X (f.0 - 1)) →
        Fair (begin_op a f t x s o plan)
    begins x s o (begin.Begun e phone) is_plan met = begun x s e phone (mode_answer (session_at a.pool s))
    begins x s o (begin.Connect phone) is_plan met = connected o (met phone refl)
    begins x s o (begin.HangIdle e phone) is_plan met = (freed a (with_short t false) refl refl, tt)
    begins x s o begin.WaitMutex is_plan met = (same_short (begin_op a f t x s o begin.WaitMutex).state refl, tt)
    begins x s o begin.WaitPhone is_plan met = (freed a (with_short t false) refl refl, tt)
    begins x s o (begin.Refused c) is_plan met =
        (freed a (after_refused (with_short t false) c) refl refl, (begin_code a f t x s c is_plan, tt))
    begins x s o begin.NoMemory is_plan met = (same_short a refl, tt)

    ended_by : (o : Open) (x : ℕ) (e : ExchangeNo) (y : Option Exchange) →
        Fair (end_outcome (with_pool a o) f t x e (end_answer y))
    ended_by o x e None = refused (with_pool a o) enoent refl not_enoent
    ended_by o x e (Some y) = (kept (with_pool a o) (after_ended t x) refl refl, tt)

    ended : (x : ℕ) (h : Option ExchangeNo) → Fair (end_op a f t x h)
    ended x None = refused a enoent refl not_enoent
    ended x (Some e) = ended_by (end_after a.pool e (held_by f e a.pool.exchanges)) x e (held_by f e a.pool.exchanges)

    closed : (s : ℕ) (o : Outcome) (plan : Close) → plan_close a s ≡ plan → Fair (close_op a f t s o plan)
    closed s o (close.HangIdle e phone) is_plan =
        (same_short (close_op a f t s o (close.HangIdle e phone)).state refl, tt)
    closed s o (close.Last phone) is_plan =
        (kept (with_pool a (close_after a.pool s (close.Last phone))) (after_outcome t o) refl refl, tt)
    closed s o (close.Refused c) is_plan =
        refused (with_pool a (close_after a.pool s (close.Refused c))) c refl
        (close_code a.pool s _ (session_at a.pool s) c is_plan)

    does : (p : Op) (o : Outcome) →
        ((x s phone : ℕ) → p ≡ op.Begin x s → plan_begin a f t x s ≡ begin.Connect phone → o ≡ outcome.Refused elimit →
        X (f.0 - 1)) →
        Fair (do_op a f t p o)
    does (op.CallSlot k phone method args) o met = called k o (slot_at t k)
    does (op.Send k x method args) o met = sent k o (slot_at t k) (phone_by a.pool f (handle_at t x))
    does (op.Wait k) o met = waits k (slot_at t k)
    does op.Next o met = nexts (take_answer (conn_of_fibril f a.conns))
    does op.Yield o met = (kept a (at_next t) refl refl, tt)
    does (op.OpenSession s phone m) o met =
        opened (make_after a.pool s (value_in t.registers phone) m (session_at a.pool s)) (session_at a.pool s)
    does (op.Begin x s) o met =
        begins x s o (plan_begin a f t x s) refl (λ phone e g. met x s phone refl e g)
    does (op.End x) o met = ended x (handle_at t x)
    does (op.Close s) o met = closed s o (plan_close a s) refl
    does p o met = (kept a (after_raw t p o) refl refl, tt)

  -- a call comes

  handed : (b : AsyncState) (f : FibrilNo) (s : Taken) (q : Option Context) → b.contexts ≡ a.contexts →
      context_at a f ≡ q →
      KeepsShort (hand_over b f s q)
  handed b f (taken.Call n msg label) (Some t) same is = kept f t is b (at_next (with_received t n msg label)) same refl
  handed b f (taken.HungUp label) (Some t) same is =
      kept f t is b (at_next (with_received t (record { 0 = 0 }) (bare_msg 0) label)) same refl
  handed b f (taken.Call n msg label) None same is = same_short b same
  handed b f (taken.HungUp label) None same is = same_short b same
  handed b f taken.Wait q same is = same_short b same
  handed b f taken.NoConnection q same is = same_short b same

  reached : (cs : List Conn) (f : FibrilNo) (v : Option Why) → KeepsShort (reach_blocked (record a { conns = cs }) f v)
  reached cs f (Some why.Message) =
      handed (record a {
        conns =
            conns.take_next f cs;
        order = make_ready a.order f;
      }) f (take_answer (conn_of_fibril f cs))
      (context_at a f) refl refl
  reached cs f None = same_short (record a { conns = cs }) refl
  reached cs f (Some (why.Answer n)) = same_short (record a { conns = cs }) refl
  reached cs f (Some (why.Mutex s)) = same_short (record a { conns = cs }) refl
  reached cs f (Some why.Phone) = same_short (record a { conns = cs }) refl

  routed_short : (n : CallNo) (msg : Msg) (label : Label) → KeepsShort (route_call a n msg label)
  routed_short n msg label = by (conn_of_label label a.conns)
    where
      b : AsyncState
      b = record a { conns = conns.route label n msg a.conns }

      found : (c : Conn) (x : Bool) →
          KeepsShort (after_route b n (if x then routed.Closed c.fibril else routed.Queued c.fibril))
      found c true = reached b.conns c.fibril (why_of a.order c.fibril)
      found c false = reached b.conns c.fibril (why_of a.order c.fibril)

      by : (q : Option Conn) → KeepsShort (after_route b n (route_answer msg.method q))
      by None = same_short (after_route b n routed.Unknown) refl
      by (Some c) = found c (closes msg.method c)

  pushed : (b : AsyncState) (x : Context) → x.short ≡ false → KeepsShort b → KeepsShort (with_fibril b x)
  pushed b x new h i u at short = by (context_push b.contexts i x u at)
    where
      by : (x ≡ u) ⊎ (kept_at b.contexts i ≡ Some u) → Was i ⊎ X i
      by (inl e) = absurd (cc (new, ap (λ (c : Context). c.short) e, short))
      by (inr e) = h i u e short

  started : (n : CallNo) (msg : Msg) (from : Label) (body : ℕ) (label : Label) →
      Fair (start_connection a n msg from body label)
  started n msg from body label = by (fibril_of (conn_of_label label a.conns))
    where
      cs : List Conn
      cs = conns.start label (next_number a.order) a.conns

      by : (g : Option FibrilNo) →
          KeepsShort (with_fibril (reach_holder (record a {
            conns =
                cs;
          }) g) (with_received (new_context body) n msg from)) × ⊤
      by None = (
        pushed (record a {
          conns =
              cs;
        }) (with_received (new_context body) n msg from) refl (same_short (record a { conns = cs }) refl),
        tt,
      )
      by (Some g) = (
        pushed (reach (record a {
          conns =
              cs;
        }) g) (with_received (new_context body) n msg from) refl (reached cs g (why_of a.order g)),
        tt,
      )

  connects : (n : CallNo) (msg : Msg) (label : Label) (p : Option ℕ) → Fair (connect_call a n msg label p)
  connects n msg label None = (routed_short n msg label, tt)
  connects n msg label (Some body) = started n msg label body (called_label msg)

  receives : (n : CallNo) (msg : Msg) (label : Label) (x : Bool) → Fair (receive_call_by a n msg label x)
  receives n msg label true = connects n msg label (position is_of_connections a.bodies)
  receives n msg label false = (routed_short n msg label, tt)

  -- an answer comes

  module _ (b : AsyncState) (same : b.contexts ≡ a.contexts) (f : FibrilNo) (t : Context)
      (is : context_at a f ≡ Some t) where
    connected_by : (x s phone : ℕ) (m : Option ExchangeMode) → Fair (connect b f t x s phone m)
    connected_by x s phone (Some mode.Parallel) = (
      freed f t is (with_pool b (added b.pool f s phone mode.Parallel)) (after_begun t x (record {
        0 =
            b.pool.next_number;
      })) same refl,
      tt,
    )
    connected_by x s phone (Some mode.Atomic) = (same_short b same, tt)
    connected_by x s phone (Some mode.Serialize) = (same_short b same, tt)
    connected_by x s phone None = (same_short b same, tt)

    answered_by : (x s : ℕ) (r : Reply) (y : Bool) → (r.code ≡ elimit → X (f.0 - 1)) →
        Fair (answer_begin_by b f t x s r y)
    answered_by x s r true met = connected_by x s (slice_index r.args 4) (mode_answer (session_at b.pool s))
    answered_by x s r false met = limited_by f t is b r.code (r.code.0 == elimit.0) same refl met

    answered_at : (r : Reply) (p : Option Op) → (r.code ≡ elimit → X (f.0 - 1)) → Fair (answer_begin_at b f t r p)
    answered_at r (Some (op.Begin x s)) met = answered_by x s r (r.code.0 == eok.0) met
    answered_at r _ met = (same_short b same, tt)

  given : (b : AsyncState) → b.contexts ≡ a.contexts → (f : FibrilNo) (n : CallNo) (r : Reply) (y : Bool) (k : Option ℕ)
      (q : Option Context) → context_at a f ≡ q → (k ≡ None → r.code ≡ elimit → X (f.0 - 1)) →
      Fair (give_answer b f n r y k q)
  given b same f n r true (Some k) (Some t) is met = (kept f t is b (after_answered t k n r) same refl, tt)
  given b same f n r false (Some k) (Some t) is met = (kept f t is b (with_slot t k (slot.Answered n r)) same refl, tt)
  given b same f n r y None (Some t) is met = answered_at b same f t is r (present_op b t) (met refl)
  given b same f n r y (Some k) None is met = (same_short b same, tt)
  given b same f n r y None None is met = (same_short b same, tt)

  taken_reply : (n : CallNo) (r : Reply) (w : Option Awaited) →
      ((v : Awaited) → w ≡ Some v → v.slot ≡ None → r.code ≡ elimit → X (v.fibril.0 - 1)) → Fair (take_reply a n r w)
  taken_reply n r None met = (same_short a refl, tt)
  taken_reply n r (Some w) met =
      given (forget_call (wake_if a w.fibril (is_for n (why_of a.order w.fibril))) n) refl w.fibril n r
      (is_for n (why_of a.order w.fibril)) w.slot (context_at a w.fibril) refl (met w refl)

-- a fibril by its place
abbrev nth : ℕ → FibrilNo
nth i = record { 0 = suc i }

-- the fibril at a place met the limit in the event
abbrev Met : AsyncState → Outcome → ℕ → Type 0
Met a o i = WasRefused a o (nth i) ⊎ WasAnswered a o (nth i)

manages : (a : AsyncState) (o : Outcome) → turn_now a ≡ turn.Receive → Fair (Met a o) a (manage a o)
manages a (outcome.Received n msg label) is =
    receives (Met a (outcome.Received n msg label)) a n msg label (msg.method == connect_me_to)
manages a (outcome.Answered n r) is =
    taken_reply (Met a (outcome.Answered n r)) a n r (find (is_of_call n) a.awaited) met
  where
    met : (v : Awaited) → find (is_of_call n) a.awaited ≡ Some v → v.slot ≡ None → r.code ≡ elimit →
        Met a (outcome.Answered n r) (v.fibril.0 - 1)
    met v e none limit =
        inr (record {
          call = n;
          reply = r;
          told = refl;
          limited = limit;
          turn_is = is;
          fibril = v.fibril;
          own = omega arith;
          awaits =
              find_waiting n a.awaited ∙ ap waiter_of e
              ∙ ap (λ (k : Option ℕ). let x : Waiter = record { fibril = v.fibril.0; slot = k } in Some x) none;
        })
manages a o is = (same_short (Met a o) a a refl, tt)

turns : (a : AsyncState) (o : Outcome) (s : Turn) → KeepsWakes a → turn_now a ≡ s → Fair (Met a o) a (step_in a o s)
turns a o (turn.Work n c) kept is = (same_short (Met a o) a (step_in a o (turn.Work n c)).state refl, tt)
turns a o (turn.Run f t None) kept is = (λ i u at short. inl (u, kept_left a.contexts (f.0 - 1) i u at, short), tt)
turns a o (turn.Run f t (Some p)) kept is = does (Met a o) a f t now.context p o met
  where
    now : IsPresent a f t
    now = present_is a f t (Some p) a.work is

    met : (x s phone : ℕ) → p ≡ op.Begin x s → plan_begin a f t x s ≡ begin.Connect phone → o ≡ outcome.Refused elimit →
        Met a o (f.0 - 1)
    met x s phone e plan told =
        let own : f ≡ nth (f.0 - 1) =
        ap (λ (i : ℕ). let y : FibrilNo = record { 0 = i } in y) (sym (present_number a f t kept now)) in
        inl (
          told,
          (
            t,
            subst (λ (g : FibrilNo). IsToConnect g t a) own (record {
              handle = x;
              session = s;
              phone = phone;
              turn_is = is ∙ ap (λ (q : Op). turn.Run f t (Some q)) e;
              plan = plan;
            }),
          ),
        )
turns a o turn.Receive kept is = manages a o is

pub only_the_limit_makes_short : OnlyTheLimitMakesShort
only_the_limit_makes_short a o f u kept some at short =
    by ((turns a o (turn_now a) kept refl).0 (f.0 - 1) u at short)
  where
    own : nth (f.0 - 1) ≡ f
    own =
        let n : suc (f.0 - 1) ≡ f.0 = omega (arith, some) in
        ap (λ (i : ℕ). let y : FibrilNo = record { 0 = i } in y) n

    by : ((t : Context) × (kept_at a.contexts (f.0 - 1) ≡ Some t) × (t.short ≡ true)) ⊎ Met a o (f.0 - 1) →
        ((t : Context) × (context_at a f ≡ Some t) × (t.short ≡ true)) ⊎ (WasRefused a o f ⊎ WasAnswered a o f)
    by (inl h) = inl h
    by (inr h) = inr (subst (λ (g : FibrilNo). WasRefused a o g ⊎ WasAnswered a o g) own h)

tells_none : (a : AsyncState) (o : Outcome) (s : Turn) → turn_now a ≡ s → TellsNoLimit (step_in a o s).entries
tells_none a o (turn.Work n c) is = tt
tells_none a o (turn.Run f t None) is = tt
tells_none a o (turn.Run f t (Some p)) is =
    (does (λ i. ⊤) a f t (present_is a f t (Some p) a.work is).context p o (λ x s phone e g h. tt)).1
tells_none a (outcome.Received n msg label) turn.Receive is =
    (receives (λ i. ⊤) a n msg label (msg.method == connect_me_to)).1
tells_none a (outcome.Answered n r) turn.Receive is =
    (taken_reply (λ i. ⊤) a n r (find (is_of_call n) a.awaited) (λ v e g h. tt)).1
tells_none a _ turn.Receive is = tt

pub nobody_is_told_the_limit : NobodyIsToldTheLimit
nobody_is_told_the_limit a o = tells_none a o (turn_now a) refl
