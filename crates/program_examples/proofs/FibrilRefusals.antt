-- The laws of what fibrils are refused, and of begins that met the limit, over the definitions.
use Rattle.std.proofs.Common.{◌≡◌, inl, inr, ◌-◌, ◌^◌, ◌<◌, ◌≤◌, ℕ, zero, suc, ◌==◌, Bool, true, false, List, [], ◌∷◌, length, Option, Some, None, refl, sym, ap, ◌∙◌, subst, arith}
use Rattle.std.specs.Prelude.{◌&&◌, slice_get, slice_index, position, if◌then◌else◌}
use Rattle.std.proofs.lemmas.Bool.{eq-eqb, ne_eqb, eqb-true, eqb-false, or_left, or_right, false_from_ne_true, true_from_ne_false, lt-ltb}
use Rattle.ipc_ids.specs.declared.numbers.CallNo.{CallNo}
use Rattle.ipc_ids.specs.declared.numbers.Code.{Code}
use Rattle.ipc_ids.specs.declared.numbers.FibrilNo.{FibrilNo}
use Rattle.ipc_ids.specs.declared.numbers.ExchangeNo.{ExchangeNo}
use Rattle.ipc_ids.specs.declared.message.ExchangeMode.{ExchangeMode}
use Rattle.ipc_ids.specs.declared.message.ExchangeMode.TheVariants as mode
use Rattle.ipc_ids.specs.declared.message.Reply.{Reply}
use Rattle.ipc_ids.specs.declared.message.Why.{Why}
use Rattle.ipc_ids.specs.declared.message.Request.TheVariants as ask
use Rattle.ipc_ids.specs.declared.message.Outcome.{Outcome}
use Rattle.ipc_ids.specs.declared.message.Outcome.TheVariants as got
use Rattle.ipc_ids.specs.declared.op.Op.{Op}
use Rattle.ipc_ids.specs.declared.op.Op.TheVariants as op
use Rattle.ipc_ids.specs.Codes.{eok, elimit}
use Rattle.fibril_core.specs.Fibrils.{current, why_of}
use Rattle.fibril_core.specs.Conns.{serves}
use Rattle.async_sessions.specs.declared.sessions.Begin.{Begin}
use Rattle.async_sessions.specs.declared.sessions.Begin.TheVariants as begin
use Rattle.async_sessions.specs.declared.sessions.Held.{Held}
use Rattle.async_sessions.specs.declared.sessions.Held.TheVariants.{By, Idle}
use Rattle.async_sessions.specs.declared.sessions.Session.{Session}
use Rattle.async_sessions.specs.declared.sessions.Exchange.{Exchange}
use Rattle.async_sessions.specs.Sessions.{Open, session_at, mode_answer, exchange_at, same_held, held_in, held_by, phone_answer, first_idle, any_begun, begun_after, added, serial_of, idle_of, unless_idle, short_of, begin_in}
use Rattle.async_sessions.specs.SessionLaws.{HasOneBegun, HasNoneBegun}
use Rattle.async_sessions.proofs.Searches.{none_begun, one_begun}
use Rattle.async_task.specs.declared.context.Context.{Context}
use Rattle.async_task.specs.Turns as turn
use Rattle.async_task.specs.Turns.{turn_now, work_turn, fibril_turn, turn_of}
use Rattle.async_task.specs.Contexts.{handle_in, handle_at, after_refused, after_begun, with_short}
use Rattle.async_task.specs.AsyncState.{AsyncState, Transition, context_at, present_op, with_context}
use Rattle.async_task.specs.Kept.{kept_in, kept_at}
use Rattle.async_task.specs.Calls.{refuse_op}
use Rattle.async_task.specs.Exchanges.{with_pool, begin_exchange, connect_refused_by, connect_outcome, begin_op}
use Rattle.async_task.specs.Answers.{is_for, wake_if, forget_call, connect, answer_begin_by}
use Rattle.async_task.specs.Wanted.{wanted, phone_by, unless_held, plan_begin, is_begin_of, begins_in, is_blocked, waits_for, any_waits}
use Rattle.async_task.specs.Steps.{step}
use Rattle.program_examples.specs.Apart.{code}
use Rattle.program_examples.specs.FibrilLaws.{Does, IsRefused, HasBegun, HasNotBegun, CallsGoAsGiven, SendsGoOverTheExchange, WaitsInABegin, ClosesMindWhoWaits, BeginsAreRefused, OthersAreRefused, TasksAnswerWhatTheyOwe, ShortEndsWithItsBegin}
use Rattle.program_examples.proofs.BlockLaws.{set_here, none_at_all}
use Rattle.program_examples.proofs.FibrilLaws.{value_is, message_is}
use Rattle.std.proofs.lemmas.Option.{same_Some, slice_get_within}

-- ---- whose turn it is, and what it keeps

turn_keeps : (a : AsyncState) (f : FibrilNo) (t : Context) (p : Option Op) → turn_now a ≡ turn.Run f t p
    → context_at a f ≡ Some t
turn_keeps a f t p is = by_work a.work is where
  by_fibril : (g : FibrilNo) (k : Option Context) → context_at a g ≡ k → turn_of a g k ≡ turn.Run f t p
      → context_at a f ≡ Some t
  by_fibril g None at e = absurd (cc e)
  by_fibril g (Some u) at e =
      let same : g ≡ f = cc e in
      let keeps : u ≡ t = cc e in
      subst (λ (h : FibrilNo). context_at a h ≡ Some t) same (at ∙ ap (λ (c : Context). Some c) keeps)

  by_current : (c : Option FibrilNo) → fibril_turn a c ≡ turn.Run f t p → context_at a f ≡ Some t
  by_current None e = absurd (cc e)
  by_current (Some g) e = by_fibril g (context_at a g) refl e

  by_work : (ws : List (CallNo × Code)) → work_turn a ws ≡ turn.Run f t p → context_at a f ≡ Some t
  by_work [] e = by_current (current a.order) e
  by_work (w ∷ ws) e = absurd (cc e)

kept_is : (ts : List (Option Context)) (i : ℕ) (t : Context) → kept_at ts i ≡ Some t → slice_get ts i ≡ Some (Some t)
kept_is ts i t at = by_place (slice_get ts i) at where
  by_place : (o : Option (Option Context)) → kept_in o ≡ Some t → o ≡ Some (Some t)
  by_place None e = absurd (cc e)
  by_place (Some k) e = ap (λ (c : Option Context). Some c) e

-- what stands at the place of a fibril that keeps something else from now on
now_keeps : (a : AsyncState) (f : FibrilNo) (t u : Context) → context_at a f ≡ Some t
    → slice_get (with_context a f u).contexts (f.0 - 1) ≡ Some (Some u)
now_keeps a f t u keeps = rw keeps
    (set_here a.contexts (f.0 - 1) (Some t) (Some u) (kept_is a.contexts (f.0 - 1) t keeps))

now_is : (a : AsyncState) (f : FibrilNo) (t u v : Context) → context_at a f ≡ Some t
    → context_at (with_context a f v) f ≡ Some u → v ≡ u
now_is a f t u v keeps is = same_Some v u (sym (ap kept_in (now_keeps a f t v keeps)) ∙ is)

-- ---- refusals

refusal : (n : ℕ) (a : AsyncState) (f : FibrilNo) (t : Context) (o : Op) (b : Bool) → Does f t o a
    → wanted a ≡ ask.Nothing
    → ((out : Outcome) → step a out ≡ refuse_op a f (record t { short = b }) (code n)) → IsRefused n f t a
refusal n a f t o b does asks steps = record {
  nothing = asks;
  told = λ out. rw (steps out) refl;
  after = after_refused (record t { short = b }) (code n);
  keeps = λ out. rw (steps out) (now_keeps a f t (after_refused (record t { short = b }) (code n)) (turn_keeps a f t (Some o) does));
  registers = refl;
  place = λ h. rw (lt-ltb t.place (2 ^ 62) h) refl;
  slots = refl;
  handles = refl;
}

-- ---- calls and sends

phone_is : (f : FibrilNo) (t : Context) (x phone : ℕ) (a : AsyncState) → HasBegun f t x phone a
    → phone_by a.pool f (handle_at t x) ≡ Some phone
phone_is f t x phone a b = rw (b.named, b.there, b.held, eq-eqb f.0 f.0 refl, b.over) refl

phone_none : (f : FibrilNo) (t : Context) (x : ℕ) (a : AsyncState) → HasNotBegun f t x a
    → phone_by a.pool f (handle_at t x) ≡ None
phone_none f t x a h = by_handle (slice_get t.handles x) refl where
  by_holder : (e : ExchangeNo) (y : Exchange) → slice_get t.handles x ≡ Some (Some e)
      → exchange_at e a.pool.exchanges ≡ Some y
      → (g : FibrilNo) → y.held ≡ By g → (b : Bool) → (g.0 == f.0) ≡ b
      → phone_answer (if b then Some y else None) ≡ None
  by_holder e y named there g held true same =
      let own : g ≡ f = ap (λ (n : ℕ). record { 0 = n }) (eqb-true g.0 f.0 same) in
      absurd (h.none e y named there (held ∙ ap (λ (i : FibrilNo). By i) own))
  by_holder e y named there g held false same = refl

  by_held : (e : ExchangeNo) (y : Exchange) → slice_get t.handles x ≡ Some (Some e)
      → exchange_at e a.pool.exchanges ≡ Some y
      → (d : Held) → y.held ≡ d → phone_answer (if same_held d (By f) then Some y else None) ≡ None
  by_held e y named there Idle held = refl
  by_held e y named there (By g) held = by_holder e y named there g held (g.0 == f.0) refl

  by_exchange : (e : ExchangeNo) → slice_get t.handles x ≡ Some (Some e) → (o : Option Exchange)
      → exchange_at e a.pool.exchanges ≡ o → phone_answer (held_in f o) ≡ None
  by_exchange e named None there = refl
  by_exchange e named (Some y) there = by_held e y named there y.held refl

  by_handle : (o : Option (Option ExchangeNo)) → slice_get t.handles x ≡ o → phone_by a.pool f (handle_in o) ≡ None
  by_handle None named = refl
  by_handle (Some None) named = refl
  by_handle (Some (Some e)) named = by_exchange e named (exchange_at e a.pool.exchanges) refl

pub calls : CallsGoAsGiven
calls = record {
  asked = λ a f t k phone method args p msg does free over message.
      rw (does, free, value_is t.registers phone p over, message_is t.registers method args msg message) refl;
  busy = λ a f t k phone method args does used. elim used [
    | inl one ↦ refusal 8 a f t (op.CallSlot k phone method args) t.short does (rw (
      does,
      one.1,
    ) refl) (λ out. rw (does, one.1) refl)
    | inr one ↦ refusal 8 a f t (op.CallSlot k phone method args) t.short does (rw (
      does,
      one.2,
    ) refl) (λ out. rw (does, one.2) refl)
  ];
}

pub sends : SendsGoOverTheExchange
sends = record {
  asked = λ a f t k x phone method args msg does begun free message.
      rw (does, phone_is f t x phone a begun, free, message_is t.registers method args msg message) refl;
  none = λ a f t k x method args does not. refusal 1 a f t (op.Send k x method args) t.short does (rw (
    does,
    phone_none f t x a not,
  ) refl) (λ out. rw (does, phone_none f t x a not) refl);
  busy = λ a f t k x phone method args does begun used. elim used [
    | inl one ↦ refusal 8 a f t (op.Send k x method args) t.short does (rw (
      does,
      phone_is f t x phone a begun,
      one.1,
    ) refl) (λ out. rw (does, phone_is f t x phone a begun, one.1) refl)
    | inr one ↦ refusal 8 a f t (op.Send k x method args) t.short does (rw (
      does,
      phone_is f t x phone a begun,
      one.2,
    ) refl) (λ out. rw (does, phone_is f t x phone a begun, one.2) refl)
  ];
}

-- ---- closes

-- a fibril that waits in a begin is found
waits_here : (s : ℕ) (a : AsyncState) (w : WaitsInABegin s a) → waits_for a s w.fibril ≡ true
waits_here s a w = rw (w.blocked, w.keeps, w.begins, eq-eqb s s refl) refl

waits_within : (s : ℕ) (a : AsyncState) (w : WaitsInABegin s a) (n : ℕ) → w.fibril.0 ≤ n → any_waits n a s ≡ true
waits_within s a w zero h = absurd (none (omega (arith, h, w.numbered))) where
  none : 1 ≤ 0 → ⊥
  none e = omega (arith, e)
waits_within s a w (suc n) h = by_last (w.fibril.0 == suc n) refl (waits_within s a w n) where
  smaller : (w.fibril.0 ≡ suc n → ⊥) → w.fibril.0 ≤ n
  smaller apart = grind (arith, h, apart)

  by_last : (b : Bool) → (w.fibril.0 == suc n) ≡ b → (w.fibril.0 ≤ n → any_waits n a s ≡ true)
      → any_waits (suc n) a s ≡ true
  by_last true is earlier =
      let own : w.fibril ≡ record { 0 = suc n } =
      ap (λ (m : ℕ). record { 0 = m }) (eqb-true w.fibril.0 (suc n) is) in
      rw (subst (λ (g : FibrilNo). waits_for a s g ≡ true) own (waits_here s a w)) (or_right (any_waits n a s) true refl)
  by_last false is earlier =
      or_left (any_waits n a s) (waits_for a s (record { 0 = suc n }))
      (earlier (smaller (eqb-false w.fibril.0 (suc n) is)))

waits_at_all : (s : ℕ) (a : AsyncState) → WaitsInABegin s a → any_waits (length a.contexts) a s ≡ true
waits_at_all s a w = waits_within s a w (length a.contexts) numbered where
  there : w.fibril.0 - 1 < length a.contexts
  there = slice_get_within a.contexts (w.fibril.0 - 1) (Some w.kept) (kept_is a.contexts (w.fibril.0 - 1) w.kept w.keeps)

  numbered : w.fibril.0 ≤ length a.contexts
  numbered = omega (arith, there, w.numbered)

-- and where one is found it waits in a begin
found_waits : (s : ℕ) (a : AsyncState) (f : FibrilNo) → 1 ≤ f.0 → waits_for a s f ≡ true → WaitsInABegin s a
found_waits s a f numbered is = by_why (why_of a.order f) refl is where
  by_op : (w : Why) (t : Context) → why_of a.order f ≡ Some w → context_at a f ≡ Some t → (o : Option Op)
      → present_op a t ≡ o → is_begin_of s o ≡ true → WaitsInABegin s a
  by_op w t blocked keeps (Some (op.Begin x r)) at e = record {
    fibril = f;
    numbered = numbered;
    on = w;
    blocked = blocked;
    kept = t;
    keeps = keeps;
    handle = x;
    begins = at ∙ ap (λ (q : ℕ). Some (op.Begin x q)) (eqb-true r s e);
  }
  by_op w t blocked keeps _ at e = absurd (cc e)

  by_kept : (w : Why) → why_of a.order f ≡ Some w → (k : Option Context) → context_at a f ≡ k
      → begins_in a s k ≡ true → WaitsInABegin s a
  by_kept w blocked None keeps e = absurd (cc e)
  by_kept w blocked (Some t) keeps e = by_op w t blocked keeps (present_op a t) refl e

  by_why : (w : Option Why) → why_of a.order f ≡ w → (is_blocked w && begins_in a s (context_at a f)) ≡ true
      → WaitsInABegin s a
  by_why None blocked e = absurd (cc e)
  by_why (Some w) blocked e = by_kept w blocked (context_at a f) refl e

none_waits : (s : ℕ) (a : AsyncState) → (WaitsInABegin s a → ⊥) → (n : ℕ) → any_waits n a s ≡ false
none_waits s a none zero = refl
none_waits s a none (suc n) = rw (none_waits s a none n) (false_from_ne_true (waits_for a s (record { 0 = suc n }))
    (λ is. none (found_waits s a (record { 0 = suc n }) (omega arith) is)))

is_begun : (s : ℕ) (xs : List Exchange) → HasOneBegun s xs → any_begun s xs ≡ true
is_begun s xs one = true_from_ne_false (any_begun s xs) (λ is. none_begun s xs is one.0 one.1)

is_not_begun : (s : ℕ) (xs : List Exchange) → HasNoneBegun s xs → any_begun s xs ≡ false
is_not_begun s xs none = false_from_ne_true (any_begun s xs) (λ is. let one = one_begun s xs is in none one.0 one.1)

pub closes : ClosesMindWhoWaits
closes = record {
  none = λ a f t s does none.
      refusal 1 a f t (op.Close s) t.short does (rw (does, none) refl) (λ out. rw (does, none) refl);
  waiting = λ a f t s x does there w. refusal 8 a f t (op.Close s) t.short does (rw (
    does,
    there,
    waits_at_all s a w,
  ) refl) (λ out. rw (does, there, waits_at_all s a w) refl);
  begun = λ a f t s x does there one. refusal 8 a f t (op.Close s) t.short does
      (rw (does, there, is_begun s a.pool.exchanges one, or_right (any_waits (length a.contexts) a s) true refl) refl)
      (λ out. rw (does, there, is_begun s a.pool.exchanges one, or_right (any_waits (length a.contexts) a s) true refl) refl);
  goes = λ a f t s x does there nobody none.
      by_idle a f t s x does there nobody none (first_idle (Some s) a.pool.exchanges) refl;
} where
  by_idle : (a : AsyncState) (f : FibrilNo) (t : Context) (s : ℕ) (x : Session) → Does f t (op.Close s) a
      → session_at a.pool s ≡ Some x
      → (WaitsInABegin s a → ⊥) → HasNoneBegun s a.pool.exchanges → (i : Option Exchange) → first_idle
      (Some s) a.pool.exchanges ≡ i → (phone : ℕ) × (wanted a ≡ ask.Hangup phone)
  by_idle a f t s x does there nobody none None is = (
    x.phone,
    rw (does, there, none_waits s a nobody (length a.contexts), is_not_begun s a.pool.exchanges none, is) refl,
  )
  by_idle a f t s x does there nobody none (Some y) is = (
    y.phone,
    rw (does, there, none_waits s a nobody (length a.contexts), is_not_begun s a.pool.exchanges none, is) refl,
  )

-- ---- begins

-- a begin of a session in use is not refused as such, so that the handle decides
held_decides : (o : Open) (s : ℕ) (short : Bool) (u : Session) (phone : ℕ) (m : ExchangeMode)
    → unless_held (begin_in o s short u m) (Some phone) ≡ begin.Refused (code 8)
held_decides o s short u phone mode.Atomic = refl
held_decides o s short u phone mode.Serialize = by_begun (any_begun s o.exchanges) where
  by_begun : (b : Bool) → unless_held (serial_of o u b) (Some phone) ≡ begin.Refused (code 8)
  by_begun true = refl
  by_begun false = refl
held_decides o s short u phone mode.Parallel = by_idle (first_idle (Some s) o.exchanges) where
  by_any : (i : Option Exchange) → unless_held (short_of i) (Some phone) ≡ begin.Refused (code 8)
  by_any None = refl
  by_any (Some x) = refl

  by_short : (b : Bool) → unless_held (unless_idle o u b) (Some phone) ≡ begin.Refused (code 8)
  by_short false = refl
  by_short true = by_any (first_idle None o.exchanges)

  by_idle : (i : Option Exchange) → unless_held (idle_of o short u i) (Some phone) ≡ begin.Refused (code 8)
  by_idle (Some x) = refl
  by_idle None = by_short short

pub begins : BeginsAreRefused
begins = record {
  none = λ a f t x s does none.
      refusal 1 a f t (op.Begin x s) false does (rw (does, none) refl) (λ out. rw (does, none) refl);
  busy = λ a f t x s phone u does there begun.
      let plan : plan_begin a f t x s ≡ begin.Refused (code 8) = rw (
        there,
        phone_is f t x phone a begun,
      ) (held_decides a.pool s t.short u phone u.mode) in
      refusal 8 a f t (op.Begin x s) false does (rw (does, plan) refl) (λ out. rw (does, plan) refl);
}

-- ---- other operations

no_phone : (o : Option Exchange) → phone_answer o ≡ None → o ≡ None
no_phone None e = refl
no_phone (Some x) e = absurd (cc e)

pub others : OthersAreRefused
others = record {
  open_session = λ a f t s phone m u does there.
      refusal 8 a f t (op.OpenSession s phone m) t.short does (rw does refl) (λ out. rw (does, there) refl);
  wait = λ a f t k does free. refusal 1 a f t (op.Wait k) t.short does (rw does refl) (λ out. rw (does, free) refl);
  next = λ a f t does none.
      let nowhere : position (serves f) a.conns ≡ None = none_at_all (serves f) a.conns
      (λ i c at. ne_eqb c.fibril.0 f.0 (none i c at)) in
      refusal 1 a f t op.Next t.short does (rw does refl) (λ out. rw (does, nowhere) refl);
  end_exchange = λ a f t x does not.
      refusal 1 a f t (op.End x) t.short does (rw does refl) (λ out.
      ending a f t x does not out (slice_get t.handles x) refl);
} where
  ending : (a : AsyncState) (f : FibrilNo) (t : Context) (x : ℕ) → Does f t (op.End x) a → HasNotBegun f t x a
      → (out : Outcome) (h : Option (Option ExchangeNo)) → slice_get t.handles x ≡ h
      → step a out ≡ refuse_op a f t (code 1)
  ending a f t x does not out None named = rw (does, named) refl
  ending a f t x does not out (Some None) named = rw (does, named) refl
  ending a f t x does not out (Some (Some e)) named =
      let over : phone_by a.pool f (handle_at t x) ≡ None = phone_none f t x a not in
      let gone : held_by f e a.pool.exchanges ≡ None =
      no_phone (held_by f e a.pool.exchanges)
      (sym (ap (λ (o : Option (Option ExchangeNo)). phone_by a.pool f (handle_in o)) named) ∙ over) in
      rw (does, named, gone) refl

pub owed : TasksAnswerWhatTheyOwe
owed a n c rest is = record { asked = rw is refl; stays = λ o. rw is refl }

-- ---- what is kept in mind of the limit

-- a fibril that stands where it stood has not ended its begin
stays : (a : AsyncState) (f : FibrilNo) (t u : Context) → context_at a f ≡ Some t → context_at a f ≡ Some u
    → (u.place ≡ t.place → ⊥) → u.short ≡ false
stays a f t u keeps is moved = absurd (moved (ap (λ (c : Context). c.place) (same_Some u t (sym is ∙ keeps))))

marked : (a : AsyncState) (f : FibrilNo) (t u : Context) (b : Bool) → context_at a f ≡ Some t
    → context_at (with_context a f (with_short t b)) f ≡ Some u → (u.place ≡ t.place → ⊥) → u.short ≡ false
marked a f t u b keeps is moved = absurd (moved (ap (λ (c : Context).
    c.place) (sym (now_is a f t u (with_short t b) keeps is))))

refused_begin : (a : AsyncState) (f : FibrilNo) (t u : Context) (c : Code) → context_at a f ≡ Some t
    → context_at (with_context a f (after_refused (with_short t false) c)) f ≡ Some u → u.short ≡ false
refused_begin a f t u c keeps is = ap (λ (d : Context).
    d.short) (sym (now_is a f t u (after_refused (with_short t false) c) keeps is))

ended_begin : (a : AsyncState) (f : FibrilNo) (t u : Context) (x : ℕ) (e : ExchangeNo) → context_at a f ≡ Some t
    → context_at (with_context a f (after_begun t x e)) f ≡ Some u → u.short ≡ false
ended_begin a f t u x e keeps is = ap (λ (d : Context). d.short) (sym (now_is a f t u (after_begun t x e) keeps is))

by_limit : (a : AsyncState) (f : FibrilNo) (t u : Context) (c : Code) (b : Bool) → context_at a f ≡ Some t
    → context_at (connect_refused_by a f t c b).state f ≡ Some u → (u.place ≡ t.place → ⊥) → u.short ≡ false
by_limit a f t u c true keeps is moved = marked a f t u true keeps is moved
by_limit a f t u c false keeps is moved = refused_begin a f t u c keeps is

by_outcome : (a : AsyncState) (f : FibrilNo) (t u : Context) (o : Outcome) → context_at a f ≡ Some t
    → context_at (connect_outcome a f t o).state f ≡ Some u → (u.place ≡ t.place → ⊥) → u.short ≡ false
by_outcome a f t u (got.Accepted n) keeps is moved = stays a f t u keeps is moved
by_outcome a f t u (got.Refused c) keeps is moved = by_limit a f t u c (c.0 == elimit.0) keeps is moved
by_outcome a f t u _ keeps is moved = stays a f t u keeps is moved

by_mode : (a : AsyncState) (f : FibrilNo) (t u : Context) (x s : ℕ) (e : ExchangeNo) (phone : ℕ)
    (m : Option ExchangeMode) → context_at a f ≡ Some t
    → context_at (begin_exchange a f t x s e phone m).state f ≡ Some u → (u.place ≡ t.place → ⊥) → u.short ≡ false
by_mode a f t u x s e phone None keeps is moved = stays a f t u keeps is moved
by_mode a f t u x s e phone (Some m) keeps is moved =
    ended_begin (with_pool a (begun_after a.pool f s e phone m)) f t u x e keeps is

by_plan : (a : AsyncState) (f : FibrilNo) (t u : Context) (x s : ℕ) (o : Outcome) (plan : Begin)
    → context_at a f ≡ Some t
    → context_at (begin_op a f t x s o plan).state f ≡ Some u → (u.place ≡ t.place → ⊥) → u.short ≡ false
by_plan a f t u x s o (begin.Begun e phone) keeps is moved =
    by_mode a f t u x s e phone (mode_answer (session_at a.pool s)) keeps is moved
by_plan a f t u x s o (begin.Connect phone) keeps is moved = by_outcome a f t u o keeps is moved
by_plan a f t u x s o (begin.HangIdle e phone) keeps is moved = marked a f t u false keeps is moved
by_plan a f t u x s o begin.WaitMutex keeps is moved = stays a f t u keeps is moved
by_plan a f t u x s o begin.WaitPhone keeps is moved = marked a f t u false keeps is moved
by_plan a f t u x s o (begin.Refused c) keeps is moved = refused_begin a f t u c keeps is
by_plan a f t u x s o begin.NoMemory keeps is moved = stays a f t u keeps is moved

by_connect : (a : AsyncState) (f : FibrilNo) (t u : Context) (x s phone : ℕ) (m : Option ExchangeMode)
    → context_at a f ≡ Some t
    → context_at (connect a f t x s phone m).state f ≡ Some u → (u.place ≡ t.place → ⊥) → u.short ≡ false
by_connect a f t u x s phone (Some mode.Parallel) keeps is moved =
    ended_begin (with_pool a (added a.pool f s phone mode.Parallel)) f t u x (record { 0 = a.pool.next_number }) keeps is
by_connect a f t u x s phone _ keeps is moved = stays a f t u keeps is moved

by_answer : (a : AsyncState) (f : FibrilNo) (t u : Context) (x s : ℕ) (said : Reply) (b : Bool)
    → context_at a f ≡ Some t
    → context_at (answer_begin_by a f t x s said b).state f ≡ Some u → (u.place ≡ t.place → ⊥) → u.short ≡ false
by_answer a f t u x s said true keeps is moved =
    by_connect a f t u x s (slice_index said.args 4) (mode_answer (session_at a.pool s)) keeps is moved
by_answer a f t u x s said false keeps is moved = by_limit a f t u said.code (said.code.0 == elimit.0) keeps is moved

pub short_ends : ShortEndsWithItsBegin
short_ends = record {
  own = λ a f t u x s o does is moved.
      let steps : step a o ≡ begin_op a f t x s o (plan_begin a f t x s) = rw does refl in
      by_plan a f t u x s o (plan_begin a f t x s) (turn_keeps a f t (Some (op.Begin x s)) does)
      (sym (ap (λ (z : Transition). context_at z.state f) steps) ∙ is) moved;
  answered = λ a f t u n said w is moved.
      let b : AsyncState = forget_call (wake_if a f (is_for n (why_of a.order f))) n in
      let state : (step a (got.Answered n said)).state ≡
      (answer_begin_by b f t w.handle w.session said (said.code.0 == eok.0)).state
      = rw (w.receives, w.awaited, w.keeps, w.begins) refl in
      by_answer b f t u w.handle w.session said (said.code.0 == eok.0) w.keeps
      (sym (ap (λ (z : AsyncState). context_at z f) state) ∙ is) moved;
}
