-- Calls of fibrils keep that no wake-up is lost: those of a slot, and a wait for one.
use Rattle.std.proofs.Common.{ℕ, zero, suc, ◌+◌, ◌-◌, ◌≡◌, ◌<◌, ◌⊎◌, inl, inr, false}
use Rattle.std.proofs.Common.{Option, Some, None, List, [], ◌∷◌, ◌++◌, refl, sym, subst, arith}
use Rattle.std.specs.Prelude.{slice_get}
use Rattle.std.proofs.lemmas.Bool.{cases_eq, eq-eqb, ne_eqb}
use Rattle.ipc_ids.specs.declared.numbers.CallNo.{CallNo}
use Rattle.ipc_ids.specs.declared.numbers.FibrilNo.{FibrilNo}
use Rattle.ipc_ids.specs.declared.numbers.Code.{Code}
use Rattle.ipc_ids.specs.declared.message.Reply.{Reply}
use Rattle.ipc_ids.specs.declared.message.Why.{Why}
use Rattle.ipc_ids.specs.declared.message.Why.TheVariants as why
use Rattle.ipc_ids.specs.declared.message.Outcome.{Outcome}
use Rattle.ipc_ids.specs.declared.message.Outcome.TheVariants as outcome
use Rattle.ipc_ids.specs.Codes.{enoent}
use Rattle.ipc_ids.specs.Replies.{Waiter}
use Rattle.fibril_core.specs.declared.conn.Taken.{Taken}
use Rattle.fibril_core.specs.declared.conn.Taken.TheVariants as taken
use Rattle.fibril_core.specs.declared.fibrils.Fibril.{Fibril}
use Rattle.fibril_core.specs.declared.fibrils.Status.TheVariants.{Ready}
use Rattle.fibril_core.specs.Fibrils.{FibrilOrder, current, why_of, why_at, fibril_at}
use Rattle.fibril_core.specs.FibrilLaws.{status_of, status_in}
use Rattle.fibril_core.specs.Conns as conns
use Rattle.fibril_core.specs.Conns.{conn_of_fibril}
use Rattle.fibril_core.proofs.Orders.{first_number}
use Rattle.fibril_core.proofs.Connections.{sound_taken}
use Rattle.async_task.specs.declared.awaited.Awaited.{Awaited}
use Rattle.async_task.specs.declared.context.Slot.{Slot}
use Rattle.async_task.specs.declared.context.Slot.TheVariants as slot
use Rattle.async_task.specs.declared.context.Context.{Context}
use Rattle.async_task.specs.Contexts.{slot_at}
use Rattle.async_task.specs.Contexts.{at_next, with_received, after_refused, after_accepted}
use Rattle.async_task.specs.Contexts.{after_answered}
use Rattle.async_task.specs.AsyncState.{AsyncState, context_at, with_context}
use Rattle.async_task.specs.Wanted.{bare_msg}
use Rattle.async_task.specs.Calls.{call_slot, send_over, wait_slot, next_call, with_taken}
use Rattle.async_task.specs.Answers.{take_answer}
use Rattle.async_laws.specs.KeptAnswers.{waiter, waiting}
use Rattle.async_laws.specs.KeptFibrils.{has_ended_at}
use Rattle.async_laws.specs.NoLostWakes.{IsNewCall}
use Rattle.async_laws.proofs.AnswerFacts.{waiting_push}
use Rattle.async_laws.proofs.WakeConns.{take_others, waits_quiet, still_quiet}
use Rattle.async_laws.proofs.WakeSlots.{Keeps, connected, expects, blocks, keeps_context}
use Rattle.async_laws.proofs.WakeSlots.{same_slots, after_slot}

-- the present fibril
pub record IsPresent (a : AsyncState) (f : FibrilNo) (t : Context) : Type 0 where
  pub current : current a.order ≡ Some f
  pub context : context_at a f ≡ Some t

pub ready_number : (o : FibrilOrder) (n : ℕ) → status_of o n ≡ Some Ready → suc (n - 1) ≡ n
ready_number o zero h = absurd (cc h)
ready_number o (suc n) h = omega arith

is_number : (a : AsyncState) (f : FibrilNo) (t : Context) → Keeps a → IsPresent a f t →
    suc (f.0 - 1) ≡ f.0
is_number a f t kept now =
    ready_number a.order f.0 (first_number a.order Ready f kept.order now.current).here

-- calls

push_keeps : (w : Awaited) (m : ℕ) (ws : List Awaited) (d : Waiter) → waiting w.call.0 ws ≡ None →
    waiting m ws ≡ Some d → waiting m (ws ++ w ∷ []) ≡ Some d
push_keeps w m ws d new h =
    grind (arith, waiting_push w m ws new, eq-eqb, ne_eqb, cases_eq w.call.0 m, h, new)

pub push_new : (w : Awaited) (ws : List Awaited) → waiting w.call.0 ws ≡ None →
    waiting w.call.0 (ws ++ w ∷ []) ≡ Some (waiter w)
push_new w ws new = grind (arith, waiting_push w w.call.0 ws new, eq-eqb)

pub pushed : (a : AsyncState) (w : Awaited) → Keeps a → waiting w.call.0 a.awaited ≡ None →
    Keeps (record a { awaited = a.awaited ++ w ∷ [] })
pushed a w kept new =
    expects a (a.awaited ++ w ∷ []) kept
    (λ f n h g. (g.0, push_keeps w n.0 a.awaited (record { fibril = f.0; slot = g.0 }) new g.1))
    (λ i k n t runs h g.
    let was : (k < 8) × (waiting n.0 a.awaited ≡ Some (record { fibril = suc i; slot = Some k })) =
    kept.slots i k n t runs h g in
    (was.0, push_keeps w n.0 a.awaited (record { fibril = suc i; slot = Some k }) new was.1))

pub refused : (a : AsyncState) (f : FibrilNo) (t : Context) (c : Code) → Keeps a → IsPresent a f t →
    Keeps (with_context a f (after_refused t c))
refused a f t c kept now = same_slots a f t (after_refused t c) kept now.context refl

pub sends_call : (a : AsyncState) (f : FibrilNo) (t : Context) (k : ℕ) (o : Outcome) (s : Slot) →
    Keeps a → IsPresent a f t → IsNewCall a o → Keeps (call_slot a f t k o s).state
sends_call a f t k (outcome.Accepted n) slot.Closed kept now new =
    let w : Awaited = record { call = n; fibril = f; slot = Some k } in
    let b : AsyncState = record a { awaited = a.awaited ++ w ∷ [] } in
    let fresh : waiting n.0 a.awaited ≡ None = new n refl in
    let sent : waiting n.0 b.awaited ≡ Some (waiter w) = push_new w a.awaited fresh in
    keeps_context b f t (after_accepted t k n) (pushed a w kept fresh) now.context
    (λ j m h. sends_by j m sent (after_slot t k j (slot.Sent n) m h))
  where
    sends_by : (j : ℕ) (m : CallNo) →
        waiting n.0 (a.awaited ++ record { call = n; fibril = f; slot = Some k } ∷ []) ≡ Some (record { fibril = f.0; slot = Some k }) →
        ((slot_at t j ≡ slot.Sent m) × (j ≡ k → k < 8 → ⊥)) ⊎
        ((j ≡ k) × (k < 8) × (slot.Sent n ≡ slot.Sent m)) →
        (slot_at t j ≡ slot.Sent m) ⊎
        ((j < 8) × (waiting m.0 (a.awaited ++ record { call = n; fibril = f; slot = Some k } ∷ []) ≡ Some (record { fibril = suc (f.0 - 1); slot = Some j })))
    sends_by j m sent (inl h) = inl h.0
    sends_by j m sent (inr h) =
        let one : n ≡ m = cc (h.2) in
        let number : suc (f.0 - 1) ≡ f.0 = is_number a f t kept now in
        inr (subst (λ (i : ℕ). i < 8) (sym h.0) h.1, rw (← one, h.0, number) sent)
sends_call a f t k (outcome.Refused c) slot.Closed kept now new = refused a f t c kept now
sends_call a f t k _ slot.Closed kept now new = kept
sends_call a f t k o (slot.Sent n) kept now new = refused a f t _ kept now
sends_call a f t k o (slot.Answered n r) kept now new = refused a f t _ kept now

pub sends_over : (a : AsyncState) (f : FibrilNo) (t : Context) (k : ℕ) (o : Outcome) (s : Slot)
    (phone : Option ℕ) → Keeps a → IsPresent a f t → IsNewCall a o →
    Keeps (send_over a f t k o s phone).state
sends_over a f t k o s None kept now new = refused a f t enoent kept now
sends_over a f t k o s (Some phone) kept now new = sends_call a f t k o s kept now new

takes_answer : (a : AsyncState) (f : FibrilNo) (t : Context) (k : ℕ) (n : CallNo) (r : Reply) →
    Keeps a → context_at a f ≡ Some t → Keeps (with_context a f (after_answered t k n r))
takes_answer a f t k n r kept is =
    keeps_context a f t (after_answered t k n r) kept is
    (λ j m h. by j m (after_slot t k j slot.Closed m h))
  where
    by : (j : ℕ) (m : CallNo) →
        ((slot_at t j ≡ slot.Sent m) × (j ≡ k → k < 8 → ⊥)) ⊎
        ((j ≡ k) × (k < 8) × (slot.Closed ≡ slot.Sent m)) →
        (slot_at t j ≡ slot.Sent m) ⊎
        ((j < 8) × (waiting m.0 a.awaited ≡ Some (record { fibril = suc (f.0 - 1); slot = Some j })))
    by j m (inl h) = inl h.0
    by j m (inr h) = absurd (cc (h.2))

pub waits_slot : (a : AsyncState) (f : FibrilNo) (t : Context) (k : ℕ) (s : Slot) → Keeps a →
    IsPresent a f t → slot_at t k ≡ s → Keeps (wait_slot a f t k s).state
waits_slot a f t k slot.Closed kept now is = refused a f t enoent kept now
waits_slot a f t k (slot.Answered n r) kept now is = takes_answer a f t k n r kept now.context
waits_slot a f t k (slot.Sent n) kept now is =
    blocks a f (why.Answer n) kept now.current (
      Some k,
      (rw (← is_number a f t kept now)
          (kept.slots (f.0 - 1) k n t runs now.context is).1),
    )
  where
    runs : has_ended_at (slice_get a.order.fibrils (f.0 - 1)) ≡ false
    runs = runs_by f.0 (first_number a.order Ready f kept.order now.current).here
      where
        runs_by : (n : ℕ) → status_of a.order n ≡ Some Ready →
            has_ended_at (slice_get a.order.fibrils (n - 1)) ≡ false
        runs_by zero h = absurd (cc h)
        runs_by (suc i) h = grind (arith, h)

-- connections

pub asks_next : (a : AsyncState) (f : FibrilNo) (t : Context) (s : Taken) → Keeps a →
    IsPresent a f t → conns.take_answer (conn_of_fibril f a.conns) ≡ s →
    Keeps (next_call (with_taken a f) f t s).state
asks_next a f t s kept now is = by s is
  where
    b : AsyncState
    b = with_taken a f

    not_ready : (g : FibrilNo) (w : Why) → why_of a.order g ≡ Some w → g.0 ≡ f.0 → ⊥
    not_ready g w h same =
        let ready : status_of a.order f.0 ≡ Some Ready =
        (first_number a.order Ready f kept.order now.current).here in
        no_both (fibril_at a.order f.0) ready
        (subst (λ (n : ℕ). why_at (fibril_at a.order n) ≡ Some w) same h)
      where
        no_both : (x : Option Fibril) → status_in x ≡ Some Ready → why_at x ≡ Some w → ⊥
        no_both x i j = grind arith

    taken_kept : Keeps b
    taken_kept =
        connected a (conns.take_next f a.conns) kept (sound_taken a.conns f kept.conns)
        (λ g h quiet. still_quiet g a.conns (conns.take_next f a.conns)
        (take_others a.conns f g kept.conns (not_ready g why.Message h)) quiet)

    by : (s : Taken) → conns.take_answer (conn_of_fibril f a.conns) ≡ s →
        Keeps (next_call (with_taken a f) f t s).state
    by (taken.Call n msg label) e =
        same_slots b f t (at_next (with_received t n msg label)) taken_kept now.context refl
    by (taken.HungUp label) e =
        same_slots b f t (at_next (with_received t (record { 0 = 0 }) (bare_msg 0) label)) taken_kept
        now.context refl
    by taken.NoConnection e =
        same_slots b f t (after_refused t enoent) taken_kept now.context refl
    by taken.Wait e =
        blocks b f why.Message taken_kept now.current (waits_quiet a.conns f kept.conns e)

-- sessions and exchanges
