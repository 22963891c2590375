-- An answer that is taken keeps that no wake-up is lost.
use Rattle.std.proofs.Common.{ℕ, suc, ◌-◌, ◌≡◌, ◌<◌, ◌⊎◌, inl, inr, Bool, true, false}
use Rattle.std.proofs.Common.{Option, Some, None, refl, sym, ◌∙◌, ap, subst, arith}
use Rattle.std.specs.Prelude.{if◌then◌else◌, slice_get}
use Rattle.std.proofs.lemmas.Bool.{eq-eqb, ne_eqb}
use Rattle.ipc_ids.specs.declared.numbers.CallNo.{CallNo}
use Rattle.ipc_ids.specs.declared.numbers.FibrilNo.{FibrilNo}
use Rattle.ipc_ids.specs.declared.message.Reply.{Reply}
use Rattle.ipc_ids.specs.declared.message.Why.{Why}
use Rattle.ipc_ids.specs.declared.message.Why.TheVariants as why
use Rattle.ipc_ids.specs.Replies.{Waiter}
use Rattle.fibril_core.specs.Fibrils.{why_of}
use Rattle.fibril_core.specs.Fibrils.{make_ready}
use Rattle.async_task.specs.declared.awaited.Awaited.{Awaited}
use Rattle.async_task.specs.declared.context.Slot.{Slot}
use Rattle.async_task.specs.declared.context.Slot.TheVariants as slot
use Rattle.async_task.specs.declared.context.Context.{Context}
use Rattle.async_task.specs.Kept.{kept_at}
use Rattle.async_task.specs.Contexts.{slot_at, with_slot}
use Rattle.async_task.specs.Contexts.{after_answered}
use Rattle.async_task.specs.AsyncState.{AsyncState, context_at, with_context}
use Rattle.async_task.specs.AsyncState.{present_op}
use Rattle.async_task.specs.Answers.{give_answer, is_for, wake_if}
use Rattle.async_task.specs.Answers.{forget_call, take_answer}
use Rattle.async_laws.specs.KeptAnswers.{waiter, waiting}
use Rattle.async_laws.specs.KeptFibrils.{has_ended_at}
use Rattle.async_laws.specs.NoLostWakes.{IsAwaitedBy}
use Rattle.async_laws.proofs.AnswerFacts.{waiter_of, waiting_forget}
use Rattle.async_laws.proofs.WakeOrders.{eases_ready, ready_not}
use Rattle.async_laws.proofs.WakeSlots.{Keeps, eased, expects, one_fibril, context_get, context_now}
use Rattle.async_laws.proofs.WakeSlots.{keeps_context, after_slot}
use Rattle.async_laws.proofs.WakeSessions.{does, answers_begin}

-- one call has one waiter
one_waiter : (q : Option Waiter) (d e : Waiter) → q ≡ Some d → q ≡ Some e → d ≡ e
one_waiter q d e h i = cc (h, i)

waiter_fibril : (q : Option Waiter) (f g : ℕ) (j k : Option ℕ) →
    q ≡ Some (record { fibril = f; slot = j }) → q ≡ Some (record { fibril = g; slot = k }) → f ≡ g
waiter_fibril q f g j k h i =
    ap (λ (w : Waiter). w.fibril)
    (one_waiter q (record { fibril = f; slot = j }) (record { fibril = g; slot = k }) h i)

waiter_slot : (q : Option Waiter) (f g : ℕ) (j k : Option ℕ) →
    q ≡ Some (record { fibril = f; slot = j }) → q ≡ Some (record { fibril = g; slot = k }) → j ≡ k
waiter_slot q f g j k h i =
    ap (λ (w : Waiter). w.slot)
    (one_waiter q (record { fibril = f; slot = j }) (record { fibril = g; slot = k }) h i)

-- nobody waits for the answer of call n, and no slot has sent it: it is awaited no more
forgets : (a : AsyncState) (n : CallNo) → Keeps a →
    ((f : FibrilNo) → why_of a.order f ≡ Some (why.Answer n) → ⊥) →
    ((i k : ℕ) (t : Context) → has_ended_at (slice_get a.order.fibrils i) ≡ false →
    kept_at a.contexts i ≡ Some t → slot_at t k ≡ slot.Sent n → ⊥) → Keeps (forget_call a n)
forgets a n kept no_fibril no_slot =
    expects a (forget_call a n).awaited kept
    (λ f m h g. (
      g.0,
      left m.0 (record { fibril = f.0; slot = g.0 })
          (λ same. no_fibril f (subst (λ (c : CallNo). why_of a.order f ≡ Some (why.Answer c)) (one_call m same) h))
          g.1,
    ))
    (λ i k m t runs h g.
    let was : (k < 8) × (waiting m.0 a.awaited ≡ Some (record { fibril = suc i; slot = Some k })) =
    kept.slots i k m t runs h g in (
      was.0,
      left m.0 (record { fibril = suc i; slot = Some k })
          (λ same. no_slot i k t runs h (subst (λ (c : CallNo). slot_at t k ≡ slot.Sent c) (one_call m same) g))
          was.1,
    ))
  where
    one_call : (m : CallNo) → m.0 ≡ n.0 → m ≡ n
    one_call m e = ap (λ (i : ℕ). record { 0 = i }) e

    left : (m : ℕ) (d : Waiter) → (m ≡ n.0 → ⊥) → waiting m a.awaited ≡ Some d →
        waiting m (forget_call a n).awaited ≡ Some d
    left m d away h =
        waiting_forget n m a.awaited
        ∙ (rw (ne_eqb n.0 m (λ same. away (sym same))) h)

is_for_own : (n : CallNo) → is_for n (Some (why.Answer n)) ≡ true
is_for_own n = eq-eqb n.0 n.0 refl

-- the fibril is woken where it waits for the answer, and then none does
wakes_for : (a : AsyncState) (f : FibrilNo) (n : CallNo) (q : Option Why) → Keeps a →
    why_of a.order f ≡ q → Keeps (wake_if a f (is_for n q))
wakes_for a f n None kept is = same_order a kept
  where
    same_order : (a : AsyncState) → Keeps a → Keeps (record a { order = a.order })
    same_order a kept = kept
wakes_for a f n (Some w) kept is = by (is_for n (Some w))
  where
    by : (b : Bool) → Keeps (wake_if a f b)
    by true = eased a (make_ready a.order f) kept (eases_ready a.order f w kept.order is)
    by false = kept

none_for : (a : AsyncState) (f : FibrilNo) (n : CallNo) (k : Option ℕ) (q : Option Why) →
    Keeps a → why_of a.order f ≡ q →
    waiting n.0 a.awaited ≡ Some (record { fibril = f.0; slot = k }) → (g : FibrilNo) →
    why_of (wake_if a f (is_for n q)).order g ≡ Some (why.Answer n) → ⊥
none_for a f n k q kept is awaited g h = by (is_for n q) refl h
  where
    -- who waits for it is f
    own : why_of a.order g ≡ Some (why.Answer n) → g ≡ f
    own i =
        let due : IsAwaitedBy g n a.awaited = kept.wakes g (why.Answer n) i in
        one_fibril f g (one (due.0) due.1)
      where
        one : (j : Option ℕ) → waiting n.0 a.awaited ≡ Some (record { fibril = g.0; slot = j }) →
            g.0 ≡ f.0
        one j e = waiter_fibril _ g.0 f.0 j k e awaited

    woken : why_of a.order g ≡ Some (why.Answer n) → is_for n q ≡ true
    woken i =
        let same : why_of a.order f ≡ Some (why.Answer n) =
        subst (λ (x : FibrilNo). why_of a.order x ≡ Some (why.Answer n)) (own i) i in
        ap (is_for n) (sym is ∙ same) ∙ is_for_own n

    by : (b : Bool) → is_for n q ≡ b → why_of (wake_if a f b).order g ≡ Some (why.Answer n) → ⊥
    by false e i = absurd (cc (e, woken i))
    by true e i = waiting_one q is e
      where
        waiting_one : (r : Option Why) → why_of a.order f ≡ r → is_for n q ≡ true → ⊥
        waiting_one None at j =
            let none : q ≡ None = sym is ∙ at in absurd (grind (arith, none, j))
        waiting_one (Some v) at j =
            let before : why_of a.order g ≡ Some (why.Answer n) =
            (eases_ready a.order f v kept.order at).waits g (why.Answer n) i in
            ready_not a.order f v (why.Answer n) kept.order at
            (subst (λ (x : FibrilNo). why_of (make_ready a.order f) x ≡ Some (why.Answer n))
            (own before) i)

-- where the answer was for slot k of the fibril, which holds something else now, no slot has sent it
gives_slot : (a : AsyncState) (f : FibrilNo) (n : CallNo) (k : ℕ) (t u : Context) → Keeps a →
    waiting n.0 a.awaited ≡ Some (record { fibril = f.0; slot = Some k }) →
    ((g : FibrilNo) → why_of a.order g ≡ Some (why.Answer n) → ⊥) → context_at a f ≡ Some t →
    ((j : ℕ) (m : CallNo) → slot_at u j ≡ slot.Sent m →
    (slot_at t j ≡ slot.Sent m) × (j ≡ k → k < 8 → ⊥)) →
    Keeps (forget_call (with_context a f u) n)
gives_slot a f n k t u kept awaited none is left =
    forgets b n
    (keeps_context a f t u kept is (λ j m h. inl (left j m h).0)) none
    (λ i j x runs at h. no_slot i j x runs at h (context_get a f u x i at))
  where
    b : AsyncState
    b = with_context a f u

    place_is : (i j : ℕ) → waiting n.0 a.awaited ≡ Some (record { fibril = suc i; slot = Some j }) →
        (suc i ≡ f.0) × (j ≡ k)
    place_is i j h = (
      waiter_fibril _ (suc i) f.0 (Some j) (Some k) h awaited,
      cc (waiter_slot _ (suc i) f.0 (Some j) (Some k) h awaited),
    )

    no_slot : (i j : ℕ) (x : Context) → has_ended_at (slice_get a.order.fibrils i) ≡ false →
        kept_at b.contexts i ≡ Some x → slot_at x j ≡ slot.Sent n →
        ((f.0 - 1 ≡ i) × (u ≡ x)) ⊎ (kept_at a.contexts i ≡ Some x) → ⊥
    no_slot i j x runs at h (inl e) =
        let was : (slot_at t j ≡ slot.Sent n) × (j ≡ k → k < 8 → ⊥) =
        left j n (subst (λ (y : Context). slot_at y j ≡ slot.Sent n) (sym e.1) h) in
        let before : (j < 8) × (waiting n.0 a.awaited ≡ Some (record { fibril = suc i; slot = Some j })) =
        kept.slots i j n t runs (subst (λ (p : ℕ). kept_at a.contexts p ≡ Some t) e.0 is) was.0 in
        let place : (suc i ≡ f.0) × (j ≡ k) = place_is i j before.1 in
        was.1 place.1 (subst (λ (p : ℕ). p < 8) place.1 before.0)
    no_slot i j x runs at h (inr e) =
        let before : (j < 8) × (waiting n.0 a.awaited ≡ Some (record { fibril = suc i; slot = Some j })) =
        kept.slots i j n x runs e h in
        let place : (suc i ≡ f.0) × (j ≡ k) = place_is i j before.1 in
        let same : i ≡ f.0 - 1 = grind (arith, place.0) in
        let one : x ≡ t =
        cc (e, is, same) in
        still (subst (λ (y : Context). slot_at y j ≡ slot.Sent n) one h) place before.0 at same
      where
        still : slot_at t j ≡ slot.Sent n → (suc i ≡ f.0) × (j ≡ k) → j < 8 →
            kept_at b.contexts i ≡ Some x → i ≡ f.0 - 1 → ⊥
        still g place less there same =
            let now : u ≡ x = changed_one there same in
            (left j n (subst (λ (y : Context). slot_at y j ≡ slot.Sent n) (sym now) h)).1 place.1
            (subst (λ (p : ℕ). p < 8) place.1 less)
          where
            changed_one : kept_at b.contexts i ≡ Some x → i ≡ f.0 - 1 → u ≡ x
            changed_one there same =
                context_now a f t u x is
                (subst (λ (p : ℕ). kept_at b.contexts p ≡ Some x) same there)

answered_left : (t : Context) (k : ℕ) (n : CallNo) (r : Reply) (s : Slot) → (s ≡ slot.Closed) ⊎ (s ≡ slot.Answered n r) →
    (j : ℕ) (m : CallNo) → slot_at (with_slot t k s) j ≡ slot.Sent m →
    (slot_at t j ≡ slot.Sent m) × (j ≡ k → k < 8 → ⊥)
answered_left t k n r s is j m h = by (after_slot t k j s m h) is
  where
    by : ((slot_at t j ≡ slot.Sent m) × (j ≡ k → k < 8 → ⊥)) ⊎
        ((j ≡ k) × (k < 8) × (s ≡ slot.Sent m)) → (s ≡ slot.Closed) ⊎ (s ≡ slot.Answered n r) →
        (slot_at t j ≡ slot.Sent m) × (j ≡ k → k < 8 → ⊥)
    by (inl g) e = g
    by (inr g) (inl e) = absurd (cc (g.2, e))
    by (inr g) (inr e) = absurd (cc (g.2, e))

gives : (a : AsyncState) (f : FibrilNo) (n : CallNo) (r : Reply) (b : Bool) (k : Option ℕ)
    (t : Option Context) → Keeps a →
    waiting n.0 a.awaited ≡ Some (record { fibril = f.0; slot = k }) →
    ((g : FibrilNo) → why_of a.order g ≡ Some (why.Answer n) → ⊥) → context_at a f ≡ t →
    Keeps (give_answer (forget_call a n) f n r b k t).state
gives a f n r true (Some k) (Some t) kept awaited none is =
    gives_slot a f n k t (after_answered t k n r) kept awaited none is
    (λ j m h. answered_left t k n r slot.Closed (inl refl) j m h)
gives a f n r false (Some k) (Some t) kept awaited none is =
    gives_slot a f n k t (with_slot t k (slot.Answered n r)) kept awaited none is
    (λ j m h. answered_left t k n r (slot.Answered n r) (inr refl) j m h)
gives a f n r b None (Some t) kept awaited none is =
    answers_begin (forget_call a n) f t r (present_op a t)
    (forgets a n kept none
    (λ i j x runs at h. absurd (cc (waiter_slot _ (suc i) f.0 (Some j) None (kept.slots i j n x runs at h).1 awaited)))) is
gives a f n r b k None kept awaited none is = by k awaited
  where
    forgotten : (j : Option ℕ) → waiting n.0 a.awaited ≡ Some (record { fibril = f.0; slot = j }) →
        Keeps (forget_call a n)
    forgotten q h =
        forgets a n kept none
        (λ i j x runs at g.
        let before : waiting n.0 a.awaited ≡ Some (record { fibril = suc i; slot = Some j }) =
        (kept.slots i j n x runs at g).1 in
        let place : suc i ≡ f.0 = waiter_fibril _ (suc i) f.0 (Some j) q before h in
        let same : i ≡ f.0 - 1 = grind (arith, place) in
        absurd (cc (at, is, same)))

    by : (j : Option ℕ) → waiting n.0 a.awaited ≡ Some (record { fibril = f.0; slot = j }) →
        Keeps (give_answer (forget_call a n) f n r b j None).state
    by (Some i) h = forgotten (Some i) h
    by None h = forgotten None h

pub answers : (a : AsyncState) (n : CallNo) (r : Reply) (w : Option Awaited) → Keeps a →
    waiting n.0 a.awaited ≡ waiter_of w → Keeps (take_answer a n r w).state
answers a n r None kept is = kept
answers a n r (Some w) kept is =
    let q : Option Why = why_of a.order w.fibril in
    let woken : Bool = is_for n q in
    gives (wake_if a w.fibril woken) w.fibril n r woken w.slot
    (context_at (wake_if a w.fibril woken) w.fibril)
    (wakes_for a w.fibril n q kept refl) is
    (λ g h. none_for a w.fibril n w.slot q kept refl is g h) refl

-- a call comes
