-- What each part of an event of an async task keeps, and that contexts and slots that change keep it.
use Rattle.std.proofs.Common.{ℕ, zero, suc, ◌-◌, ◌≡◌, ◌≢◌, ◌<◌, ◌⊎◌, inl, inr, Bool, true, false}
use Rattle.std.proofs.Common.{Option, Some, None, List, [], ◌∷◌, refl, sym, ◌∙◌, ap, subst, arith}
use Rattle.std.specs.Prelude.{if◌then◌else◌, ◌==◌, nat_lt, slice_get, slice_set}
use Rattle.std.specs.Prelude.{is_some}
use Rattle.std.proofs.lemmas.Bool.{cases_eq, eq-eqb, ne_eqb, eqb-true, cases_Bool}
use Rattle.std.proofs.lemmas.Bool.Decides.{nat_tests}
use Rattle.ipc_ids.specs.declared.numbers.CallNo.{CallNo}
use Rattle.ipc_ids.specs.declared.numbers.FibrilNo.{FibrilNo}
use Rattle.ipc_ids.specs.declared.numbers.Code.{Code}
use Rattle.ipc_ids.specs.declared.message.Why.{Why}
use Rattle.ipc_ids.specs.declared.message.Why.TheVariants as why
use Rattle.fibril_core.specs.declared.conn.Conn.{Conn}
use Rattle.fibril_core.specs.Fibrils.{FibrilOrder, current, why_of, block_on}
use Rattle.fibril_core.specs.FibrilLaws.{IsSound as IsSoundOrder}
use Rattle.fibril_core.specs.ConnLaws.{IsSound as AreSoundConns}
use Rattle.async_sessions.specs.Sessions.{Open}
use Rattle.async_sessions.specs.SessionLaws.{IsSound as AreSoundSessions, HasNoIdle}
use Rattle.async_task.specs.declared.awaited.Awaited.{Awaited}
use Rattle.async_task.specs.declared.context.Slot.{Slot}
use Rattle.async_task.specs.declared.context.Slot.TheVariants as slot
use Rattle.async_task.specs.declared.context.Context.{Context}
use Rattle.async_task.specs.Kept.{kept_at}
use Rattle.async_task.specs.Contexts.{slot_in, slot_at, with_slot}
use Rattle.async_task.specs.AsyncState.{AsyncState, context_at, with_context}
use Rattle.async_task.specs.Exchanges.{with_pool}
use Rattle.async_laws.specs.KeptAnswers.{waiting}
use Rattle.async_laws.specs.KeptFibrils.{has_ended_at}
use Rattle.async_laws.specs.NoLostWakes.{IsAwaitedBy, IsHeldUp, IsQuiet, IsStillToCome, NoWakeIsLost}
use Rattle.async_laws.specs.NoLostWakes.{AreSlotsAwaited}
use Rattle.async_laws.proofs.WakeOrders.{Eases}
use Rattle.async_laws.proofs.WakeOrders.{blocked_by, blocked_ends}
use Rattle.async_laws.proofs.WakeOrders.{sound_blocked}
use Rattle.async_laws.proofs.WakePools.{Upholds}

-- what each part of an event keeps
pub record Keeps (a : AsyncState) : Type 0 where
  pub wakes : NoWakeIsLost a
  pub slots : AreSlotsAwaited a.order a.contexts a.awaited
  pub order : IsSoundOrder a.order
  pub pool : AreSoundSessions a.pool
  pub conns : AreSoundConns a.conns

-- what is still to come stays so
pub carry : (a b : AsyncState) (f : FibrilNo) (w : Why) →
    ((n : CallNo) → w ≡ why.Answer n → IsAwaitedBy f n a.awaited → IsAwaitedBy f n b.awaited) →
    ((s : ℕ) → w ≡ why.Mutex s → IsHeldUp s a.pool → IsHeldUp s b.pool) →
    (w ≡ why.Phone → HasNoIdle None a.pool.exchanges → HasNoIdle None b.pool.exchanges) →
    (w ≡ why.Message → IsQuiet f a.conns → IsQuiet f b.conns) →
    IsStillToCome a f w → IsStillToCome b f w
carry a b f (why.Answer n) answers mutex phone quiet h = answers n refl h
carry a b f (why.Mutex s) answers mutex phone quiet h = mutex s refl h
carry a b f why.Phone answers mutex phone quiet h = phone refl h
carry a b f why.Message answers mutex phone quiet h = quiet refl h

-- one part of the state changes

pub eased : (a : AsyncState) (r : FibrilOrder) → Keeps a → Eases a.order r →
    Keeps (record a { order = r })
eased a r kept eases = record {
  wakes = λ f w h.
      carry a (record a { order = r }) f w (λ n i g. g) (λ s i g. g) (λ i g. g) (λ i g. g)
      (kept.wakes f w (eases.waits f w h));
  slots = λ i k n t runs. kept.slots i k n t (eases.ends i runs);
  order = eases.sound;
  pool = kept.pool;
  conns = kept.conns;
}

pub pooled : (a : AsyncState) (p : Open) → Keeps a → AreSoundSessions p →
    ((f : FibrilNo) (s : ℕ) → why_of a.order f ≡ Some (why.Mutex s) → IsHeldUp s a.pool →
    IsHeldUp s p) →
    ((f : FibrilNo) → why_of a.order f ≡ Some why.Phone → HasNoIdle None a.pool.exchanges →
    HasNoIdle None p.exchanges) → Keeps (with_pool a p)
pooled a p kept sound mutex phone = record {
  wakes = λ f w h.
      carry a (with_pool a p) f w (λ n i g. g)
      (λ s i. mutex f s (h ∙ ap (λ (v : Why). Some v) i))
      (λ i. phone f (h ∙ ap (λ (v : Why). Some v) i)) (λ i g. g) (kept.wakes f w h);
  slots = kept.slots;
  order = kept.order;
  pool = sound;
  conns = kept.conns;
}

pub upheld : (a : AsyncState) (p : Open) → Keeps a → AreSoundSessions p → Upholds a.pool p →
    Keeps (with_pool a p)
upheld a p kept sound holds =
    pooled a p kept sound (λ f s h. holds.mutex s) (λ f h. holds.phone)

pub connected : (a : AsyncState) (cs : List Conn) → Keeps a → AreSoundConns cs →
    ((f : FibrilNo) → why_of a.order f ≡ Some why.Message → IsQuiet f a.conns → IsQuiet f cs) →
    Keeps (record a { conns = cs })
connected a cs kept sound quiet = record {
  wakes = λ f w h.
      carry a (record a { conns = cs }) f w (λ n i g. g) (λ s i g. g) (λ i g. g)
      (λ i. quiet f (h ∙ ap (λ (v : Why). Some v) i)) (kept.wakes f w h);
  slots = kept.slots;
  order = kept.order;
  pool = kept.pool;
  conns = sound;
}

pub expects : (a : AsyncState) (ws : List Awaited) → Keeps a →
    ((f : FibrilNo) (n : CallNo) → why_of a.order f ≡ Some (why.Answer n) →
    IsAwaitedBy f n a.awaited → IsAwaitedBy f n ws) →
    AreSlotsAwaited a.order a.contexts ws → Keeps (record a { awaited = ws })
expects a ws kept answers slots = record {
  wakes = λ f w h.
      carry a (record a { awaited = ws }) f w
      (λ n i. answers f n (h ∙ ap (λ (v : Why). Some v) i)) (λ s i g. g) (λ i g. g) (λ i g. g)
      (kept.wakes f w h);
  slots = slots;
  order = kept.order;
  pool = kept.pool;
  conns = kept.conns;
}

pub works : (a : AsyncState) (ws : List (CallNo × Code)) → Keeps a → Keeps (record a { work = ws })
works a ws kept = record {
  wakes = λ f w h.
      carry a (record a { work = ws }) f w (λ n i g. g) (λ s i g. g) (λ i g. g) (λ i g. g)
      (kept.wakes f w h);
  slots = kept.slots;
  order = kept.order;
  pool = kept.pool;
  conns = kept.conns;
}

pub one_fibril : (f g : FibrilNo) → g.0 ≡ f.0 → g ≡ f
one_fibril f g e = ap (λ (n : ℕ). record { 0 = n }) e

pub blocks : (a : AsyncState) (f : FibrilNo) (w : Why) → Keeps a → current a.order ≡ Some f →
    IsStillToCome a f w → Keeps (record a { order = block_on a.order w })
blocks a f w kept is due = record {
  wakes = λ g v h. wakes_by g v (blocked_by a.order f g w v kept.order is h);
  slots = λ i k n t runs. kept.slots i k n t (blocked_ends a.order f w i kept.order is runs);
  order = sound_blocked a.order w kept.order;
  pool = kept.pool;
  conns = kept.conns;
}
  where
    after : AsyncState
    after = record a { order = block_on a.order w }

    wakes_by : (g : FibrilNo) (v : Why) → (why_of a.order g ≡ Some v) ⊎ ((g.0 ≡ f.0) × (v ≡ w)) →
        IsStillToCome after g v
    wakes_by g v (inl h) =
        carry a after g v (λ n i u. u) (λ s i u. u) (λ i u. u) (λ i u. u) (kept.wakes g v h)
    wakes_by g v (inr h) =
        subst (λ (x : Why). IsStillToCome after g x) (sym h.1)
        (subst (λ (x : FibrilNo). IsStillToCome after x w) (sym (one_fibril f g h.0))
        (carry a after f w (λ n i u. u) (λ s i u. u) (λ i u. u) (λ i u. u) due))

-- what a fibril keeps changes

-- what stands at a place once that was written at another one or there
abbrev pub put_in : Option Context → Option (Option Context) → Option Context
put_in v None = None
put_in v (Some x) = v

set_get : (xs : List (Option Context)) (i j : ℕ) (v : Option Context) →
    kept_at (slice_set xs i v) j ≡ if i == j then put_in v (slice_get xs j) else kept_at xs j
set_get [] i j v = grind (arith, cases_Bool (i == j))
set_get (x ∷ xs) zero zero v = grind (arith, eq-eqb, ne_eqb)
set_get (x ∷ xs) zero (suc j) v = grind (arith, eq-eqb, ne_eqb)
set_get (x ∷ xs) (suc i) zero v = grind (arith, eq-eqb, ne_eqb)
set_get (x ∷ xs) (suc i) (suc j) v =
    grind (arith, set_get xs i j v, eq-eqb, ne_eqb, cases_eq i j)

-- where something stands, that is written
set_kept : (xs : List (Option Context)) (i : ℕ) (t : Context) (v : Option Context) →
    kept_at xs i ≡ Some t → kept_at (slice_set xs i v) i ≡ v
set_kept [] i t v h = absurd (cc h)
set_kept (x ∷ xs) zero t v h = refl
set_kept (x ∷ xs) (suc i) t v h = set_kept xs i t v h

-- what is left once one was taken away stood there
pub kept_left : (xs : List (Option Context)) (i j : ℕ) (x : Context) →
    kept_at (slice_set xs i None) j ≡ Some x → kept_at xs j ≡ Some x
kept_left [] i j x h = h
kept_left (y ∷ ys) zero zero x h = absurd (cc h)
kept_left (y ∷ ys) zero (suc j) x h = h
kept_left (y ∷ ys) (suc i) zero x h = h
kept_left (y ∷ ys) (suc i) (suc j) x h = kept_left ys i j x h

pub context_get : (a : AsyncState) (f : FibrilNo) (u x : Context) (i : ℕ) →
    kept_at (with_context a f u).contexts i ≡ Some x →
    ((f.0 - 1 ≡ i) × (u ≡ x)) ⊎ (kept_at a.contexts i ≡ Some x)
context_get a f u x i h = by (is_some (context_at a f)) h
  where
    look : (b : Bool) → ((f.0 - 1) == i) ≡ b →
        (if b then put_in (Some u) (slice_get a.contexts i) else kept_at a.contexts i) ≡ Some x →
        ((f.0 - 1 ≡ i) × (u ≡ x)) ⊎ (kept_at a.contexts i ≡ Some x)
    look true e g = put (slice_get a.contexts i) g
      where
        put : (q : Option (Option Context)) → put_in (Some u) q ≡ Some x →
            ((f.0 - 1 ≡ i) × (u ≡ x)) ⊎ (kept_at a.contexts i ≡ Some x)
        put None k = absurd (cc k)
        put (Some y) k = inl (eqb-true (f.0 - 1) i e, cc k)
    look false e g = inr g

    by : (b : Bool) →
        kept_at (if b then slice_set a.contexts (f.0 - 1) (Some u) else a.contexts) i ≡ Some x →
        ((f.0 - 1 ≡ i) × (u ≡ x)) ⊎ (kept_at a.contexts i ≡ Some x)
    by true g = look ((f.0 - 1) == i) refl (sym (set_get a.contexts (f.0 - 1) i (Some u)) ∙ g)
    by false g = inr g

-- what a fibril keeps that is there
pub context_set : (a : AsyncState) (f : FibrilNo) (t u : Context) → context_at a f ≡ Some t →
    context_at (with_context a f u) f ≡ Some u
context_set a f t u is =
    ap (λ (q : Option Context). kept_at
    (if is_some q then slice_set a.contexts (f.0 - 1) (Some u) else a.contexts) (f.0 - 1)) is
    ∙ set_kept a.contexts (f.0 - 1) t (Some u) is

pub context_now : (a : AsyncState) (f : FibrilNo) (t u x : Context) → context_at a f ≡ Some t →
    context_at (with_context a f u) f ≡ Some x → u ≡ x
context_now a f t u x is h = cc (context_set a f t u is, h)

-- what the calls say that the new slots have sent
abbrev pub Sends : AsyncState → FibrilNo → Context → Context → Type 0
Sends a f t u =
    (k : ℕ) (n : CallNo) → slot_at u k ≡ slot.Sent n → (slot_at t k ≡ slot.Sent n) ⊎
    ((k < 8) × (waiting n.0 a.awaited ≡ Some (record { fibril = suc (f.0 - 1); slot = Some k })))

pub keeps_context : (a : AsyncState) (f : FibrilNo) (t u : Context) → Keeps a →
    context_at a f ≡ Some t → Sends a f t u → Keeps (with_context a f u)
keeps_context a f t u kept is sends = record {
  wakes = λ g w h.
      carry a (with_context a f u) g w (λ n i v. v) (λ s i v. v) (λ i v. v) (λ i v. v)
      (kept.wakes g w h);
  slots = λ i k n x runs h g. slots_by i k n x runs g (context_get a f u x i h);
  order = kept.order;
  pool = kept.pool;
  conns = kept.conns;
}
  where
    sent_by : (i k : ℕ) (n : CallNo) → has_ended_at (slice_get a.order.fibrils i) ≡ false →
        f.0 - 1 ≡ i → (slot_at t k ≡ slot.Sent n) ⊎
        ((k < 8) × (waiting n.0 a.awaited ≡ Some (record { fibril = suc (f.0 - 1); slot = Some k }))) →
        (k < 8) × (waiting n.0 a.awaited ≡ Some (record { fibril = suc i; slot = Some k }))
    sent_by i k n runs same (inl h) =
        kept.slots i k n t runs
        (subst (λ (j : ℕ). kept_at a.contexts j ≡ Some t) same is) h
    sent_by i k n runs same (inr h) = (
      h.0,
      subst (λ (j : ℕ). waiting n.0 a.awaited ≡ Some (record { fibril = suc j; slot = Some k }))
          same h.1,
    )

    slots_by : (i k : ℕ) (n : CallNo) (x : Context) →
        has_ended_at (slice_get a.order.fibrils i) ≡ false → slot_at x k ≡ slot.Sent n →
        ((f.0 - 1 ≡ i) × (u ≡ x)) ⊎ (kept_at a.contexts i ≡ Some x) →
        (k < 8) × (waiting n.0 a.awaited ≡ Some (record { fibril = suc i; slot = Some k }))
    slots_by i k n x runs g (inl h) =
        sent_by i k n runs h.0 (sends k n (subst (λ (y : Context). slot_at y k ≡ slot.Sent n) (sym h.1) g))
    slots_by i k n x runs g (inr h) = kept.slots i k n x runs h g

-- the slots are as they were
pub same_slots : (a : AsyncState) (f : FibrilNo) (t u : Context) → Keeps a →
    context_at a f ≡ Some t → u.slots ≡ t.slots → Keeps (with_context a f u)
same_slots a f t u kept is same =
    keeps_context a f t u kept is
    (λ k n h. inl (subst (λ (ss : List Slot). slot_in (slice_get ss k) ≡ slot.Sent n) same h))

-- slots

slot_set : (xs : List Slot) (k j : ℕ) (s : Slot) → j ≢ k →
    slice_get (slice_set xs k s) j ≡ slice_get xs j
slot_set [] k j s other = refl
slot_set (x ∷ xs) zero zero s other = absurd (other refl)
slot_set (x ∷ xs) zero (suc j) s other = refl
slot_set (x ∷ xs) (suc k) zero s other = refl
slot_set (x ∷ xs) (suc k) (suc j) s other = slot_set xs k j s (λ e. other (ap suc e))

slot_put : (xs : List Slot) (k : ℕ) (s : Slot) (n : CallNo) →
    slot_in (slice_get (slice_set xs k s) k) ≡ slot.Sent n → s ≡ slot.Sent n
slot_put [] k s n h = absurd (cc h)
slot_put (x ∷ xs) zero s n h = h
slot_put (x ∷ xs) (suc k) s n h = slot_put xs k s n h

-- a slot holds something else: what has sent then did so before, and is not that slot, or is what
-- the slot holds now
pub after_slot : (t : Context) (k j : ℕ) (s : Slot) (n : CallNo) →
    slot_at (with_slot t k s) j ≡ slot.Sent n →
    ((slot_at t j ≡ slot.Sent n) × (j ≡ k → k < 8 → ⊥)) ⊎ ((j ≡ k) × (k < 8) × (s ≡ slot.Sent n))
after_slot t k j s n h = by (nat_lt k 8) refl h (cases_eq j k)
  where
    by : (b : Bool) → nat_lt k 8 ≡ b →
        slot_in (slice_get (if b then slice_set t.slots k s else t.slots) j) ≡ slot.Sent n →
        (j ≡ k) ⊎ (j ≢ k) →
        ((slot_at t j ≡ slot.Sent n) × (j ≡ k → k < 8 → ⊥)) ⊎
        ((j ≡ k) × (k < 8) × (s ≡ slot.Sent n))
    by false e g same = inl (g, λ i less. absurd (grind (arith, nat_tests, e, less)))
    by true e g (inl same) =
        inr (
          same,
          grind (arith, nat_tests, e),
          slot_put t.slots k s n
              (subst (λ (i : ℕ). slot_in (slice_get (slice_set t.slots k s) i) ≡ slot.Sent n) same g),
        )
    by true e g (inr other) =
        inl (sym (ap slot_in (slot_set t.slots k j s other)) ∙ g, λ i less. other i)
