-- A search over the fibrils that have not ended finds one that waits for a session exactly where one
-- over all fibrils does.
use Rattle.std.proofs.Common.{ℕ, zero, suc, ◌≡◌, ◌-◌, ◌<◌, ◌⊎◌, inl, inr, Bool, true, false}
use Rattle.std.proofs.Common.{Option, Some, None, List, [], ◌∷◌, ◌++◌, length, refl, sym, ap, subst, ◌∙◌}
use Rattle.std.proofs.Common.{arith}
use Rattle.std.specs.Prelude.{◌||◌, if◌then◌else◌, slice_get}
use Rattle.std.specs.List.{list_any, filter}
use Rattle.std.proofs.lemmas.Bool.{cases_eq}
use Rattle.std.proofs.lemmas.List.Folds.{list_any-append}
use Rattle.ipc_ids.proofs.Common.{and_second}
use Rattle.fibril_core.specs.declared.fibrils.Status.{Status}
use Rattle.fibril_core.specs.declared.fibrils.Status.TheVariants.{Ready, Blocked, Ended}
use Rattle.fibril_core.specs.declared.fibrils.Fibril.{Fibril}
use Rattle.fibril_core.specs.Fibrils.{why_of}
use Rattle.fibril_core.specs.LiveFibrils.{is_live, AreLive}
use Rattle.fibril_core.proofs.Live.{numbered_at, before_suc}
use Rattle.async_task.specs.declared.context.Context.{Context}
use Rattle.async_task.specs.Kept.{kept_at}
use Rattle.async_task.specs.AsyncState.{AsyncState}
use Rattle.async_task.specs.Wanted.{is_blocked, begins_in, waits_for, any_waits}

or_left : (a b : Bool) → (a || b) ≡ false → a ≡ false
or_left true b e = e
or_left false b e = refl

or_right : (a b : Bool) → (a || b) ≡ false → b ≡ false
or_right true b e = absurd (cc e)
or_right false b e = e

none_live :
    (p : Fibril → Bool) (xs : List Fibril) (i : ℕ) (x : Fibril) →
    list_any p (filter is_live xs) ≡ false → slice_get xs i ≡ Some x → is_live x ≡ true →
    p x ≡ false
none_live p [] i x none there lives = absurd (cc there)
none_live p (z ∷ xs) i x none there lives =
    by (is_live z) i refl none there (λ j h that. none_live p xs j x h that lives)
  where
    by : (b : Bool) (j : ℕ) → is_live z ≡ b →
        list_any p (if b then z ∷ filter is_live xs else filter is_live xs) ≡ false →
        slice_get (z ∷ xs) j ≡ Some x →
        ((k : ℕ) → list_any p (filter is_live xs) ≡ false → slice_get xs k ≡ Some x →
        p x ≡ false) → p x ≡ false
    by true zero is h that more =
        let same : z ≡ x = cc in
        subst (λ (y : Fibril). p y ≡ false) same
        (or_left (p z) (list_any p (filter is_live xs)) h)
    by true (suc k) is h that more =
        more k (or_right (p z) (list_any p (filter is_live xs)) h) that
    by false zero is h that more =
        let same : z ≡ x = cc in
        absurd (cc (is, subst (λ (y : Fibril). is_live y ≡ true) (sym same) lives))
    by false (suc k) is h that more = more k h that

-- one that passes
record Passes (p : Fibril → Bool) (xs : List Fibril) : Type 0 where
  place : ℕ
  fibril : Fibril
  there : slice_get xs place ≡ Some fibril
  is : p fibril ≡ true

behind : (p : Fibril → Bool) (z : Fibril) (xs : List Fibril) → Passes p xs → Passes p (z ∷ xs)
behind p z xs one =
    record { place = suc one.place; fibril = one.fibril; there = one.there; is = one.is }

some_live : (p : Fibril → Bool) (xs : List Fibril) → list_any p (filter is_live xs) ≡ true →
    Passes p xs
some_live p [] some = absurd (cc some)
some_live p (z ∷ xs) some = by (is_live z) some (λ h. some_live p xs h)
  where
    first : (b : Bool) → p z ≡ b → (b || list_any p (filter is_live xs)) ≡ true →
        (list_any p (filter is_live xs) ≡ true → Passes p xs) → Passes p (z ∷ xs)
    first true e h more = record { place = zero; fibril = z; there = refl; is = e }
    first false e h more = behind p z xs (more h)

    by : (b : Bool) →
        list_any p (if b then z ∷ filter is_live xs else filter is_live xs) ≡ true →
        (list_any p (filter is_live xs) ≡ true → Passes p xs) → Passes p (z ∷ xs)
    by true h more = first (p z) refl h more
    by false h more = behind p z xs (more h)

none_waits : (n : ℕ) (a : AsyncState) (s : ℕ) →
    ((m : ℕ) → waits_for a s (record { 0 = suc m }) ≡ false) → any_waits n a s ≡ false
none_waits zero a s none = refl
none_waits (suc n) a s none = rw (none_waits n a s none, none n) refl

or_true : (b : Bool) → (b || true) ≡ true
or_true true = refl
or_true false = refl

some_waits : (n m : ℕ) (a : AsyncState) (s : ℕ) → m < n →
    waits_for a s (record { 0 = suc m }) ≡ true → any_waits n a s ≡ true
some_waits zero m a s less is = absurd (omega arith)
some_waits (suc n) m a s less is = by (cases_eq m n) (λ h. some_waits n m a s h is)
  where
    by : (m ≡ n) ⊎ (m ≡ n → ⊥) → (m < n → any_waits n a s ≡ true) → any_waits (suc n) a s ≡ true
    by (inl e) more =
        let last : waits_for a s (record { 0 = suc n }) ≡ true =
        subst (λ (k : ℕ). waits_for a s (record { 0 = suc k }) ≡ true) e is in
        rw last (or_true (any_waits n a s))
    by (inr other) more = rw (more (lower other)) refl
      where
        lower : (m ≡ n → ⊥) → m < n
        lower h = by_less (cases_eq m n)
          where
            by_less : (m ≡ n) ⊎ (m ≡ n → ⊥) → m < n
            by_less (inl e) = absurd (h e)
            by_less (inr g) = grind (arith, less, g)

within : (ts : List (Option Context)) (i : ℕ) (t : Context) → kept_at ts i ≡ Some t → i < length ts
within [] i t h = absurd (cc h)
within (u ∷ ts) zero t h = omega arith
within (u ∷ ts) (suc i) t h = let less = within ts i t h in omega arith

-- one that waits keeps something
has_context : (a : AsyncState) (s i : ℕ) → waits_for a s (record { 0 = suc i }) ≡ true →
    i < length a.contexts
has_context a s i is = by (kept_at a.contexts i) refl begins
  where
    begins : begins_in a s (kept_at a.contexts i) ≡ true
    begins =
        subst (λ (k : ℕ). begins_in a s (kept_at a.contexts k) ≡ true) (before_suc i)
        (and_second (is_blocked (why_of a.order (record { 0 = suc i })))
        (begins_in a s (kept_at a.contexts (suc i - 1))) is)

    by : (q : Option Context) → kept_at a.contexts i ≡ q → begins_in a s q ≡ true →
        i < length a.contexts
    by None e h = absurd (cc h)
    by (Some t) e h = within a.contexts i t e

unless_blocked :
    (a : AsyncState) (s m : ℕ) (q : Option Fibril) → slice_get a.order.fibrils m ≡ q →
    ((x : Fibril) → q ≡ Some x → is_live x ≡ true →
    waits_for a s (record { 0 = suc m }) ≡ false) → waits_for a s (record { 0 = suc m }) ≡ false
unless_blocked a s m None e live = rw e refl
unless_blocked a s m (Some x) e live = by x.status refl
  where
    by : (status : Status) → x.status ≡ status → waits_for a s (record { 0 = suc m }) ≡ false
    by Ready is = rw (e, is) refl
    by (Blocked w) is = live x refl (rw is refl)
    by Ended is = rw (e, is) refl

pub live_waits : (live : List Fibril) (a : AsyncState) (s : ℕ) → AreLive live a.order.fibrils →
    list_any (λ x. waits_for a s x.number) live ≡ any_waits (length a.contexts) a s
live_waits live a s are = by (list_any (λ x. waits_for a s x.number) live) refl
  where
    found : (b : Bool) → list_any (λ x. waits_for a s x.number) live ≡ b →
        list_any (λ x. waits_for a s x.number) (filter is_live a.order.fibrils) ≡ b
    found b e =
        subst (λ (l : List Fibril). list_any (λ x. waits_for a s x.number) l ≡ b) are.those e

    at : (i : ℕ) (x : Fibril) (b : Bool) → slice_get a.order.fibrils i ≡ Some x →
        waits_for a s x.number ≡ b → waits_for a s (record { 0 = suc i }) ≡ b
    at i x b there e =
        subst (λ (k : ℕ). waits_for a s (record { 0 = k }) ≡ b)
        (numbered_at 0 a.order.fibrils i x are.numbered there ∙ ap suc (omega arith)) e

    by : (b : Bool) → list_any (λ x. waits_for a s x.number) live ≡ b →
        b ≡ any_waits (length a.contexts) a s
    by true e =
        let one = some_live (λ x. waits_for a s x.number) a.order.fibrils (found true e) in
        let waits = at one.place one.fibril true one.there one.is in
        sym (some_waits (length a.contexts) one.place a s (has_context a s one.place waits) waits)
    by false e =
        sym (none_waits (length a.contexts) a s (λ m. unless_blocked a s m
        (slice_get a.order.fibrils m) refl (λ x there lives. at m x false there
        (none_live (λ y. waits_for a s y.number) a.order.fibrils m x (found false e) there lives))))

-- the same, where those that have not ended are in two parts
pub parts_wait : (front back : List Fibril) (a : AsyncState) (s : ℕ) →
    AreLive (front ++ back) a.order.fibrils →
    (list_any (λ x. waits_for a s x.number) front || list_any (λ x. waits_for a s x.number) back)
    ≡ any_waits (length a.contexts) a s
parts_wait front back a s are =
    sym (list_any-append (λ x. waits_for a s x.number) front back)
    ∙ live_waits (front ++ back) a s are
