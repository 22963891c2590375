-- What a fibril keeps is changed twice.
use Rattle.std.proofs.Common.{ℕ, zero, suc, ◌≡◌, List, [], ◌∷◌, Option, None, Some, false}
use Rattle.std.proofs.Common.{refl, ap}
use Rattle.std.specs.Prelude.{◌-◌, if◌then◌else◌, is_some, slice_set}
use Rattle.ipc_ids.specs.declared.numbers.FibrilNo.{FibrilNo}
use Rattle.ipc_ids.specs.declared.numbers.Code.{Code}
use Rattle.async_task.specs.declared.context.Context.{Context}
use Rattle.async_task.specs.Kept.{kept_at}
use Rattle.async_task.specs.Contexts.{with_short, after_refused}
use Rattle.async_task.specs.AsyncState.{AsyncState, context_at, context_or_new, or_new}
use Rattle.async_task.specs.AsyncState.{with_context}

set_twice : (ts : List (Option Context)) (i : ℕ) (o p : Option Context) →
    slice_set (slice_set ts i o) i p ≡ slice_set ts i p
set_twice [] i o p = refl
set_twice (t ∷ ts) zero o p = refl
set_twice (t ∷ ts) (suc i) o p = ap (λ (us : List (Option Context)). t ∷ us) (set_twice ts i o p)

set_kept : (ts : List (Option Context)) (i : ℕ) (t u : Context) → kept_at ts i ≡ Some t →
    kept_at (slice_set ts i (Some u)) i ≡ Some u
set_kept [] i t u h = absurd (cc h)
set_kept (o ∷ ts) zero t u h = refl
set_kept (o ∷ ts) (suc i) t u h = set_kept ts i t u h

-- a begin is refused once it is told that no connect call met the limit
pub refused_begin : (a : AsyncState) (f : FibrilNo) (c : Code) →
    with_context (with_context a f (with_short (context_or_new a f) false)) f
    (after_refused (context_or_new (with_context a f (with_short (context_or_new a f) false)) f) c)
    ≡ with_context a f (after_refused (with_short (context_or_new a f) false) c)
refused_begin a f c = by (context_at a f) refl
  where
    kept : Option Context → Context → AsyncState
    kept o t =
        record a { contexts = if is_some o then slice_set a.contexts (f.0 - 1) (Some t) else a.contexts }

    by : (o : Option Context) → context_at a f ≡ o →
        with_context (kept o (with_short (or_new o) false)) f
        (after_refused (context_or_new (kept o (with_short (or_new o) false)) f) c)
        ≡ kept o (after_refused (with_short (or_new o) false) c)
    by None e = rw e refl
    by (Some t) e =
        rw (
          set_kept a.contexts (f.0 - 1) t (with_short t false) e,
          set_twice a.contexts (f.0 - 1) (Some (with_short t false)) (Some (after_refused (with_short t false) c)),
        ) refl
