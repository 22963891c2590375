-- What stands at a place, as the getters give it.
use Rattle.std.proofs.Common.{ℕ, zero, suc, ◌≡◌, ◌+◌, ◌<◌, List, [], ◌∷◌, length, Option, Some, refl, arith, ap}
use Rattle.std.specs.Prelude.{slice_get}
use Rattle.ipc_ids.specs.declared.numbers.ExchangeNo.{ExchangeNo}
use Rattle.fibril_core.specs.Fibrils.{FibrilOrder, fibril_at}
use Rattle.async_task.specs.declared.context.Context.{Context}
use Rattle.async_task.specs.declared.context.Slot.{Slot}
use Rattle.async_task.specs.Contexts.{slot_in, handle_in}
use Rattle.async_task.specs.Kept.{kept_at}

-- a slot of the list is what it holds
pub slot_there : (slots : List Slot) (k : ℕ) → k < length slots → slice_get slots k ≡ Some (slot_in (slice_get slots k))
slot_there [] k less = absurd (omega (arith, less))
slot_there (s ∷ slots) zero less = refl
slot_there (s ∷ slots) (suc k) less = slot_there slots k (omega (arith, less))

-- a handle of the list is what it names
pub handle_there : (handles : List (Option ExchangeNo)) (k : ℕ) → k < length handles
    → slice_get handles k ≡ Some (handle_in (slice_get handles k))
handle_there [] k less = absurd (omega (arith, less))
handle_there (h ∷ handles) zero less = refl
handle_there (h ∷ handles) (suc k) less = handle_there handles k (omega (arith, less))

-- a place of the list is what stands there
pub kept_there : (kept : List (Option Context)) (k : ℕ) → k < length kept → slice_get kept k ≡ Some (kept_at kept k)
kept_there [] k less = absurd (omega (arith, less))
kept_there (t ∷ kept) zero less = refl
kept_there (t ∷ kept) (suc k) less = kept_there kept k (omega (arith, less))

-- fibril k + 1 stands at place k
pub fibril_there : (o : FibrilOrder) (k : ℕ) → fibril_at o (k + 1) ≡ slice_get o.fibrils k
fibril_there o k = let next : k + 1 ≡ suc k = omega arith in ap (fibril_at o) next
