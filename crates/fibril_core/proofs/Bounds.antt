-- How far the next stamp rises, and that no call but a spawn changes how many fibrils there are.
use Rattle.std.proofs.Common.{◌≡◌, ℕ, zero, suc, ◌-◌, Bool, true, false, length, Option, Some, None, refl, ◌∙◌}
use Rattle.std.specs.Prelude.{if◌then◌else◌, nat_lt, slice_set}
use Rattle.ipc_ids.specs.declared.message.Why.{Why}
use Rattle.ipc_ids.specs.declared.numbers.FibrilNo.{FibrilNo}
use Rattle.fibril_core.specs.declared.fibrils.Status.{Status}
use Rattle.fibril_core.specs.declared.fibrils.Status.TheVariants.{Ready}
use Rattle.fibril_core.specs.declared.fibrils.Fibril.{Fibril}
use Rattle.fibril_core.specs.Fibrils.{FibrilOrder, put_fibril, with_status, found_with, first_blocked, wake_times, wake_all}
use Rattle.fibril_core.proofs.Places.{length_set}

pub length_put : (o : FibrilOrder) (x : Fibril) → length (put_fibril o x).fibrils ≡ length o.fibrils
length_put o x = put_by (nat_lt (x.number.0 - 1) (length o.fibrils)) where
  put_by : (b : Bool) → length (if b then slice_set o.fibrils (x.number.0 - 1) x else o.fibrils) ≡ length o.fibrils
  put_by true = length_set o.fibrils (x.number.0 - 1) x
  put_by false = refl

pub length_status : (o : FibrilOrder) (f : FibrilNo) (s : Status) → length (with_status o f s).fibrils ≡ length o.fibrils
length_status o f s = length_put o (record { number = f; status = s; stamp = o.next_stamp })

pub length_found : (o : FibrilOrder) (s : Status) (q : Option FibrilNo) → length (found_with o s q).fibrils ≡ length o.fibrils
length_found o s None = refl
length_found o s (Some f) = length_status o f s

length_times : (n : ℕ) (o : FibrilOrder) (w : Why) → length (wake_times n o w).fibrils ≡ length o.fibrils
length_times zero o w = refl
length_times (suc n) o w = length_found (wake_times n o w) Ready (first_blocked (wake_times n o w) w) ∙ length_times n o w

pub length_wake_all : (o : FibrilOrder) (w : Why) → length (wake_all o w).fibrils ≡ length o.fibrils
length_wake_all o w = length_times (length o.fibrils) o w
