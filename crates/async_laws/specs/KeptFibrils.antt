-- What the fibrils of a task say of the facts so far, the newest first.
use Rattle.std.specs.Prelude.{ℕ, suc, ◌≡◌, Bool, true, false, Option, Some, None, List, slice_get}
use Rattle.ipc_ids.specs.Facts.{Fact}
use Rattle.ipc_ids.specs.Replies.{has_ended}
use Rattle.fibril_core.specs.declared.fibrils.Status.{Status}
use Rattle.fibril_core.specs.declared.fibrils.Status.TheVariants.{Ready, Blocked, Ended}
use Rattle.fibril_core.specs.declared.fibrils.Fibril.{Fibril}
use Rattle.fibril_core.specs.Fibrils.{FibrilOrder}

abbrev pub is_ended : Status → Bool
is_ended Ready = false
is_ended (Blocked w) = false
is_ended Ended = true

-- whether there is a fibril that has ended
abbrev pub has_ended_at : Option Fibril → Bool
has_ended_at None = false
has_ended_at (Some x) = is_ended x.status

-- the fibrils fit these facts
pub record KeptFibrils (p : List Fact) (o : FibrilOrder) : Type 0 where
  -- a fibril has ended just where a fact says so
  pub ended : (i : ℕ) → has_ended (suc i) p ≡ has_ended_at (slice_get o.fibrils i)
  -- fibrils are numbered from 1 on
  pub numbered : (i : ℕ) (x : Fibril) → slice_get o.fibrils i ≡ Some x → x.number.0 ≡ suc i
