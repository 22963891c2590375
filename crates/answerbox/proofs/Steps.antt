-- What is live where no call is, and what a change of a live call is.
use Rattle.std.proofs.Common.{◌≡◌, ℕ, None, Some}
use Rattle.std.specs.FinMap.{get-empty}
use Rattle.call_slab.specs.declared.call.Call.{Call}
use Rattle.answerbox.specs.Calls.{CallTable, no_calls, call_at, with_record, with_change}
use Rattle.std.specs.Ordering.{nat_cmp}

pub call_at-no_calls : (n : ℕ) → call_at no_calls n ≡ None
call_at-no_calls n = get-empty nat_cmp n

-- a change of a live call is one of its record
pub with_change-record : (q : CallTable) (k : ℕ) (c : Call) (change : Call → Call) → call_at q k ≡ Some c → with_change q k change ≡ with_record q (change c)
with_change-record q k c change is = rw is
