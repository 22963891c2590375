-- When the words of a kernel tell it from others, and what two kernels of the same words have in common.
use Rattle.std.specs.Prelude.{ℕ, ◌≡◌, ◌<◌, Bool, List, Some, IsSome}
use Rattle.std.specs.Ordering.{nat_cmp}
use Rattle.std.specs.FinMap.{FinMap, get}
use Rattle.ipc_ids.specs.declared.message.PhoneState.{PhoneState}
use Rattle.call_slab.specs.declared.call.Call.{Call}
use Rattle.answerbox.specs.Calls.{CallTable, call_at}
use Rattle.address_space.specs.Memory.{Memory}
use Rattle.state_words.specs.Order.{AreOfOneOrder}

-- no live call has a number that is still to come
abbrev pub AreBelow : CallTable → Type 0
AreBelow calls = (n : ℕ) (c : Call) → call_at calls n ≡ Some c → n < calls.next_number

-- nothing stands under this number or above
abbrev pub AreUnder : {A : Type 0} → FinMap nat_cmp A → ℕ → Type 0
AreUnder map m = (q : ℕ) → IsSome (get map q) → q < m

-- no store has a number that is still to come
abbrev pub AreOld : Memory → Type 0
AreOld m = AreUnder m.stores m.next_store

-- all parts are the same but for the stamps of calls, and so is what comes behind their words
pub record AreSame (marks marks' : List Bool) (rows rows' : List (List PhoneState)) (table table' : CallTable)
    (memory memory' : Memory) (s t : List ℕ) : Type 0 where
  pub alive : marks ≡ marks'
  pub phones : rows ≡ rows'
  -- the live calls are the same but for their stamps, and stand in one order within each place
  pub calls : AreOfOneOrder table table'
  pub spaces : memory ≡ memory'
  pub rest : s ≡ t
