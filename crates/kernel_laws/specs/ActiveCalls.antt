-- Which calls are active over a phone.
use Rattle.std.specs.Prelude.{◌≡◌, ℕ, List, slice_get, Some}
use Rattle.ipc_ids.specs.declared.numbers.TaskNo.{TaskNo}
use Rattle.call_slab.specs.declared.call.Call.{Call}
use Rattle.answerbox.specs.Calls.{CallTable, call_at}
use Rattle.switchboard.specs.State.{label_of}

-- call n is active over phone p of task t: it is live, it was made over that phone, and its caller, which is t, has not
-- ended
abbrev pub IsActive : CallTable → TaskNo → ℕ → ℕ → Type 0
IsActive calls t p n = (c : Call) × (call_at calls n ≡ Some c) × (c.from ≡ label_of t p) × (c.caller ≡ Some t)

-- a number is one of these
abbrev pub IsOneOf : ℕ → List ℕ → Type 0
IsOneOf n ns = (i : ℕ) × (slice_get ns i ≡ Some n)

-- these are the numbers of the calls that are active over the phone: all of them, no others, and each once
pub record AreTheActive (calls : CallTable) (t : TaskNo) (p : ℕ) (ns : List ℕ) : Type 0 where
  pub all : (n : ℕ) → IsActive calls t p n → IsOneOf n ns
  pub others : (n : ℕ) → IsOneOf n ns → IsActive calls t p n
  pub once : (i j n : ℕ) → slice_get ns i ≡ Some n → slice_get ns j ≡ Some n → i ≡ j

-- there are such numbers
abbrev pub HasActive : CallTable → TaskNo → ℕ → Type 0
HasActive calls t p = (ns : List ℕ) × AreTheActive calls t p ns
