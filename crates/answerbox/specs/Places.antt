-- Where a live call stands, and which call came first to a place.
use Rattle.std.specs.Prelude.{◌≡◌, ◌≤◌, ℕ, true, false, Option, None, Some, IfSome, IfNone, IsSome, option_map}
use Rattle.ipc_ids.specs.declared.numbers.CallNo.{CallNo}
use Rattle.call_slab.specs.declared.call.Call.{Call}
use Rattle.call_slab.specs.declared.call.Place.{Place}
use Rattle.answerbox.specs.declared.found.Found.{Found}
use Rattle.answerbox.specs.Calls.{CallTable, IsNumberOf, call_at, front, same_place}

-- the live call with this number stands at this place
abbrev pub IsAt : CallTable → ℕ → Place → Type 0
IsAt calls n place = IfSome (call_at calls n) (λ c. same_place c.place place ≡ true)

-- the call with this number stands at the place, and no call there has a smaller stamp
pub record IsFrontOf (calls : CallTable) (n : ℕ) (place : Place) : Type 0 where
  pub here : IsAt calls n place
  pub least : (c : Call) (m : ℕ) (d : Call) → call_at calls n ≡ Some c → call_at calls m ≡ Some d → same_place d.place place ≡ true → c.stamp ≤ d.stamp

-- no live call stands at this place
abbrev pub HasNoCalls : CallTable → Place → Type 0
HasNoCalls calls place = (n : ℕ) (c : Call) → call_at calls n ≡ Some c → same_place c.place place ≡ false

-- this is the number of the live call that a search finds, if it finds one
abbrev pub IsFound : CallTable → Option Call → Option CallNo → Type 0
IsFound calls found None = found ≡ None
IsFound calls found (Some n) = IsNumberOf calls found n × IsSome (call_at calls n.0)

-- the number of the call that was found, if one was
abbrev pub number_found : Option Found → Option CallNo
number_found found = option_map (λ call. call.number) found

-- this is the number of the call that came first to the place, if one stands there
pub record IsFirst (calls : CallTable) (place : Place) (found : Option CallNo) : Type 0 where
  pub first : IsFound calls (front calls place) found
  pub least : IfSome found (λ n. IsFrontOf calls n.0 place)
  pub empty : IfNone found (HasNoCalls calls place)
