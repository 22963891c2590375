-- What the boxes keep: each live call under its number, in the queue of its place and in the list of its caller.
use Rattle.std.specs.Prelude.{◌≡◌, ℕ, ◌*◌, ◌^◌, ◌<◌, ◌≤◌, ◌==◌, Bool, false, List, [], ◌∷◌, length, Option, None, Some}
use Rattle.std.specs.Ordering.{nat_cmp}
use Rattle.std.specs.FinMap.{FinMap, get, entries, from_entries}
use Rattle.std.specs.Option.{option_map_or}
use Rattle.call_slab.specs.declared.call.Call.{Call}
use Rattle.call_slab.specs.Calls.{CallsState}
use Rattle.answerbox.specs.declared.chains.Ends.{Ends}
use Rattle.answerbox.specs.declared.chains.Chain.{Chain}
use Rattle.answerbox.specs.declared.chains.Chain.TheVariants.{Queue, Own}
use Rattle.answerbox.specs.Calls.{count_of}
use Rattle.answerbox.specs.Chain.{Slots, Core, cores, row_of, count_at, Chained}

-- the calls that these numbers lead to, each under its number
abbrev pub named : List (ℕ × ℕ) → Slots → List (ℕ × Call)
named [] m = []
named (e ∷ es) m = option_map_or (λ s. (e.0, s.call) ∷ named es m) (get m e.1) (named es m)

-- the live calls by number
abbrev pub calls_in : CallsState → FinMap nat_cmp Call
calls_in a = from_entries (named (entries a.keys) a.slots)

-- each number leads to its call, and each call is known by its number
pub record Named (C : ℕ → Option Core) (K : ℕ → Option ℕ) : Type 0 where
  pub names : (q k : ℕ) → K q ≡ Some k → (c : Core) × (C k ≡ Some c) × (c.call.number.0 ≡ q)
  pub known : (k : ℕ) (c : Core) → C k ≡ Some c → (K c.call.number.0 ≡ Some k) × (c.name ≡ c.call.number.0)

-- each number is positive and below the next one
abbrev pub NumbersBelow : (ℕ → Option Core) → ℕ → Type 0
NumbersBelow C number = (k : ℕ) (c : Core) → C k ≡ Some c → (0 < c.call.number.0) × (c.call.number.0 < number)

-- whether these are one list
abbrev pub is_row : Option ℕ → ℕ → Bool
is_row None row = false
is_row (Some i) row = i == row

-- whether the call stands in that list
abbrev pub stands_in : Chain → ℕ → Call → Bool
stands_in chain row c = is_row (row_of chain c) row

-- each list knows how many calls stand in it
abbrev pub Counted : Chain → List Ends → FinMap nat_cmp Call → Type 0
Counted chain es calls = (i : ℕ) → count_at es i ≡ count_of (stands_in chain i) (entries calls)

-- all that holds of the calls, of the ends of the queues and of those of the callers' lists
pub record Stored (a : CallsState) (queues owns : List Ends) (number stamp : ℕ) : Type 0 where
  pub named : Named (cores a.slots) (get a.keys)
  pub numbers : NumbersBelow (cores a.slots) number
  pub first : 0 < number
  pub few : number ≤ 2 ^ 63
  pub last : a.last < number
  pub queued : Chained Queue a.slots queues stamp
  pub listed : Chained Own a.slots owns number
  pub rows : length queues ≡ 3 * length owns
  pub queue_counts : Counted Queue queues (calls_in a)
  pub own_counts : Counted Own owns (calls_in a)

-- how many tasks were added: the first list is that of task 0, and made later
abbrev pub tasks_of : List Ends → ℕ
tasks_of [] = 0
tasks_of (e ∷ es) = length es

-- the room for calls, which is none until there are ends
abbrev pub room_of : List Ends → ℕ → ℕ
room_of [] spare = 0
room_of (e ∷ es) spare = spare
