-- What is kept of entries to tell whether areas are lawful.
use Rattle.std.specs.Prelude.{ℕ, ◌≡◌, ◌≤◌, ◌==◌, Bool, true, false, Option, Some, None, List, [], ◌∷◌, length, nat_lt, if◌then◌else◌, option_map}
use Rattle.std.specs.Borrow.{Bor}
use Rattle.ipc_ids.specs.declared.message.Request.TheVariants as request
use Rattle.ipc_ids.specs.declared.entry.Entry.{Entry}
use Rattle.ipc_ids.specs.declared.entry.Entry.TheVariants as entry
use Rattle.ipc_ids.specs.Methods.{data_read}
use Rattle.ipc_ids.specs.Tales.{tales}
use Rattle.ipc_ids.specs.Life.{last_number}
use Rattle.ipc_ids.specs.Holdings.{Holding, Making, held, last_store, making}
use Rattle.ipc_ids.specs.AreaLaw.{HasMethod, Delivers}
use Rattle.law_check.specs.declared.areas.MadeCall.{MadeCall}
use Rattle.law_check.specs.declared.held.Area.{Area}
use Rattle.law_check.specs.Held.{area_at, AreByStore}
use Rattle.law_check.specs.declared.areas.Areas.{Areas}
use Rattle.law_check.specs.Lives.{kept_at}
use Rattle.law_check.specs.AreaSteps.{wants}

-- the area as the laws speak of it
abbrev pub holding : Area → Holding
holding a = record { pages = a.pages; rights = a.rights; store = a.store }

-- the entry that is referred to
abbrev pub entry_of : Option (Bor Entry) → Option Entry
entry_of e = option_map (λ r. r.now) e

-- the last entry
abbrev pub newest : List Entry → Option Entry
newest [] = None
newest (e ∷ p) = Some e

-- the entry is the head of an event
abbrev pub is_head_entry : Entry → Bool
is_head_entry (entry.Head t asked) = true
is_head_entry (entry.Kill t) = true
is_head_entry (entry.Gone t) = true
is_head_entry (entry.Spawn t) = true
is_head_entry _ = false

-- the arguments of a call, where the head of its event is one
abbrev pub called_of : Option Entry → Option (List ℕ)
called_of (Some (entry.Head asker (request.Call phone msg))) = Some msg.args
called_of _ = None

-- what is kept of a call that this task makes with this method in the event with this head
abbrev pub made_in : ℕ → ℕ → Option Entry → MadeCall
made_in caller method now = record { caller = caller; method = method; called = called_of now }

-- what is kept of how a call was made
abbrev pub summary : Making → MadeCall
summary m = record { caller = m.caller; method = m.method; called = called_of m.asked }

-- the call was made with this method
abbrev pub has_method : ℕ → Option MadeCall → Bool
has_method method None = false
has_method method (Some m) = m.method == method

-- the least of a number and one more
abbrev pub least_of : Option ℕ → ℕ → ℕ
least_of None n = n
least_of (Some d) n = if nat_lt d n then d else n

-- the least DATA_READ, as one more call is delivered
abbrev pub read_after : Bool → ℕ → Option ℕ → Option ℕ
read_after true n d = Some (least_of d n)
read_after false n d = d

-- the least DATA_READ that the present event has delivered
abbrev pub IsLeastRead : Option ℕ → List Entry → Type 0
IsLeastRead None p = (n : ℕ) → HasMethod data_read (making n p) → Delivers n p → ⊥
IsLeastRead (Some d) p =
    HasMethod data_read (making d p) × Delivers d p
    × ((n : ℕ) → HasMethod data_read (making n p) → Delivers n p → d ≤ n)

-- what is kept is what the entries say
pub record KnowsAreas (p : List Entry) (s : Areas) : Type 0 where
  pub calls : (n : ℕ) → option_map summary (making n p) ≡ kept_at s.made.items n
  pub count : length s.made.items ≡ last_number (tales p)
  pub areas : (t base : ℕ) → held t base p ≡ option_map holding (area_at s.held t base)
  pub by_store : AreByStore s.held
  pub store : s.last_store ≡ last_store p
  pub wanted : s.wants ≡ wants p
  pub least : IsLeastRead s.read p
