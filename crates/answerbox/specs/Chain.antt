-- The two lists that a call is linked in, what a change of links makes of them, and the ends of each.
use Rattle.std.specs.Prelude.{◌≡◌, ℕ, ◌+◌, ◌-◌, ◌*◌, ◌^◌, ◌<◌, ◌⊎◌, List, [], ◌∷◌, ◌++◌, length, Option, None, Some, IsSome, IfSome, slice_index_or, slice_set, option_map}
use Rattle.std.specs.Ordering.{nat_cmp}
use Rattle.std.specs.FinMap.{FinMap, get}
use Rattle.call_slab.specs.declared.call.Call.{Call}
use Rattle.call_slab.specs.declared.call.Place.{Place}
use Rattle.call_slab.specs.declared.call.Place.TheVariants.{Incoming, Dispatched, Answers}
use Rattle.call_slab.specs.declared.slots.Slot.{Slot}
use Rattle.call_slab.specs.declared.links.Links.{Links}
use Rattle.call_slab.specs.Calls.{CallsState, links_of}
use Rattle.call_slab.specs.Slots.{at_key}
use Rattle.answerbox.specs.declared.chains.Ends.{Ends}
use Rattle.answerbox.specs.declared.chains.Chain.{Chain}
use Rattle.answerbox.specs.declared.chains.Chain.TheVariants.{Queue, Own}
use Rattle.answerbox.specs.Order.{Spot, Linked}

-- the slots of the live calls by key
abbrev pub Slots : Type 0
Slots = FinMap nat_cmp Slot

-- a slot without its links
pub record Core : Type 0 where
  pub name : ℕ
  pub call : Call

-- what a slot has beside its links
abbrev pub core : Slot → Core
core s = record { name = s.name; call = s.call }

-- what each key has
abbrev pub cores : Slots → ℕ → Option Core
cores m k = option_map core (get m k)

-- the link to the next call of a list
abbrev pub next_link : Chain → Links → Option ℕ
next_link Queue links = links.after
next_link Own links = links.newer

-- the link to the call before in a list
abbrev pub previous_link : Chain → Links → Option ℕ
previous_link Queue links = links.before
previous_link Own links = links.older

-- the links with another next call of a list
abbrev pub with_next : Chain → Links → Option ℕ → Links
with_next Queue links o = record links { after = o }
with_next Own links o = record links { newer = o }

-- the links with another call before in a list
abbrev pub with_previous : Chain → Links → Option ℕ → Links
with_previous Queue links o = record links { before = o }
with_previous Own links o = record links { older = o }

-- the key that stands after each key
abbrev pub next_in : Chain → Slots → ℕ → Option ℕ
next_in chain m k = next_link chain (links_of (get m k))

-- the key that stands before each key
abbrev pub previous_in : Chain → Slots → ℕ → Option ℕ
previous_in chain m k = previous_link chain (links_of (get m k))

-- the number of a place among the queues
abbrev pub place_index : Place → ℕ
place_index (Incoming t) = 3 * t.0
place_index (Dispatched t) = 3 * t.0 + 1
place_index (Answers t) = 3 * t.0 + 2

-- the number of the list in which a call stands, if it stands in one
abbrev pub row_of : Chain → Call → Option ℕ
row_of Queue c = Some (place_index c.place)
row_of Own c = option_map (λ t. t.0) c.caller

-- by what a list rises
abbrev pub rank_of : Chain → Call → ℕ
rank_of Queue c = c.stamp
rank_of Own c = c.number.0

-- where a call stands, if it stands in a list
abbrev pub spot_of : Chain → Call → Option Spot
spot_of chain c = option_map (λ g. record { group = g; rank = rank_of chain c }) (row_of chain c)

-- where what is under a key stands
abbrev pub spot_at : Chain → Option Core → Option Spot
spot_at chain None = None
spot_at chain (Some c) = spot_of chain c.call

-- where each key stands
abbrev pub spots : Chain → Slots → ℕ → Option Spot
spots chain m k = spot_at chain (cores m k)

-- an empty list
abbrev pub no_ends : Ends
no_ends = record { first = None; last = None; count = 0 }

-- the ends of list i
abbrev pub ends_at : List Ends → ℕ → Ends
ends_at es i = slice_index_or es i no_ends

-- the first key of each list
abbrev pub first_of : List Ends → ℕ → Option ℕ
first_of es i = (ends_at es i).first

-- the last key of each list
abbrev pub last_of : List Ends → ℕ → Option ℕ
last_of es i = (ends_at es i).last

-- how many calls stand in each list
abbrev pub count_at : List Ends → ℕ → ℕ
count_at es i = (ends_at es i).count

-- there is room to count one more in each list
abbrev pub AreFew : List Ends → Type 0
AreFew es = (i : ℕ) → count_at es i < 2 ^ 63

-- each call stands in its list, by rising rank, and all ranks are below top
abbrev pub Chained : Chain → Slots → List Ends → ℕ → Type 0
Chained chain m es top = Linked (spots chain m) (next_in chain m) (previous_in chain m) (first_of es) (last_of es) top

-- the key has another next one
abbrev pub next_set : Chain → Slots → ℕ → Option ℕ → Slots
next_set chain m k o = at_key (λ s. record s { links = with_next chain (links_of (get m k)) o }) m k

-- the key has another one before
abbrev pub previous_set : Chain → Slots → ℕ → Option ℕ → Slots
previous_set chain m k o = at_key (λ s. record s { links = with_previous chain (links_of (get m k)) o }) m k

-- what stands before has another next one
abbrev pub next_put : Chain → Slots → Option ℕ → Option ℕ → Slots
next_put chain m None o = m
next_put chain m (Some k) o = next_set chain m k o

-- what stands after has another one before
abbrev pub previous_put : Chain → Slots → Option ℕ → Option ℕ → Slots
previous_put chain m None o = m
previous_put chain m (Some k) o = previous_set chain m k o

-- where nothing stands before, the list has another first key
abbrev pub first_put : Option ℕ → Option ℕ → Ends → Ends
first_put None o e = record e { first = o }
first_put (Some k) o e = e

-- where nothing stands after, the list has another last key
abbrev pub last_put : Option ℕ → Option ℕ → Ends → Ends
last_put None o e = record e { last = o }
last_put (Some k) o e = e

-- the neighbours of a key with these links are linked to each other
abbrev pub passed_slots : Chain → Slots → Links → Slots
passed_slots chain m links = previous_put chain (next_put chain m (previous_link chain links) (next_link chain links)) (next_link chain links) (previous_link chain links)

-- the ends of a list in which a key with these links is passed over
abbrev pub passed_ends : Chain → Links → Ends → Ends
passed_ends chain links e = record (last_put (next_link chain links) (previous_link chain links) (first_put (previous_link chain links) (next_link chain links) e)) { count = e.count - 1 }

-- key k is linked behind the last key
abbrev pub joined_slots : Chain → Slots → ℕ → Option ℕ → Slots
joined_slots chain m k last = at_key (λ s. record s { links = with_next chain (with_previous chain (links_of (get (next_put chain m last (Some k)) k)) last) None }) (next_put chain m last (Some k)) k

-- the ends of a list in which key k comes last
abbrev pub joined_ends : ℕ → Ends → Ends
joined_ends k e = record (first_put e.last (Some k) e) { last = Some k; count = e.count + 1 }

-- other slots, and the same keys and room
abbrev pub with_slots : CallsState → Slots → CallsState
with_slots a m = record a { slots = m }

-- the ends of list i change
abbrev pub at_row : (Ends → Ends) → List Ends → ℕ → List Ends
at_row change es i = slice_set es i (change (ends_at es i))

-- the list is there, and the neighbours in it of a key with these links are live
abbrev pub IsBetween : Chain → Slots → List Ends → Option ℕ → Links → Type 0
IsBetween chain m es None links = Unit {0}
IsBetween chain m es (Some i) links = (i < length es) × IfSome (previous_link chain links) (λ k. IsSome (get m k)) × IfSome (next_link chain links) (λ k. IsSome (get m k))

-- a key with these links is taken out of that list, if it stands in one
abbrev pub unlinked_slots : Chain → Slots → Option ℕ → Links → Slots
unlinked_slots chain m None links = m
unlinked_slots chain m (Some i) links = passed_slots chain m links

-- the ends of the lists after that
abbrev pub unlinked_rows : Chain → List Ends → Option ℕ → Links → List Ends
unlinked_rows chain es None links = es
unlinked_rows chain es (Some i) links = at_row (passed_ends chain links) es i

-- the list is there, and its last key and key k are live
abbrev pub IsBehind : Slots → List Ends → Option ℕ → ℕ → Type 0
IsBehind m es None k = Unit {0}
IsBehind m es (Some i) k = (i < length es) × IsSome (get m k) × IfSome (last_of es i) (λ j. IsSome (get m j))

-- key k comes last in that list, if it is to stand in one
abbrev pub appended_slots : Chain → Slots → List Ends → Option ℕ → ℕ → Slots
appended_slots chain m es None k = m
appended_slots chain m es (Some i) k = joined_slots chain m k (last_of es i)

-- the ends of the lists after that
abbrev pub appended_rows : List Ends → Option ℕ → ℕ → List Ends
appended_rows es None k = es
appended_rows es (Some i) k = at_row (joined_ends k) es i

-- each call stands in its queue and in the list of its caller
pub record AreLinked (m : Slots) (queues owns : List Ends) : Type 0 where
  pub stamp : ℕ
  pub number : ℕ
  pub queued : Chained Queue m queues stamp
  pub listed : Chained Own m owns number

-- three more queues, which are empty
abbrev pub more_queues : List Ends → List Ends
more_queues es = es ++ no_ends ∷ no_ends ∷ no_ends ∷ []

-- one more list of a caller, which is empty
abbrev pub more_owns : List Ends → List Ends
more_owns es = es ++ no_ends ∷ []

-- the ends are as they were, or the first task has its lists
abbrev pub IsGrown : List Ends → List Ends → List Ends → List Ends → Type 0
IsGrown queues [] more_qs more_os = ((more_qs ≡ queues) × (more_os ≡ [])) ⊎ ((more_qs ≡ more_queues queues) × (more_os ≡ more_owns []))
IsGrown queues (e ∷ es) more_qs more_os = (more_qs ≡ queues) × (more_os ≡ e ∷ es)
