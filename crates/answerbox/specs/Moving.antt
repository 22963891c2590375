-- What becomes of the slots and of the ends where a call comes, moves, is forgotten or leaves.
use Rattle.std.specs.Prelude.{ℕ, ◌<◌, List, length, Option, None, Some, IfSome, option_and_then}
use Rattle.std.specs.FinMap.{get, insert, remove}
use Rattle.call_slab.specs.declared.call.Call.{Call}
use Rattle.call_slab.specs.declared.call.Place.{Place}
use Rattle.call_slab.specs.declared.slots.Slot.{Slot}
use Rattle.call_slab.specs.Calls.{CallsState, call_of, links_of}
use Rattle.call_slab.specs.Links.{no_links}
use Rattle.call_slab.specs.Slots.{at_key}
use Rattle.answerbox.specs.declared.chains.Ends.{Ends}
use Rattle.answerbox.specs.declared.chains.Chain.{Chain}
use Rattle.answerbox.specs.declared.chains.Chain.TheVariants.{Queue, Own}
use Rattle.answerbox.specs.Chain.{Slots, place_index, row_of, Chained, AreFew, unlinked_slots, unlinked_rows, appended_slots, appended_rows}

-- the number of the list in which the key stands
abbrev pub row_at : Chain → Slots → ℕ → Option ℕ
row_at chain m k = option_and_then (row_of chain) (call_of (get m k))

-- a slot whose call changes
abbrev pub with_call : (Call → Call) → Slot → Slot
with_call change s = record s { call = change s.call }

-- a call that comes to a place
abbrev pub placed : Place → ℕ → Call → Call
placed place stamp c = record c { place = place; stamp = stamp }

-- the key is taken out of its list
abbrev pub out_slots : Chain → Slots → ℕ → Slots
out_slots chain m k = unlinked_slots chain m (row_at chain m k) (links_of (get m k))

-- the ends of the lists after that
abbrev pub out_rows : Chain → Slots → List Ends → ℕ → List Ends
out_rows chain m es k = unlinked_rows chain es (row_at chain m k) (links_of (get m k))

-- the key goes to the end of another queue
abbrev pub moved_slots : Slots → List Ends → ℕ → Place → ℕ → Slots
moved_slots m es k place stamp = appended_slots Queue (at_key (with_call (placed place stamp)) (out_slots Queue m k) k) (out_rows Queue m es k) (Some (place_index place)) k

-- the ends of the queues after that
abbrev pub moved_rows : Slots → List Ends → ℕ → Place → List Ends
moved_rows m es k place = appended_rows (out_rows Queue m es k) (Some (place_index place)) k

-- the slot of a new call
abbrev pub new_slot : Call → Slot
new_slot c = record { name = c.number.0; call = c; links = no_links }

-- a new call comes last in its queue and in the list of its caller
abbrev pub new_slots : Slots → List Ends → List Ends → ℕ → Call → Slots
new_slots m queues owns k c = appended_slots Own (appended_slots Queue (insert m k (new_slot c)) queues (row_of Queue c) k) owns (row_of Own c) k

-- a call may come: there is room for it, its number and its stamp are above all before, and its lists
-- are there
pub record MayCome (a : CallsState) (queues owns : List Ends) (c : Call) : Type 0 where
  pub room : 0 < a.spare
  pub above : a.last < c.number.0
  pub queued : Chained Queue a.slots queues c.stamp
  pub listed : Chained Own a.slots owns c.number.0
  pub within : place_index c.place < length queues
  pub caller : IfSome (row_of Own c) (λ t. t < length owns)
  pub counts : AreFew queues
  pub own_counts : AreFew owns

-- the key leaves both lists and is free
abbrev pub left_slots : Slots → ℕ → Slots
left_slots m k = remove (unlinked_slots Own (out_slots Queue m k) (row_at Own m k) (links_of (get m k))) k

-- the caller of a call has ended
abbrev pub no_caller : Call → Call
no_caller c = record c { caller = None }

-- the key leaves the list of its caller, who has ended
abbrev pub forgotten_slots : Slots → ℕ → Slots
forgotten_slots m k = at_key (with_call no_caller) (out_slots Own m k) k
