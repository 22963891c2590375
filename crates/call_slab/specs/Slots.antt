-- The slots of the live calls, and those that wait for a call.
use Rattle.std.specs.Prelude.{ℕ, ◌≤◌, ◌<◌, ◌==◌, Option, None, Some, IsSome, if◌then◌else◌, List, map, count_by, nat_eq, refl}
use Rattle.std.specs.Coded.{Coded, code_by, coded×, coded_ℕ}
use Rattle.std.specs.Ordering.{nat_cmp}
use Rattle.std.specs.FinMap.{FinMap, code, get, insert, from_sorted}
use Rattle.std.specs.Option.{option_map_or}
use Rattle.slab.specs.Slab.{Slab, entries_from}
use Rattle.slab.specs.Slab as slab
use Rattle.call_slab.specs.declared.call.Call.{Call}
use Rattle.call_slab.specs.declared.slots.Slot.{Slot}
use Rattle.call_slab.specs.declared.links.Links.{Links}
use Rattle.call_slab.specs.Links.{no_links}

-- the slots by key, and how many are ready for a call
pub record SlotsState : Type 0 where
  pub slots : FinMap nat_cmp Slot
  pub spare : ℕ

-- the slot, if a call is in it
abbrev pub live : Option Slot → Option Slot
live None = None
live (Some s) = if s.name == 0 then None else Some s

-- the slots with a call, by key
abbrev pub live_slots : Slab Slot → FinMap nat_cmp Slot
live_slots s = from_sorted (entries_from 0 (map live s.slots))

-- how often a slot may be ready: once where it waits for a call
abbrev pub vacancy : Option Slot → ℕ
vacancy None = 0
vacancy (Some s) = if s.name == 0 then 1 else 0

-- each slot that is ready waits for a call and is so once, and each key fits in four bytes
pub record AreReady (s : Slab Slot) (ready : List ℕ) : Type 0 where
  pub once : (key : ℕ) → count_by (nat_eq key) ready ≤ vacancy (slab.get s key)
  pub small : (key : ℕ) → IsSome (slab.get s key) → key < 4294967295

-- a slot with this number and this call, with no links
abbrev pub slot_with : ℕ → Call → Slot
slot_with name call = record { name = name; call = call; links = no_links }

-- the slot under this key changes
abbrev pub at_key : (Slot → Slot) → FinMap nat_cmp Slot → ℕ → FinMap nat_cmp Slot
at_key change slots key = option_map_or (λ s. insert slots key (change s)) (get slots key) slots

-- the links of the call under this key are these
abbrev pub with_links : SlotsState → ℕ → Links → SlotsState
with_links a key links = record a { slots = at_key (λ s. record s { links = links }) a.slots key }

-- the call under this key changes
abbrev pub with_call : SlotsState → ℕ → (Call → Call) → SlotsState
with_call a key change = record a { slots = at_key (λ s. record s { call = change s.call }) a.slots key }

-- how such a state is told from others, by a code of the slots
abbrev pub slots_code : Coded Slot → Coded SlotsState
slots_code slot =
    code_by (FinMap nat_cmp Slot × ℕ) (coded× (code coded_ℕ slot) coded_ℕ) (λ a. (a.slots, a.spare)) (λ p. record { slots = p.0; spare = p.1 }) (λ _. refl)
