-- The live calls by key and the keys by number, and what may be done with them.
use Rattle.std.specs.Prelude.{◌≡◌, ℕ, ◌≤◌, Option, None, Some, option_map, refl}
use Rattle.std.specs.Coded.{Coded, code_by, coded×, coded_ℕ}
use Rattle.std.specs.Ordering.{nat_cmp}
use Rattle.std.specs.FinMap.{FinMap, code, get, insert}
use Rattle.std.specs.Option.{option_map_or}
use Rattle.call_slab.specs.declared.call.Call.{Call}
use Rattle.call_slab.specs.declared.call.Place.{Place}
use Rattle.call_slab.specs.declared.slots.Slot.{Slot}
use Rattle.call_slab.specs.declared.links.Links.{Links}
use Rattle.call_slab.specs.Links.{no_links}
use Rattle.call_slab.specs.Slots.{at_key}

-- the slots by key, the keys by number, the greatest number so far, 0 at first, and for how many more
-- calls there is room
pub record CallsState : Type 0 where
  pub slots : FinMap nat_cmp Slot
  pub keys : FinMap nat_cmp ℕ
  pub last : ℕ
  pub spare : ℕ

-- the number under which the call with this key was put
abbrev pub name_at : FinMap nat_cmp Slot → ℕ → Option ℕ
name_at slots key = option_map (λ s. s.name) (get slots key)

-- names by key and keys by number: each number leads to the one key that has it as its name, and none
-- is above the last one
pub record Keyed (names keys : ℕ → Option ℕ) (last : ℕ) : Type 0 where
  pub leads : (n key : ℕ) → keys n ≡ Some key → names key ≡ Some n
  pub known : (n key : ℕ) → names key ≡ Some n → keys n ≡ Some key
  pub low : (n key : ℕ) → names key ≡ Some n → n ≤ last

-- so do the numbers of these slots
abbrev pub IsKeyed : FinMap nat_cmp Slot → FinMap nat_cmp ℕ → ℕ → Type 0
IsKeyed slots keys last = Keyed (name_at slots) (get keys) last

-- the call with this key was put under this number
abbrev pub IsUnder : CallsState → ℕ → ℕ → Type 0
IsUnder calls n key = name_at calls.slots key ≡ Some n

-- no live call was put under this number
abbrev pub HasNoCall : CallsState → ℕ → Type 0
HasNoCall calls n = (key : ℕ) → IsUnder calls n key → ⊥

-- the call in a slot
abbrev pub call_of : Option Slot → Option Call
call_of slot = option_map (λ s. s.call) slot

-- the links in a slot
abbrev pub links_of : Option Slot → Links
links_of slot = option_map_or (λ s. s.links) slot no_links

-- the number under which the call of a slot was put
abbrev pub name_of : Option Slot → ℕ
name_of slot = option_map_or (λ s. s.name) slot 0

-- the call is put under this key, and the key under its number
abbrev pub put : CallsState → Call → ℕ → CallsState
put calls c key =
    record calls {
      slots = insert calls.slots key (record { name = c.number.0; call = c; links = no_links });
      keys = insert calls.keys c.number.0 key;
    }

-- the links of the call under this key are these
abbrev pub set_links : CallsState → ℕ → Links → CallsState
set_links calls key links = record calls { slots = at_key (λ s. record s { links = links }) calls.slots key }

-- the call under this key changes
abbrev pub change_call : CallsState → ℕ → (Call → Call) → CallsState
change_call calls key change = record calls { slots = at_key (λ s. record s { call = change s.call }) calls.slots key }

-- the call under this key has this place and this stamp
abbrev pub set_place : CallsState → ℕ → Place → ℕ → CallsState
set_place calls key place stamp = change_call calls key (λ c. record c { place = place; stamp = stamp })

-- the call under this key has no caller any more, who has ended
abbrev pub clear_caller : CallsState → ℕ → CallsState
clear_caller calls key = change_call calls key (λ c. record c { caller = None })

-- how such a state is told from others, by a code of the slots
abbrev pub calls_code : Coded Slot → Coded CallsState
calls_code slot =
    code_by (FinMap nat_cmp Slot × (FinMap nat_cmp ℕ × (ℕ × ℕ))) (coded× (code coded_ℕ slot) (coded× (code coded_ℕ coded_ℕ) (coded× coded_ℕ coded_ℕ))) (λ a. (a.slots, (a.keys, (a.last, a.spare)))) (λ p. record { slots = p.0; keys = p.1.0; last = p.1.1.0; spare = p.1.1.1 }) (λ _. refl)
