-- The exchanges of a task, with the begun ones counted by session and the idle ones listed beside.
use Rattle.std.specs.Prelude.{ℕ, ◌≡◌, ◌≤◌, ◌<◌, ◌+◌, ◌-◌, ◌^◌, Bool, false, List, [], ◌∷◌, ◌++◌}
use Rattle.std.specs.Prelude.{length, slice_index, slice_set, nat_lt, if◌then◌else◌}
use Rattle.std.specs.Prelude.{⊤, Result, OnErr, OnOk}
use Rattle.std.specs.List.{filter}
use Rattle.ipc_ids.specs.declared.numbers.ExchangeNo.{ExchangeNo}
use Rattle.ipc_ids.specs.declared.trace.NoMemory.{NoMemory}
use Rattle.async_sessions.specs.declared.sessions.Exchange.{Exchange}
use Rattle.async_sessions.specs.declared.sessions.Held.{Held}
use Rattle.async_sessions.specs.declared.sessions.Held.TheVariants.{Idle}
use Rattle.async_sessions.specs.Sessions.{same_held, is_begun_in, is_other, changed}
use Rattle.async_sessions.specs.ExchangeOrder.{AreRising, AreInOrder, HasNone}

-- the exchanges by rising number, and the number of the next one
pub record Kept : Type 0 where
  pub listed : List Exchange
  pub next_number : ℕ

-- exchanges, and for how many more there is room
pub record ExchangesState : Type 0 where
  pub now : Kept
  pub spare : ℕ

-- no exchanges; numbers begin with 1
abbrev pub none_kept : Kept
none_kept = record { listed = []; next_number = 1 }

-- this new exchange, which has the next number, is added
abbrev pub with_new : Exchange → Kept → Kept
with_new x k = record { listed = k.listed ++ x ∷ []; next_number = k.next_number + 1 }

-- the exchange e is held so from now on
abbrev pub with_changed : ExchangeNo → Held → ℕ → Kept → Kept
with_changed e held stamp k = record k { listed = changed e held stamp k.listed }

-- the exchange e is gone
abbrev pub without : ExchangeNo → Kept → Kept
without e k = record k { listed = filter (is_other e) k.listed }

-- whether the exchange is idle
abbrev pub is_idle : Exchange → Bool
is_idle x = same_held x.held Idle

-- one more is begun of this session; sessions from 16 on are not counted
abbrev pub one_more : ℕ → List ℕ → List ℕ
one_more s begun = if nat_lt s 16 then slice_set begun s (slice_index begun s + 1) else begun

-- one less is begun of this session
abbrev pub one_less : ℕ → List ℕ → List ℕ
one_less s begun = if nat_lt s 16 then slice_set begun s (slice_index begun s - 1) else begun

-- the counts with this exchange, if it is begun
abbrev pub counted_with : Exchange → List ℕ → List ℕ
counted_with x begun = if is_idle x then begun else one_more x.session begun

-- the counts without this exchange
abbrev pub counted_without : Exchange → List ℕ → List ℕ
counted_without x begun = if is_idle x then begun else one_less x.session begun

-- the exchange is among these, at its place by number
abbrev pub placed : Exchange → List Exchange → List Exchange
placed x [] = x ∷ []
placed x (y ∷ ys) = if nat_lt x.number.0 y.number.0 then x ∷ y ∷ ys else y ∷ placed x ys

-- the idle exchanges with this one, if it is idle
abbrev pub idle_with : Exchange → List Exchange → List Exchange
idle_with x idle = if is_idle x then placed x idle else idle

-- the idle exchanges without this one
abbrev pub idle_without : Exchange → List Exchange → List Exchange
idle_without x idle = if is_idle x then filter (is_other x.number) idle else idle

-- how many of these exchanges are begun of this session
abbrev pub begun_count : ℕ → List Exchange → ℕ
begun_count s xs = length (filter (is_begun_in s) xs)

-- the counts are those of the sessions below 16, and just the idle exchanges are beside
pub record AreGrouped (xs : List Exchange) (begun : List ℕ) (idle : List Exchange) : Type 0 where
  pub counts : (s : ℕ) → s < 16 → slice_index begun s ≡ begun_count s xs
  pub those_idle : idle ≡ filter is_idle xs

-- the exchange can leave its group: if it is begun, it is counted
pub record CanLeave (x : Exchange) (begun : List ℕ) (idle : List Exchange) : Type 0 where
  pub counted : is_idle x ≡ false → x.session < 16 → 0 < slice_index begun x.session
  pub rising : AreRising 0 idle

-- the exchange can enter a group: its count has not run out, and there is room among the idle ones
pub record CanEnter (x : Exchange) (begun : List ℕ) (idle : List Exchange) (capacity : ℕ)
    : Type 0 where
  pub few : x.session < 16 → slice_index begun x.session + 1 < 2 ^ 64
  pub rising : AreRising 0 idle
  pub absent : HasNone x.number idle
  pub room : length idle < capacity

-- what a reservation comes to: room for this many, or there was not; the capacity is not less
pub record MakesRoom (result : Result ⊤ NoMemory) (count old new : ℕ) : Type 0 where
  pub room : OnOk result (count ≤ new)
  pub full : OnErr result (old < count)
  pub no_less : old ≤ new

-- the exchanges are in order and grouped, and all could be idle at once
pub record AreKept (xs : List Exchange) (next : ℕ) (begun : List ℕ) (idle : List Exchange)
    (capacity : ℕ) : Type 0 where
  pub in_order : AreInOrder xs next
  pub grouped : AreGrouped xs begun idle
  pub room : length xs ≤ capacity
