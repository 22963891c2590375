-- The order in which calls came to their place, whatever their stamps are.
use Rattle.std.specs.Prelude.{◌≡◌, ℕ, zero, suc, ◌+◌, Bool, ◌&&◌, if◌then◌else◌, List, [], ◌∷◌, ◌++◌, Option, None, Some, option_map, nat_lt}
use Rattle.call_slab.specs.declared.call.Call.{Call}
use Rattle.answerbox.specs.Calls.{CallTable, call_at, same_place}
use Rattle.state_words.specs.declared.stands.Stand.{Stand}

-- where a call stands, and its stamp
abbrev pub stand_of : Call → Stand
stand_of c = record { place = c.place; stamp = c.stamp }

-- the stand of a call, where there is one
abbrev pub found_stand : Option Call → List Stand
found_stand None = []
found_stand (Some c) = stand_of c ∷ []

-- the stands of so many calls, from number n on, those that are live
abbrev pub stands_from : CallTable → ℕ → ℕ → List Stand
stands_from calls n zero = []
stands_from calls n (suc k) = found_stand (call_at calls n) ++ stands_from calls (n + 1) k

-- the stands of all live calls, by their numbers
abbrev pub stands : CallTable → List Stand
stands calls = stands_from calls 0 calls.next_number

-- whether one stands at the same place, and came there before
abbrev pub is_sooner : Stand → Stand → Bool
is_sooner one other = same_place one.place other.place && nat_lt one.stamp other.stamp

-- how many of these stand at the place of this one and came there before
abbrev pub rank_among : List Stand → Stand → ℕ
rank_among [] stand = 0
rank_among (one ∷ others) stand = (if is_sooner one stand then 1 else 0) + rank_among others stand

-- how many live calls stand at the place of this one and came there before
abbrev pub rank : CallTable → Call → ℕ
rank calls c = rank_among (stands calls) (stand_of c)

-- the call, but for its stamp
abbrev pub unstamped : Call → Call
unstamped c = record c { stamp = 0 }

-- the live calls are the same but for their stamps, and have the same order within each place
pub record AreOfOneOrder (a b : CallTable) : Type 0 where
  pub next : a.next_number ≡ b.next_number
  pub same : (n : ℕ) → option_map unstamped (call_at a n) ≡ option_map unstamped (call_at b n)
  pub ranks : (n : ℕ) (c d : Call) → call_at a n ≡ Some c → call_at b n ≡ Some d → rank a c ≡ rank b d
