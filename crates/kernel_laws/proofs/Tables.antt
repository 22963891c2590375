-- What a table of calls has where a record came into it, and where one left it.
use Rattle.std.proofs.Common.{◌≡◌, ℕ, ◌⊎◌, inl, inr, None, Some, sym, ◌∙◌, ◌<◌, ◌≤◌, Option, refl, arith}
use Rattle.std.specs.FinMap.{get, insert}
use Rattle.std.proofs.lemmas.Option.{none-some, same_Some}
use Rattle.call_slab.specs.declared.call.Call.{Call}
use Rattle.call_slab.specs.declared.call.Place.{Place}
use Rattle.answerbox.specs.Calls.{CallTable, call_at, enqueue, put_at, without_call, with_record, without_caller}
use Rattle.switchboard.proofs.Lookups.{at_insert, at_remove, chosen}
use Rattle.std.specs.Option.{option_map_or}
use Rattle.switchboard.specs.State.{KernelState}
use Rattle.switchboard.specs.Sound.{IsSound}

-- a record came under number m: a live call is that one, or another that stands there as before
pub came_in : (q : CallTable) (m n : ℕ) (d c : Call) → get (insert q.records m d) n ≡ Some c
    → ((m ≡ n) × (d ≡ c)) ⊎ ((m ≡ n → ⊥) × (call_at q n ≡ Some c))
came_in q m n d c at = elim (chosen m n (Some d) (call_at q n) (Some c) (sym (at_insert q.records m n d) ∙ at)) [
  | inl h ↦ inl (h.0, same_Some d c h.1)
  | inr h ↦ inr h
]

-- so a call that comes to a queue, and one that goes to a place
pub came_by : (q : CallTable) (d c : Call) (n : ℕ) → call_at (enqueue q d) n ≡ Some c
    → ((d.number.0 ≡ n) × (record d { stamp = q.next_stamp } ≡ c)) ⊎ (call_at q n ≡ Some c)
came_by q d c n at =
    elim (came_in q d.number.0 n (record d { stamp = q.next_stamp }) c at) [ inl h ↦ inl h | inr h ↦ inr h.1 ]

pub put_by : (q : CallTable) (d c : Call) (place : Place) (n : ℕ) → call_at (put_at q d place) n ≡ Some c
    → ((d.number.0 ≡ n) × (record d { place = place; stamp = q.next_stamp } ≡ c)) ⊎ (call_at q n ≡ Some c)
put_by q d c place n at =
    elim (came_in q d.number.0 n (record d { place = place; stamp = q.next_stamp }) c at)
    [ inl h ↦ inl h | inr h ↦ inr h.1 ]

-- a call left: another that is live stood there before
pub gone_by : (q : CallTable) (m n : ℕ) (c : Call) → call_at (without_call q m) n ≡ Some c → call_at q n ≡ Some c
gone_by q m n c at = elim (chosen m n None (call_at q n) (Some c) (sym (at_remove q.records m n) ∙ at)) [
  | inl h ↦ absurd (none-some c h.1)
  | inr h ↦ h.1
]

-- a record lost its caller: a live call is that one, or stands there as before
pub forgot_by : (q : CallTable) (m n : ℕ) (c : Call) → call_at (without_caller q m) n ≡ Some c
    → ((d : Call) × (call_at q m ≡ Some d) × (d.number.0 ≡ n) × (record d { caller = None } ≡ c)) ⊎ (call_at q n ≡ Some c)
forgot_by q m n c at = by_call (call_at q m) refl at where
  by_call : (o : Option Call) → call_at q m ≡ o
      → call_at (option_map_or (λ (d : Call). with_record q (record d { caller = None })) o q) n ≡ Some c
      → ((d : Call) × (call_at q m ≡ Some d) × (d.number.0 ≡ n) × (record d { caller = None } ≡ c)) ⊎ (call_at q n ≡ Some c)
  by_call None is there = inr there
  by_call (Some d) is there =
      elim (came_in q d.number.0 n (record d { caller = None }) c there)
      [ inl h ↦ inl (d, is, h.0, h.1) | inr h ↦ inr h.1 ]

-- where live calls have numbers below the next one, none is live from there on
pub none_past : (q : CallTable) → ((n : ℕ) (c : Call) → call_at q n ≡ Some c → n < q.next_number)
    → (n : ℕ) → q.next_number ≤ n → call_at q n ≡ None
none_past q below n past = by_call (call_at q n) refl where
  by_call : (o : Option Call) → call_at q n ≡ o → o ≡ None
  by_call None is = refl
  by_call (Some c) is = absurd (let b = below n c is in omega (arith, b, past))

pub none_above : (k : KernelState) → IsSound k → (n : ℕ) → k.calls.next_number ≤ n → call_at k.calls n ≡ None
none_above k sound = none_past k.calls (λ n c is. (sound.calls.each n c is).below)
