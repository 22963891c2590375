-- Calls of one order: the same are open in both tables.
use Rattle.std.proofs.Common.{ℕ, ◌≡◌, Bool, List, [], ◌∷◌, Option, None, Some, refl, sym, ◌∙◌, ap}
use Rattle.std.specs.Prelude.{◌||◌}
use Rattle.std.specs.List.{list_any, range_with_len}
use Rattle.std.specs.Option.{option_map}
use Rattle.ipc_ids.specs.declared.numbers.TaskNo.{TaskNo}
use Rattle.call_slab.specs.declared.call.Call.{Call}
use Rattle.answerbox.specs.Calls.{CallTable, call_at}
use Rattle.state_words.specs.Order.{unstamped, AreOfOneOrder}
use Rattle.schedule_search.specs.OpenCalls.{is_open, has_open_call}

-- the stamp of a call does not tell whether it is open
open_unstamped : (asked : Option TaskNo) (call : Option Call) → is_open asked (option_map unstamped call) ≡ is_open asked call
open_unstamped asked None = refl
open_unstamped asked (Some c) = refl

any_same : (f g : ℕ → Bool) (xs : List ℕ) → ((x : ℕ) → f x ≡ g x) → list_any f xs ≡ list_any g xs
any_same f g [] h = refl
any_same f g (x ∷ xs) h = ap (λ (b : Bool). b || list_any f xs) (h x) ∙ ap (λ (b : Bool). g x || b) (any_same f g xs h)

module _ (asked : Option TaskNo) (a b : CallTable) (order : AreOfOneOrder a b) where
  -- so the same calls are open
  pub open_alike : (n : ℕ) → is_open asked (call_at a n) ≡ is_open asked (call_at b n)
  open_alike n =
      sym (open_unstamped asked (call_at a n))
      ∙ ap (is_open asked) (order.same n)
      ∙ open_unstamped asked (call_at b n)

  -- and one is in both or in neither
  pub has_open_alike : has_open_call asked a ≡ has_open_call asked b
  has_open_alike =
      any_same (λ (n : ℕ). is_open asked (call_at a n)) (λ (n : ℕ). is_open asked (call_at b n)) (range_with_len 0 a.next_number) open_alike
      ∙ ap (λ (k : ℕ). list_any (λ (n : ℕ). is_open asked (call_at b n)) (range_with_len 0 k)) order.next
