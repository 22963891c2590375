-- Calls of one order are written with the same words.
use Rattle.std.proofs.Common.{Option, None, Some, ℕ, zero, suc, ◌≡◌, ◌+◌, List, ◌∷◌, ◌++◌, refl, sym, ◌∙◌, ap}
use Rattle.std.specs.Prelude.{option_map}
use Rattle.call_slab.specs.declared.call.Call.{Call}
use Rattle.answerbox.specs.Calls.{CallTable, call_at}
use Rattle.state_words.specs.Words.{option_words}
use Rattle.state_words.specs.declared.stands.Stand.{Stand}
use Rattle.state_words.specs.Order.{stand_of, stands, rank_among, unstamped, AreOfOneOrder}
use Rattle.state_words.specs.CallWords.{call_words, table_from, table_words}
use Rattle.state_words.proofs.CallSplits.{told, told_with, told_words, words_of_told}

-- the same is told of calls that are the same but for their stamps, and have the same rank
told_again : (ma mb : List Stand) (o p : Option Call) → option_map unstamped o ≡ option_map unstamped p
    → ((c d : Call) → o ≡ Some c → p ≡ Some d → rank_among ma (stand_of c) ≡ rank_among mb (stand_of d))
    → option_map (told ma) o ≡ option_map (told mb) p
told_again ma mb None None e r = refl
told_again ma mb None (Some d) e r = absurd (cc)
told_again ma mb (Some c) None e r = absurd (cc)
told_again ma mb (Some c) (Some d) e r =
    let f : unstamped c ≡ unstamped d = cc in
    let g : rank_among ma (stand_of c) ≡ rank_among mb (stand_of d) = r c d refl refl in
    ap (λ (z : Call). Some (told_with z (rank_among ma (stand_of c)))) f ∙ ap (λ (z : ℕ). Some (told_with d z)) g

-- so many calls, from number n on
from_again : (a b : CallTable) → AreOfOneOrder a b → (n k : ℕ) → table_from (stands a) a n k ≡ table_from (stands b) b n k
from_again a b o n zero = refl
from_again a b o n (suc k) =
    let e = told_again (stands a) (stands b) (call_at a n) (call_at b n) (o.same n) (o.ranks n) in
    let f : option_words (call_words (stands a)) (call_at a n) ≡ option_words (call_words (stands b)) (call_at b n) =
    words_of_told (stands a) (call_at a n) ∙ ap (option_words told_words) e ∙ sym (words_of_told (stands b) (call_at b n)) in
    ap (λ (z : List ℕ). z ++ table_from (stands a) a (n + 1) k) f
    ∙ ap (λ (z : List ℕ). option_words (call_words (stands b)) (call_at b n) ++ z) (from_again a b o (n + 1) k)

-- live calls that are the same but for their stamps, in one order within each place, have the same words
pub words_again : (a b : CallTable) → AreOfOneOrder a b → table_words a ≡ table_words b
words_again a b o =
    ap (λ (z : ℕ). z ∷ table_from (stands a) a 0 z) o.next ∙ ap (λ (z : List ℕ). b.next_number ∷ z) (from_again a b o 0 b.next_number)
