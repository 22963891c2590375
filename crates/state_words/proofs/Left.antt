-- The words of what is left of a list, of numbers that are left.
use Rattle.std.proofs.Common.{ℕ, zero, suc, ◌≡◌, ◌<◌, ◌+◌, ◌-◌, List, [], ◌∷◌, ◌++◌, drop, refl, sym, ◌∙◌, ap, arith, append_assoc, length, get_or, slice_get, Option, Some}
use Rattle.std.proofs.lemmas.Bool.Decides.{nat_tests}
use Rattle.std.specs.List.{flat_map}
use Rattle.phone_table.specs.Phones.{row_at}
use Rattle.answerbox.specs.Calls.{CallTable, call_at}
use Rattle.state_words.specs.Words.{at_words, list_words, number_words, option_words}
use Rattle.state_words.specs.CallWords.{call_words, table_from}
use Rattle.state_words.specs.declared.stands.Stand.{Stand}
use Rattle.state_words.specs.Order.{found_stand, stands_from}

left_next : {A : Type 0} (words : A → List ℕ) (xs : List A) (p : ℕ) → flat_map words (drop p xs) ≡ at_words words (slice_get xs p) ++ flat_map words (drop (suc p) xs)
left_next words [] zero = refl
left_next words [] (suc p) = refl
left_next words (y ∷ xs) zero = refl
left_next words (y ∷ xs) (suc p) = left_next words xs p

pub left_at : {A : Type 0} (words : A → List ℕ) (xs : List A) (p : ℕ) → flat_map words (drop p xs) ≡ at_words words (slice_get xs p) ++ flat_map words (drop (p + 1) xs)
left_at words xs p =
    let e : suc p ≡ p + 1 = omega arith in
    left_next words xs p ∙ ap (λ (z : ℕ). at_words words (slice_get xs p) ++ flat_map words (drop z xs)) e

pub left_words : {A : Type 0} (words : A → List ℕ) (xs : List A) (p : ℕ) (x : A) → slice_get xs p ≡ Some x → flat_map words (drop p xs) ≡ words x ++ flat_map words (drop (p + 1) xs)
left_words {A} words xs p x h = left_at words xs p ∙ ap (λ (z : Option A). at_words words z ++ flat_map words (drop (p + 1) xs)) h

-- an item that a loop over a list has in hand is one of the list
item_there : {A : Type 0} (xs : List A) (p : ℕ) (x : A) → p < length xs → x ≡ get_or xs p x → slice_get xs p ≡ Some x
item_there [] p x less is = absurd (omega (arith, less))
item_there (y ∷ xs) zero x less is = ap (λ z. Some z) (sym is)
item_there (y ∷ xs) (suc p) x less is = item_there xs p x (omega (arith, less)) is

pub left_item : {A : Type 0} (words : A → List ℕ) (xs : List A) (p : ℕ) (x : A) → p < length xs → x ≡ get_or xs p x
    → flat_map words (drop p xs) ≡ words x ++ flat_map words (drop (p + 1) xs)
left_item words xs p x less is = left_words words xs p x (item_there xs p x less is)

pub row_at_next : {A : Type 0} (rows : List A) (t : ℕ) (x : A) → row_at rows (t + 1) ≡ Some x → slice_get rows t ≡ Some x
row_at_next rows t x h = grind (arith, nat_tests)

-- what was put there and what is left, after one more
pub one_more : {A : Type 0} (whole out new now rest left : List A) → out ++ left ≡ whole → left ≡ now ++ rest → new ≡ out ++ now → new ++ rest ≡ whole
one_more {A} whole out new now rest left a b c =
    ap (λ (z : List A). z ++ rest) c ∙ append_assoc out now rest ∙ ap (λ (z : List A). out ++ z) (sym b) ∙ a

pub left_calls : (among : List Stand) (calls : CallTable) (n m : ℕ) → n < m → table_from among calls n (m - n) ≡ option_words (call_words among) (call_at calls n) ++ table_from among calls (n + 1) (m - (n + 1))
left_calls among calls n m l =
    let a : m - n ≡ suc (m - (n + 1)) = omega arith in
    ap (λ (z : ℕ). table_from among calls n z) a

pub left_stands : (calls : CallTable) (n m : ℕ) → n < m → stands_from calls n (m - n) ≡ found_stand (call_at calls n) ++ stands_from calls (n + 1) (m - (n + 1))
left_stands calls n m l =
    let a : m - n ≡ suc (m - (n + 1)) = omega arith in
    ap (λ (z : ℕ). stands_from calls n z) a

number_by_number : (xs : List ℕ) → flat_map number_words xs ≡ xs
number_by_number [] = refl
number_by_number (x ∷ xs) = ap (λ (z : List ℕ). x ∷ z) (number_by_number xs)

-- a list's length, and then the whole list
pub numbers_at_once : (out with new xs : List ℕ) → with ≡ out ++ length xs ∷ [] → new ≡ with ++ xs → new ≡ out ++ list_words number_words xs
numbers_at_once out with new xs e f =
    f ∙ ap (λ (z : List ℕ). z ++ xs) e ∙ append_assoc out (length xs ∷ []) xs
    ∙ ap (λ (z : List ℕ). out ++ length xs ∷ z) (sym (number_by_number xs))
