-- Digits of a count, which are read one after the other.
use Rattle.std.proofs.Common.{◌≡◌, ℕ, ◌+◌, ◌*◌, ◌-◌, ◌≤◌, ◌<◌, ◌^◌, true, false, List, [], ◌∷◌, ◌++◌, length, Some, refl, sym, ap, ◌∙◌, arith, le-leb, lt-ltb, le-ltb}
use Rattle.std.specs.Prelude.{codes, drop, take, nat_eq, nat_le, slice_index_or}
use Rattle.std.specs.Char.{digit_value, is_digit, is_ascii_digit}
use Rattle.std.specs.List.{list_all, starts_with}
use Rattle.std.specs.Str.Parse.{digits_value, digits_value_after}
use Rattle.std.proofs.lemmas.Bool.{and_parts, and_from, leb-true, ne_eqb}
use Rattle.std.proofs.lemmas.List.{append_assoc, length-append, take_all}
use Rattle.std.proofs.lemmas.List.Folds.{list_all-append}
use Rattle.ipc_ids.specs.Digits.{in_base}
use Rattle.ipc_ids.proofs.Common.{and_false}
use Rattle.script_lines.specs.Word.{number}
use Rattle.script_reader.specs.Schedule.{count_of}
use Rattle.script_reader.specs.StepLine.{IsSpelled, IsCounted}

-- ---- one digit more

pub value_is : (c : ℕ) → 48 ≤ c → c ≤ 57 → digit_value c ≡ c - 48
value_is c low high = rw (le-ltb c 48 low, lt-ltb c 58 (omega (arith, high))) refl

more_after : (n : ℕ) (ds : List ℕ) (c : ℕ) → digits_value_after 10 n (ds ++ c ∷ []) ≡ digits_value_after 10 n ds * 10 + digit_value c
more_after n [] c = refl
more_after n (d ∷ ds) c = more_after (n * 10 + digit_value d) ds c

pub none_spelled : (text : List ℕ) → IsSpelled 0 text 0 text
none_spelled text = record { digits = []; parts = refl; are_digits = refl; few = omega arith; value = refl }

pub one_more : (most : ℕ) (text : List ℕ) (n : ℕ) (rest : List ℕ) → IsSpelled most text n rest → 1 ≤ length rest → 48 ≤ slice_index_or rest 0 0 → slice_index_or rest 0 0 ≤ 57
    → IsSpelled (most + 1) text (10 * n + (slice_index_or rest 0 0 - 48)) (take (length rest - 1) (drop 1 rest))
one_more most text n [] s there low high = absurd (omega (arith, there))
one_more most text n (c ∷ rest) s there low high = record {
  digits = s.digits ++ c ∷ [];
  parts =
      s.parts ∙ sym (append_assoc s.digits (c ∷ []) rest)
      ∙ ap (λ (l : List ℕ). (s.digits ++ c ∷ []) ++ l) (sym (take_all (length (c ∷ rest) - 1) rest (omega arith)));
  are_digits = list_all-append is_ascii_digit s.digits (c ∷ []) ∙ and_from _ _ s.are_digits (rw (le-leb 48 c low, le-leb c 57 high) refl);
  few = let count = length-append s.digits (c ∷ []) in let few = s.few in omega (arith, count, few);
  value = let value = s.value in let more = more_after 0 s.digits c in let last = value_is c low high in omega (arith, value, more, last);
}

pub no_more : (most : ℕ) (text : List ℕ) (n : ℕ) (rest : List ℕ) → most < 6 → IsSpelled most text n rest → IsSpelled 5 text n rest
no_more most text n rest less s = record {
  digits = s.digits;
  parts = s.parts;
  are_digits = s.are_digits;
  few = let few = s.few in omega (arith, few, less);
  value = s.value;
}

-- ---- what they count

pub all_digits : (ds : List ℕ) → list_all is_ascii_digit ds ≡ true → list_all (λ c. is_digit c 10) ds ≡ true
all_digits [] h = refl
all_digits (c ∷ ds) h =
    let parts = and_parts (is_ascii_digit c) (list_all is_ascii_digit ds) h in
    let range = and_parts _ _ parts.0 in
    let low = leb-true 48 c range.0 in
    let high = leb-true c 57 range.1 in
    and_from _ _ (lt-ltb (digit_value c) 10 (let value = value_is c low high in omega (arith, value, high))) (all_digits ds parts.1)

-- they are no hexadecimal number
pub no_hex : (ds : List ℕ) → list_all is_ascii_digit ds ≡ true → starts_with nat_eq ds (codes "0x") ≡ false
no_hex [] h = refl
no_hex (c ∷ []) h = and_false (nat_eq 48 c)
no_hex (c ∷ d ∷ ds) h =
    let parts = and_parts (is_ascii_digit d) (list_all is_ascii_digit ds) (and_parts (is_ascii_digit c) (list_all is_ascii_digit (d ∷ ds)) h).1 in
    let high : d ≤ 57 = leb-true d 57 (and_parts (nat_le 48 d) (nat_le d 57) parts.0).1 in
    let other : nat_eq 120 d ≡ false = ne_eqb 120 d (λ (e : 120 ≡ d). omega (arith, e, high)) in
    rw other (and_false (nat_eq 48 c))

some : (ds : List ℕ) (n : ℕ) → n ≡ digits_value 10 ds → 1 ≤ n → 1 ≤ length ds
some [] n e lo = absurd (omega (arith, e, lo))
some (c ∷ ds) n e lo = omega arith

spelled : (ds : List ℕ) (n : ℕ) → list_all is_ascii_digit ds ≡ true → length ds ≤ 5 → n ≡ digits_value 10 ds → 1 ≤ n → n ≤ 65536 → number ds ≡ Some n
unfolding number in_base
spelled ds n all few value lo hi =
    let count = some ds n value lo in
    rw (no_hex ds all) (rw (lt-ltb 0 (length ds) (omega (arith, count)), le-leb (length ds) 20 (omega (arith, few)), all_digits ds all, lt-ltb (digits_value 10 ds) (2 ^ 64) (omega (arith, value, hi))) (ap Some (sym value)))

pub count_is : (ds : List ℕ) (n : ℕ) → number ds ≡ Some n → 1 ≤ n → n ≤ 65536 → count_of (codes "x") ds ≡ Some n
unfolding count_of
count_is ds n e lo hi = rw e (rw (le-leb 1 n lo, le-leb n 65536 hi) refl)

pub counts : (text front rest others : List ℕ) (n : ℕ) → text ≡ codes " x " ++ front → IsSpelled 5 front n rest → rest ≡ 10 ∷ others → 1 ≤ n → n ≤ 65536 → IsCounted text n others
counts text front rest others n e s f lo hi = record {
  digits = s.digits;
  parts = e ∙ ap (λ (l : List ℕ). codes " x " ++ l) (s.parts ∙ ap (λ (l : List ℕ). s.digits ++ l) f);
  are_digits = s.are_digits;
  counted = count_is s.digits n (spelled s.digits n s.are_digits s.few s.value lo hi) lo hi;
}
