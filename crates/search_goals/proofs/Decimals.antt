-- The digits of a number are read as that number.
use Rattle.std.proofs.Common.{◌≡◌, ℕ, ◌+◌, ◌^◌, ◌%◌, ◌<◌, ◌≤◌, true, false, List, [], ◌∷◌, length, Some, refl, ap, ◌∙◌, arith, le-leb, lt-ltb, decimal}
use Rattle.std.specs.Prelude.{codes}
use Rattle.std.specs.Char.{is_ascii_digit}
use Rattle.std.specs.List.{list_all}
use Rattle.std.specs.Str.Parse.{digits_value}
use Rattle.std.proofs.lemmas.Bool.{and_parts, and_from, leb-true}
use Rattle.std.proofs.lemmas.List.Folds.{list_all-append}
use Rattle.std.proofs.lemmas.Fmt.{decimal_is_IsNumeral, decimal_by_steps, decimal_nonempty}
use Rattle.trace_print.proofs.Digits.{length_20}
use Rattle.ipc_ids.specs.Digits.{in_base}
use Rattle.script_lines.specs.Word.{number}
use Rattle.script_lines.specs.Text.{ends_word}
use Rattle.script_reader.specs.Schedule.{count_of}
use Rattle.script_reader.proofs.SpelledCounts.{count_is, all_digits, no_hex}
use Rattle.script_reader.proofs.StepLines.{between}
use Rattle.search_goals.proofs.Spaced.{goes, IsWord}

pub one_digit : (d : ℕ) → d < 10 → is_ascii_digit (48 + d) ≡ true
one_digit d h = rw (le-leb 48 (48 + d) (omega arith), le-leb (48 + d) 57 (omega (arith, h))) refl

pub are_digits : (n : ℕ) → n < 2 ^ 64 → list_all is_ascii_digit (decimal n) ≡ true
are_digits n fits =
    decimal_by_steps (λ (m : ℕ) (ds : List ℕ). list_all is_ascii_digit ds ≡ true)
    (λ m h. and_from _ _ (one_digit m h) refl)
    (λ m ds h all. list_all-append is_ascii_digit ds ((48 + m % 10) ∷ [])
    ∙ and_from _ _ all (and_from _ _ (one_digit (m % 10) (omega arith)) refl))
    n fits

spelled : (ds : List ℕ) (n : ℕ) → list_all is_ascii_digit ds ≡ true → 0 < length ds → length ds ≤ 20 →
    digits_value 10 ds ≡ n → n < 2 ^ 64 → number ds ≡ Some n
unfolding number in_base
spelled ds n all some few value fits =
    rw (no_hex ds all) (rw (
      lt-ltb 0 (length ds) some,
      le-leb (length ds) 20 few,
      all_digits ds all,
      lt-ltb
          (digits_value 10 ds) (2 ^ 64) (omega (arith, value, fits)),
    ) (ap Some value))

pub number_decimal : (n : ℕ) → n < 2 ^ 64 → number (decimal n) ≡ Some n
number_decimal n fits = spelled (decimal n) n (are_digits n fits) (decimal_nonempty n fits) (length_20 n fits)
    (decimal_is_IsNumeral n fits).1 fits

pub count_decimal : (n : ℕ) → 1 ≤ n → n ≤ 65536 → count_of (codes "x") (decimal n) ≡ Some n
count_decimal n lo hi = count_is (decimal n) n (number_decimal n (omega (arith, hi))) lo hi

-- ---- they are a word

pub going : (b : ℕ) → ends_word b ≡ false → goes b ≡ true
going b h = rw h refl

pub digit_goes : (b : ℕ) → is_ascii_digit b ≡ true → ends_word b ≡ false
digit_goes b h =
    let parts = and_parts _ _ h in
    between b (leb-true 48 b parts.0) (let hi = leb-true b 57 parts.1 in omega (arith, hi))

digits_go : (ds : List ℕ) → list_all is_ascii_digit ds ≡ true → list_all goes ds ≡ true
digits_go [] h = refl
digits_go (c ∷ ds) h =
    let parts = and_parts (is_ascii_digit c) (list_all is_ascii_digit ds) h in
    and_from _ _ (going c (digit_goes c parts.0)) (digits_go ds parts.1)

pub decimal_word : (n : ℕ) → n < 2 ^ 64 → IsWord (decimal n)
decimal_word n fits = (
  let some = decimal_nonempty n fits in omega (arith, some),
  digits_go (decimal n)
      (are_digits n fits),
)
