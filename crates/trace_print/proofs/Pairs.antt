-- The digits of a number, two at a time.
use Rattle.std.proofs.Common.{◌≡◌, ℕ, zero, suc, ◌-◌, ◌+◌, ◌*◌, ◌/◌, ◌%◌, ◌^◌, ◌<◌, ◌≤◌, Bool, true, ◌&&◌, List, [], ◌∷◌, ◌++◌, slice_index, slice_set, length, take, drop, decimal, length-append, refl, ap, ◌∙◌, inl, inr, append_assoc, arith}
use Rattle.std.specs.Prelude.{◌==◌}
use Rattle.std.proofs.lemmas.Bool.{and_parts, cases_lt, eqb-true}
use Rattle.std.proofs.lemmas.Fmt.{decimal_digit, decimal_step, decimal_nonempty}
use Rattle.std.proofs.lemmas.List.{drop-set, length-set, length-drop, take_all}
use Rattle.trace_print.proofs.Digits.{length_20, length_two}
use Rattle.trace_print.specs.declared.number.TheConstants.{PAIRS}

-- two digits
abbrev pub pair : ℕ → List ℕ
pair n = (48 + n / 10) ∷ (48 + n % 10) ∷ []

-- ---- the table

abbrev are_pairs : ℕ → Bool
are_pairs zero = true
are_pairs (suc n) = (slice_index PAIRS (n * 2) == 48 + n / 10 && slice_index PAIRS (n * 2 + 1) == 48 + n % 10) && are_pairs n

below : (most n : ℕ) → are_pairs most ≡ true → n < most → (slice_index PAIRS (n * 2) ≡ 48 + n / 10) × (slice_index PAIRS (n * 2 + 1) ≡ 48 + n % 10)
below zero n all h = absurd (omega (arith, h))
below (suc most) n all h =
    let parts = and_parts (slice_index PAIRS (most * 2) == 48 + most / 10 && slice_index PAIRS (most * 2 + 1) == 48 + most % 10) (are_pairs most) all in
    let both = and_parts (slice_index PAIRS (most * 2) == 48 + most / 10) (slice_index PAIRS (most * 2 + 1) == 48 + most % 10) parts.0 in
    elim (cases_lt n most) [
      | inl lt ↦ below most n parts.1 lt
      | inr ge ↦ let e : n ≡ most = omega arith in rw e (eqb-true _ _ both.0, eqb-true _ _ both.1)
    ]

pub pair_at : (n : ℕ) → n < 100 → (slice_index PAIRS (n * 2) ≡ 48 + n / 10) × (slice_index PAIRS (n * 2 + 1) ≡ 48 + n % 10)
pair_at n h = below 100 n refl h

-- ---- the digits

pub tens : (n : ℕ) → 10 ≤ n → n < 100 → decimal n ≡ pair n
tens n low high = decimal_step n low (omega arith) ∙ ap (λ s. s ++ (48 + n % 10) ∷ []) (decimal_digit (n / 10) (omega arith))

pub pair_behind : (n : ℕ) → 100 ≤ n → n < 2 ^ 64 → decimal n ≡ decimal (n / 100) ++ pair (n % 100)
pair_behind n low high =
    let a : n / 10 / 10 ≡ n / 100 = omega arith in
    let b : n / 10 % 10 ≡ n % 100 / 10 = omega arith in
    let c : n % 10 ≡ n % 100 % 10 = omega arith in
    rw (decimal_step n (omega arith) high, decimal_step (n / 10) (omega arith) (omega arith), append_assoc, a, b, ← c)

pub pairs_behind : (n : ℕ) → 10000 ≤ n → n < 2 ^ 64 → decimal n ≡ decimal (n / 10000) ++ (pair (n / 100 % 100) ++ pair (n % 100))
pairs_behind n low high =
    let a : n / 100 / 100 ≡ n / 10000 = omega arith in
    rw (pair_behind n (omega arith) high, pair_behind (n / 100) (omega arith) (omega arith), append_assoc, a)

-- ---- written from the last to the first

pub rest_of : (ds : List ℕ) (at : ℕ) → length ds ≡ 20 → take (20 - at) (drop at ds) ≡ drop at ds
rest_of ds at h = take_all (20 - at) (drop at ds) (omega (arith, length-drop at ds, h))

two_more : (n : ℕ) → 100 ≤ n → n < 2 ^ 64 → length (decimal n) ≡ length (decimal (n / 100)) + 2
two_more n low h = ap length (pair_behind n low h) ∙ length-append (decimal (n / 100)) (pair (n % 100))

-- two places are left, and one more
pub three_left : (n left at : ℕ) → n < 2 ^ 64 → left < 2 ^ 64 → 100 ≤ left → at + length (decimal n) ≡ 20 + length (decimal left) → 3 ≤ at
three_left n left at hn hl low count =
    let all : length (decimal n) ≤ 20 = length_20 n hn in
    let step : length (decimal left) ≡ length (decimal (left / 100)) + 2 = two_more left low hl in
    let more : 0 < length (decimal (left / 100)) = decimal_nonempty (left / 100) (omega arith) in
    omega arith

pub one_left : (n left at : ℕ) → n < 2 ^ 64 → left < 2 ^ 64 → at + length (decimal n) ≡ 20 + length (decimal left) → 1 ≤ at
one_left n left at hn hl count =
    let all : length (decimal n) ≤ 20 = length_20 n hn in
    let more : 0 < length (decimal left) = decimal_nonempty left hl in
    omega arith

pub two_left : (n left at : ℕ) → n < 2 ^ 64 → 10 ≤ left → left < 100 → at + length (decimal n) ≡ 20 + length (decimal left) → 2 ≤ at
two_left n left at hn low high count =
    let all : length (decimal n) ≤ 20 = length_20 n hn in
    let more : length (decimal left) ≡ 2 = length_two left low high in
    omega arith

pub count_step : (n left at : ℕ) → 100 ≤ left → left < 2 ^ 64 → 3 ≤ at → at + length (decimal n) ≡ 20 + length (decimal left) → at - 2 + length (decimal n) ≡ 20 + length (decimal (left / 100))
count_step n left at low h some count =
    let step : length (decimal left) ≡ length (decimal (left / 100)) + 2 = two_more left low h in omega arith

-- two bytes at a place
pub two_set :
    (ds : List ℕ) (i a b : ℕ) → i + 2 ≤ length ds → drop i (slice_set (slice_set ds (i + 1) b) i a) ≡ a ∷ b ∷ drop (i + 2) ds
two_set ds i a b h =
    drop-set (slice_set ds (i + 1) b) i a (omega (arith, h, length-set ds (i + 1) b))
    ∙ ap (λ l. a ∷ l) (drop-set ds (i + 1) b (omega (arith, h)))
    ∙ ap (λ n. a ∷ b ∷ drop n ds) (two i)
  where
    two : (n : ℕ) → n + 1 + 1 ≡ n + 2
    two n = omega arith

pub pair_step :
    (n left at : ℕ) (ds : List ℕ) → left < 2 ^ 64 → 100 ≤ left → 2 ≤ at → at ≤ length ds → decimal left ++ drop at ds ≡ decimal n →
    decimal (left / 100) ++ drop (at - 2) (slice_set (slice_set ds (at - 2 + 1) (slice_index PAIRS (left % 100 * 2 + 1))) (at - 2) (slice_index PAIRS (left % 100 * 2))) ≡ decimal n
pair_step n left at ds h low some inside text =
    let digits = pair_at (left % 100) (omega arith) in
    let e : at - 2 + 2 ≡ at = omega arith in
    rw (two_set ds (at - 2) (slice_index PAIRS (left % 100 * 2)) (slice_index PAIRS (left % 100 * 2 + 1)) (omega arith), e, digits.0, digits.1)
    (rw (pair_behind left low h, append_assoc) at text)

pub last_pair :
    (n left at : ℕ) (ds : List ℕ) → 10 ≤ left → left < 100 → 2 ≤ at → at ≤ length ds → decimal left ++ drop at ds ≡ decimal n →
    drop (at - 2) (slice_set (slice_set ds (at - 1) (slice_index PAIRS (left * 2 + 1))) (at - 2) (slice_index PAIRS (left * 2))) ≡ decimal n
last_pair n left at ds low high some inside text =
    let digits = pair_at left high in
    let e : at - 2 + 2 ≡ at = omega arith in
    let f : at - 1 ≡ at - 2 + 1 = omega arith in
    rw (f, two_set ds (at - 2) (slice_index PAIRS (left * 2)) (slice_index PAIRS (left * 2 + 1)) (omega arith), e, digits.0, digits.1)
    (rw (tens left low high) at text)

pub last_digit :
    (n left at : ℕ) (ds : List ℕ) → left < 10 → 1 ≤ at → at ≤ length ds → decimal left ++ drop at ds ≡ decimal n →
    drop (at - 1) (slice_set ds (at - 1) (48 + left)) ≡ decimal n
last_digit n left at ds low some inside text =
    let e : at - 1 + 1 ≡ at = omega arith in
    rw (drop-set ds (at - 1) (48 + left) (omega arith), e) (rw (decimal_digit left low) at text)
