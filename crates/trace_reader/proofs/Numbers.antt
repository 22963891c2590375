-- A number that is read several digits at a time.
use Rattle.std.proofs.Common.{ℕ, ◌≡◌, ◌≤◌, ◌+◌, ◌-◌, ◌*◌, ◌%◌, ◌^◌, List, [], ◌∷◌, length, get_or, take, drop, refl, sym, ap, ◌∙◌, arith}
use Rattle.std.proofs.lemmas.List.{take_rest}
use Rattle.trace_reader.specs.Words.{digit_on, number_after}

first : (n c : ℕ) → digit_on n c ≡ (n * 10 + c + (2 ^ 64 - 48)) % 2 ^ 64
first n c = omega arith

-- one digit behind a number that is not yet cut to 64 bits
on : (n c : ℕ) → digit_on (n % 2 ^ 64) c ≡ (n * 10 + c + (2 ^ 64 - 48)) % 2 ^ 64
on n c = omega arith

sum : (n a b k : ℕ) → (n * 10 + a + k) * 10 + b + k ≡ n * 100 + (a * 10 + b) + k * 11
sum n a b k = omega arith

cut : (n x : ℕ) → ((n * 100 % 2 ^ 64 + x) % 2 ^ 64 + (2 ^ 64 - 528)) % 2 ^ 64 ≡ (n * 100 + x + (2 ^ 64 - 48) * 11) % 2 ^ 64
cut n x = omega arith

two_more : (n a b : ℕ) → ((n * 100 % 2 ^ 64 + (a * 10 + b)) % 2 ^ 64 + (2 ^ 64 - 528)) % 2 ^ 64 ≡ digit_on (digit_on n a) b
two_more n a b =
    let k = 2 ^ 64 - 48 in
    cut n (a * 10 + b)
    ∙ ap (λ (m : ℕ). m % 2 ^ 64) (sym (sum n a b k))
    ∙ sym (on (n * 10 + a + k) b)
    ∙ ap (λ m. digit_on m b) (sym (first n a))

-- two digits of a word, and then the rest of it
pub pair_on :
    (n : ℕ) (w : List ℕ) → 2 ≤ length w →
    number_after (((n * 100 % 2 ^ 64 + (get_or w 0 0 * 10 + get_or w 1 0)) % 2 ^ 64 + (2 ^ 64 - 528)) % 2 ^ 64) (take (length w - 2) (drop 2 w)) ≡ number_after n w
pair_on n [] h = absurd (omega (arith, h))
pair_on n (a ∷ []) h = absurd (omega (arith, h))
pair_on n (a ∷ b ∷ w) h = rw (take_rest, two_more n a b) refl

four_more :
    (n a b c d : ℕ) →
    ((n * 10000 % 2 ^ 64 + ((a * 10 + b) * 100 + (c * 10 + d))) % 2 ^ 64 + (2 ^ 64 - 53328)) % 2 ^ 64 ≡ digit_on (digit_on (digit_on (digit_on n a) b) c) d
four_more n a b c d =
    let k = 2 ^ 64 - 48 in
    let one = n * 10 + a + k in
    let two = one * 10 + b + k in
    let three = two * 10 + c + k in
    cut_four n ((a * 10 + b) * 100 + (c * 10 + d))
    ∙ ap (λ (m : ℕ). m % 2 ^ 64) (sym (sum_four n a b c d k))
    ∙ sym (on three d)
    ∙ ap (λ m. digit_on m d) (sym (on two c))
    ∙ ap (λ m. digit_on (digit_on m c) d) (sym (on one b))
    ∙ ap (λ m. digit_on (digit_on (digit_on m b) c) d) (sym (first n a))
  where
    sum_four : (n a b c d k : ℕ) → (((n * 10 + a + k) * 10 + b + k) * 10 + c + k) * 10 + d + k ≡ n * 10000 + ((a * 10 + b) * 100 + (c * 10 + d)) + k * 1111
    sum_four n a b c d k = omega arith

    cut_four : (n x : ℕ) → ((n * 10000 % 2 ^ 64 + x) % 2 ^ 64 + (2 ^ 64 - 53328)) % 2 ^ 64 ≡ (n * 10000 + x + (2 ^ 64 - 48) * 1111) % 2 ^ 64
    cut_four n x = omega arith

-- four digits of a word, and then the rest of it
pub four_on :
    (n : ℕ) (w : List ℕ) → 4 ≤ length w →
    number_after (((n * 10000 % 2 ^ 64 + ((get_or w 0 0 * 10 + get_or w 1 0) * 100 + (get_or w 2 0 * 10 + get_or w 3 0))) % 2 ^ 64 + (2 ^ 64 - 53328)) % 2 ^ 64) (take (length w - 4) (drop 4 w)) ≡ number_after n w
four_on n [] h = absurd (omega (arith, h))
four_on n (a ∷ []) h = absurd (omega (arith, h))
four_on n (a ∷ b ∷ []) h = absurd (omega (arith, h))
four_on n (a ∷ b ∷ c ∷ []) h = absurd (omega (arith, h))
four_on n (a ∷ b ∷ c ∷ d ∷ w) h = rw (take_rest, four_more n a b c d) refl
