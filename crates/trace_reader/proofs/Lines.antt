-- The first word of the first line.
use Rattle.std.proofs.Common.{ℕ, suc, ◌≡◌, ◌<◌, ◌+◌, ◌⊎◌, List, [], ◌∷◌, length, take, drop, get_or, refl, ap, arith, eq-eqb, ne_eqb}
use Rattle.std.proofs.lemmas.Bool.{cases_eq}
use Rattle.std.specs.Prelude.{slice_index}
use Rattle.std.proofs.lemmas.List.{drop-drop, drop_more}
use Rattle.trace_reader.specs.Words.{before, behind}

-- the first word of the first line
abbrev pub first_word : List ℕ → List ℕ
first_word text = before 32 (before 10 text)

pub take_word : (t : List ℕ) → take (length (first_word t)) t ≡ first_word t
take_word [] = refl
take_word (b ∷ t) = grind (arith, eq-eqb, ne_eqb, cases_eq b 10, cases_eq b 32, take_word t)

-- a word that ends with the line
pub is_last : (t : List ℕ) → (length (first_word t) ≡ length t) ⊎ (slice_index t (length (first_word t)) ≡ 10) → behind 32 (before 10 t) ≡ []
is_last [] h = refl
is_last (b ∷ t) h = grind (arith, eq-eqb, ne_eqb, cases_eq b 10, cases_eq b 32, is_last t)

pub last_length : (t : List ℕ) → (length (first_word t) ≡ length t) ⊎ (slice_index t (length (first_word t)) ≡ 10) → length (before 10 t) ≡ length (first_word t)
last_length [] h = refl
last_length (b ∷ t) h = grind (arith, eq-eqb, ne_eqb, cases_eq b 10, cases_eq b 32, last_length t)

-- a word behind which the line goes on
pub goes_on :
    (t : List ℕ) → length (first_word t) < length t → (slice_index t (length (first_word t)) ≡ 10 → ⊥) →
    before 10 (drop (suc (length (first_word t))) t) ≡ behind 32 (before 10 t)
goes_on [] h k = absurd (omega (arith, h))
goes_on (b ∷ t) h k = grind (arith, eq-eqb, ne_eqb, cases_eq b 10, cases_eq b 32, goes_on t)

pub longer :
    (t : List ℕ) → length (first_word t) < length t → (slice_index t (length (first_word t)) ≡ 10 → ⊥) →
    length (before 10 t) ≡ suc (length (first_word t) + length (before 10 (drop (suc (length (first_word t))) t)))
longer [] h k = absurd (omega (arith, h))
longer (b ∷ t) h k = grind (arith, eq-eqb, ne_eqb, cases_eq b 10, cases_eq b 32, longer t)

-- ---- bytes above a space
high_byte : (b : ℕ) (t : List ℕ) → 32 < b → length (first_word (b ∷ t)) ≡ suc (length (first_word t))
high_byte b t high = grind (arith, eq-eqb, ne_eqb, cases_eq b 10, cases_eq b 32)

-- one byte on
pub pass_one :
    (t : List ℕ) (k : ℕ) → k < length t → 32 < get_or t k 0 → k + length (first_word (drop k t)) ≡ length (first_word t) →
    k + 1 + length (first_word (drop (k + 1) t)) ≡ length (first_word t)
pass_one t k within high so =
    omega (arith, ap (λ (l : List ℕ). length (first_word l)) (drop_more t k 0 within), high_byte (get_or t k 0) (drop (k + 1) t) high, so)

pub none_passed : (t : List ℕ) → 0 + length (first_word (drop 0 t)) ≡ length (first_word t)
none_passed t = omega arith

-- so many bytes behind others
pub pass_on :
    (text rest : List ℕ) (count k n : ℕ) → rest ≡ drop count text → k + length (first_word (drop k rest)) ≡ length (first_word rest) →
    count + length (first_word rest) ≡ n → count + k + length (first_word (drop (count + k) text)) ≡ n
pass_on text rest count k n is so all =
    omega (arith, ap (λ (l : List ℕ). length (first_word (drop k l))) is, ap (λ (l : List ℕ). length (first_word l)) (drop-drop k count text), so, all)

no_word : (b : ℕ) (t : List ℕ) → b ≡ 32 → length (first_word (b ∷ t)) ≡ 0
no_word b t space = grind (arith, eq-eqb, ne_eqb, cases_eq b 10, cases_eq b 32)

-- the first word ends where a space comes first
pub ends_at : (t : List ℕ) (n : ℕ) → n < length t → slice_index t n ≡ 32 → n + length (first_word (drop n t)) ≡ length (first_word t) → n ≡ length (first_word t)
ends_at t n within space so =
    omega (arith, ap (λ (l : List ℕ). length (first_word l)) (drop_more t n 0 within), no_word (get_or t n 0) (drop (n + 1) t) space, so)
