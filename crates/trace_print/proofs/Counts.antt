-- Texts of which only the length is kept.
use Rattle.std.proofs.Common.{◌≡◌, ℕ, ◌+◌, ◌*◌, ◌<◌, List, [], ◌∷◌, ◌++◌, length, map, replicate, ap, refl, ◌∙◌, sym, arith}
use Rattle.std.proofs.lemmas.List.{length-replicate, replicate-append-replicate}
use Rattle.trace_print.specs.Text.{digits_text, bytes_text}

pub map_zero : (s : List ℕ) → map {B = ℕ} (λ _. 0) s ≡ replicate {A = ℕ} (length s) 0
map_zero [] = refl
map_zero (x ∷ s) = ap (λ (l : List ℕ). 0 ∷ l) (map_zero s)

pub count_more : (n k : ℕ) (s : List ℕ) → k ≡ length s
    → replicate {A = ℕ} (n + k) 0 ≡ replicate {A = ℕ} n 0 ++ map {B = ℕ} (λ _. 0) s
count_more n k s e =
    rw e (sym (ap (λ l. replicate {A = ℕ} n 0 ++ l) (map_zero s) ∙ replicate-append-replicate {A = ℕ} n (length s) 0))

pub count_is : (n : ℕ) (s : List ℕ) → replicate {A = ℕ} n 0 ≡ map {B = ℕ} (λ _. 0) s → n ≡ length s
count_is n s e = sym (length-replicate {A = ℕ} n 0) ∙ ap length (e ∙ map_zero s) ∙ length-replicate {A = ℕ} (length s) 0

pub length_digits : (bytes : List ℕ) → length (digits_text bytes) ≡ 2 * length bytes
length_digits [] = refl
length_digits (b ∷ bytes) =
    let tail : length (digits_text bytes) ≡ 2 * length bytes = length_digits bytes in omega arith

pub length_bytes : (bytes : List ℕ) → 0 < length bytes → length (bytes_text bytes) ≡ 2 * length bytes
length_bytes [] some = omega arith
length_bytes (b ∷ bytes) some = length_digits (b ∷ bytes)
