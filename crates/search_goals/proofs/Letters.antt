-- Kinds of words by their letters, and those that stand for themselves.
use Rattle.std.proofs.Common.{◌≡◌, ℕ, true, false, List, [], ◌∷◌, length, get_or, refl, sym, ap, ne_eqb, arith}
use Rattle.std.specs.Prelude.{◌==◌, ◌&&◌, Bool}
use Rattle.std.specs.Str.{bytes_eq}
use Rattle.search_goals.specs.LineShapes.{is_of_kind}

no_more : (b : Bool) → b && false ≡ false
no_more true = refl
no_more false = refl

-- no word of one byte, or one of another byte
other_byte : (kind : List ℕ) (x : ℕ) → (length kind ≡ 1 → get_or kind 0 0 ≡ x → ⊥) → bytes_eq kind (x ∷ []) ≡ false
other_byte [] x h = refl
other_byte (k ∷ []) x h = ap (λ b. b && true) (ne_eqb k x (h refl))
other_byte (k ∷ l ∷ ks) x h = no_more (k == x)

-- a kind of this byte alone
one_byte : (kind : List ℕ) (x : ℕ) → length kind ≡ 1 → get_or kind 0 0 ≡ x → x ∷ [] ≡ kind
one_byte [] x one is = absurd (omega (arith, one))
one_byte (k ∷ []) x one is = ap (λ b. b ∷ []) (sym is)
one_byte (k ∷ l ∷ ks) x one is = absurd (omega (arith, one))

pub by_letter : (kind word : List ℕ) (x : ℕ) → length kind ≡ 1 → get_or kind 0 0 ≡ x → is_of_kind (x ∷ []) word ≡ is_of_kind kind word
by_letter kind word x one is = ap (λ (k : List ℕ). is_of_kind k word) (one_byte kind x one is)

module _ (kind word : List ℕ) where
  pub no_letter : (length kind ≡ 1 → get_or kind 0 0 ≡ 78 → ⊥) → (length kind ≡ 1 → get_or kind 0 0 ≡ 84 → ⊥)
      → (length kind ≡ 1 → get_or kind 0 0 ≡ 80 → ⊥) → (length kind ≡ 1 → get_or kind 0 0 ≡ 70 → ⊥)
      → (length kind ≡ 1 → get_or kind 0 0 ≡ 67 → ⊥) → (length kind ≡ 1 → get_or kind 0 0 ≡ 66 → ⊥)
      → bytes_eq kind word ≡ is_of_kind kind word
  unfolding is_of_kind
  no_letter n t p f c b =
      rw (other_byte kind 78 n)
      (rw (other_byte kind 84 t)
      (rw (other_byte kind 80 p) (rw (other_byte kind 70 f) (rw (other_byte kind 67 c) (rw (other_byte kind 66 b) refl)))))

  pub no_byte : (length kind ≡ 1 → ⊥) → bytes_eq kind word ≡ is_of_kind kind word
  no_byte not_one =
      no_letter (λ one e. not_one one) (λ one e. not_one one) (λ one e. not_one one) (λ one e. not_one one)
      (λ one e. not_one one) (λ one e. not_one one)
