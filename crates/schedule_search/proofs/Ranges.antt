-- What holds of all numbers of a range, or of one of them, seen one number after the other.
use Rattle.std.proofs.Common.{ℕ, suc, ◌≡◌, ◌+◌, Bool, true, false, ◌&&◌, sym, ◌∙◌, ap}
use Rattle.std.specs.Prelude.{◌||◌}
use Rattle.std.specs.List.{list_all, list_any, range_with_len}

-- k numbers are left from a on, of which the first is a; `whole` is what the whole range comes to
module _ (f : ℕ → Bool) (a k j : ℕ) (whole : Bool) (one : k ≡ suc j) where
  pub all_on : f a ≡ true → list_all f (range_with_len a k) ≡ whole → list_all f (range_with_len (a + 1) j) ≡ whole
  all_on holds h =
      ap (λ (b : Bool). b && list_all f (range_with_len (a + 1) j)) (sym holds)
      ∙ ap (λ (n : ℕ). list_all f (range_with_len a n)) (sym one)
      ∙ h

  pub not_all : f a ≡ false → list_all f (range_with_len a k) ≡ whole → false ≡ whole
  not_all fails h =
      ap (λ (b : Bool). b && list_all f (range_with_len (a + 1) j)) (sym fails)
      ∙ ap (λ (n : ℕ). list_all f (range_with_len a n)) (sym one)
      ∙ h

  pub any_on : f a ≡ false → list_any f (range_with_len a k) ≡ whole → list_any f (range_with_len (a + 1) j) ≡ whole
  any_on fails h =
      ap (λ (b : Bool). b || list_any f (range_with_len (a + 1) j)) (sym fails)
      ∙ ap (λ (n : ℕ). list_any f (range_with_len a n)) (sym one)
      ∙ h

  pub any_here : f a ≡ true → list_any f (range_with_len a k) ≡ whole → true ≡ whole
  any_here holds h =
      ap (λ (b : Bool). b || list_any f (range_with_len (a + 1) j)) (sym holds)
      ∙ ap (λ (n : ℕ). list_any f (range_with_len a n)) (sym one)
      ∙ h

-- none is left
pub all_seen : (f : ℕ → Bool) (a k : ℕ) (whole : Bool) → k ≡ 0 → list_all f (range_with_len a k) ≡ whole → true ≡ whole
all_seen f a k whole none h = ap (λ (n : ℕ). list_all f (range_with_len a n)) (sym none) ∙ h

pub none_seen : (f : ℕ → Bool) (a k : ℕ) (whole : Bool) → k ≡ 0 → list_any f (range_with_len a k) ≡ whole → false ≡ whole
none_seen f a k whole none h = ap (λ (n : ℕ). list_any f (range_with_len a n)) (sym none) ∙ h
