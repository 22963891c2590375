-- What `in_base` gives, as a loop over the digits learns it.
use Rattle.std.proofs.Common.{◌≡◌, ℕ, ◌+◌, ◌*◌, ◌^◌, ◌<◌, ◌≤◌, true, false, List, length, take, get_or, Some, None, sym, refl, ap, ◌∙◌, inl, inr, arith}
use Rattle.std.proofs.lemmas.Bool.{cases_lt, cond-true, cond-false, and_from, and_left, and_right, lt-ltb, le-ltb, le-leb, lt-leb}
use Rattle.std.proofs.lemmas.Int.Digits.{digits_value_more}
use Rattle.std.proofs.lemmas.Str.Parse.{digits_value-take-le}
use Rattle.std.proofs.lemmas.List.Folds.{list_all_at, list_all_more}
use Rattle.std.specs.Char.{is_digit, digit_value}
use Rattle.std.specs.List.{list_all}
use Rattle.std.specs.Str.Parse.{digits_value}
use Rattle.ipc_ids.specs.Digits.{in_base}

wider : (x d : ℕ) → (x < 2 ^ 64 → ⊥) → x + d < 2 ^ 64 → ⊥
wider x d h lt = h (omega arith)

too_wide : (x y z : ℕ) → (x < 2 ^ 64 → ⊥) → x ≡ y → y ≤ z → 2 ^ 64 ≤ z
too_wide x y z h e le = elim (cases_lt x (2 ^ 64)) [ inl lt ↦ absurd (h lt) | inr ge ↦ omega arith ]

module _ (base most : ℕ) (ds : List ℕ) where
  pub is_empty : length ds ≡ 0 → None ≡ in_base base most ds
  unfolding in_base
  is_empty e = sym (cond-false _ _ _ (and_left _ _ (and_left _ _ (and_left _ _ (le-ltb 0 (length ds) (omega arith))))))

  pub is_long : most < length ds → None ≡ in_base base most ds
  unfolding in_base
  is_long h = sym (cond-false _ _ _ (and_left _ _ (and_left _ _ (and_right _ _ (lt-leb (length ds) most h)))))

  -- some byte is no digit
  pub no_digit : (i : ℕ) → i < length ds → is_digit (get_or ds i 0) base ≡ false → None ≡ in_base base most ds
  unfolding in_base
  no_digit i lt e = sym (cond-false _ _ _ (and_left _ _ (and_right _ _ (list_all_at (λ c. is_digit c base) ds i 0 lt e))))

  -- the digits up to some place are too great already
  pub too_great : (i v b d : ℕ) → 1 ≤ base → i < length ds → v ≡ digits_value base (take i ds) → b ≡ base → d ≡ digit_value (get_or ds i 0) → (v * b + d < 2 ^ 64 → ⊥) → None ≡ in_base base most ds
  unfolding in_base
  too_great i v b d one lt is base_is d_is h =
      let more = digits_value_more base ds i lt in
      let whole = digits_value-take-le base ds (i + 1) one in
      let here : digits_value base (take (i + 1) ds) ≡ v * b + d = rw (more, ← is, ← base_is, ← d_is) refl in
      sym (cond-false _ _ _ (and_right _ _ (le-ltb (digits_value base ds) (2 ^ 64) (too_wide (v * b + d) _ _ h (sym here) whole))))

  pub product_too_great : (i v b : ℕ) → 1 ≤ base → i < length ds → v ≡ digits_value base (take i ds) → b ≡ base → (v * b < 2 ^ 64 → ⊥) → None ≡ in_base base most ds
  product_too_great i v b one lt is base_is h = too_great i v b (digit_value (get_or ds i 0)) one lt is base_is refl (wider (v * b) (digit_value (get_or ds i 0)) h)

  -- one more digit
  pub more : (i v b d c n : ℕ) → i < length ds → v ≡ digits_value base (take i ds) → b ≡ base → c ≡ get_or ds i 0 → d ≡ digit_value c → n ≡ v * b + d → n ≡ digits_value base (take (i + 1) ds)
  more i v b d c n lt is base_is c_is d_is n_is = rw (digits_value_more base ds i lt, ← is, ← base_is, ← c_is, ← d_is) n_is

  pub digits_more : (i c : ℕ) → i < length ds → c ≡ get_or ds i 0 → digit_value c < base → list_all (λ x. is_digit x base) (take i ds) ≡ true → list_all (λ x. is_digit x base) (take (i + 1) ds) ≡ true
  digits_more i c lt c_is small all = list_all_more (λ x. is_digit x base) ds i 0 lt ∙ and_from _ _ all (ap (λ x. is_digit x base) (sym c_is) ∙ lt-ltb _ _ small)

  pub whole : (n : ℕ) → (length ds ≡ 0 → ⊥) → length ds ≤ most → list_all (λ c. is_digit c base) ds ≡ true → n ≡ digits_value base ds → n < 2 ^ 64 → Some n ≡ in_base base most ds
  unfolding in_base
  whole n some few all is small =
      ap Some is ∙ sym (cond-true _ _ _ (and_from _ _ (and_from _ _ (and_from _ _ (lt-ltb 0 (length ds) (omega arith)) (le-leb (length ds) most few)) all) (lt-ltb (digits_value base ds) (2 ^ 64) (omega arith))))
