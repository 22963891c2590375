-- In a list whose keys rise, a search by halves finds what a look at each item finds, and to remove
-- what is found there is to keep the items with other keys.
use Rattle.std.proofs.Common.{ℕ, zero, suc, ◌≡◌, ◌≢◌, ◌-◌, ◌<◌, ◌≤◌, ◌⊎◌, inl, inr}
use Rattle.std.proofs.Common.{List, [], ◌∷◌, length, get_or, Some, None, Err}
use Rattle.std.proofs.Common.{refl, sym, arith}
use Rattle.std.specs.Prelude.{◌==◌, not}
use Rattle.std.specs.List.{All, AllPairs, HoldsAt, find, filter, remove}
use Rattle.std.specs.List.Sorted.{IsNonDecreasingBy, IsBinarySearchResult}
use Rattle.std.specs.Ordering.{nat_cmp, ordering_index}
use Rattle.std.proofs.lemmas.Cmp.{ranked}
use Rattle.std.proofs.lemmas.Bool.{cases_lt, eq-eqb, ne_eqb}
use Rattle.std.proofs.lemmas.Bool.Decides.{nat_tests}
use Rattle.std.proofs.lemmas.List.{get_or_default}

-- each item has a smaller key than all later ones
abbrev pub Rise : {X : Type 0} → (X → ℕ) → List X → Type 0
Rise key = AllPairs (λ x y. key x < key y)

module _ {X : Type 0} (key : X → ℕ) where
  rest_rises : (x : X) (xs : List X) → Rise key (x ∷ xs) → Rise key xs
  rest_rises x xs rise i j d less within = rise (suc i) (suc j) d (omega arith) (omega arith)

  compared_rise : (xs : List X) (n : ℕ) → Rise key xs →
      IsNonDecreasingBy (λ x. ordering_index (nat_cmp (key x) n)) xs
  compared_rise xs n rise i j d less within = by (cases_lt i j)
    where
      by : (i < j) ⊎ (j ≤ i) →
          ordering_index (nat_cmp (key (get_or xs i d)) n)
          ≤ ordering_index (nat_cmp (key (get_or xs j d)) n)
      by (inl h) = let below = rise i j d h within in grind (arith, nat_tests)
      by (inr h) = let same : i ≡ j = omega arith in rw same (omega arith)

  -- where the search finds no place, none has the key n
  pub found_nowhere : (xs : List X) (n k : ℕ) → Rise key xs →
      IsBinarySearchResult (λ x. nat_cmp (key x) n) xs (Err k) → All (λ x. key x ≢ n) xs
  found_nowhere xs n k rise found i d within is =
      let parts = found (compared_rise xs n rise) in
      by (cases_lt i k) (λ h. ranked _ n _ (sym (parts.0 i d (omega arith) h)))
      (λ h. ranked _ n _ (sym (parts.1 i d h within)))
    where
      by : (i < k) ⊎ (k ≤ i) → (i < k → key (get_or xs i d) < n) →
          (k ≤ i → n < key (get_or xs i d)) → ⊥
      by (inl h) below above = let less = below h in omega arith
      by (inr h) below above = let more = above h in omega arith

  -- none has the key n

  pub find_none : (xs : List X) (n : ℕ) → All (λ x. key x ≢ n) xs →
      find (λ x. key x == n) xs ≡ None
  find_none [] n none = refl
  find_none (x ∷ xs) n none =
      rw (ne_eqb (key x) n (none 0 x (omega arith)))
      (find_none xs n (λ i d h. none (suc i) d (omega arith)))

  pub filter_none : (xs : List X) (n : ℕ) → All (λ x. key x ≢ n) xs →
      filter (λ x. not (key x == n)) xs ≡ xs
  filter_none [] n none = refl
  filter_none (x ∷ xs) n none =
      rw (
        ne_eqb (key x) n (none 0 x (omega arith)),
        filter_none xs n (λ i d h. none (suc i) d (omega arith)),
      ) refl

  -- one at a place has it, so no other one does

  first_apart : (x : X) (xs : List X) (n i : ℕ) → Rise key (x ∷ xs) → i < length xs →
      HoldsAt (λ y. key y ≡ n) xs i → key x ≢ n
  first_apart x xs n i rise within is same =
      let less = rise 0 (suc i) x (omega arith) (omega arith) in
      let here = is x in omega arith

  others_apart : (x : X) (xs : List X) (n : ℕ) → Rise key (x ∷ xs) → key x ≡ n →
      All (λ y. key y ≢ n) xs
  others_apart x xs n rise is i d within same =
      let less = rise 0 (suc i) d (omega arith) (omega arith) in omega arith

  pub find_there : (xs : List X) (n i : ℕ) (d : X) → Rise key xs → i < length xs →
      HoldsAt (λ x. key x ≡ n) xs i → find (λ x. key x == n) xs ≡ Some (get_or xs i d)
  find_there [] n i d rise within is = absurd (omega arith)
  find_there (x ∷ xs) n zero d rise within is = rw (eq-eqb (key x) n (is x)) refl
  find_there (x ∷ xs) n (suc i) d rise within is =
      rw (ne_eqb (key x) n (first_apart x xs n i rise (omega arith) is))
      (find_there xs n i d (rest_rises x xs rise) (omega arith) is)

  pub filter_there : (xs : List X) (n i : ℕ) → Rise key xs → i < length xs →
      HoldsAt (λ x. key x ≡ n) xs i → remove xs i ≡ filter (λ x. not (key x == n)) xs
  filter_there [] n i rise within is = absurd (omega arith)
  filter_there (x ∷ xs) n zero rise within is =
      rw (eq-eqb (key x) n (is x), filter_none xs n (others_apart x xs n rise (is x))) refl
  filter_there (x ∷ xs) n (suc i) rise within is =
      rw (
        ne_eqb (key x) n (first_apart x xs n i rise (omega arith) is),
        filter_there xs n i (rest_rises x xs rise) (omega arith) is,
      ) refl

  -- all keys are below one that is above the last
  pub below_new : (xs : List X) (y z : X) → Rise key xs →
      key (get_or xs (length xs - 1) z) < key y → (i : ℕ) (d : X) → i < length xs →
      key (get_or xs i d) < key y
  below_new xs y z rise below i d within = by (cases_lt i (length xs - 1))
    where
      last : key (get_or xs (length xs - 1) d) < key y
      last = rw (get_or_default xs (length xs - 1) d z (omega arith)) below

      by : (i < length xs - 1) ⊎ (length xs - 1 ≤ i) → key (get_or xs i d) < key y
      by (inl h) = let one = rise i (length xs - 1) d h (omega arith) in omega (arith, last)
      by (inr h) = let same : i ≡ length xs - 1 = omega arith in rw same last
