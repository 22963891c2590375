-- The first of a list that passes a test, told by what stands at each place.
use Rattle.std.proofs.Common.{◌≡◌, ◌≢◌, ℕ, zero, suc, ◌+◌, ◌<◌, Bool, true, false, List, [], ◌∷◌, ◌++◌, length, Option, Some, None, refl, ap, sym, ◌∙◌, subst, arith}
use Rattle.std.specs.Prelude.{if◌then◌else◌, slice_get, slice_set, position, nat_lt, IsSome}
use Rattle.std.specs.List.{find, remove, position_or_len}
use Rattle.std.specs.Option.{OnSome}
use Rattle.std.proofs.lemmas.Bool.Decides.{nat_tests}
use Rattle.std.proofs.lemmas.Option.{same_Some}

-- the place of an element behind a first one
abbrev pub shifted : Option ℕ → Option ℕ
shifted None = None
shifted (Some i) = Some (suc i)

-- the place that an element had before another was removed
abbrev pub skip : ℕ → ℕ → ℕ
skip zero j = suc j
skip (suc i) zero = zero
skip (suc i) (suc j) = suc (skip i j)

-- what is so where there is a value
pub on_some : {X P : Type 0} (r : Option X) → IsSome r → OnSome r P → P
on_some None some h = absurd (cc some)
on_some (Some x) some h = h

pub same_pred : (j k : ℕ) → suc j ≡ suc k → j ≡ k
same_pred j k e = omega arith

module _ {X : Type 0} where
  pub position_here : (p : X → Bool) (x : X) (xs : List X) → p x ≡ true → position p (x ∷ xs) ≡ Some 0
  position_here p x xs h = rw h (less_here (length xs)) where
    less_here : (n : ℕ) → ◌≡◌ {A = Option ℕ} (if nat_lt zero (suc n) then Some zero else None) (Some zero)
    less_here n = grind (arith, nat_tests)

  pub position_behind : (p : X → Bool) (x : X) (xs : List X) → p x ≡ false → position p (x ∷ xs) ≡ shifted (position p xs)
  position_behind p x xs h = rw h (less_behind (position_or_len p xs) (length xs) (nat_lt (position_or_len p xs) (length xs)) refl) where
    less_behind : (i n : ℕ) (b : Bool) → nat_lt i n ≡ b → (if nat_lt (1 + i) (suc n) then Some (1 + i) else None) ≡ shifted (if b then Some i else None)
    less_behind i n true e = grind (arith, nat_tests)
    less_behind i n false e = grind (arith, nat_tests)

  -- what is found stands there and passes
  pub found_place : (p : X → Bool) (xs : List X) (i : ℕ) → position p xs ≡ Some i → (x : X) × (slice_get xs i ≡ Some x) × (p x ≡ true)
  found_place p [] i e = absurd (cc e)
  found_place p (x ∷ xs) i e = place_by (p x) refl (λ j. found_place p xs j) where
    shift_back : (q : Option ℕ) → position p xs ≡ q → shifted q ≡ Some i → ((j : ℕ) → position p xs ≡ Some j → (y : X) × (slice_get xs j ≡ Some y) × (p y ≡ true)) → (y : X) × (slice_get (x ∷ xs) i ≡ Some y) × (p y ≡ true)
    shift_back None is h more = absurd (cc h)
    shift_back (Some j) is h more = let same : suc j ≡ i = cc in let there = more j is in (there.0, subst (λ (k : ℕ). slice_get (x ∷ xs) k ≡ Some there.0) same there.1, there.2)

    place_by : (b : Bool) → p x ≡ b → ((j : ℕ) → position p xs ≡ Some j → (y : X) × (slice_get xs j ≡ Some y) × (p y ≡ true)) → (y : X) × (slice_get (x ∷ xs) i ≡ Some y) × (p y ≡ true)
    place_by true h more = let same : 0 ≡ i = same_Some 0 i (sym (position_here p x xs h) ∙ e) in (x, subst (λ (k : ℕ). slice_get (x ∷ xs) k ≡ Some x) same refl, h)
    place_by false h more = shift_back (position p xs) refl (sym (position_behind p x xs h) ∙ e) more

  -- what stands at the place of a search is what is found
  pub find_is : (p : X → Bool) (xs : List X) (at : List X → Option ℕ → Option X) → ((ys : List X) → at ys None ≡ None) → ((ys : List X) (i : ℕ) → at ys (Some i) ≡ slice_get ys i) → at xs (position p xs) ≡ find p xs
  find_is p [] at none some = none []
  find_is p (x ∷ xs) at none some = find_by (p x) refl (find_is p xs at none some) where
    shift_by : (q : Option ℕ) → at (x ∷ xs) (shifted q) ≡ at xs q
    shift_by None = none (x ∷ xs) ∙ sym (none xs)
    shift_by (Some i) = some (x ∷ xs) (suc i) ∙ sym (some xs i)

    find_by : (b : Bool) → p x ≡ b → at xs (position p xs) ≡ find p xs → at (x ∷ xs) (position p (x ∷ xs)) ≡ (if b then Some x else find p xs)
    find_by true h more = rw (position_here p x xs h) (some (x ∷ xs) 0)
    find_by false h more = rw (position_behind p x xs h) (shift_by (position p xs) ∙ more)

  pub find_here : (p : X → Bool) (x : X) (xs : List X) → p x ≡ true → find p (x ∷ xs) ≡ Some x
  find_here p x xs h = rw h refl

  pub find_behind : (p : X → Bool) (x : X) (xs : List X) → p x ≡ false → find p (x ∷ xs) ≡ find p xs
  find_behind p x xs h = rw h refl

  -- where no more than one passes, it is the one that is found
  pub find_one : (p : X → Bool) (xs : List X) (i : ℕ) (x : X) → ((j : ℕ) (y : X) → slice_get xs j ≡ Some y → p y ≡ true → j ≡ i) → slice_get xs i ≡ Some x → p x ≡ true → find p xs ≡ Some x
  find_one p [] i x one there h = absurd (cc there)
  find_one p (y ∷ xs) zero x one there h = let same : y ≡ x = cc in rw (same, h) refl
  find_one p (y ∷ xs) (suc i) x one there h = one_by (p y) refl (find_one p xs i x (λ j z that g. same_pred j i (one (suc j) z that g)) there h) where
    not_zero : (k : ℕ) → 0 ≡ suc k → ⊥
    not_zero k e = omega arith

    one_by : (b : Bool) → p y ≡ b → find p xs ≡ Some x → (if b then Some y else find p xs) ≡ Some x
    one_by true g more = absurd (not_zero i (one 0 y refl g))
    one_by false g more = more

  pub find_none : (p : X → Bool) (xs : List X) → ((j : ℕ) (y : X) → slice_get xs j ≡ Some y → p y ≡ false) → find p xs ≡ None
  find_none p [] none = refl
  find_none p (x ∷ xs) none = rw (none 0 x refl) (find_none p xs (λ j y there. none (suc j) y there))

  pub none_found : (p : X → Bool) (xs : List X) → find p xs ≡ None → (j : ℕ) (y : X) → slice_get xs j ≡ Some y → p y ≡ false
  none_found p [] e j y there = absurd (cc there)
  none_found p (x ∷ xs) e j y there = none_by (p x) refl e (λ h k. none_found p xs h k y) j there where
    none_by : (b : Bool) → p x ≡ b → (if b then Some x else find p xs) ≡ None → (find p xs ≡ None → (k : ℕ) → slice_get xs k ≡ Some y → p y ≡ false) → (k : ℕ) → slice_get (x ∷ xs) k ≡ Some y → p y ≡ false
    none_by true h g more k there = absurd (cc g)
    none_by false h g more zero there = let same : x ≡ y = cc in rw (← same) h
    none_by false h g more (suc k) there = more g k there

  -- where no place is found, none passes
  pub none_placed : (p : X → Bool) (xs : List X) → position p xs ≡ None → (j : ℕ) (y : X) → slice_get xs j ≡ Some y → p y ≡ false
  none_placed p xs e = none_found p xs (sym (find_is p xs at (λ ys. refl) (λ ys i. refl)) ∙ ap (at xs) e) where
    at : List X → Option ℕ → Option X
    at ys None = None
    at ys (Some i) = slice_get ys i

  -- a search does not see what does not pass
  pub find_set : (p : X → Bool) (xs : List X) (i : ℕ) (x y : X) → slice_get xs i ≡ Some x → p x ≡ false → p y ≡ false → find p (slice_set xs i y) ≡ find p xs
  find_set p [] i x y there h g = refl
  find_set p (z ∷ xs) zero x y there h g = let same : z ≡ x = cc in rw (same, h, g) refl
  find_set p (z ∷ xs) (suc i) x y there h g = set_by (p z) (find_set p xs i x y there h g) where
    set_by : (b : Bool) → find p (slice_set xs i y) ≡ find p xs → (if b then Some z else find p (slice_set xs i y)) ≡ (if b then Some z else find p xs)
    set_by true more = refl
    set_by false more = more

  pub find_removed : (p : X → Bool) (xs : List X) (i : ℕ) (x : X) → slice_get xs i ≡ Some x → p x ≡ false → find p (remove xs i) ≡ find p xs
  find_removed p [] i x there h = absurd (cc there)
  find_removed p (z ∷ xs) zero x there h = let same : z ≡ x = cc in rw (same, h) refl
  find_removed p (z ∷ xs) (suc i) x there h = removed_by (p z) (find_removed p xs i x there h) where
    removed_by : (b : Bool) → find p (remove xs i) ≡ find p xs → (if b then Some z else find p (remove xs i)) ≡ (if b then Some z else find p xs)
    removed_by true more = refl
    removed_by false more = more

  pub find_pushed : (p : X → Bool) (xs : List X) (y : X) → find p xs ≡ None → p y ≡ true → find p (xs ++ y ∷ []) ≡ Some y
  find_pushed p [] y e h = rw h refl
  find_pushed p (x ∷ xs) y e h = pushed_by (p x) e (λ g. find_pushed p xs y g h) where
    pushed_by : (b : Bool) → (if b then Some x else find p xs) ≡ None → (find p xs ≡ None → find p (xs ++ y ∷ []) ≡ Some y) → (if b then Some x else find p (xs ++ y ∷ [])) ≡ Some y
    pushed_by true g more = absurd (cc g)
    pushed_by false g more = more g

  pub find_unpushed : (p : X → Bool) (xs : List X) (y : X) → p y ≡ false → find p (xs ++ y ∷ []) ≡ find p xs
  find_unpushed p [] y h = rw h refl
  find_unpushed p (x ∷ xs) y h = unpushed_by (p x) (find_unpushed p xs y h) where
    unpushed_by : (b : Bool) → find p (xs ++ y ∷ []) ≡ find p xs → (if b then Some x else find p (xs ++ y ∷ [])) ≡ (if b then Some x else find p xs)
    unpushed_by true more = refl
    unpushed_by false more = more

  pub removed_at : (xs : List X) (i j : ℕ) → i < length xs → slice_get (remove xs i) j ≡ slice_get xs (skip i j)
  removed_at [] i j h = absurd (omega arith)
  removed_at (x ∷ xs) zero j h = refl
  removed_at (x ∷ xs) (suc i) zero h = refl
  removed_at (x ∷ xs) (suc i) (suc j) h = removed_at xs i j (omega arith)

pub skip_other : (i j : ℕ) → skip i j ≢ i
skip_other zero j e = omega arith
skip_other (suc i) zero e = omega arith
skip_other (suc i) (suc j) e = skip_other i j (omega arith)

pub skip_one : (i j k : ℕ) → skip i j ≡ skip i k → j ≡ k
skip_one zero j k e = omega arith
skip_one (suc i) zero zero e = refl
skip_one (suc i) zero (suc k) e = absurd (omega arith)
skip_one (suc i) (suc j) zero e = absurd (omega arith)
skip_one (suc i) (suc j) (suc k) e = ap suc (skip_one i j k (omega arith))

pub skip_less : (i j k : ℕ) → j < k → skip i j < skip i k
skip_less zero j k h = omega arith
skip_less (suc i) zero zero h = absurd (omega arith)
skip_less (suc i) zero (suc k) h = omega arith
skip_less (suc i) (suc j) zero h = absurd (omega arith)
skip_less (suc i) (suc j) (suc k) h = let more = skip_less i j k (omega arith) in omega arith

-- each other place is that of an element that is left
pub skip_reaches : (i k : ℕ) → k ≢ i → (j : ℕ) × (skip i j ≡ k)
skip_reaches zero zero h = absurd (h refl)
skip_reaches zero (suc k) h = (k, refl)
skip_reaches (suc i) zero h = (0, refl)
skip_reaches (suc i) (suc k) h = let rest = skip_reaches i k (λ e. h (ap suc e)) in (suc rest.0, ap suc rest.1)
