-- All fibrils, rebuilt from those that have not ended, and what each change of those makes of all.
use Rattle.std.proofs.Common.{◌≡◌, ℕ, zero, suc, ◌+◌, ◌-◌, ◌<◌, ◌≤◌, ◌≢◌, ◌⊎◌, inl, inr, Bool, true, false, List, [], ◌∷◌, ◌++◌, length, get_or, Option, Some, None, refl, ap, sym, ◌∙◌, subst, arith}
use Rattle.std.specs.Prelude.{◌&&◌, if◌then◌else◌, map, slice_get, slice_set, nat_lt}
use Rattle.std.specs.List.{filter, find}
use Rattle.std.proofs.lemmas.Bool.{cases_eq, eq-eqb, ne_eqb, eqb-true, and_right}
use Rattle.std.proofs.lemmas.Bool.Decides.{nat_tests}
use Rattle.std.proofs.lemmas.List.{ext_get_or, length-append}
use Rattle.std.proofs.lemmas.Option.{slice_get-get_or, slice_get_past, get_or_from_slice_get}
use Rattle.ipc_ids.specs.declared.numbers.FibrilNo.{FibrilNo}
use Rattle.ipc_ids.proofs.Common.{and_second}
use Rattle.fibril_core.specs.declared.fibrils.Status.{Status}
use Rattle.fibril_core.specs.declared.fibrils.Status.TheVariants.{Ready, Blocked, Ended}
use Rattle.fibril_core.specs.declared.fibrils.Fibril.{Fibril}
use Rattle.fibril_core.specs.Fibrils.{FibrilOrder, fibril_at, number_of, put_fibril, found_over}
use Rattle.fibril_core.specs.LiveFibrils.{goes_on, is_live, GoesOn, AreLive, replaced, is_other, has_number, ended, found_or_ended, all_of}
use Rattle.fibril_core.proofs.Places.{push_here, push_elsewhere, within, length_set, which, which_pushed}
use Rattle.fibril_core.proofs.Searches.{find_one, find_none}
use Rattle.fibril_core.proofs.Live.{put_in, numbered_at, spawn_live, stamp_live, end_live}

-- what stands at each place

abbrev one_of : ℕ → List Fibril → Fibril
one_of n live = found_or_ended n (find (has_number n) live)

pub length_all : (n : ℕ) (live : List Fibril) → length (all_of n live) ≡ n
length_all zero live = refl
length_all (suc n) live =
    let before = length_all n live in
    let both = length-append (all_of n live) (one_of (suc n) live ∷ []) in omega arith

last_at : (n : ℕ) (live : List Fibril) → slice_get (all_of (suc n) live) n ≡ Some (one_of (suc n) live)
last_at n live = subst (λ (k : ℕ). slice_get (all_of n live ++ one_of (suc n) live ∷ []) k ≡ Some (one_of (suc n) live)) (length_all n live) (push_here (all_of n live) (one_of (suc n) live))

all_at : (n i : ℕ) (live : List Fibril) → i < n → slice_get (all_of n live) i ≡ Some (one_of (suc i) live)
all_at zero i live h = absurd (omega arith)
all_at (suc n) i live h = at_by (cases_eq i n) (all_at n i live) where
  at_by : (i ≡ n) ⊎ (i ≡ n → ⊥) → (i < n → slice_get (all_of n live) i ≡ Some (one_of (suc i) live)) → slice_get (all_of n live ++ one_of (suc n) live ∷ []) i ≡ Some (one_of (suc i) live)
  at_by (inl e) before = subst (λ (k : ℕ). slice_get (all_of n live ++ one_of (suc n) live ∷ []) k ≡ Some (one_of (suc k) live)) (sym e) (last_at n live)
  at_by (inr e) before = push_elsewhere (all_of n live) i (one_of (suc n) live) (λ same. e (same ∙ length_all n live)) ∙ before (omega arith)

-- the fibril with a number is one that has ended, where its number is not among those that have not
pub fibril_over : (n next : ℕ) (live : List Fibril) (f : FibrilNo) → 0 < f.0 → f.0 ≤ n → ((k : ℕ) → number_of (slice_get live k) ≢ Some f) → fibril_at (record { fibrils = all_of n live; next_stamp = next }) f.0 ≡ Some (ended f.0)
fibril_over n next live f some few none = by f.0 refl where
  other : (i : ℕ) → f.0 ≡ suc i → (j : ℕ) (y : Fibril) → slice_get live j ≡ Some y → has_number (suc i) y ≡ false
  other i is j y there = ne_eqb y.number.0 (suc i) (λ same. none j (ap number_of there ∙ ap Some (ap (λ (m : ℕ). record { 0 = m }) (same ∙ sym is))))

  by : (m : ℕ) → f.0 ≡ m → fibril_at (record { fibrils = all_of n live; next_stamp = next }) m ≡ Some (ended m)
  by zero is = absurd (omega arith)
  by (suc i) is = all_at n i live (omega arith) ∙ ap (λ (o : Option Fibril). Some (found_or_ended (suc i) o)) (find_none (has_number (suc i)) live (other i is))

-- there is no fibril beyond the last
pub fibril_past : (n next : ℕ) (live : List Fibril) (m : ℕ) → n < m → fibril_at (record { fibrils = all_of n live; next_stamp = next }) m ≡ None
fibril_past n next live zero h = refl
fibril_past n next live (suc i) h = slice_get_past (all_of n live) i (let few = length_all n live in omega arith)

-- a search over those that pass a test is a search by both tests

both_true : (a b : Bool) → a ≡ true → b ≡ true → (a && b) ≡ true
both_true a b h g = rw (h, g) refl

find_filter : (p q : Fibril → Bool) (xs : List Fibril) → find p (filter q xs) ≡ find (λ x. q x && p x) xs
find_filter p q [] = refl
find_filter p q (x ∷ xs) = by (q x) (find_filter p q xs) where
  by : (b : Bool) → find p (filter q xs) ≡ find (λ y. q y && p y) xs → find p (if b then x ∷ filter q xs else filter q xs) ≡ (if b && p x then Some x else find (λ y. q y && p y) xs)
  by true rest = ap (λ (o : Option Fibril). if p x then Some x else o) rest
  by false rest = rest

-- what is found among those that pass passes
found_passes : (p q : Fibril → Bool) (xs : List Fibril) (x : Fibril) → find p (filter q xs) ≡ Some x → q x ≡ true
found_passes p q [] x e = absurd (cc e)
found_passes p q (z ∷ xs) x e = by (q z) refl (λ h. found_passes p q xs x h) e where
  here : (b : Bool) → q z ≡ true → (find p (filter q xs) ≡ Some x → q x ≡ true) → (if b then Some z else find p (filter q xs)) ≡ Some x → q x ≡ true
  here true is rest h = let same : z ≡ x = cc in rw (← same) is
  here false is rest h = rest h

  by : (b : Bool) → q z ≡ b → (find p (filter q xs) ≡ Some x → q x ≡ true) → find p (if b then z ∷ filter q xs else filter q xs) ≡ Some x → q x ≡ true
  by true is rest h = here (p z) is rest h
  by false is rest h = rest h

-- a list whose live part is known is what is rebuilt from that part

same_place : (i j n : ℕ) → n ≡ suc (0 + j) → n ≡ suc i → j ≡ i
same_place i j n h g = omega arith

-- of a fibril that has ended the stamp is 0
abbrev pub AreBare : List Fibril → Type 0
AreBare xs = (i : ℕ) (x : Fibril) → slice_get xs i ≡ Some x → is_live x ≡ false → x.stamp ≡ 0

over : (x : Fibril) → is_live x ≡ false → x.status ≡ Ended
over x h = over_by x.status h where
  over_by : (s : Status) → goes_on s ≡ false → s ≡ Ended
  over_by Ready e = absurd (cc e)
  over_by (Blocked w) e = absurd (cc e)
  over_by Ended e = refl

bare_is : (x : Fibril) (n : ℕ) → x.number.0 ≡ n → x.status ≡ Ended → x.stamp ≡ 0 → ended n ≡ x
bare_is x n e h g = rw (← e, ← h, ← g) refl

one_is : (live xs : List Fibril) (i : ℕ) (x : Fibril) → AreLive live xs → AreBare xs → slice_get xs i ≡ Some x → one_of (suc i) live ≡ x
one_is live xs i x are bare there = is_by (is_live x) refl where
  number : x.number.0 ≡ suc (0 + i)
  number = numbered_at 0 xs i x are.numbered there

  found : find (has_number (suc i)) live ≡ find (λ y. is_live y && has_number (suc i) y) xs
  found = ap (find (has_number (suc i))) are.those ∙ find_filter (has_number (suc i)) is_live xs

  own : (j : ℕ) (y : Fibril) → slice_get xs j ≡ Some y → (is_live y && has_number (suc i) y) ≡ true → j ≡ i
  own j y that h = same_place i j y.number.0 (numbered_at 0 xs j y are.numbered that) (eqb-true y.number.0 (suc i) (and_second (is_live y) (has_number (suc i) y) h))

  first_false : (a b : Bool) → a ≡ false → (a && b) ≡ false
  first_false a b h = rw h refl

  none_at : is_live x ≡ false → (j : ℕ) (y : Fibril) → slice_get xs j ≡ Some y → (is_live y && has_number (suc i) y) ≡ false
  none_at lives j y that = none_by (cases_eq j i) where
    none_by : (j ≡ i) ⊎ (j ≡ i → ⊥) → (is_live y && has_number (suc i) y) ≡ false
    none_by (inl e) = let same : x ≡ y = cc (sym there ∙ ap (slice_get xs) (sym e) ∙ that) in first_false (is_live y) (has_number (suc i) y) (rw (← same) lives)
    none_by (inr e) = and_right (is_live y) (has_number (suc i) y) (ne_eqb y.number.0 (suc i) (λ h. e (same_place i j y.number.0 (numbered_at 0 xs j y are.numbered that) h)))

  is_by : (b : Bool) → is_live x ≡ b → found_or_ended (suc i) (find (has_number (suc i)) live) ≡ x
  is_by true lives = ap (found_or_ended (suc i)) (found ∙ find_one (λ y. is_live y && has_number (suc i) y) xs i x own there (both_true (is_live x) (has_number (suc i) x) lives (eq-eqb x.number.0 (suc i) (number ∙ omega arith))))
  is_by false lives = ap (found_or_ended (suc i)) (found ∙ find_none (λ y. is_live y && has_number (suc i) y) xs (none_at lives)) ∙ bare_is x (suc i) (number ∙ omega arith) (over x lives) (bare i x there lives)

pub rebuilt : (live xs : List Fibril) (n : ℕ) → AreLive live xs → AreBare xs → length xs ≡ n → all_of n live ≡ xs
rebuilt live xs n are bare e = ext_get_or (ended 0) (all_of n live) xs (length_all n live ∙ sym e) (λ i h. at i (subst (λ (k : ℕ). i < k) (length_all n live) h)) where
  at : (i : ℕ) → i < n → get_or (all_of n live) i (ended 0) ≡ get_or xs i (ended 0)
  at i h =
      let there = slice_get-get_or xs i (ended 0) (subst (λ (k : ℕ). i < k) (sym e) h) in
      get_or_from_slice_get (all_of n live) i (one_of (suc i) live) (ended 0) (all_at n i live h) ∙ one_is live xs i (get_or xs i (ended 0)) are bare there

-- what is rebuilt is bare, and stays so

bare_all : (n : ℕ) (live : List Fibril) → AreLive live (all_of n live) → AreBare (all_of n live)
bare_all n live are i x there lives = by (find (has_number (suc i)) live) refl where
  less : i < n
  less = subst (λ (k : ℕ). i < k) (length_all n live) (within (all_of n live) i x there)

  by : (q : Option Fibril) → find (has_number (suc i)) live ≡ q → x.stamp ≡ 0
  by None e =
      let at : slice_get (all_of n live) i ≡ Some (ended (suc i)) = all_at n i live less ∙ ap (λ (o : Option Fibril). Some (found_or_ended (suc i) o)) e in
      let same : ended (suc i) ≡ x = cc in rw (← same) refl
  by (Some y) e =
      let at : slice_get (all_of n live) i ≡ Some y = all_at n i live less ∙ ap (λ (o : Option Fibril). Some (found_or_ended (suc i) o)) e in
      let same : y ≡ x = cc in
      let passes : is_live y ≡ true = found_passes (has_number (suc i)) is_live (all_of n live) y (ap (find (has_number (suc i))) (sym are.those) ∙ e) in
      let other : is_live y ≡ false = rw same lives in absurd (cc)

bare_push : (xs : List Fibril) (y : Fibril) → AreBare xs → is_live y ≡ true → AreBare (xs ++ y ∷ [])
bare_push xs y bare is i x there over = by (which_pushed xs i y x there) where
  by : ((i ≡ length xs) × (y ≡ x)) ⊎ (slice_get xs i ≡ Some x) → x.stamp ≡ 0
  by (inl h) = let lives : is_live x ≡ true = rw (← h.1) is in absurd (cc)
  by (inr h) = bare i x h over

bare_put : (xs : List Fibril) (y : Fibril) → AreBare xs → (is_live y ≡ false → y.stamp ≡ 0) → AreBare (put_in xs y)
bare_put xs y bare is = by (nat_lt (y.number.0 - 1) (length xs)) refl where
  set_by : (i : ℕ) (x : Fibril) → ((i ≡ y.number.0 - 1) × (y ≡ x)) ⊎ ((i ≡ y.number.0 - 1 → ⊥) × (slice_get xs i ≡ Some x)) → is_live x ≡ false → x.stamp ≡ 0
  set_by i x (inl h) over = rw (← h.1) (is (rw h.1 over))
  set_by i x (inr h) over = bare i x h.1 over

  by : (b : Bool) → nat_lt (y.number.0 - 1) (length xs) ≡ b → AreBare (if b then slice_set xs (y.number.0 - 1) y else xs)
  by true e i x there over = set_by i x (which xs (y.number.0 - 1) i y x (less e) there) over where
    less : nat_lt (y.number.0 - 1) (length xs) ≡ true → y.number.0 - 1 < length xs
    less h = grind (arith, nat_tests)
  by false e i x there over = bare i x there over

length_put_in : (xs : List Fibril) (y : Fibril) → length (put_in xs y) ≡ length xs
length_put_in xs y = put_by (nat_lt (y.number.0 - 1) (length xs)) where
  put_by : (b : Bool) → length (if b then slice_set xs (y.number.0 - 1) y else xs) ≡ length xs
  put_by true = length_set xs (y.number.0 - 1) y
  put_by false = refl

-- those that have not ended after a change, and all as these give them
pub record Gives (n : ℕ) (live xs : List Fibril) : Type 0 where
  pub all : all_of n live ≡ xs
  pub are : AreLive live (all_of n live)

gives : (n : ℕ) (live xs : List Fibril) → AreLive live xs → AreBare xs → length xs ≡ n → Gives n live xs
gives n live xs are bare e =
    let all = rebuilt live xs n are bare e in
    record { all = all; are = subst (AreLive live) (sym all) are }

pub spawn_gives : (n : ℕ) (live : List Fibril) (y : Fibril) → AreLive live (all_of n live) → is_live y ≡ true → y.number.0 ≡ n + 1 → Gives (n + 1) (live ++ y ∷ []) (all_of n live ++ y ∷ [])
spawn_gives n live y are is number =
    let few = length_all n live in
    gives (n + 1) (live ++ y ∷ []) (all_of n live ++ y ∷ [])
    (spawn_live live (all_of n live) y are is (omega arith))
    (bare_push (all_of n live) y (bare_all n live are) is)
    (length-append (all_of n live) (y ∷ []) ∙ omega arith)

pub stamp_gives : (n : ℕ) (live : List Fibril) (y : Fibril) (next : ℕ) → AreLive live (all_of n live) → GoesOn (fibril_at (record { fibrils = all_of n live; next_stamp = next }) y.number.0) → is_live y ≡ true → Gives n (map (replaced y) live) (put_in (all_of n live) y)
stamp_gives n live y next are goes is =
    gives n (map (replaced y) live) (put_in (all_of n live) y)
    (stamp_live live (record { fibrils = all_of n live; next_stamp = next }) y are goes is)
    (bare_put (all_of n live) y (bare_all n live are) (λ h. absurd (cc (is, h))))
    (length_put_in (all_of n live) y ∙ length_all n live)

pub end_gives : (n : ℕ) (live : List Fibril) (f : FibrilNo) (next : ℕ) → AreLive live (all_of n live) → GoesOn (fibril_at (record { fibrils = all_of n live; next_stamp = next }) f.0) → Gives n (filter (is_other f) live) (put_in (all_of n live) (ended f.0))
end_gives n live f next are goes =
    gives n (filter (is_other f) live) (put_in (all_of n live) (ended f.0))
    (end_live live (record { fibrils = all_of n live; next_stamp = next }) (ended f.0) are goes refl)
    (bare_put (all_of n live) (ended f.0) (bare_all n live are) (λ h. refl))
    (length_put_in (all_of n live) (ended f.0) ∙ length_all n live)

-- the present fibril ends, by its number
pub named_over : (o : FibrilOrder) (q : Option Fibril) (f : FibrilNo) → number_of q ≡ Some f → found_over o q ≡ put_fibril o (ended f.0)
named_over o None f e = absurd (cc e)
named_over o (Some x) f e = let same : x.number ≡ f = cc e in rw same refl
