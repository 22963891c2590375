-- The fibril that has had a status longest, told by what stands at each place.
use Rattle.std.proofs.Common.{◌≡◌, ℕ, zero, suc, ◌≤◌, Bool, true, false, ◌⊎◌, inl, inr, List, [], ◌∷◌, fold, Option, Some, None, refl, ap, sym, subst, arith}
use Rattle.std.specs.Prelude.{if◌then◌else◌, slice_get, nat_lt}
use Rattle.std.proofs.lemmas.Bool.Decides.{nat_tests}
use Rattle.std.proofs.lemmas.Bool.{eqb-true}
use Rattle.ipc_ids.specs.declared.message.Why.{Why}
use Rattle.ipc_ids.specs.declared.message.Why.TheVariants as why
use Rattle.ipc_ids.proofs.Common.{is_same}
use Rattle.fibril_core.specs.declared.fibrils.Status.{Status}
use Rattle.fibril_core.specs.declared.fibrils.Status.TheVariants.{Ready, Blocked, Ended}
use Rattle.fibril_core.specs.declared.fibrils.Fibril.{Fibril}
use Rattle.fibril_core.specs.Fibrils.{same_why, same_status, sooner, first_with}

pub same_why_is : (v w : Why) → same_why v w ≡ true → v ≡ w
same_why_is (why.Answer n) (why.Answer m) e = let same : n.0 ≡ m.0 = eqb-true n.0 m.0 e in ap (λ (k : ℕ). why.Answer (record { 0 = k })) same
same_why_is (why.Mutex s) (why.Mutex r) e = ap why.Mutex (eqb-true s r e)
same_why_is why.Phone why.Phone e = refl
same_why_is why.Message why.Message e = refl
same_why_is (why.Answer n) (why.Mutex r) e = absurd (cc e)
same_why_is (why.Answer n) why.Phone e = absurd (cc e)
same_why_is (why.Answer n) why.Message e = absurd (cc e)
same_why_is (why.Mutex s) (why.Answer m) e = absurd (cc e)
same_why_is (why.Mutex s) why.Phone e = absurd (cc e)
same_why_is (why.Mutex s) why.Message e = absurd (cc e)
same_why_is why.Phone (why.Answer m) e = absurd (cc e)
same_why_is why.Phone (why.Mutex r) e = absurd (cc e)
same_why_is why.Phone why.Message e = absurd (cc e)
same_why_is why.Message (why.Answer m) e = absurd (cc e)
same_why_is why.Message (why.Mutex r) e = absurd (cc e)
same_why_is why.Message why.Phone e = absurd (cc e)

pub why_is_same : (w : Why) → same_why w w ≡ true
why_is_same (why.Answer n) = is_same n.0
why_is_same (why.Mutex s) = is_same s
why_is_same why.Phone = refl
why_is_same why.Message = refl

pub same_status_is : (s t : Status) → same_status s t ≡ true → s ≡ t
same_status_is Ready Ready e = refl
same_status_is (Blocked v) (Blocked w) e = ap Blocked (same_why_is v w e)
same_status_is Ended Ended e = refl
same_status_is Ready (Blocked w) e = absurd (cc e)
same_status_is Ready Ended e = absurd (cc e)
same_status_is (Blocked v) Ready e = absurd (cc e)
same_status_is (Blocked v) Ended e = absurd (cc e)
same_status_is Ended Ready e = absurd (cc e)
same_status_is Ended (Blocked w) e = absurd (cc e)

pub status_is_same : (s : Status) → same_status s s ≡ true
status_is_same Ready = refl
status_is_same (Blocked w) = why_is_same w
status_is_same Ended = refl

abbrev choose : Status → Option Fibril → Fibril → Option Fibril
choose s best x = if same_status x.status s then sooner best x else best

-- x stands at some place and has the status
pub record IsOneOf (s : Status) (xs : List Fibril) (x : Fibril) : Type 0 where
  pub place : ℕ
  pub there : slice_get xs place ≡ Some x
  pub status : same_status x.status s ≡ true

-- one of two
chosen : (s : Status) (best : Option Fibril) (y x : Fibril) → choose s best y ≡ Some x → (best ≡ Some x) ⊎ ((y ≡ x) × (same_status y.status s ≡ true))
chosen s None y x e = chosen_none (same_status y.status s) refl e where
  chosen_none : (b : Bool) → same_status y.status s ≡ b → (if b then Some y else None) ≡ Some x → (None ≡ Some x) ⊎ ((y ≡ x) × (same_status y.status s ≡ true))
  chosen_none true is h = inr (cc, is)
  chosen_none false is h = inl h
chosen s (Some best) y x e = chosen_some (same_status y.status s) (nat_lt y.stamp best.stamp) refl e where
  chosen_some : (b c : Bool) → same_status y.status s ≡ b → (if b then (if c then Some y else Some best) else Some best) ≡ Some x → (Some best ≡ Some x) ⊎ ((y ≡ x) × (same_status y.status s ≡ true))
  chosen_some true true is h = inr (cc, is)
  chosen_some true false is h = inl h
  chosen_some false c is h = inl h

behind : (s : Status) (y : Fibril) (xs : List Fibril) (x : Fibril) → IsOneOf s xs x → IsOneOf s (y ∷ xs) x
behind s y xs x one = record { place = suc one.place; there = one.there; status = one.status }

-- what is found was the best before, or stands at a place and has the status
found : (s : Status) (best : Option Fibril) (xs : List Fibril) (x : Fibril) → fold (choose s) best xs ≡ Some x → (best ≡ Some x) ⊎ IsOneOf s xs x
found s best [] x e = inl e
found s best (y ∷ xs) x e = found_by (found s (choose s best y) xs x e) where
  found_here : (best ≡ Some x) ⊎ ((y ≡ x) × (same_status y.status s ≡ true)) → (best ≡ Some x) ⊎ IsOneOf s (y ∷ xs) x
  found_here (inl h) = inl h
  found_here (inr h) = inr (record { place = zero; there = ap Some h.0; status = rw (← h.0) h.1 })

  found_by : (choose s best y ≡ Some x) ⊎ IsOneOf s xs x → (best ≡ Some x) ⊎ IsOneOf s (y ∷ xs) x
  found_by (inl h) = found_here (chosen s best y x h)
  found_by (inr one) = inr (behind s y xs x one)

-- the stamp is at most that of the best before, if there was one
abbrev IsLeast : Fibril → Option Fibril → Type 0
IsLeast x None = Unit {0}
IsLeast x (Some best) = x.stamp ≤ best.stamp

less : (s : Status) (best : Option Fibril) (y x : Fibril) → IsLeast x (choose s best y) → IsLeast x best × (same_status y.status s ≡ true → x.stamp ≤ y.stamp)
less s None y x h = (tt, less_none (same_status y.status s) h) where
  less_none : (b : Bool) → IsLeast x (if b then Some y else None) → b ≡ true → x.stamp ≤ y.stamp
  less_none true g is = g
  less_none false g is = absurd (cc is)
less s (Some best) y x h = less_some (same_status y.status s) (nat_lt y.stamp best.stamp) refl h where
  less_some : (b c : Bool) → nat_lt y.stamp best.stamp ≡ c → IsLeast x (if b then (if c then Some y else Some best) else Some best) → (x.stamp ≤ best.stamp) × (b ≡ true → x.stamp ≤ y.stamp)
  less_some true true is g = (grind (arith, nat_tests), λ e. g)
  less_some true false is g = (g, λ e. grind (arith, nat_tests))
  less_some false c is g = (g, λ e. absurd (cc e))

least_of : (s : Status) (best : Option Fibril) (xs : List Fibril) (x : Fibril) → IsLeast x (fold (choose s) best xs) → IsLeast x best × ((i : ℕ) (y : Fibril) → slice_get xs i ≡ Some y → same_status y.status s ≡ true → x.stamp ≤ y.stamp)
least_of s best [] x h = (h, λ i y there is. absurd (cc there))
least_of s best (z ∷ xs) x h =
    let rest = least_of s (choose s best z) xs x h in
    let here = less s best z x rest.0 in
    (here.0, at_place here.1 rest.1) where
      at_place : (same_status z.status s ≡ true → x.stamp ≤ z.stamp) → ((i : ℕ) (y : Fibril) → slice_get xs i ≡ Some y → same_status y.status s ≡ true → x.stamp ≤ y.stamp) → (i : ℕ) (y : Fibril) → slice_get (z ∷ xs) i ≡ Some y → same_status y.status s ≡ true → x.stamp ≤ y.stamp
      at_place here rest zero y there is = let same : z ≡ y = cc in rw (← same) (here (rw (same) is))
      at_place here rest (suc i) y there is = rest i y there is

-- a search that begins with one finds one
some_found : (s : Status) (best : Fibril) (xs : List Fibril) → fold (choose s) (Some best) xs ≡ None → ⊥
some_found s best [] e = cc e
some_found s best (y ∷ xs) e = some_by (same_status y.status s) (nat_lt y.stamp best.stamp) (λ z. some_found s z xs) e where
  some_by : (b c : Bool) → ((z : Fibril) → fold (choose s) (Some z) xs ≡ None → ⊥) → fold (choose s) (if b then (if c then Some y else Some best) else Some best) xs ≡ None → ⊥
  some_by true true more h = more y h
  some_by true false more h = more best h
  some_by false c more h = more best h

none_of : (s : Status) (xs : List Fibril) → fold (choose s) None xs ≡ None → (i : ℕ) (y : Fibril) → slice_get xs i ≡ Some y → same_status y.status s ≡ false
none_of s [] e i y there = absurd (cc there)
none_of s (z ∷ xs) e i y there = none_by (same_status z.status s) refl e i (λ h j. none_of s xs h j y) there where
  none_by : (b : Bool) → same_status z.status s ≡ b → fold (choose s) (if b then Some z else None) xs ≡ None → (i : ℕ) → (fold (choose s) None xs ≡ None → (j : ℕ) → slice_get xs j ≡ Some y → same_status y.status s ≡ false) → slice_get (z ∷ xs) i ≡ Some y → same_status y.status s ≡ false
  none_by true is h i more there = absurd (some_found s z xs h)
  none_by false is h zero more there = let same : z ≡ y = cc in rw (← same) is
  none_by false is h (suc i) more there = more h i there

not_before : (s : Status) (xs : List Fibril) (x : Fibril) → (None ≡ Some x) ⊎ IsOneOf s xs x → IsOneOf s xs x
not_before s xs x (inl e) = absurd (cc e)
not_before s xs x (inr one) = one

pub first_there : (s : Status) (xs : List Fibril) (x : Fibril) → first_with s xs ≡ Some x → IsOneOf s xs x
first_there s xs x e = not_before s xs x (found s None xs x e)

pub first_least : (s : Status) (xs : List Fibril) (x : Fibril) → first_with s xs ≡ Some x → (i : ℕ) (y : Fibril) → slice_get xs i ≡ Some y → same_status y.status s ≡ true → x.stamp ≤ y.stamp
first_least s xs x e = let own : x.stamp ≤ x.stamp = omega arith in (least_of s None xs x (subst (λ (o : Option Fibril). IsLeast x o) (sym e) own)).1

pub first_none : (s : Status) (xs : List Fibril) → first_with s xs ≡ None → (i : ℕ) (y : Fibril) → slice_get xs i ≡ Some y → same_status y.status s ≡ false
first_none s xs e = none_of s xs e
