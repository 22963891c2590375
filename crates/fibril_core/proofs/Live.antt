-- A search over the fibrils that have not ended finds what a search over all finds, and a change of one fibril changes
-- both lists alike.
use Rattle.std.proofs.Common.{◌≡◌, ◌≢◌, ℕ, zero, suc, ◌+◌, ◌-◌, ◌<◌, ◌≤◌, Bool, true, false, List, [], ◌∷◌, ◌++◌, fold, length, get_or, Option, Some, None, Err, ◌⊎◌, inl, inr, refl, ap, sym, ◌∙◌, subst, arith}
use Rattle.std.specs.Prelude.{◌==◌, if◌then◌else◌, map, slice_get, slice_set, nat_lt, IsSome}
use Rattle.std.specs.List.{filter, remove}
use Rattle.std.specs.List.Sorted.{IsNonDecreasingBy, IsBinarySearchResult}
use Rattle.std.specs.Ordering.{nat_cmp, ordering_index}
use Rattle.std.proofs.lemmas.Cmp.{ranked}
use Rattle.std.proofs.lemmas.List.Kept.{IsNonDecreasingBy-filter}
use Rattle.std.proofs.lemmas.List.Sums.{fold-append}
use Rattle.std.proofs.lemmas.Option.{slice_get-get_or, get_or_from_slice_get}
use Rattle.std.proofs.lemmas.Bool.{cases_lt, eq-eqb, ne_eqb, lt-ltb}
use Rattle.std.proofs.lemmas.Bool.Decides.{nat_tests}
use Rattle.ipc_ids.specs.declared.numbers.FibrilNo.{FibrilNo}
use Rattle.fibril_core.specs.declared.fibrils.Status.{Status}
use Rattle.fibril_core.specs.declared.fibrils.Status.TheVariants.{Ready, Blocked, Ended}
use Rattle.fibril_core.specs.declared.fibrils.Fibril.{Fibril}
use Rattle.fibril_core.specs.Fibrils.{FibrilOrder, same_status, sooner, first_with, fibril_at, number_of, why_in, why_at, why_of}
use Rattle.fibril_core.specs.LiveFibrils.{goes_on, is_live, GoesOn, AreNumbered, AreLive, replaced, is_other, count, first_from}
use Rattle.fibril_core.proofs.Places.{within}

-- searches

abbrev choose : Status → Option Fibril → Fibril → Option Fibril
choose s best x = if same_status x.status s then sooner best x else best

other_status : (s t : Status) → goes_on s ≡ true → goes_on t ≡ false → same_status t s ≡ false
other_status s Ready goes over = absurd (cc over)
other_status s (Blocked w) goes over = absurd (cc over)
other_status Ready Ended goes over = refl
other_status (Blocked w) Ended goes over = refl
other_status Ended Ended goes over = absurd (cc goes)

found_live : (s : Status) (best : Option Fibril) (xs : List Fibril) → goes_on s ≡ true → fold (choose s) best (filter is_live xs) ≡ fold (choose s) best xs
found_live s best [] goes = refl
found_live s best (x ∷ xs) goes = found_by (is_live x) refl (λ next. found_live s next xs goes) where
  found_by : (b : Bool) → is_live x ≡ b → ((next : Option Fibril) → fold (choose s) next (filter is_live xs) ≡ fold (choose s) next xs) → fold (choose s) best (if b then x ∷ filter is_live xs else filter is_live xs) ≡ fold (choose s) best (x ∷ xs)
  found_by true e rest = rest (choose s best x)
  found_by false e rest = rw (other_status s x.status goes e) (rest best)

pub first_live : (s : Status) (live xs : List Fibril) → goes_on s ≡ true → AreLive live xs → first_with s live ≡ first_with s xs
first_live s live xs goes are = rw are.those (found_live s None xs goes)

-- a search in two parts of a list, one after the other
pub first_in_parts : (s : Status) (front back : List Fibril) → first_from s (first_from s None front) back ≡ first_with s (front ++ back)
first_in_parts s front back = sym (fold-append (choose s) None front back)

pub length_live : (live xs : List Fibril) → AreLive live xs → length live ≡ count is_live xs
length_live live xs are = ap length are.those

-- numbers

pub numbered_at : (n : ℕ) (xs : List Fibril) (i : ℕ) (x : Fibril) → AreNumbered n xs → slice_get xs i ≡ Some x → x.number.0 ≡ suc (n + i)
numbered_at n [] i x are there = absurd (cc there)
numbered_at n (z ∷ xs) zero x are there = let same : z ≡ x = cc in rw (← same) (are.0 ∙ ap suc (omega arith))
numbered_at n (z ∷ xs) (suc i) x are there = numbered_at (suc n) xs i x are.1 there ∙ ap suc (omega arith)

pub numbered_set : (n : ℕ) (xs : List Fibril) (i : ℕ) (y : Fibril) → AreNumbered n xs → y.number.0 ≡ suc (n + i) → AreNumbered n (slice_set xs i y)
numbered_set n [] i y are number = tt
numbered_set n (z ∷ xs) zero y are number = (number ∙ ap suc (omega arith), are.1)
numbered_set n (z ∷ xs) (suc i) y are number = (are.0, numbered_set (suc n) xs i y are.1 (number ∙ ap suc (omega arith)))

numbered_push : (n : ℕ) (xs : List Fibril) (y : Fibril) → AreNumbered n xs → y.number.0 ≡ suc (n + length xs) → AreNumbered n (xs ++ y ∷ [])
numbered_push n [] y are number = (number ∙ ap suc (omega arith), tt)
numbered_push n (z ∷ xs) y are number = (are.0, numbered_push (suc n) xs y are.1 (number ∙ ap suc (omega arith)))

with_zero : (n i : ℕ) → n ≡ suc i → n ≡ suc (0 + i)
with_zero n i e = omega arith

without_zero : (n i : ℕ) → n ≡ suc (0 + i) → n ≡ suc i
without_zero n i e = omega arith

same_first : (n m k : ℕ) → m ≡ suc n → k ≡ suc (n + 0) → m ≡ k
same_first n m k e h = omega arith

-- what stands behind has a greater number
map_behind : (y : Fibril) (n : ℕ) (xs : List Fibril) → AreNumbered n xs → y.number.0 ≤ n → map (replaced y) (filter is_live xs) ≡ filter is_live xs
map_behind y n [] are less = refl
map_behind y n (x ∷ xs) are less = behind_by (is_live x) (map_behind y (suc n) xs are.1 (omega arith)) where
  differs : (x.number.0 == y.number.0) ≡ false
  differs = ne_eqb x.number.0 y.number.0 (λ e. let number = are.0 in absurd (omega arith))

  behind_by : (b : Bool) → map (replaced y) (filter is_live xs) ≡ filter is_live xs → map (replaced y) (if b then x ∷ filter is_live xs else filter is_live xs) ≡ (if b then x ∷ filter is_live xs else filter is_live xs)
  behind_by true rest = rw (differs, rest) refl
  behind_by false rest = rest

filter_behind : (f : FibrilNo) (n : ℕ) (xs : List Fibril) → AreNumbered n xs → f.0 ≤ n → filter (is_other f) (filter is_live xs) ≡ filter is_live xs
filter_behind f n [] are less = refl
filter_behind f n (x ∷ xs) are less = behind_by (is_live x) (filter_behind f (suc n) xs are.1 (omega arith)) where
  differs : (x.number.0 == f.0) ≡ false
  differs = ne_eqb x.number.0 f.0 (λ e. let number = are.0 in absurd (omega arith))

  behind_by : (b : Bool) → filter (is_other f) (filter is_live xs) ≡ filter is_live xs → filter (is_other f) (if b then x ∷ filter is_live xs else filter is_live xs) ≡ (if b then x ∷ filter is_live xs else filter is_live xs)
  behind_by true rest = rw (differs, rest) refl
  behind_by false rest = rest

-- a fibril that has not ended changes, and has not ended then
live_set : (n : ℕ) (xs : List Fibril) (i : ℕ) (x y : Fibril) → AreNumbered n xs → slice_get xs i ≡ Some x → is_live x ≡ true → is_live y ≡ true → y.number.0 ≡ suc (n + i) → filter is_live (slice_set xs i y) ≡ map (replaced y) (filter is_live xs)
live_set n [] i x y are there was is number = absurd (cc there)
live_set n (z ∷ xs) zero x y are there was is number =
    let same : z ≡ x = cc in
    let lives : is_live z ≡ true = rw same was in
    let one : (z.number.0 == y.number.0) ≡ true = eq-eqb z.number.0 y.number.0 (same_first n z.number.0 y.number.0 are.0 number) in
    rw (is, lives, one) (ap (λ (l : List Fibril). y ∷ l) (sym (map_behind y (suc n) xs are.1 (omega arith))))
live_set n (z ∷ xs) (suc i) x y are there was is number = set_by (is_live z) (live_set (suc n) xs i x y are.1 there was is (number ∙ ap suc (omega arith))) where
  differs : (z.number.0 == y.number.0) ≡ false
  differs = ne_eqb z.number.0 y.number.0 (λ e. let own = are.0 in absurd (omega arith))

  set_by : (b : Bool) → filter is_live (slice_set xs i y) ≡ map (replaced y) (filter is_live xs) → (if b then z ∷ filter is_live (slice_set xs i y) else filter is_live (slice_set xs i y)) ≡ map (replaced y) (if b then z ∷ filter is_live xs else filter is_live xs)
  set_by true rest = rw (differs, rest) refl
  set_by false rest = rest

-- one that has not ended ends
live_ended : (n : ℕ) (xs : List Fibril) (i : ℕ) (x y : Fibril) → AreNumbered n xs → slice_get xs i ≡ Some x → is_live x ≡ true → is_live y ≡ false → y.number.0 ≡ suc (n + i) → filter is_live (slice_set xs i y) ≡ filter (is_other y.number) (filter is_live xs)
live_ended n [] i x y are there was is number = absurd (cc there)
live_ended n (z ∷ xs) zero x y are there was is number =
    let same : z ≡ x = cc in
    let lives : is_live z ≡ true = rw same was in
    let one : (z.number.0 == y.number.0) ≡ true = eq-eqb z.number.0 y.number.0 (same_first n z.number.0 y.number.0 are.0 number) in
    rw (is, lives, one) (sym (filter_behind y.number (suc n) xs are.1 (omega arith)))
live_ended n (z ∷ xs) (suc i) x y are there was is number = set_by (is_live z) (live_ended (suc n) xs i x y are.1 there was is (number ∙ ap suc (omega arith))) where
  differs : (z.number.0 == y.number.0) ≡ false
  differs = ne_eqb z.number.0 y.number.0 (λ e. let own = are.0 in absurd (omega arith))

  set_by : (b : Bool) → filter is_live (slice_set xs i y) ≡ filter (is_other y.number) (filter is_live xs) → (if b then z ∷ filter is_live (slice_set xs i y) else filter is_live (slice_set xs i y)) ≡ filter (is_other y.number) (if b then z ∷ filter is_live xs else filter is_live xs)
  set_by true rest = rw (differs, rest) refl
  set_by false rest = rest

live_push : (xs : List Fibril) (y : Fibril) → is_live y ≡ true → filter is_live (xs ++ y ∷ []) ≡ filter is_live xs ++ y ∷ []
live_push [] y is = rw is refl
live_push (x ∷ xs) y is = push_by (is_live x) (live_push xs y is) where
  push_by : (b : Bool) → filter is_live (xs ++ y ∷ []) ≡ filter is_live xs ++ y ∷ [] → (if b then x ∷ filter is_live (xs ++ y ∷ []) else filter is_live (xs ++ y ∷ [])) ≡ (if b then x ∷ filter is_live xs else filter is_live xs) ++ y ∷ []
  push_by true rest = ap (λ (l : List Fibril). x ∷ l) rest
  push_by false rest = rest

-- the two lists after each change

pub none_live : AreLive [] []
none_live = record { numbered = tt; those = refl }

pub spawn_live : (live xs : List Fibril) (y : Fibril) → AreLive live xs → is_live y ≡ true → y.number.0 ≡ length xs + 1 → AreLive (live ++ y ∷ []) (xs ++ y ∷ [])
spawn_live live xs y are is number = record {
  numbered = numbered_push 0 xs y are.numbered (number ∙ omega arith);
  those = ap (λ (l : List Fibril). l ++ y ∷ []) are.those ∙ sym (live_push xs y is);
}

pub before_suc : (i : ℕ) → suc i - 1 ≡ i
before_suc i = omega arith

-- the record stands under its number, where there is a fibril of this number
abbrev pub put_in : List Fibril → Fibril → List Fibril
put_in xs x = if nat_lt (x.number.0 - 1) (length xs) then slice_set xs (x.number.0 - 1) x else xs

-- where the fibril stands, one record less its number
pub put_at : (xs : List Fibril) (i : ℕ) (y : Fibril) → y.number.0 ≡ suc i → i < length xs → put_in xs y ≡ slice_set xs i y
put_at xs i y number less = rw (number, before_suc i, lt-ltb i (length xs) less) refl

-- a fibril that has not ended stands at a place, and has the number of it
record Stands (xs : List Fibril) (n : ℕ) : Type 0 where
  place : ℕ
  fibril : Fibril
  number : n ≡ suc place
  there : slice_get xs place ≡ Some fibril
  lives : is_live fibril ≡ true

stands : (o : FibrilOrder) (n : ℕ) → GoesOn (fibril_at o n) → Stands o.fibrils n
stands o zero h = absurd h
stands o (suc i) h = stands_by (slice_get o.fibrils i) refl h where
  stands_by : (q : Option Fibril) → slice_get o.fibrils i ≡ q → GoesOn q → Stands o.fibrils (suc i)
  stands_by None e h = absurd h
  stands_by (Some x) e h = record { place = i; fibril = x; number = refl; there = e; lives = h }

pub stamp_live : (live : List Fibril) (o : FibrilOrder) (y : Fibril) → AreLive live o.fibrils → GoesOn (fibril_at o y.number.0) → is_live y ≡ true → AreLive (map (replaced y) live) (put_in o.fibrils y)
stamp_live live o y are goes is =
    let one = stands o y.number.0 goes in
    let put = put_at o.fibrils one.place y one.number (within o.fibrils one.place one.fibril one.there) in
    let number = with_zero y.number.0 one.place one.number in
    rw put (record {
      numbered = numbered_set 0 o.fibrils one.place y are.numbered number;
      those = ap (λ (l : List Fibril). map (replaced y) l) are.those ∙ sym (live_set 0 o.fibrils one.place one.fibril y are.numbered one.there one.lives is number);
    })

pub end_live : (live : List Fibril) (o : FibrilOrder) (y : Fibril) → AreLive live o.fibrils → GoesOn (fibril_at o y.number.0) → is_live y ≡ false → AreLive (filter (is_other y.number) live) (put_in o.fibrils y)
end_live live o y are goes is =
    let one = stands o y.number.0 goes in
    let put = put_at o.fibrils one.place y one.number (within o.fibrils one.place one.fibril one.there) in
    let number = with_zero y.number.0 one.place one.number in
    rw put (record {
      numbered = numbered_set 0 o.fibrils one.place y are.numbered number;
      those = ap (λ (l : List Fibril). filter (is_other y.number) l) are.those ∙ sym (live_ended 0 o.fibrils one.place one.fibril y are.numbered one.there one.lives is number);
    })

-- which fibrils have not ended

pub blocked_goes_on : (o : FibrilOrder) (f : FibrilNo) → IsSome (why_of o f) → GoesOn (fibril_at o f.0)
blocked_goes_on o f h = by (fibril_at o f.0) h where
  blocked_by : (x : Fibril) (s : Status) → x.status ≡ s → IsSome (why_at (Some x)) → is_live x ≡ true
  blocked_by x Ready e h = rw e refl
  blocked_by x (Blocked w) e h = rw e refl
  blocked_by x Ended e h = absurd (cc (rw e at h))

  by : (q : Option Fibril) → IsSome (why_at q) → GoesOn q
  by None h = absurd (cc h)
  by (Some x) h = blocked_by x x.status refl h

-- where a fibril stands
record Place (xs : List Fibril) (x : Fibril) : Type 0 where
  place : ℕ
  there : slice_get xs place ≡ Some x

behind : (z : Fibril) (xs : List Fibril) (x : Fibril) → Place xs x → Place (z ∷ xs) x
behind z xs x p = record { place = suc p.place; there = p.there }

in_all : (xs : List Fibril) (i : ℕ) (x : Fibril) → slice_get (filter is_live xs) i ≡ Some x → Place xs x
in_all [] i x there = absurd (cc there)
in_all (z ∷ xs) i x there = by (is_live z) i (λ j. in_all xs j x) there where
  by : (b : Bool) (j : ℕ) → ((k : ℕ) → slice_get (filter is_live xs) k ≡ Some x → Place xs x) → slice_get (if b then z ∷ filter is_live xs else filter is_live xs) j ≡ Some x → Place (z ∷ xs) x
  by true zero rest h = record { place = 0; there = h }
  by true (suc j) rest h = behind z xs x (rest j h)
  by false j rest h = behind z xs x (rest j h)

in_live : (xs : List Fibril) (i : ℕ) (x : Fibril) → slice_get xs i ≡ Some x → is_live x ≡ true → Place (filter is_live xs) x
in_live [] i x there lives = absurd (cc there)
in_live (z ∷ xs) zero x there lives = let same : z ≡ x = cc in let is : is_live z ≡ true = rw same lives in rw is (record { place = 0; there = there })
in_live (z ∷ xs) (suc i) x there lives = by (is_live z) (in_live xs i x there lives) where
  by : (b : Bool) → Place (filter is_live xs) x → Place (if b then z ∷ filter is_live xs else filter is_live xs) x
  by true p = behind z (filter is_live xs) x p
  by false p = p

-- the numbers of those that have not ended rise

all_rise : (xs : List Fibril) → AreNumbered 0 xs → IsNonDecreasingBy (λ x. x.number.0) xs
all_rise xs are i j d less within =
    let first = numbered_at 0 xs i (get_or xs i d) are (slice_get-get_or xs i d (omega arith)) in
    let second = numbered_at 0 xs j (get_or xs j d) are (slice_get-get_or xs j d within) in omega arith

pub live_rise : (live xs : List Fibril) → AreLive live xs → IsNonDecreasingBy (λ x. x.number.0) live
live_rise live xs are = rw are.those (IsNonDecreasingBy-filter (λ (x : Fibril). x.number.0) is_live xs (all_rise xs are.numbered))

compared_rise : (live : List Fibril) (n : ℕ) → IsNonDecreasingBy (λ x. x.number.0) live → IsNonDecreasingBy (λ x. ordering_index (nat_cmp x.number.0 n)) live
compared_rise live n rises i j d less within =
    let rise = rises i j d less within in grind (arith, nat_tests)

-- what a search by the number finds, and that it finds what is there

-- the record that a place has, where it has one with this number
record Named (q : Option Fibril) (f : FibrilNo) : Type 0 where
  pub fibril : Fibril
  pub there : q ≡ Some fibril
  pub number : fibril.number ≡ f

named : (q : Option Fibril) (f : FibrilNo) → number_of q ≡ Some f → Named q f
named None f e = absurd (cc e)
named (Some x) f e = record { fibril = x; there = refl; number = cc }

same_no : (f g : FibrilNo) → f.0 ≡ g.0 → f ≡ g
same_no f g e = ap (λ (n : ℕ). record { 0 = n }) e

pub place_found : (live : List Fibril) (f : FibrilNo) (i : ℕ) (d : Fibril) → i < length live → (get_or live i d).number.0 ≡ f.0 → number_of (slice_get live i) ≡ Some f
place_found live f i d less is = rw (slice_get-get_or live i d less) (ap Some (same_no (get_or live i d).number f is))

pub place_none : (live : List Fibril) (f : FibrilNo) (k : ℕ) → IsNonDecreasingBy (λ x. x.number.0) live → IsBinarySearchResult (λ x. nat_cmp x.number.0 f.0) live (Err k) → (i : ℕ) → number_of (slice_get live i) ≢ Some f
place_none live f k rises found i e =
    let one = named (slice_get live i) f e in
    let d = one.fibril in
    let parts = found (compared_rise live f.0 rises) in
    let h = within live i d one.there in
    let is : (get_or live i d).number.0 ≡ f.0 = ap (λ (y : Fibril). y.number.0) (get_or_from_slice_get live i d d one.there) ∙ ap (λ (g : FibrilNo). g.0) one.number in
    by i (cases_lt i k) (λ less. ranked _ f.0 _ (sym (parts.0 i d (omega arith) less))) (λ more. ranked _ f.0 _ (sym (parts.1 i d more h))) is where
      by : {m : ℕ} (i : ℕ) → (i < k) ⊎ (k ≤ i) → (i < k → m < f.0) → (k ≤ i → f.0 < m) → m ≡ f.0 → ⊥
      by i (inl h) below above e = let l = below h in omega arith
      by i (inr h) below above e = let l = above h in omega arith

-- what a fibril is blocked on is what its record among those says, where it is among them

-- the fibril with a number is its record among those, where it is among them
pub fibril_here : (live : List Fibril) (o : FibrilOrder) (f : FibrilNo) (i : ℕ) (d : Fibril) → AreLive live o.fibrils → number_of (slice_get live i) ≡ Some f → fibril_at o f.0 ≡ Some (get_or live i d)
fibril_here live o f i d are is =
    let x = named (slice_get live i) f is in
    let one = in_all o.fibrils i x.fibril (ap (λ (l : List Fibril). slice_get l i) (sym are.those) ∙ x.there) in
    let number : f.0 ≡ suc one.place = ap (λ (g : FibrilNo). g.0) (sym x.number) ∙ without_zero x.fibril.number.0 one.place (numbered_at 0 o.fibrils one.place x.fibril are.numbered one.there) in
    rw (number, one.there, get_or_from_slice_get live i x.fibril d x.there) refl

pub why_here : (live : List Fibril) (o : FibrilOrder) (f : FibrilNo) (i : ℕ) (d : Fibril) → AreLive live o.fibrils → number_of (slice_get live i) ≡ Some f → why_at (fibril_at o f.0) ≡ why_in (get_or live i d).status
why_here live o f i d are is = ap why_at (fibril_here live o f i d are is)

why_over : (x : Fibril) → is_live x ≡ false → why_in x.status ≡ None
why_over x e = by x.status e where
  by : (s : Status) → goes_on s ≡ false → why_in s ≡ None
  by Ready h = refl
  by (Blocked w) h = absurd (cc h)
  by Ended h = refl

not_nowhere : (live xs : List Fibril) (f : FibrilNo) (i : ℕ) (x : Fibril) → AreLive live xs → f.0 ≡ suc i → slice_get xs i ≡ Some x → is_live x ≡ true → ((k : ℕ) → number_of (slice_get live k) ≢ Some f) → ⊥
not_nowhere live xs f i x are is there lives none =
    let one = in_live xs i x there lives in
    let at : slice_get live one.place ≡ Some x = ap (λ (l : List Fibril). slice_get l one.place) are.those ∙ one.there in
    let number : x.number.0 ≡ f.0 = without_zero x.number.0 i (numbered_at 0 xs i x are.numbered there) ∙ sym is in
    none one.place (ap number_of at ∙ ap Some (same_no x.number f number))

pub why_nowhere : (live : List Fibril) (o : FibrilOrder) (f : FibrilNo) → AreLive live o.fibrils → ((k : ℕ) → number_of (slice_get live k) ≢ Some f) → why_at (fibril_at o f.0) ≡ None
why_nowhere live o f are none = by_number f.0 refl where
  lives_by : (i : ℕ) (x : Fibril) (b : Bool) → f.0 ≡ suc i → slice_get o.fibrils i ≡ Some x → is_live x ≡ b → why_in x.status ≡ None
  lives_by i x false is there e = why_over x e
  lives_by i x true is there e = absurd (not_nowhere live o.fibrils f i x are is there e none)

  by : (i : ℕ) (q : Option Fibril) → f.0 ≡ suc i → slice_get o.fibrils i ≡ q → why_at q ≡ None
  by i None is e = refl
  by i (Some x) is e = lives_by i x (is_live x) is e refl

  by_number : (n : ℕ) → f.0 ≡ n → why_at (fibril_at o n) ≡ None
  by_number zero is = refl
  by_number (suc i) is = by i (slice_get o.fibrils i) is refl

-- one that has not ended is found
pub found_somewhere : (live : List Fibril) (o : FibrilOrder) (f : FibrilNo) → AreLive live o.fibrils → GoesOn (fibril_at o f.0) → ((k : ℕ) → number_of (slice_get live k) ≢ Some f) → ⊥
found_somewhere live o f are goes none = let one = stands o f.0 goes in not_nowhere live o.fibrils f one.place one.fibril are one.number one.there one.lives none

-- a change of the one place where the number stands is a change of all with the number

-- the numbers rise, and the first is above n
abbrev Rises : ℕ → List Fibril → Type 0
Rises n [] = Unit {0}
Rises n (x ∷ xs) = (n < x.number.0) × Rises x.number.0 xs

rises_from : (n m : ℕ) (xs : List Fibril) → n ≤ m → Rises m xs → Rises n xs
rises_from n m [] h r = tt
rises_from n m (x ∷ xs) h r = let less = r.0 in (omega arith, r.1)

pub live_rises : (n : ℕ) (xs : List Fibril) → AreNumbered n xs → Rises n (filter is_live xs)
live_rises n [] are = tt
live_rises n (x ∷ xs) are = by (is_live x) (live_rises (suc n) xs are.1) where
  above : n < x.number.0
  above = let e = are.0 in omega arith

  by : (b : Bool) → Rises (suc n) (filter is_live xs) → Rises n (if b then x ∷ filter is_live xs else filter is_live xs)
  by true rest = (above, subst (λ (k : ℕ). Rises k (filter is_live xs)) (sym are.0) rest)
  by false rest = rises_from n (suc n) (filter is_live xs) (omega arith) rest

rises_at : (n : ℕ) (xs : List Fibril) (i : ℕ) (x : Fibril) → Rises n xs → slice_get xs i ≡ Some x → n < x.number.0
rises_at n [] i x r there = absurd (cc there)
rises_at n (z ∷ xs) zero x r there = let same : z ≡ x = cc in rw (← same) r.0
rises_at n (z ∷ xs) (suc i) x r there = let less = r.0 in let more = rises_at z.number.0 xs i x r.1 there in omega arith

map_same : (y : Fibril) (n : ℕ) (xs : List Fibril) → Rises n xs → y.number.0 ≤ n → map (replaced y) xs ≡ xs
map_same y n [] r h = refl
map_same y n (x ∷ xs) r h =
    let less = r.0 in
    rw (ne_eqb x.number.0 y.number.0 (λ e. absurd (omega arith)), map_same y x.number.0 xs r.1 (omega arith)) refl

filter_same : (f : FibrilNo) (n : ℕ) (xs : List Fibril) → Rises n xs → f.0 ≤ n → filter (is_other f) xs ≡ xs
filter_same f n [] r h = refl
filter_same f n (x ∷ xs) r h =
    let less = r.0 in
    rw (ne_eqb x.number.0 f.0 (λ e. absurd (omega arith)), filter_same f x.number.0 xs r.1 (omega arith)) refl

set_is_map : (n : ℕ) (xs : List Fibril) (i : ℕ) (x y : Fibril) → Rises n xs → slice_get xs i ≡ Some x → x.number.0 ≡ y.number.0 → slice_set xs i y ≡ map (replaced y) xs
set_is_map n [] i x y r there is = absurd (cc there)
set_is_map n (z ∷ xs) zero x y r there is =
    let same : z ≡ x = cc in
    let number : z.number.0 ≡ y.number.0 = rw same is in
    rw (eq-eqb z.number.0 y.number.0 number, map_same y z.number.0 xs r.1 (omega arith)) refl
set_is_map n (z ∷ xs) (suc i) x y r there is =
    let more = rises_at z.number.0 xs i x r.1 there in
    rw (ne_eqb z.number.0 y.number.0 (λ e. absurd (omega arith)), set_is_map z.number.0 xs i x y r.1 there is) refl

remove_is_filter : (n : ℕ) (xs : List Fibril) (i : ℕ) (x : Fibril) (f : FibrilNo) → Rises n xs → slice_get xs i ≡ Some x → x.number.0 ≡ f.0 → remove xs i ≡ filter (is_other f) xs
remove_is_filter n [] i x f r there is = absurd (cc there)
remove_is_filter n (z ∷ xs) zero x f r there is =
    let same : z ≡ x = cc in
    let number : z.number.0 ≡ f.0 = rw same is in
    rw (eq-eqb z.number.0 f.0 number, filter_same f z.number.0 xs r.1 (omega arith)) refl
remove_is_filter n (z ∷ xs) (suc i) x f r there is =
    let more = rises_at z.number.0 xs i x r.1 there in
    rw (ne_eqb z.number.0 f.0 (λ e. absurd (omega arith)), ← remove_is_filter z.number.0 xs i x f r.1 there is) refl

all_rises : (live xs : List Fibril) → AreLive live xs → Rises 0 live
all_rises live xs are = rw are.those (live_rises 0 xs are.numbered)

pub set_at_place : (live xs : List Fibril) (i : ℕ) (y : Fibril) → AreLive live xs → number_of (slice_get live i) ≡ Some y.number → slice_set live i y ≡ map (replaced y) live
set_at_place live xs i y are is =
    let x = named (slice_get live i) y.number is in
    set_is_map 0 live i x.fibril y (all_rises live xs are) x.there (ap (λ (g : FibrilNo). g.0) x.number)

pub remove_at_place : (live xs : List Fibril) (i : ℕ) (f : FibrilNo) → AreLive live xs → number_of (slice_get live i) ≡ Some f → remove live i ≡ filter (is_other f) live
remove_at_place live xs i f are is =
    let x = named (slice_get live i) f is in
    remove_is_filter 0 live i x.fibril f (all_rises live xs are) x.there (ap (λ (g : FibrilNo). g.0) x.number)

pub place_within : (live : List Fibril) (i : ℕ) (f : FibrilNo) → number_of (slice_get live i) ≡ Some f → i < length live
place_within live i f is = let x = named (slice_get live i) f is in within live i x.fibril x.there
