-- Exchanges that leave their groups and enter others, told by the list of all.
use Rattle.std.proofs.Common.{◌≡◌, ℕ, zero, suc, ◌+◌, ◌-◌, ◌^◌, ◌<◌, ◌≤◌, Bool, true, false, List, [], ◌∷◌, ◌++◌, fold, length, get_or, Option, Some, None, Err, inl, inr, ◌⊎◌, length-append, refl, sym, subst, ◌∙◌, arith}
use Rattle.std.specs.Prelude.{if◌then◌else◌, ◌==◌, ◌&&◌, not, slice_get, slice_set, slice_index}
use Rattle.std.specs.List.{filter, remove, insert, list_any}
use Rattle.std.specs.List.Sorted.{IsBinarySearchResult}
use Rattle.std.specs.Ordering.{nat_cmp}
use Rattle.std.proofs.lemmas.Cmp.{ranked}
use Rattle.std.proofs.lemmas.List.{get_or-set_same, get_or-set_other, length-set}
use Rattle.std.proofs.lemmas.List.Edits.{length-remove}
use Rattle.std.proofs.lemmas.List.Sums.{length-filter, count_by-le-length}
use Rattle.std.proofs.lemmas.Bool.{cases_eq, eq-eqb, ne_eqb, lt-ltb, le-ltb}
use Rattle.std.proofs.lemmas.Bool.Decides.{nat_tests}
use Rattle.ipc_ids.specs.declared.numbers.ExchangeNo.{ExchangeNo}
use Rattle.async_sessions.specs.declared.sessions.Exchange.{Exchange}
use Rattle.async_sessions.specs.declared.sessions.Held.{Held}
use Rattle.async_sessions.specs.Sessions.{is_begun_in, any_begun, is_other, changed, sooner_idle, first_idle}
use Rattle.async_sessions.specs.ExchangeOrder.{AreRising, AreBelow, IsNumbered, HasNone}
use Rattle.async_sessions.specs.ExchangeGroups.{is_idle, placed, one_more, one_less, counted_with, counted_without}
use Rattle.async_sessions.specs.ExchangeGroups.{idle_with, idle_without, begun_count, AreGrouped, CanLeave, CanEnter, AreKept}
use Rattle.async_sessions.proofs.Rising.{compared_rise, drop_found, drop_none, change_none, before_other, before_it, after_it, rising_filtered, order_added, order_dropped, order_changed, place_within, change_found, length_changed}

-- what is asked of the groups

not_none : (p : Exchange → Bool) (xs : List Exchange) → not (length (filter p xs) == 0) ≡ list_any p xs
not_none p [] = refl
not_none p (x ∷ xs) = grind (arith, not_none p xs, nat_tests)

pub any_counted : (s n : ℕ) (xs : List Exchange) → n ≡ begun_count s xs → not (n == 0) ≡ any_begun s xs
any_counted s n xs e = rw e (not_none (is_begun_in s) xs)

idle_fold : (s : Option ℕ) (best : Option Exchange) (xs : List Exchange) → fold (sooner_idle s) best (filter is_idle xs) ≡ fold (sooner_idle s) best xs
idle_fold s best [] = refl
idle_fold s best (x ∷ xs) = grind (arith, idle_fold s best xs, idle_fold s (sooner_idle s best x) xs)

pub first_idle-filter : (s : Option ℕ) (xs : List Exchange) → first_idle s (filter is_idle xs) ≡ first_idle s xs
first_idle-filter s xs = idle_fold s None xs

-- an exchange at its place

pub front : (x : Exchange) (n : ℕ) (ys : List Exchange) → AreRising n ys → x.number.0 < n → placed x ys ≡ x ∷ ys
front x n [] r h = refl
front x n (y ∷ ys) r h = let first = r.0 in rw (lt-ltb x.number.0 y.number.0 (omega arith)) refl

pub placed_last : (x : Exchange) (xs : List Exchange) → AreBelow x.number.0 xs → placed x xs ≡ xs ++ x ∷ []
placed_last x [] b = refl
placed_last x (y ∷ ys) b = let less = b.0 in rw (le-ltb x.number.0 y.number.0 (omega arith), placed_last x ys b.1) refl

placed_at : (x : Exchange) (xs : List Exchange) (k : ℕ) → k ≤ length xs → ((i : ℕ) (d : Exchange) → i < length xs → i < k → (get_or xs i d).number.0 < x.number.0) → ((i : ℕ) (d : Exchange) → k ≤ i → i < length xs → x.number.0 < (get_or xs i d).number.0) → insert xs k x ≡ placed x xs
placed_at x [] zero within below above = refl
placed_at x [] (suc k) within below above = absurd (omega arith)
placed_at x (y ∷ ys) zero within below above = rw (lt-ltb x.number.0 y.number.0 (above 0 y (omega arith) (omega arith))) refl
placed_at x (y ∷ ys) (suc k) within below above =
    let less = below 0 y (omega arith) (omega arith) in
    rw (le-ltb x.number.0 y.number.0 (omega arith), ← placed_at x ys k (omega arith) (λ i d h j. below (suc i) d (omega arith) (omega arith)) (λ i d h j. above (suc i) d (omega arith) (omega arith))) refl

pub placed_by_search : (xs : List Exchange) (x : Exchange) (k : ℕ) → AreRising 0 xs → k ≤ length xs → IsBinarySearchResult (λ y. nat_cmp y.number.0 x.number.0) xs (Err k) → insert xs k x ≡ placed x xs
placed_by_search xs x k r within found =
    let parts = found (compared_rise xs x.number.0 r) in
    placed_at x xs k within (λ i d h j. ranked _ x.number.0 _ (sym (parts.0 i d (omega arith) j))) (λ i d h j. ranked _ x.number.0 _ (sym (parts.1 i d h j)))

pub changed_moves : (n : ℕ) (e : ExchangeNo) (held : Held) (stamp : ℕ) (xs : List Exchange) (i : ℕ) (y : Exchange) → AreRising n xs → IsNumbered e (slice_get xs i) → slice_get xs i ≡ Some y → changed e held stamp xs ≡ placed (record y { held = held; stamp = stamp }) (filter (is_other e) xs)
changed_moves n e held stamp [] i y r is there = absurd is
changed_moves n e held stamp (x ∷ xs) zero y r is there =
    let same : x ≡ y = cc in
    let none = after_it e x xs r.1 is in
    rw (eq-eqb x.number.0 e.0 is, change_none e held stamp xs none, drop_none e xs none, ← same) (sym (front (record x { held = held; stamp = stamp }) (x.number.0 + 1) xs r.1 (omega arith)))
changed_moves n e held stamp (x ∷ xs) (suc i) y r is there =
    let numbered : y.number.0 ≡ e.0 = subst (IsNumbered e) there is in
    let less = before_it (x.number.0 + 1) e xs i r.1 is in
    rw (before_other e x xs i r.1 is, changed_moves (x.number.0 + 1) e held stamp xs i y r.1 is there, le-ltb y.number.0 x.number.0 (omega arith)) refl

-- how many are begun

count_placed : (p : Exchange → Bool) (x : Exchange) (ys : List Exchange) → length (filter p (placed x ys)) ≡ length (filter p ys) + (if p x then 1 else 0)
count_placed p x [] = grind arith
count_placed p x (y ∷ ys) = grind (arith, count_placed p x ys)

count_removed : (p : Exchange → Bool) (x : Exchange) (xs : List Exchange) (i : ℕ) → slice_get xs i ≡ Some x → length (filter p (remove xs i)) + (if p x then 1 else 0) ≡ length (filter p xs)
count_removed p x [] i at = absurd (cc at)
count_removed p x (y ∷ ys) zero at = let same : y ≡ x = cc in rw same (grind arith)
count_removed p x (y ∷ ys) (suc i) at = grind (arith, count_removed p x ys i at)

count_here : (p : Exchange → Bool) (x : Exchange) (xs : List Exchange) (i : ℕ) → slice_get xs i ≡ Some x → p x ≡ true → 0 < length (filter p xs)
count_here p x xs i at is =
    let more = rw is at (count_removed p x xs i at) in
    omega arith

more_at : (idle : Bool) (r s : ℕ) (begun : List ℕ) → length begun ≡ 16 → s < 16 → slice_index (if idle then begun else one_more r begun) s ≡ slice_index begun s + (if (r == s) && not idle then 1 else 0)
more_at idle r s begun all few = grind (arith, get_or-set_same, get_or-set_other, eq-eqb, ne_eqb, lt-ltb, cases_eq r s)

less_at : (idle : Bool) (r s : ℕ) (begun : List ℕ) → length begun ≡ 16 → s < 16 → slice_index (if idle then begun else one_less r begun) s ≡ slice_index begun s - (if (r == s) && not idle then 1 else 0)
less_at idle r s begun all few = grind (arith, get_or-set_same, get_or-set_other, eq-eqb, ne_eqb, lt-ltb, cases_eq r s)

-- which are idle

filter-filter : (p q : Exchange → Bool) (xs : List Exchange) → filter p (filter q xs) ≡ filter q (filter p xs)
filter-filter p q [] = refl
filter-filter p q (x ∷ xs) = grind (arith, filter-filter p q xs)

begun_removed : (x : Exchange) (xs : List Exchange) (i : ℕ) → slice_get xs i ≡ Some x → is_idle x ≡ false → filter is_idle (remove xs i) ≡ filter is_idle xs
begun_removed x [] i at is = absurd (cc at)
begun_removed x (y ∷ ys) zero at is = let same : y ≡ x = cc in rw (same, is) refl
begun_removed x (y ∷ ys) (suc i) at is = rw (begun_removed x ys i at is) refl

idle_placed : (n : ℕ) (x : Exchange) (ys : List Exchange) → AreRising n ys → filter is_idle (placed x ys) ≡ idle_with x (filter is_idle ys)
idle_placed n x [] r = refl
idle_placed n x (y ∷ ys) r = grind (arith, idle_placed (y.number.0 + 1) x ys r.1, front x y.number.0 (filter is_idle (y ∷ ys)) (rising_filtered is_idle y.number.0 (y ∷ ys) (omega arith, r.1)), nat_tests)

length-filter-le : (p : Exchange → Bool) (xs : List Exchange) → length (filter p xs) ≤ length xs
length-filter-le p xs = omega (arith, length-filter p xs, count_by-le-length p xs)

-- an exchange leaves

dropped_is : (x : Exchange) (xs : List Exchange) (i : ℕ) → AreRising 0 xs → slice_get xs i ≡ Some x → remove xs i ≡ filter (is_other x.number) xs
dropped_is x xs i r at = drop_found 0 x.number xs i r (subst (IsNumbered x.number) (sym at) refl)

idle_removed : (idle : Bool) (x : Exchange) (xs : List Exchange) (i : ℕ) → AreRising 0 xs → slice_get xs i ≡ Some x → is_idle x ≡ idle → (if idle then filter (is_other x.number) (filter is_idle xs) else filter is_idle xs) ≡ filter is_idle (filter (is_other x.number) xs)
idle_removed true x xs i r at is = filter-filter (is_other x.number) is_idle xs
idle_removed false x xs i r at is = rw (← dropped_is x xs i r at) (sym (begun_removed x xs i at is))

pub can_leave : (x : Exchange) (xs : List Exchange) (i : ℕ) (begun : List ℕ) (idle : List Exchange) → AreRising 0 xs → slice_get xs i ≡ Some x → AreGrouped xs begun idle → CanLeave x begun idle
can_leave x xs i begun idle r at g = record {
  counted = λ is few.
      rw (g.counts x.session few) (count_here (is_begun_in x.session) x xs i at (rw (eq-eqb x.session x.session refl, is) refl));
  rising = rw g.those_idle (rising_filtered is_idle 0 xs r);
}

pub groups_without : (x : Exchange) (xs : List Exchange) (i : ℕ) (begun : List ℕ) (idle : List Exchange) → AreRising 0 xs → slice_get xs i ≡ Some x → length begun ≡ 16 → AreGrouped xs begun idle → AreGrouped (filter (is_other x.number) xs) (counted_without x begun) (idle_without x idle)
groups_without x xs i begun idle r at all g = record {
  counts = λ s few.
      let was = g.counts s few in
      let less = less_at (is_idle x) x.session s begun all few in
      let more = count_removed (is_begun_in s) x xs i at in
      rw (← dropped_is x xs i r at) (omega arith);
  those_idle = rw g.those_idle (idle_removed (is_idle x) x xs i r at refl);
}

-- an exchange enters

none_filtered : (p : Exchange → Bool) (e : ExchangeNo) (xs : List Exchange) → HasNone e xs → HasNone e (filter p xs)
none_filtered p e [] h = tt
none_filtered p e (x ∷ xs) h = by (p x) (none_filtered p e xs h.1) where
  by : (b : Bool) → HasNone e (filter p xs) → HasNone e (if b then x ∷ filter p xs else filter p xs)
  by true rest = (h.0, rest)
  by false rest = rest

none_dropped : (e : ExchangeNo) (xs : List Exchange) → HasNone e (filter (is_other e) xs)
none_dropped e [] = tt
none_dropped e (x ∷ xs) = by (cases_eq x.number.0 e.0) (none_dropped e xs) where
  by : (x.number.0 ≡ e.0) ⊎ (x.number.0 ≡ e.0 → ⊥) → HasNone e (filter (is_other e) xs) → HasNone e (filter (is_other e) (x ∷ xs))
  by (inl same) rest = rw (eq-eqb x.number.0 e.0 same) rest
  by (inr other) rest = rw (ne_eqb x.number.0 e.0 other) (other, rest)

pub can_enter : (x : Exchange) (ys : List Exchange) (begun : List ℕ) (idle : List Exchange) (capacity : ℕ) → AreRising 0 ys → HasNone x.number ys → length ys < capacity → capacity < 2 ^ 64 → AreGrouped ys begun idle → CanEnter x begun idle capacity
can_enter x ys begun idle capacity r none less small g = record {
  few = λ few. let was = g.counts x.session few in omega (arith, length-filter-le (is_begun_in x.session) ys);
  rising = rw g.those_idle (rising_filtered is_idle 0 ys r);
  absent = rw g.those_idle (none_filtered is_idle x.number ys none);
  room = rw g.those_idle (omega (arith, length-filter-le is_idle ys));
}

pub groups_with : (x : Exchange) (ys : List Exchange) (begun : List ℕ) (idle : List Exchange) → AreRising 0 ys → length begun ≡ 16 → AreGrouped ys begun idle → AreGrouped (placed x ys) (counted_with x begun) (idle_with x idle)
groups_with x ys begun idle r all g = record {
  counts = λ s few.
      let was = g.counts s few in
      let more = more_at (is_idle x) x.session s begun all few in
      let count = count_placed (is_begun_in s) x ys in
      omega arith;
  those_idle = rw g.those_idle (sym (idle_placed 0 x ys r));
}

-- the three changes of all exchanges

pub none_below : (n : ℕ) (e : ExchangeNo) (xs : List Exchange) → AreBelow n xs → n ≤ e.0 → HasNone e xs
none_below n e [] b h = tt
none_below n e (x ∷ xs) b h = let less = b.0 in ((λ is. absurd (omega arith)), none_below n e xs b.1 h)

pub kept_added : (x : Exchange) (xs : List Exchange) (begun : List ℕ) (idle : List Exchange) (capacity : ℕ) → length xs < capacity → length begun ≡ 16 → AreKept xs x.number.0 begun idle capacity → AreKept (xs ++ x ∷ []) (x.number.0 + 1) (counted_with x begun) (idle_with x idle) capacity
kept_added x xs begun idle capacity less all k = record {
  in_order = order_added x xs k.in_order;
  grouped = rw (← placed_last x xs k.in_order.below) (groups_with x xs begun idle k.in_order.rising all k.grouped);
  room = omega (arith, length-append xs (x ∷ []));
}

pub kept_dropped : (x : Exchange) (xs : List Exchange) (i next : ℕ) (begun : List ℕ) (idle : List Exchange) (capacity : ℕ) → slice_get xs i ≡ Some x → length begun ≡ 16 → AreKept xs next begun idle capacity → AreKept (remove xs i) next (counted_without x begun) (idle_without x idle) capacity
kept_dropped x xs i next begun idle capacity at all k = rw (dropped_is x xs i k.in_order.rising at) (record {
  in_order = order_dropped next x.number xs k.in_order;
  grouped = groups_without x xs i begun idle k.in_order.rising at all k.grouped;
  room = let most = k.room in omega (arith, length-filter-le (is_other x.number) xs);
})

length_without : (idle : Bool) (s : ℕ) (begun : List ℕ) → length (if idle then begun else one_less s begun) ≡ length begun
length_without idle s begun = grind (arith, length-set)

less_dropped : (x : Exchange) (xs : List Exchange) (i : ℕ) → AreRising 0 xs → slice_get xs i ≡ Some x → length (filter (is_other x.number) xs) < length xs
less_dropped x xs i r at =
    let within = place_within x.number xs i (subst (IsNumbered x.number) (sym at) refl) in
    rw (← dropped_is x xs i r at) (omega (arith, length-remove xs i within))

pub can_change : (held : Held) (stamp : ℕ) (y : Exchange) (xs : List Exchange) (i next : ℕ) (begun : List ℕ) (idle : List Exchange) (capacity : ℕ) → slice_get xs i ≡ Some y → length begun ≡ 16 → capacity < 2 ^ 64 → AreKept xs next begun idle capacity → CanEnter (record y { held = held; stamp = stamp }) (counted_without y begun) (idle_without y idle) capacity
can_change held stamp y xs i next begun idle capacity at all small k =
    let r = k.in_order.rising in
    let most = k.room in
    let less = less_dropped y xs i r at in
    can_enter (record y { held = held; stamp = stamp }) (filter (is_other y.number) xs) (counted_without y begun) (idle_without y idle) capacity (rising_filtered (is_other y.number) 0 xs r) (none_dropped y.number xs) (omega arith) small (groups_without y xs i begun idle r at all k.grouped)

pub kept_changed : (held : Held) (stamp : ℕ) (y : Exchange) (xs : List Exchange) (i next : ℕ) (begun : List ℕ) (idle : List Exchange) (capacity : ℕ) → slice_get xs i ≡ Some y → length begun ≡ 16 → AreKept xs next begun idle capacity → AreKept (slice_set xs i (record y { held = held; stamp = stamp })) next (counted_with (record y { held = held; stamp = stamp }) (counted_without y begun)) (idle_with (record y { held = held; stamp = stamp }) (idle_without y idle)) capacity
kept_changed held stamp y xs i next begun idle capacity at all k =
    let r = k.in_order.rising in
    let is : IsNumbered y.number (slice_get xs i) = subst (IsNumbered y.number) (sym at) refl in
    rw (change_found 0 y.number held stamp xs i y r is at) (record {
      in_order = order_changed next y.number held stamp xs k.in_order;
      grouped = rw (changed_moves 0 y.number held stamp xs i y r is at) (groups_with (record y { held = held; stamp = stamp }) (filter (is_other y.number) xs) (counted_without y begun) (idle_without y idle) (rising_filtered (is_other y.number) 0 xs r) (length_without (is_idle y) y.session begun ∙ all) (groups_without y xs i begun idle r at all k.grouped));
      room = rw (length_changed y.number held stamp xs) k.room;
    })

pub few_idle : {xs : List Exchange} {begun : List ℕ} {idle : List Exchange} → AreGrouped xs begun idle → length idle ≤ length xs
few_idle {xs} g = rw g.those_idle (length-filter-le is_idle xs)
