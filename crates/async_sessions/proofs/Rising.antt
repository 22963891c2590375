-- Where the numbers of exchanges rise, a search by halves finds what a search one by one finds, and a change of the one
-- place that it finds is a change of all with the number.
use Rattle.std.proofs.Common.{◌≡◌, ◌≢◌, ℕ, zero, suc, ◌+◌, ◌<◌, ◌≤◌, ◌⊎◌, inl, inr, Bool, true, false, List, [], ◌∷◌, ◌++◌, length, get_or, Some, None, Err, refl, ap, sym, ◌∙◌, arith}
use Rattle.std.specs.Prelude.{if◌then◌else◌, ◌==◌, slice_get, slice_set}
use Rattle.std.specs.List.{filter, remove}
use Rattle.std.specs.List.Sorted.{IsNonDecreasingBy, IsBinarySearchResult}
use Rattle.std.specs.Ordering.{nat_cmp, ordering_index}
use Rattle.std.proofs.lemmas.Cmp.{ranked}
use Rattle.std.proofs.lemmas.Option.{slice_get-get_or}
use Rattle.std.proofs.lemmas.Bool.{cases_lt, eq-eqb, ne_eqb}
use Rattle.std.proofs.lemmas.Bool.Decides.{nat_tests}
use Rattle.ipc_ids.specs.declared.numbers.ExchangeNo.{ExchangeNo}
use Rattle.ipc_ids.specs.declared.message.ExchangeMode.TheVariants.{Atomic}
use Rattle.async_sessions.specs.declared.sessions.Exchange.{Exchange}
use Rattle.async_sessions.specs.declared.sessions.Held.{Held}
use Rattle.async_sessions.specs.declared.sessions.Held.TheVariants.{Idle}
use Rattle.async_sessions.specs.Sessions.{exchange_at, is_other, changed}
use Rattle.async_sessions.specs.ExchangeOrder.{AreRising, AreBelow, AreInOrder, IsNumbered, HasNone}

-- what a search by halves finds

rising_at : (n : ℕ) (xs : List Exchange) (i : ℕ) (d : Exchange) → AreRising n xs → i < length xs → n ≤ (get_or xs i d).number.0
rising_at n [] i d r h = absurd (omega arith)
rising_at n (x ∷ xs) zero d r h = r.0
rising_at n (x ∷ xs) (suc i) d r h =
    let first = r.0 in
    let more = rising_at (x.number.0 + 1) xs i d r.1 (omega arith) in omega arith

do_not_fall : (n : ℕ) (xs : List Exchange) → AreRising n xs → IsNonDecreasingBy (λ x. x.number.0) xs
do_not_fall n [] r i j d less within = absurd (omega arith)
do_not_fall n (x ∷ xs) r zero zero d less within = omega arith
do_not_fall n (x ∷ xs) r zero (suc j) d less within =
    let more = rising_at (x.number.0 + 1) xs j d r.1 (omega arith) in omega arith
do_not_fall n (x ∷ xs) r (suc i) zero d less within = absurd (omega arith)
do_not_fall n (x ∷ xs) r (suc i) (suc j) d less within = do_not_fall (x.number.0 + 1) xs r.1 i j d (omega arith) (omega arith)

pub compared_rise : (xs : List Exchange) (m : ℕ) → AreRising 0 xs → IsNonDecreasingBy (λ x. ordering_index (nat_cmp x.number.0 m)) xs
compared_rise xs m r i j d less within =
    let rise = do_not_fall 0 xs r i j d less within in grind (arith, nat_tests)

none_at : (e : ExchangeNo) (xs : List Exchange) → ((i : ℕ) (d : Exchange) → i < length xs → (get_or xs i d).number.0 ≢ e.0) → HasNone e xs
none_at e [] h = tt
none_at e (x ∷ xs) h = (h 0 x (omega arith), none_at e xs (λ i d less. h (suc i) d (omega arith)))

-- any exchange will do where one is asked for
some_exchange : Exchange
some_exchange = record { number = record { 0 = 0 }; session = 0; phone = 0; mode = Atomic; held = Idle; stamp = 0 }

pub place_found : (xs : List Exchange) (e : ExchangeNo) (i : ℕ) → i < length xs → ((d : Exchange) → (get_or xs i d).number.0 ≡ e.0) → IsNumbered e (slice_get xs i)
place_found xs e i less is = rw (slice_get-get_or xs i some_exchange less) (is some_exchange)

pub place_none : (xs : List Exchange) (e : ExchangeNo) (k : ℕ) → AreRising 0 xs → IsBinarySearchResult (λ x. nat_cmp x.number.0 e.0) xs (Err k) → HasNone e xs
place_none xs e k r found =
    let parts = found (compared_rise xs e.0 r) in
    none_at e xs (λ i d less is. by i (cases_lt i k) (λ h. ranked _ e.0 _ (sym (parts.0 i d (omega arith) h))) (λ h. ranked _ e.0 _ (sym (parts.1 i d h less))) is) where
      by : {m : ℕ} (i : ℕ) → (i < k) ⊎ (k ≤ i) → (i < k → m < e.0) → (k ≤ i → e.0 < m) → m ≡ e.0 → ⊥
      by i (inl h) below above is = let l = below h in omega arith
      by i (inr h) below above is = let l = above h in omega arith

-- none has the number e

none_above : (n : ℕ) (e : ExchangeNo) (xs : List Exchange) → AreRising n xs → e.0 < n → HasNone e xs
none_above n e [] r h = tt
none_above n e (x ∷ xs) r h = let first = r.0 in ((λ is. absurd (omega arith)), none_above (x.number.0 + 1) e xs r.1 (omega arith))

pub look_none : (e : ExchangeNo) (xs : List Exchange) → HasNone e xs → exchange_at e xs ≡ None
look_none e [] h = refl
look_none e (x ∷ xs) h = rw (ne_eqb x.number.0 e.0 h.0) (look_none e xs h.1)

pub change_none : (e : ExchangeNo) (held : Held) (stamp : ℕ) (xs : List Exchange) → HasNone e xs → changed e held stamp xs ≡ xs
change_none e held stamp [] h = refl
change_none e held stamp (x ∷ xs) h = rw (ne_eqb x.number.0 e.0 h.0, change_none e held stamp xs h.1) refl

pub drop_none : (e : ExchangeNo) (xs : List Exchange) → HasNone e xs → filter (is_other e) xs ≡ xs
drop_none e [] h = refl
drop_none e (x ∷ xs) h = rw (ne_eqb x.number.0 e.0 h.0, drop_none e xs h.1) refl

pub none_there : (e : ExchangeNo) (xs : List Exchange) (i : ℕ) → HasNone e xs → IsNumbered e (slice_get xs i) → ⊥
none_there e [] i none is = is
none_there e (x ∷ xs) zero none is = none.0 is
none_there e (x ∷ xs) (suc i) none is = none_there e xs i none.1 is

-- one at a place has the number e

pub after_it : (e : ExchangeNo) (x : Exchange) (xs : List Exchange) → AreRising (x.number.0 + 1) xs → x.number.0 ≡ e.0 → HasNone e xs
after_it e x xs r is = none_above (x.number.0 + 1) e xs r (omega arith)

pub before_it : (n : ℕ) (e : ExchangeNo) (xs : List Exchange) (i : ℕ) → AreRising n xs → IsNumbered e (slice_get xs i) → n ≤ e.0
before_it n e [] i r is = absurd is
before_it n e (x ∷ xs) zero r is = let first = r.0 in omega arith
before_it n e (x ∷ xs) (suc i) r is = let first = r.0 in let more = before_it (x.number.0 + 1) e xs i r.1 is in omega arith

pub before_other : (e : ExchangeNo) (x : Exchange) (xs : List Exchange) (i : ℕ) → AreRising (x.number.0 + 1) xs → IsNumbered e (slice_get xs i) → (x.number.0 == e.0) ≡ false
before_other e x xs i r is = let more = before_it (x.number.0 + 1) e xs i r is in ne_eqb x.number.0 e.0 (λ same. absurd (omega arith))

pub place_within : (e : ExchangeNo) (xs : List Exchange) (i : ℕ) → IsNumbered e (slice_get xs i) → i < length xs
place_within e [] i is = absurd is
place_within e (x ∷ xs) zero is = omega arith
place_within e (x ∷ xs) (suc i) is = let more = place_within e xs i is in omega arith

pub look_found : (n : ℕ) (e : ExchangeNo) (xs : List Exchange) (i : ℕ) → AreRising n xs → IsNumbered e (slice_get xs i) → exchange_at e xs ≡ slice_get xs i
look_found n e [] i r is = absurd is
look_found n e (x ∷ xs) zero r is = rw (eq-eqb x.number.0 e.0 is) refl
look_found n e (x ∷ xs) (suc i) r is = rw (before_other e x xs i r.1 is) (look_found (x.number.0 + 1) e xs i r.1 is)

pub change_found : (n : ℕ) (e : ExchangeNo) (held : Held) (stamp : ℕ) (xs : List Exchange) (i : ℕ) (y : Exchange) → AreRising n xs → IsNumbered e (slice_get xs i) → slice_get xs i ≡ Some y → slice_set xs i (record y { held = held; stamp = stamp }) ≡ changed e held stamp xs
change_found n e held stamp [] i y r is there = absurd is
change_found n e held stamp (x ∷ xs) zero y r is there =
    let same : x ≡ y = cc in
    rw (eq-eqb x.number.0 e.0 is, change_none e held stamp xs (after_it e x xs r.1 is), same) refl
change_found n e held stamp (x ∷ xs) (suc i) y r is there =
    rw (before_other e x xs i r.1 is, change_found (x.number.0 + 1) e held stamp xs i y r.1 is there) refl

pub found_in : {ys xs : List Exchange} (e : ExchangeNo) (i : ℕ) → ys ≡ xs → IsNumbered e (slice_get ys i) → IsNumbered e (slice_get xs i)
found_in e i same is = rw same at is

pub found_at : (e : ExchangeNo) (xs : List Exchange) (i : ℕ) (y : Exchange) → IsNumbered e (slice_get xs i) → y ≡ get_or xs i y → slice_get xs i ≡ Some y
found_at e xs i y is read = slice_get-get_or xs i y (place_within e xs i is) ∙ ap (λ (x : Exchange). Some x) (sym read)

pub drop_found : (n : ℕ) (e : ExchangeNo) (xs : List Exchange) (i : ℕ) → AreRising n xs → IsNumbered e (slice_get xs i) → remove xs i ≡ filter (is_other e) xs
drop_found n e [] i r is = absurd is
drop_found n e (x ∷ xs) zero r is = rw (eq-eqb x.number.0 e.0 is, drop_none e xs (after_it e x xs r.1 is)) refl
drop_found n e (x ∷ xs) (suc i) r is = rw (before_other e x xs i r.1 is, drop_found (x.number.0 + 1) e xs i r.1 is) refl

-- the order is kept

lower : (m n : ℕ) (xs : List Exchange) → m ≤ n → AreRising n xs → AreRising m xs
lower m n [] h r = tt
lower m n (x ∷ xs) h r = let first = r.0 in (omega arith, r.1)

rising_changed : (n : ℕ) (e : ExchangeNo) (held : Held) (stamp : ℕ) (xs : List Exchange) → AreRising n xs → AreRising n (changed e held stamp xs)
rising_changed n e held stamp [] r = tt
rising_changed n e held stamp (x ∷ xs) r = by (x.number.0 == e.0) (rising_changed (x.number.0 + 1) e held stamp xs r.1) where
  by : (b : Bool) → AreRising (x.number.0 + 1) (changed e held stamp xs) → AreRising n ((if b then record x { held = held; stamp = stamp } else x) ∷ changed e held stamp xs)
  by true rest = (r.0, rest)
  by false rest = (r.0, rest)

below_changed : (n : ℕ) (e : ExchangeNo) (held : Held) (stamp : ℕ) (xs : List Exchange) → AreBelow n xs → AreBelow n (changed e held stamp xs)
below_changed n e held stamp [] b = tt
below_changed n e held stamp (x ∷ xs) b = by (x.number.0 == e.0) (below_changed n e held stamp xs b.1) where
  by : (t : Bool) → AreBelow n (changed e held stamp xs) → AreBelow n ((if t then record x { held = held; stamp = stamp } else x) ∷ changed e held stamp xs)
  by true rest = (b.0, rest)
  by false rest = (b.0, rest)

pub rising_filtered : (p : Exchange → Bool) (n : ℕ) (xs : List Exchange) → AreRising n xs → AreRising n (filter p xs)
rising_filtered p n [] r = tt
rising_filtered p n (x ∷ xs) r = by (p x) (rising_filtered p (x.number.0 + 1) xs r.1) where
  by : (b : Bool) → AreRising (x.number.0 + 1) (filter p xs) → AreRising n (if b then x ∷ filter p xs else filter p xs)
  by true rest = (r.0, rest)
  by false rest = let first = r.0 in lower n (x.number.0 + 1) (filter p xs) (omega arith) rest

below_dropped : (n : ℕ) (e : ExchangeNo) (xs : List Exchange) → AreBelow n xs → AreBelow n (filter (is_other e) xs)
below_dropped n e [] b = tt
below_dropped n e (x ∷ xs) b = by (is_other e x) (below_dropped n e xs b.1) where
  by : (t : Bool) → AreBelow n (filter (is_other e) xs) → AreBelow n (if t then x ∷ filter (is_other e) xs else filter (is_other e) xs)
  by true rest = (b.0, rest)
  by false rest = rest

rising_pushed : (n : ℕ) (x : Exchange) (xs : List Exchange) → AreRising n xs → AreBelow x.number.0 xs → n ≤ x.number.0 → AreRising n (xs ++ x ∷ [])
rising_pushed n x [] r b h = (h, tt)
rising_pushed n x (y ∷ ys) r b h = let less = b.0 in (r.0, rising_pushed (y.number.0 + 1) x ys r.1 b.1 (omega arith))

below_pushed : (x : Exchange) (xs : List Exchange) → AreBelow x.number.0 xs → AreBelow (x.number.0 + 1) (xs ++ x ∷ [])
below_pushed x [] b = (omega arith, tt)
below_pushed x (y ∷ ys) b = let less = b.0 in (omega arith, below_pushed x ys b.1)

pub order_changed : (next : ℕ) (e : ExchangeNo) (held : Held) (stamp : ℕ) (xs : List Exchange) → AreInOrder xs next → AreInOrder (changed e held stamp xs) next
order_changed next e held stamp xs o = record {
  rising = rising_changed 0 e held stamp xs o.rising;
  below = below_changed next e held stamp xs o.below;
}

pub order_dropped : (next : ℕ) (e : ExchangeNo) (xs : List Exchange) → AreInOrder xs next → AreInOrder (filter (is_other e) xs) next
order_dropped next e xs o = record {
  rising = rising_filtered (is_other e) 0 xs o.rising;
  below = below_dropped next e xs o.below;
}

pub order_added : (x : Exchange) (xs : List Exchange) → AreInOrder xs x.number.0 → AreInOrder (xs ++ x ∷ []) (x.number.0 + 1)
order_added x xs o = record {
  rising = rising_pushed 0 x xs o.rising o.below (omega arith);
  below = below_pushed x xs o.below;
}

pub length_changed : (e : ExchangeNo) (held : Held) (stamp : ℕ) (xs : List Exchange) → length (changed e held stamp xs) ≡ length xs
length_changed e held stamp [] = refl
length_changed e held stamp (x ∷ xs) = ap suc (length_changed e held stamp xs)
