-- A list of stores by rising number, and the map that it stands for.
use Rattle.std.proofs.Common.{◌≡◌, ℕ, zero, suc, ◌+◌, ◌<◌, ◌≤◌, Bool, true, false, cond, List, [], ◌∷◌, ◌++◌, length, get_or, Option, Some, None, refl, sym, ap, ◌∙◌, arith, T}
use Rattle.std.proofs.Math.ListN.{set}
use Rattle.std.specs.Prelude.{remove}
use Rattle.address_space.specs.declared.stores.Store.{Store}
use Rattle.address_space.specs.Stores.{StoreTable, HasBytes, written_over, with_bytes, without_store}
use Rattle.address_space.specs.Kept.{keyed, RisesWithin, map_of, StandsAt}
use Rattle.std.specs.Ordering.{nat_cmp, eq_by_cmp}
use Rattle.std.specs.Cmp.{nat_cmp_is, nat_cmp_total}
use Rattle.std.specs.declared.cmp.Ordering.TheVariants.{Less}
use Rattle.std.specs.FinMap.{find, is_sorted, same_map, nat_cmp-IsAntisymmetric, get-insert, get-remove, get-from_sorted, get-empty, get, empty}
use Rattle.std.specs.FinMap as fin
use Rattle.std.specs.FinMap.Entries.{below_all}
use Rattle.std.proofs.lemmas.Bool.Decides.{nat_tests}
use Rattle.std.specs.Prelude.{slice_get, IsSome, IfNone}
use Rattle.std.proofs.lemmas.Option.{slice_get_read}
use Rattle.ipc_ids.proofs.Common.{and_holds, keys_of_same}

less : (x y : ℕ) → x < y → nat_cmp x y ≡ Less
less x y h = sym (nat_cmp_is x y Less h)

above : (x low : ℕ) (cs : List Store) (high : ℕ) → x < low → RisesWithin low cs high → T (below_all nat_cmp x (keyed cs))
above x low [] high h r = tt
above x low (c ∷ cs) high h r =
    let lt : x < c.number = omega arith in
    rw (less x c.number lt) (above x (c.number + 1) cs high (omega arith) r.1)

pub keyed_sorted : (low : ℕ) (cs : List Store) (high : ℕ) → RisesWithin low cs high → T (is_sorted nat_cmp (keyed cs))
keyed_sorted low [] high r = tt
keyed_sorted low (c ∷ cs) high r =
    and_holds _ _ (above c.number (c.number + 1) cs high (omega arith) r.1) (keyed_sorted (c.number + 1) cs high r.1)

-- what the map has at a number
pub get-map_of : (low : ℕ) (cs : List Store) (high n : ℕ) → RisesWithin low cs high → fin.get (map_of cs) n ≡ find nat_cmp n (keyed cs)
get-map_of low cs high n r = get-from_sorted nat_cmp (keyed cs) n (keyed_sorted low cs high r)

pub map_of-none : map_of [] ≡ empty
map_of-none = same_map nat_cmp_total nat_cmp-IsAntisymmetric _ _ (λ q. get-from_sorted nat_cmp [] q tt ∙ sym (get-empty nat_cmp q))

pub rises_le : (low : ℕ) (cs : List Store) (high : ℕ) → RisesWithin low cs high → low ≤ high
rises_le low [] high r = r
rises_le low (c ∷ cs) high r = let h = rises_le (c.number + 1) cs high r.1 in omega arith

pub rises-push : (low : ℕ) (cs : List Store) (n : ℕ) (c : Store) → c.number ≡ n → RisesWithin low cs n → RisesWithin low (cs ++ c ∷ []) (n + 1)
rises-push low [] n c e r = (omega arith, omega arith)
rises-push low (d ∷ cs) n c e r = (r.0, rises-push (d.number + 1) cs n c e r.1)

-- a number that is too small or too great is not there
pub find-below : (low : ℕ) (cs : List Store) (high q : ℕ) → RisesWithin low cs high → q < low → find nat_cmp q (keyed cs) ≡ None
find-below low [] high q r h = refl
find-below low (c ∷ cs) high q r h =
    let lt : q < c.number = omega arith in
    rw (less q c.number lt) (find-below (c.number + 1) cs high q r.1 (omega arith))

-- two tests that never pass together may be made in either order
swapped : (b e : Bool) (x y z d : Option (List ℕ)) → z ≡ cond e x y → (e ≡ true → b ≡ false) → cond b d z ≡ cond e x (cond b d y)
swapped true true x y z d h apart = cc (apart refl)
swapped true false x y z d h apart = refl
swapped false e x y z d h apart = h

-- the second of two equal tests is never reached
shadowed : (b e : Bool) (x y d : Option (List ℕ)) → b ≡ e → cond b x y ≡ cond e x (cond b d y)
shadowed true true x y d h = refl
shadowed true false x y d h = cc
shadowed false true x y d h = cc
shadowed false false x y d h = refl

apart_keys : (q n k : ℕ) → n < k → eq_by_cmp nat_cmp q k ≡ true → eq_by_cmp nat_cmp q n ≡ false
apart_keys q n k h e = grind (arith, nat_tests)

other_keys : (q n : ℕ) → n < q → eq_by_cmp nat_cmp q n ≡ false
other_keys q n h = grind (arith, nat_tests)

same_number : (q n : ℕ) → eq_by_cmp nat_cmp q n ≡ true → q < n + 1
same_number q n h = grind (arith, nat_tests)

pub find-push : (low : ℕ) (cs : List Store) (n : ℕ) (c : Store) (q : ℕ) → c.number ≡ n → RisesWithin low cs n → find nat_cmp q (keyed (cs ++ c ∷ [])) ≡ cond (eq_by_cmp nat_cmp q c.number) (Some c.bytes) (find nat_cmp q (keyed cs))
find-push low [] n c q e r = refl
find-push low (d ∷ cs) n c q e r =
    let h = rises_le (d.number + 1) cs n r.1 in
    swapped (eq_by_cmp nat_cmp q d.number) (eq_by_cmp nat_cmp q c.number) (Some c.bytes) (find nat_cmp q (keyed cs)) _ (Some d.bytes) (find-push (d.number + 1) cs n c q e r.1) (apart_keys q d.number c.number (omega arith))

-- a new store at the end
pub insert_last : (low : ℕ) (cs : List Store) (n : ℕ) (c : Store) → c.number ≡ n → RisesWithin low cs n → map_of (cs ++ c ∷ []) ≡ fin.insert (map_of cs) c.number c.bytes
insert_last low cs n c e r =
    same_map nat_cmp_total nat_cmp-IsAntisymmetric _ _ (λ q.
    get-map_of low (cs ++ c ∷ []) (n + 1) q (rises-push low cs n c e r)
    ∙ find-push low cs n c q e r
    ∙ sym (get-insert nat_cmp_total (map_of cs) c.number c.bytes q ∙ ap (cond (eq_by_cmp nat_cmp q c.number) (Some c.bytes)) (get-map_of low cs n q r)))

-- the number of a store further on
pub rises_at : (low : ℕ) (cs : List Store) (high i : ℕ) (c : Store) → RisesWithin low cs high → i < length cs → c ≡ get_or cs i c → (low ≤ c.number) × (c.number < high)
rises_at low [] high i c r h e = absurd (omega arith)
rises_at low (d ∷ cs) high zero c r h e = rw e (r.0, let g = rises_le (d.number + 1) cs high r.1 in omega arith)
rises_at low (d ∷ cs) high (suc i) c r h e = let g = rises_at (d.number + 1) cs high i c r.1 (omega arith) e in (omega arith, g.1)

pub find-at : (low : ℕ) (cs : List Store) (high i : ℕ) (c : Store) → RisesWithin low cs high → i < length cs → c ≡ get_or cs i c → find nat_cmp c.number (keyed cs) ≡ Some c.bytes
find-at low [] high i c r h e = absurd (omega arith)
find-at low (d ∷ cs) high zero c r h e = rw (keys_of_same c.number d.number (ap (λ (x : Store). x.number) e)) (ap (λ (x : Store). Some x.bytes) (sym e))
find-at low (d ∷ cs) high (suc i) c r h e =
    let g = rises_at (d.number + 1) cs high i c r.1 (omega arith) e in
    rw (other_keys c.number d.number (omega arith)) (find-at (d.number + 1) cs high i c r.1 (omega arith) e)

pub rises-set : (low : ℕ) (cs : List Store) (high i : ℕ) (c d : Store) → RisesWithin low cs high → i < length cs → c ≡ get_or cs i c → d.number ≡ c.number → RisesWithin low (set cs i d) high
rises-set low [] high i c d r h e k = absurd (omega arith)
rises-set low (b ∷ cs) high zero c d r h e k = let n : d.number ≡ b.number = k ∙ ap (λ (x : Store). x.number) e in rw n r
rises-set low (b ∷ cs) high (suc i) c d r h e k = (r.0, rises-set (b.number + 1) cs high i c d r.1 (omega arith) e k)

pub find-set : (low : ℕ) (cs : List Store) (high i : ℕ) (c d : Store) (q : ℕ) → RisesWithin low cs high → i < length cs → c ≡ get_or cs i c → d.number ≡ c.number → find nat_cmp q (keyed (set cs i d)) ≡ cond (eq_by_cmp nat_cmp q d.number) (Some d.bytes) (find nat_cmp q (keyed cs))
find-set low [] high i c d q r h e k = absurd (omega arith)
find-set low (b ∷ cs) high zero c d q r h e k =
    let n : b.number ≡ d.number = ap (λ (x : Store). x.number) (sym e) ∙ sym k in
    shadowed (eq_by_cmp nat_cmp q d.number) (eq_by_cmp nat_cmp q d.number) (Some d.bytes) (find nat_cmp q (keyed cs)) (Some b.bytes) refl ∙ ap (λ m. cond (eq_by_cmp nat_cmp q d.number) (Some d.bytes) (cond (eq_by_cmp nat_cmp q m) (Some b.bytes) (find nat_cmp q (keyed cs)))) (sym n)
find-set low (b ∷ cs) high (suc i) c d q r h e k =
    let g = rises_at (b.number + 1) cs high i c r.1 (omega arith) e in
    swapped (eq_by_cmp nat_cmp q b.number) (eq_by_cmp nat_cmp q d.number) (Some d.bytes) (find nat_cmp q (keyed cs)) _ (Some b.bytes) (find-set (b.number + 1) cs high i c d q r.1 (omega arith) e k) (apart_keys q b.number d.number (omega arith))

-- a store that is replaced by one of its number
pub insert_at : (low : ℕ) (cs : List Store) (high i : ℕ) (c d : Store) → RisesWithin low cs high → i < length cs → c ≡ get_or cs i c → d.number ≡ c.number → map_of (set cs i d) ≡ fin.insert (map_of cs) d.number d.bytes
insert_at low cs high i c d r h e k =
    same_map nat_cmp_total nat_cmp-IsAntisymmetric _ _ (λ q.
    get-map_of low (set cs i d) high q (rises-set low cs high i c d r h e k)
    ∙ find-set low cs high i c d q r h e k
    ∙ sym (get-insert nat_cmp_total (map_of cs) d.number d.bytes q ∙ ap (cond (eq_by_cmp nat_cmp q d.number) (Some d.bytes)) (get-map_of low cs high q r)))

lower : (low low' : ℕ) (cs : List Store) (high : ℕ) → low' ≤ low → RisesWithin low cs high → RisesWithin low' cs high
lower low low' [] high h r = omega arith
lower low low' (c ∷ cs) high h r = (omega arith, r.1)

pub rises-remove : (low : ℕ) (cs : List Store) (high i : ℕ) → RisesWithin low cs high → i < length cs → RisesWithin low (remove cs i) high
rises-remove low [] high i r h = absurd (omega arith)
rises-remove low (c ∷ cs) high zero r h = lower (c.number + 1) low cs high (omega arith) r.1
rises-remove low (c ∷ cs) high (suc i) r h = (r.0, rises-remove (c.number + 1) cs high i r.1 (omega arith))

gone : (b : Bool) (x d : Option (List ℕ)) → (b ≡ true → x ≡ None) → x ≡ cond b None (cond b d x)
gone true x d h = h refl
gone false x d h = refl

pub find-remove : (low : ℕ) (cs : List Store) (high i : ℕ) (c : Store) (q : ℕ) → RisesWithin low cs high → i < length cs → c ≡ get_or cs i c → find nat_cmp q (keyed (remove cs i)) ≡ cond (eq_by_cmp nat_cmp q c.number) None (find nat_cmp q (keyed cs))
find-remove low [] high i c q r h e = absurd (omega arith)
find-remove low (b ∷ cs) high zero c q r h e =
    rw e (gone (eq_by_cmp nat_cmp q b.number) (find nat_cmp q (keyed cs)) (Some b.bytes) (λ t. find-below (b.number + 1) cs high q r.1 (same_number q b.number t)))
find-remove low (b ∷ cs) high (suc i) c q r h e =
    let g = rises_at (b.number + 1) cs high i c r.1 (omega arith) e in
    swapped (eq_by_cmp nat_cmp q b.number) (eq_by_cmp nat_cmp q c.number) None (find nat_cmp q (keyed cs)) _ (Some b.bytes) (find-remove (b.number + 1) cs high i c q r.1 (omega arith) e) (apart_keys q b.number c.number (omega arith))

-- a store that is taken out
pub remove_at : (low : ℕ) (cs : List Store) (high i : ℕ) (c : Store) → RisesWithin low cs high → i < length cs → c ≡ get_or cs i c → map_of (remove cs i) ≡ fin.remove (map_of cs) c.number
remove_at low cs high i c r h e =
    same_map nat_cmp_total nat_cmp-IsAntisymmetric _ _ (λ q.
    get-map_of low (remove cs i) high q (rises-remove low cs high i r h)
    ∙ find-remove low cs high i c q r h e
    ∙ sym (get-remove nat_cmp_total (map_of cs) c.number q ∙ ap (cond (eq_by_cmp nat_cmp q c.number) None) (get-map_of low cs high q r)))

-- what a place in the list says of the map
pub look : (cs : List Store) (high n : ℕ) (q : StoreTable) → map_of cs ≡ q.stores → RisesWithin 1 cs high → get q.stores n ≡ find nat_cmp n (keyed cs)
look cs high n q e r = rw (← e) (get-map_of 1 cs high n r)

pub is_numbered : (cs : List Store) (n i : ℕ) (c : Store) → StandsAt cs n i → c ≡ get_or cs i c → c.number ≡ n
is_numbered cs n i c s e =
    let is : slice_get cs i ≡ Some c = slice_get_read cs (length cs) i c refl s.in_range e in
    rw is at s.numbered

pub look_at : (cs : List Store) (high n i : ℕ) (c : Store) (q : StoreTable) → map_of cs ≡ q.stores → RisesWithin 1 cs high → StandsAt cs n i → c ≡ get_or cs i c → get q.stores n ≡ Some c.bytes
look_at cs high n i c q m r s e =
    look cs high n q m r ∙ rw (← is_numbered cs n i c s e) (find-at 1 cs high i c r s.in_range e)

pub stands : (p : Option ℕ) (cs : List Store) (high n : ℕ) (q : StoreTable) → map_of cs ≡ q.stores → RisesWithin 1 cs high → IfNone p (find nat_cmp n (keyed cs) ≡ None) → IsSome (get q.stores n) → IsSome p
stands None cs high n q m r none live = let e = look cs high n q m r ∙ none in rw e at live
stands (Some i) cs high n q m r none live = refl

pub written_at : (cs : List Store) (high n i at : ℕ) (bytes : List ℕ) (c : Store) → RisesWithin 1 cs high → StandsAt cs n i → c ≡ get_or cs i c → ◌≡◌ {A = StoreTable} (record { stores = map_of (set cs i (record c { bytes = written_over c.bytes at bytes })); next_store = high }) (with_bytes (record { stores = map_of cs; next_store = high }) n at bytes)
written_at cs high n i at bytes c r s e =
    rw (look_at cs high n i c (record { stores = map_of cs; next_store = high }) refl r s e, insert_at 1 cs high i c (record c { bytes = written_over c.bytes at bytes }) r s.in_range e refl, is_numbered cs n i c s e)

pub taken_at : (cs : List Store) (high n i : ℕ) (c : Store) → RisesWithin 1 cs high → StandsAt cs n i → c ≡ get_or cs i c → ◌≡◌ {A = StoreTable} (record { stores = map_of (remove cs i); next_store = high }) (without_store (record { stores = map_of cs; next_store = high }) n)
taken_at cs high n i c r s e = rw (remove_at 1 cs high i c r s.in_range e, is_numbered cs n i c s e)

pub room_some : (o : Option (List ℕ)) (n : ℕ) → HasBytes o n → IsSome o
room_some None n h = absurd h
room_some (Some xs) n h = refl
