-- What the invariant of the memory gives, and how it is kept.
use Rattle.std.proofs.Common.{◌≡◌, ℕ, zero, suc, ◌+◌, ◌-◌, ◌*◌, ◌<◌, ◌≤◌, ◌==◌, Bool, true, false, cond, ◌&&◌, List, [], ◌∷◌, ◌++◌, length, get_or, Option, Some, None, refl, sym, ◌∙◌, subst, arith, All}
use Rattle.std.proofs.lemmas.Grind.{common_steps}
use Rattle.std.proofs.Math.ListN.{set}
use Rattle.std.specs.Prelude.{if◌then◌else◌, remove, nat_le, slice_get, option_map, IsSome, replicate, Result, Ok, Err, OnOk, OnErr}
use Rattle.ipc_ids.specs.declared.trace.NoMemory.{NoMemory}
use Rattle.ipc_ids.proofs.Common.{same_by_keys}
use Rattle.std.specs.List.{list_any}
use Rattle.std.specs.Option.{unwrap_or}
use Rattle.std.specs.Ordering.{nat_cmp, eq_by_cmp}
use Rattle.std.specs.Cmp.{nat_cmp_total}
use Rattle.std.specs.FinMap.{FinMap, get, insert, get-insert, get-remove}
use Rattle.std.specs.FinMap as fin
use Rattle.std.proofs.lemmas.List.Elements.{All-push, All-nil, All-cons, All-head, All-tail, All-set, All-weaker, All-get_or}
use Rattle.std.proofs.lemmas.Option.{slice_get_read}
use Rattle.std.proofs.lemmas.Bool.Decides.{nat_tests}
use Rattle.std.proofs.lemmas.List.Edits.{length-remove}
use Rattle.std.proofs.lemmas.List.Quantifiers.{all_pairs_push, all_pairs_remove}
use Rattle.std.proofs.lemmas.List.{length-append}
use Rattle.std.proofs.lemmas.Bool.{or_parts}
use Rattle.address_space.specs.declared.area.Right.{Right}
use Rattle.address_space.specs.Areas.{Area, IsInRange, holder, holds, allows, end_of, overlaps, stands_over, is_taken}
use Rattle.address_space.specs.Stores.{StoreTable, HasBytes, written_over, write_at, with_zeros}
use Rattle.address_space.specs.Sound.{IsOver, IsSound, AreLawful, AreApart}
use Rattle.address_space.specs.Memory.{is_used}

-- the area that holds a range is one of the areas
pub tested : (P : Area → Type 0) (at count : ℕ) (right : Right) (b : Bool) (a h : Area) (areas : List Area) → holds at count right a ≡ b → P a → (if b then Some a else holder at count right areas) ≡ Some h → (holder at count right areas ≡ Some h → P h × (holds at count right h ≡ true)) → P h × (holds at count right h ≡ true)
tested P at count right true a h areas is p e rest = let same : a ≡ h = cc in (subst P same p, subst (λ x. holds at count right x ≡ true) same is)
tested P at count right false a h areas is p e rest = rest e

pub in_holder : (P : Area → Type 0) (at count : ℕ) (right : Right) (areas : List Area) (h : Area) → All P areas → holder at count right areas ≡ Some h → P h × (holds at count right h ≡ true)
in_holder P at count right [] h all e = absurd (cc e)
in_holder P at count right (a ∷ areas) h all e =
    tested P at count right (holds at count right a) a h areas refl (All-head P a areas all) e (λ r. in_holder P at count right areas h (All-tail P a areas all) r)

pub both_true : (a b : Bool) → a && b ≡ true → (a ≡ true) × (b ≡ true)
both_true true b h = (refl, h)
both_true false b h = absurd (cc h)

pub record IsWithin (a : Area) (at count : ℕ) : Type 0 where
  pub from : a.base ≤ at
  pub to : at + count ≤ a.base + a.pages * 4096

pub within : (at count : ℕ) (right : Right) (a : Area) → holds at count right a ≡ true → IsWithin a at count
within at count right a h =
    let h1 = (both_true (allows a.rights right) (nat_le a.base at && nat_le (at + count) (end_of a)) h).1 in
    let h2 = both_true (nat_le a.base at) (nat_le (at + count) (end_of a)) h1 in
    record { from = grind (arith, nat_tests, h2.0); to = grind (arith, nat_tests, h2.1) }

room_at : (o : Option (List ℕ)) (n k : ℕ) → option_map length o ≡ Some n → k ≤ n → HasBytes o k
room_at None n k e h = absurd (cc e)
room_at (Some xs) n k e h = let same : length xs ≡ n = cc in omega arith

pub room : (stores : FinMap nat_cmp (List ℕ)) (next : ℕ) (a : Area) (at count : ℕ) → IsOver stores next a → IsWithin a at count → HasBytes (get stores a.store) (at - a.base + count)
room stores next a at count o w =
    let from = w.from in let to = w.to in
    room_at (get stores a.store) (a.pages * 4096) (at - a.base + count) o.bytes (omega arith)

-- a write leaves each store as long as it was
pub length-written_over : (xs : List ℕ) (at : ℕ) (bytes : List ℕ) → at + length bytes ≤ length xs → length (written_over xs at bytes) ≡ length xs
length-written_over xs at bytes h = grind (arith, common_steps)

over_cond : (b : Bool) (xs : List ℕ) (o p : Option (List ℕ)) (n : ℕ) → (b ≡ true → option_map length p ≡ Some (length xs)) → option_map length p ≡ Some n → option_map length (cond b (Some xs) p) ≡ Some n
over_cond true xs o p n same e = sym (same refl) ∙ e
over_cond false xs o p n same e = e

ne_keys : (q n : ℕ) → q < n → eq_by_cmp nat_cmp q n ≡ false
ne_keys q n h = grind (arith, nat_tests)

pub ne_tests : (q n : ℕ) → (q == n) ≡ false → eq_by_cmp nat_cmp q n ≡ false
ne_tests q n h = grind (arith, nat_tests)

over_put : (stores : FinMap nat_cmp (List ℕ)) (next n : ℕ) (xs ys : List ℕ) (a : Area) → get stores n ≡ Some xs → length ys ≡ length xs → IsOver stores next a → IsOver (insert stores n ys) next a
over_put stores next n xs ys a is same o =
    record {
      bytes =
          rw (get-insert nat_cmp_total stores n ys a.store)
          (over_cond (eq_by_cmp nat_cmp a.store n) ys None (get stores a.store) (a.pages * 4096) (λ t. rw (same_by_keys a.store n t, is, same) refl) o.bytes);
      old = o.old;
    }

written_if : (stores : FinMap nat_cmp (List ℕ)) (next n at : ℕ) (bytes : List ℕ) (a : Area) (x : Option (List ℕ)) → get stores n ≡ x → HasBytes x (at + length bytes) → IsOver stores next a → IsOver (write_at stores n at bytes) next a
written_if stores next n at bytes a None is room o = absurd room
written_if stores next n at bytes a (Some xs) is room o = rw is (over_put stores next n xs (written_over xs at bytes) a is (length-written_over xs at bytes room) o)

pub over_written : (stores : FinMap nat_cmp (List ℕ)) (next n at : ℕ) (bytes : List ℕ) (a : Area) → HasBytes (get stores n) (at + length bytes) → IsOver stores next a → IsOver (write_at stores n at bytes) next a
over_written stores next n at bytes a room o = written_if stores next n at bytes a (get stores n) refl room o

-- a new store
pub over_added : (stores : FinMap nat_cmp (List ℕ)) (next : ℕ) (bytes : List ℕ) (a : Area) → IsOver stores next a → IsOver (insert stores next bytes) (next + 1) a
over_added stores next bytes a o =
    let old = o.old in
    record { bytes = rw (get-insert nat_cmp_total stores next bytes a.store, ne_keys a.store next o.old) o.bytes; old = omega arith }

pub over_new : (stores : FinMap nat_cmp (List ℕ)) (next : ℕ) (bytes : List ℕ) (a : Area) → a.store ≡ next → length bytes ≡ a.pages * 4096 → IsOver (insert stores next bytes) (next + 1) a
over_new stores next bytes a is e = record { bytes = rw (get-insert nat_cmp_total stores next bytes a.store, is) (grind (arith, nat_tests)); old = omega arith }

-- a store that goes
pub over_taken : (stores : FinMap nat_cmp (List ℕ)) (next n : ℕ) (a : Area) → (a.store == n) ≡ false → IsOver stores next a → IsOver (fin.remove stores n) next a
over_taken stores next n a apart o = record { bytes = rw (get-remove nat_cmp_total stores n a.store, ne_tests a.store n apart) o.bytes; old = o.old }

pub all_apart : {X : Type 0} (P R : X → Type 0) (q : X → Bool) → ((x : X) → q x ≡ false → P x → R x) → (xs : List X) → list_any q xs ≡ false → All P xs → All R xs
all_apart P R q f [] h all = All-nil R
all_apart P R q f (x ∷ xs) h all =
    let n = or_parts (q x) (list_any q xs) h in
    All-cons R x xs (f x n.0 (All-head P x xs all)) (all_apart P R q f xs n.1 (All-tail P x xs all))

pub all_taken : (stores : FinMap nat_cmp (List ℕ)) (next n : ℕ) (areas : List (List Area)) → is_used n areas ≡ false → All (All (IsOver stores next)) areas → All (All (IsOver (fin.remove stores n) next)) areas
all_taken stores next n areas h all =
    all_apart (All (IsOver stores next)) (All (IsOver (fin.remove stores n) next)) (list_any (stands_over n)) (λ xs apart each. all_apart (IsOver stores next) (IsOver (fin.remove stores n) next) (stands_over n) (λ a e o. over_taken stores next n a e o) xs apart each) areas h all

pub all_weaker : (P R : Area → Type 0) (areas : List (List Area)) → ((a : Area) → P a → R a) → All (All P) areas → All (All R) areas
all_weaker P R areas f all = All-weaker (All P) (All R) (λ xs each. All-weaker P R f xs each) areas all

pub all_removed : (P : Area → Type 0) (xs : List Area) (i : ℕ) → i < length xs → All P xs → All P (remove xs i)
all_removed P [] i h all = absurd (omega arith)
all_removed P (x ∷ xs) zero h all = All-tail P x xs all
all_removed P (x ∷ xs) (suc i) h all = All-cons P x (remove xs i) (All-head P x xs all) (all_removed P xs i (omega arith) (All-tail P x xs all))

-- the areas of one task
pub task_areas : (xs : List (List Area)) (i : ℕ) (x : List Area) → i < length xs → x ≡ get_or xs i x → unwrap_or (slice_get xs i) [] ≡ x
task_areas xs i x h e = let is : slice_get xs i ≡ Some x = slice_get_read xs (length xs) i x refl h e in rw is

pub task_kept : (P : Area → Type 0) (xs : List (List Area)) (i : ℕ) (x : List Area) → i < length xs → x ≡ get_or xs i x → All (All P) xs → All P x
task_kept P xs i x h e all = subst (All P) (sym e) (All-get_or (All P) xs i x h all)

pub task_lawful : (xs : List (List Area)) (i : ℕ) (x : List Area) → i < length xs → x ≡ get_or xs i x → All AreLawful xs → AreLawful x
task_lawful xs i x h e all = subst AreLawful (sym e) (All-get_or AreLawful xs i x h all)

pub lawful_at : (xs : List (List Area)) (i : ℕ) (x : List Area) → AreLawful x → All AreLawful xs → All AreLawful (set xs i x)
lawful_at xs i x each all = All-set AreLawful xs i x each all

-- one task's areas change
pub all_at : (P : Area → Type 0) (xs : List (List Area)) (i : ℕ) (x : List Area) → All P x → All (All P) xs → All (All P) (set xs i x)
all_at P xs i x each all = All-set (All P) xs i x each all

some_of : (o : Option (List ℕ)) (n : ℕ) → option_map length o ≡ Some n → IsSome o
some_of None n e = absurd (cc e)
some_of (Some xs) n e = refl

pub is_there : (stores : FinMap nat_cmp (List ℕ)) (next : ℕ) (a : Area) → IsOver stores next a → IsSome (get stores a.store)
is_there stores next a o = some_of (get stores a.store) (a.pages * 4096) o.bytes

pub all_got : (P : Area → Type 0) (xs : List Area) (i : ℕ) (a : Area) → slice_get xs i ≡ Some a → All P xs → P a
all_got P [] i a e all = absurd (cc e)
all_got P (x ∷ xs) zero a e all = let same : x ≡ a = cc in subst P same (All-head P x xs all)
all_got P (x ∷ xs) (suc i) a e all = all_got P xs i a e (All-tail P x xs all)

pub length-replicate : (n x : ℕ) → length (replicate n x) ≡ n
length-replicate n x = grind (arith, common_steps)

-- one area less
pub lawful_removed : (areas : List Area) (i : ℕ) → i < length areas → AreLawful areas → AreLawful (remove areas i)
lawful_removed areas i h l =
    record {
      few = let n = length-remove areas i h in let few = l.few in omega arith;
      in_range = all_removed (λ a. IsInRange a.base a.pages a.rights) areas i h l.in_range;
      apart = all_pairs_remove AreApart areas i h l.apart;
    }

none_at : {X : Type 0} (q : X → Bool) (xs : List X) (k : ℕ) (d : X) → list_any q xs ≡ false → k < length xs → q (get_or xs k d) ≡ false
none_at q [] k d h lt = absurd (omega arith)
none_at q (x ∷ xs) zero d h lt = (or_parts (q x) (list_any q xs) h).0
none_at q (x ∷ xs) (suc k) d h lt = none_at q xs k d (or_parts (q x) (list_any q xs) h).1 (omega arith)

-- one area more
pub lawful_pushed : (areas : List Area) (a : Area) → length areas < 16 → IsInRange a.base a.pages a.rights → is_taken a.base a.pages areas ≡ false → AreLawful areas → AreLawful (areas ++ a ∷ [])
lawful_pushed areas a room range free l =
    record {
      few = let n = length-append areas (a ∷ []) in omega (arith, n);
      in_range = All-push (λ b. IsInRange b.base b.pages b.rights) areas a l.in_range range;
      apart = all_pairs_push AreApart areas a l.apart (λ k d lt. none_at (overlaps a.base (end_of a)) areas k d free lt);
    }

pub store_kept : (r : Result ℕ NoMemory) (s t : StoreTable) (count : ℕ) (areas : List (List Area)) → OnOk r (t ≡ with_zeros s count) → OnErr r (t ≡ s) → IsSound (record { areas = areas; stores = s.stores; next_store = s.next_store }) → IsSound (record { areas = areas; stores = t.stores; next_store = t.next_store })
store_kept (Ok n) s t count areas ok err k =
    rw ok (record { lawful = k.lawful; over = all_weaker (IsOver s.stores s.next_store) (IsOver (insert s.stores s.next_store (replicate count 0)) (s.next_store + 1)) areas (λ a o. over_added s.stores s.next_store (replicate count 0) a o) k.over })
store_kept (Err e) s t count areas ok err k = rw err k
