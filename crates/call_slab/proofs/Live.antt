-- The slots with a call as a finite map, and the slots that are ready, as slots are written.
use Rattle.std.proofs.Common.{◌≡◌, ℕ, zero, suc, ◌+◌, ◌<◌, ◌≤◌, Bool, true, false, cond, List, [], ◌∷◌, ◌++◌, Option, Some, None, IsSome, refl, sym, ap, ◌∙◌, arith, T, nat_eq, ⊎_elim, IsTrue, option_map}
use Rattle.std.specs.Prelude.{slice_index_or, map, count_by, ◌==◌}
use Rattle.std.proofs.lemmas.List.Sums.{sum_by_push}
use Rattle.std.specs.Ordering.{nat_cmp, eq_by_cmp, is_eq, is_lt}
use Rattle.std.specs.Cmp.{nat_cmp_total}
use Rattle.std.specs.FinMap.{find, is_sorted, same_map, nat_cmp-IsAntisymmetric, get-insert, get-remove, get-from_sorted, get-empty, empty}
use Rattle.std.specs.FinMap as fin
use Rattle.std.specs.FinMap.Entries.{below_all}
use Rattle.std.proofs.lemmas.Bool.{cases_eq, ne_eqb}
use Rattle.std.proofs.lemmas.Bool.Decides.{nat_tests}
use Rattle.ipc_ids.proofs.Common.{and_holds, is_same}
use Rattle.slab.specs.Slab.{Slab, entries_from, Updates, with_value}
use Rattle.slab.specs.Slab as slab
use Rattle.slab.proofs.SlabLemmas.{Updates-with_value}
use Rattle.call_slab.specs.declared.slots.Slot.{Slot}
use Rattle.call_slab.specs.Slots.{live, live_slots, vacancy, AreReady, at_key}

pub tie : (q : ℕ) → is_eq (nat_cmp q q) ≡ true
tie q = grind (arith, nat_tests)

no_tie : (q k : ℕ) → q < k → is_eq (nat_cmp q k) ≡ false
no_tie q k h = grind (arith, nat_tests)

pub past_tie : (q k : ℕ) → k < q → is_eq (nat_cmp q k) ≡ false
past_tie q k h = grind (arith, nat_tests)

pub apart_tie : (q k : ℕ) → (q ≡ k → ⊥) → is_eq (nat_cmp q k) ≡ false
apart_tie q k h = grind (arith, nat_tests)

lt_cmp : (q k : ℕ) → q < k → is_lt (nat_cmp q k) ≡ true
lt_cmp q k h = grind (arith, nat_tests)

module _ {X : Type 0} where
  ahead : (q k : ℕ) (xs : List (Option X)) → q < k → T (below_all nat_cmp q (entries_from k xs))
  ahead q k [] h = tt
  ahead q k (None ∷ xs) h = ahead q (k + 1) xs (omega arith)
  ahead q k (Some x ∷ xs) h = rw (lt_cmp q k h) (ahead q (k + 1) xs (omega arith))

  in_order : (k : ℕ) (xs : List (Option X)) → T (is_sorted nat_cmp (entries_from k xs))
  in_order k [] = tt
  in_order k (None ∷ xs) = in_order (k + 1) xs
  in_order k (Some x ∷ xs) = and_holds _ _ (ahead k (k + 1) xs (omega arith)) (in_order (k + 1) xs)

  find_none : (q k : ℕ) (xs : List (Option X)) → q < k → find nat_cmp q (entries_from k xs) ≡ None
  find_none q k [] h = refl
  find_none q k (None ∷ xs) h = find_none q (k + 1) xs (omega arith)
  find_none q k (Some x ∷ xs) h = rw (no_tie q k h) (find_none q (k + 1) xs (omega arith))

  find_slots : (k i q : ℕ) (xs : List (Option X)) → q ≡ k + i → find nat_cmp q (entries_from k xs) ≡ slice_index_or xs i None
  find_slots k i q [] e = refl
  find_slots k zero q (None ∷ xs) e = find_none q (k + 1) xs (omega arith)
  find_slots k (suc i) q (None ∷ xs) e = find_slots (k + 1) i q xs (omega arith)
  find_slots k zero q (Some x ∷ xs) e = let s : q ≡ k = omega arith in rw (s, tie k) refl
  find_slots k (suc i) q (Some x ∷ xs) e = rw (past_tie q k (omega arith)) (find_slots (k + 1) i q xs (omega arith))

at_live : (xs : List (Option Slot)) (i : ℕ) → slice_index_or (map live xs) i None ≡ live (slice_index_or xs i None)
at_live [] i = refl
at_live (x ∷ xs) zero = refl
at_live (x ∷ xs) (suc i) = at_live xs i

-- what stands under a key
pub get_live : (s : Slab Slot) (q : ℕ) → fin.get (live_slots s) q ≡ live (slab.get s q)
get_live s q = get-from_sorted nat_cmp (entries_from 0 (map live s.slots)) q (in_order 0 (map live s.slots)) ∙ find_slots 0 q q (map live s.slots) (omega arith) ∙ at_live s.slots q

there : (old new : Slab Slot) (k q : ℕ) (o : Option Slot) → Updates old new k o → live (slab.get new q) ≡ cond (eq_by_cmp nat_cmp q k) (live o) (live (slab.get old q))
there old new k q o u =
    ⊎_elim
    (λ (e : q ≡ k). rw (e, tie k) (ap live u.changed))
    (λ (n : q ≡ k → ⊥). rw (apart_tie q k n) (ap live (u.others q n)))
    (cases_eq q k)

-- a call is put into a slot
pub live_put : (old new : Slab Slot) (k : ℕ) (v : Slot) → Updates old new k (Some v) → live (Some v) ≡ Some v → live_slots new ≡ fin.insert (live_slots old) k v
live_put old new k v u is =
    same_map nat_cmp_total nat_cmp-IsAntisymmetric _ _ (λ q.
    get_live new q ∙ there old new k q (Some v) u ∙ ap (λ o. cond (eq_by_cmp nat_cmp q k) o (live (slab.get old q))) is
    ∙ sym (get-insert nat_cmp_total (live_slots old) k v q ∙ ap (cond (eq_by_cmp nat_cmp q k) (Some v)) (get_live old q)))

-- a slot has no call any more
pub live_out : (old new : Slab Slot) (k : ℕ) (o : Option Slot) → Updates old new k o → live o ≡ None → live_slots new ≡ fin.remove (live_slots old) k
live_out old new k o u is =
    same_map nat_cmp_total nat_cmp-IsAntisymmetric _ _ (λ q.
    get_live new q ∙ there old new k q o u ∙ ap (λ o. cond (eq_by_cmp nat_cmp q k) o (live (slab.get old q))) is
    ∙ sym (get-remove nat_cmp_total (live_slots old) k q ∙ ap (cond (eq_by_cmp nat_cmp q k) None) (get_live old q)))

-- no call comes or goes
pub live_same : (old new : Slab Slot) → ((q : ℕ) → live (slab.get new q) ≡ live (slab.get old q)) → live_slots new ≡ live_slots old
live_same old new same = same_map nat_cmp_total nat_cmp-IsAntisymmetric _ _ (λ q. get_live new q ∙ same q ∙ sym (get_live old q))

pub live_new : (s : Slab Slot) → s.slots ≡ [] → live_slots s ≡ empty
live_new s e = same_map nat_cmp_total nat_cmp-IsAntisymmetric _ _ (λ q. get_live s q ∙ (rw e refl) ∙ sym (get-empty nat_cmp q))

-- a slot that has a call is one
pub live_is : (o : Option Slot) → IsSome (live o) → (live o ≡ o) × IsSome o
live_is None h = absurd (cc h)
live_is (Some x) h = by_name (x.name == 0) h where
  by_name : (b : Bool) → IsSome (cond b None (Some x)) → (cond b None (Some x) ≡ Some x) × IsSome (Some x)
  by_name true h = absurd (cc h)
  by_name false h = (refl, refl)

is_zero : (n : ℕ) → n ≡ 0 → (n == 0) ≡ true
is_zero n e = rw e refl

not_zero : (n : ℕ) → 0 < n → (n == 0) ≡ false
not_zero n h = grind (arith, nat_tests)

-- a slot with a number has a call
pub named_live : (v : Slot) → 0 < v.name → live (Some v) ≡ Some v
named_live v h = rw (not_zero v.name h) refl

-- a slot without one has none
pub vacant_live : (v : Slot) → v.name ≡ 0 → live (Some v) ≡ None
vacant_live v e = rw (is_zero v.name e) refl

vacant_once : (v : Slot) → v.name ≡ 0 → vacancy (Some v) ≡ 1
vacant_once v e = rw (is_zero v.name e) refl

at_most_once : (o : Option Slot) → vacancy o ≤ 1
at_most_once None = omega arith
at_most_once (Some x) = by_name (x.name == 0) where
  by_name : (b : Bool) → cond b 1 0 ≤ 1
  by_name true = omega arith
  by_name false = omega arith

held_never : (o : Option Slot) → IsSome (live o) → vacancy o ≡ 0
held_never None h = absurd (cc h)
held_never (Some x) h = by_name (x.name == 0) h where
  by_name : (b : Bool) → IsSome (cond b None (Some x)) → ◌≡◌ {A = ℕ} (cond b 1 0) 0
  by_name true h = absurd (cc h)
  by_name false h = refl

waits : (o : Option Slot) → 0 < vacancy o → (live o ≡ None) × IsSome o
waits None h = absurd (omega arith)
waits (Some x) h = by_name (x.name == 0) h where
  by_name : (b : Bool) → 0 < cond b 1 0 → (cond b None (Some x) ≡ None) × IsSome (Some x)
  by_name true h = (refl, refl)
  by_name false h = absurd (omega arith)

pushed : (q k : ℕ) (xs : List ℕ) → count_by (nat_eq q) (xs ++ k ∷ []) ≡ count_by (nat_eq q) xs + cond (nat_eq q k) 1 0
pushed q k xs = sum_by_push (λ x. cond (nat_eq q x) 1 0) xs k

pushed_here : (k : ℕ) (xs : List ℕ) → count_by (nat_eq k) (xs ++ k ∷ []) ≡ count_by (nat_eq k) xs + 1
pushed_here k xs = rw (pushed k k xs, is_same k) refl

pushed_there : (q k : ℕ) (xs : List ℕ) → (q ≡ k → ⊥) → count_by (nat_eq q) (xs ++ k ∷ []) ≡ count_by (nat_eq q) xs
pushed_there q k xs n = rw (pushed q k xs, ne_eqb q k n) (omega arith)

-- the last of the slots that are ready waits for a call
pub last_waits : (s : Slab Slot) (xs : List ℕ) (k : ℕ) → AreReady s (xs ++ k ∷ []) → (live (slab.get s k) ≡ None) × IsSome (slab.get s k)
last_waits s xs k r = let h = r.once k in let e = pushed_here k xs in waits (slab.get s k) (omega arith)

-- a slot that has a call is not ready
pub not_ready : (s : Slab Slot) (xs : List ℕ) (k : ℕ) → IsSome (live (slab.get s k)) → vacancy (slab.get s k) ≡ 0
not_ready s xs k h = held_never (slab.get s k) h

module _ (old new : Slab Slot) (k : ℕ) (o : Option Slot) (u : Updates old new k o) (xs : List ℕ) where
  fits : AreReady old xs → (IsSome o → k < 4294967295) → (q : ℕ) → IsSome (slab.get new q) → q < 4294967295
  fits r small q h =
      ⊎_elim
      (λ (e : q ≡ k). rw e (small (rw (e, u.changed) at h)))
      (λ (n : q ≡ k → ⊥). r.small q (rw (u.others q n) at h))
      (cases_eq q k)

  -- a slot that is not ready is written
  pub ready_kept : AreReady old xs → vacancy (slab.get old k) ≡ 0 → (IsSome o → k < 4294967295) → AreReady new xs
  ready_kept r none small =
      record {
        once = λ q.
            ⊎_elim
            (λ (e : q ≡ k). let h = r.once k in rw e (omega (arith, h, none)))
            (λ (n : q ≡ k → ⊥). rw (u.others q n) (r.once q))
            (cases_eq q k);
        small = fits r small;
      }

  -- a slot becomes ready
  pub ready_more : AreReady old xs → vacancy (slab.get old k) ≡ 0 → (v : Slot) → o ≡ Some v → v.name ≡ 0 → k < 4294967295 → AreReady new (xs ++ k ∷ [])
  ready_more r none v is e small =
      record {
        once = λ q.
            ⊎_elim
            (λ (t : q ≡ k).
            let h = r.once k in
            let p = pushed_here k xs in
            let w : vacancy (slab.get new k) ≡ 1 = rw (u.changed, is) (vacant_once v e) in
            rw t (omega (arith, h, none, p, w)))
            (λ (n : q ≡ k → ⊥). rw (pushed_there q k xs n, u.others q n) (r.once q))
            (cases_eq q k);
        small = fits r (λ _. small);
      }

  -- the last slot that is ready gets a call
  pub ready_less : AreReady old (xs ++ k ∷ []) → AreReady new xs
  ready_less r =
      let h = r.once k in
      let p = pushed_here k xs in
      let m = at_most_once (slab.get old k) in
      record {
        once = λ q.
            ⊎_elim
            (λ (t : q ≡ k). rw t (omega (arith, h, p, m)))
            (λ (n : q ≡ k → ⊥). let h = r.once q in let e = pushed_there q k xs n in rw (u.others q n) (omega (arith, h, e)))
            (cases_eq q k);
        small = λ q is.
            ⊎_elim
            (λ (t : q ≡ k). rw t (r.small k (last_waits old xs k r).1))
            (λ (n : q ≡ k → ⊥). r.small q (rw (u.others q n) at is))
            (cases_eq q k);
      }

-- a slot is put into the slab and taken out again
pub back : (old mid new : Slab Slot) (k : ℕ) (o : Option Slot) → slab.get old k ≡ None → Updates old mid k o → Updates mid new k None → (q : ℕ) → slab.get new q ≡ slab.get old q
back old mid new k o was u w q =
    ⊎_elim
    (λ (e : q ≡ k). rw e (w.changed ∙ sym was))
    (λ (n : q ≡ k → ⊥). w.others q n ∙ u.others q n)
    (cases_eq q k)

-- a slot without a call comes
pub same_more : (old new : Slab Slot) (k : ℕ) (v : Slot) → slab.get old k ≡ None → Updates old new k (Some v) → v.name ≡ 0 → live_slots new ≡ live_slots old
same_more old new k v was u e =
    live_same old new (λ q.
    ⊎_elim
    (λ (t : q ≡ k). rw t (ap live u.changed ∙ vacant_live v e ∙ sym (ap live was)))
    (λ (n : q ≡ k → ⊥). ap live (u.others q n))
    (cases_eq q k))

-- what has a call is written, and keeps its number
module _ (s : Slab Slot) (k : ℕ) (x v : Slot) (is : slab.get s k ≡ Some x) (has : IsSome (live (slab.get s k))) (name : v.name ≡ x.name) where
  written : Updates s (with_value s k v) k (Some v)
  written = Updates-with_value s k v (rw is refl)

  still : (x : Slot) → IsSome (live (Some x)) → v.name ≡ x.name → live (Some v) ≡ Some v
  still x h e = ap (λ n. cond (n == 0) None (Some v)) e ∙ by_name (x.name == 0) h where
    by_name : (b : Bool) → IsSome (cond b None (Some x)) → cond b None (Some v) ≡ Some v
    by_name true h = absurd (cc h)
    by_name false h = refl

  pub set_ready : (xs : List ℕ) → AreReady s xs → AreReady (with_value s k v) xs
  set_ready xs r = ready_kept s (with_value s k v) k (Some v) written xs r (held_never (slab.get s k) has) (λ _. r.small k (rw is refl))

  pub set_live : live_slots (with_value s k v) ≡ fin.insert (live_slots s) k v
  set_live = live_put s (with_value s k v) k v written (still x (rw is at has) name)

  pub set_at : (f : Slot → Slot) → f x ≡ v → live_slots (with_value s k v) ≡ at_key f (live_slots s) k
  set_at f e = set_live ∙ rw (get_live s k, (live_is (slab.get s k) has).0, is, e) refl

-- a key with a call: it is a slot of the slab
pub live_some : (s : Slab Slot) (k : ℕ) → IsSome (fin.get (live_slots s) k) → (live (slab.get s k) ≡ slab.get s k) × IsSome (slab.get s k)
live_some s k h = live_is (slab.get s k) (rw (get_live s k) at h)

-- a slot with this number has a call, which was put under it
pub has_name : (s : Slab Slot) (k : ℕ) (v : Slot) (n : ℕ) → slab.get s k ≡ Some v → 0 < n → IsTrue (nat_eq v.name n) → option_map (λ (x : Slot). x.name) (fin.get (live_slots s) k) ≡ Some n
has_name s k v n is some same =
    let e : v.name ≡ n = grind (arith, nat_tests) in
    rw (get_live s k, is, named_live v (omega arith)) (ap Some e)

none_never : (o : Option Slot) → o ≡ None → vacancy o ≡ 0
none_never o e = rw e refl

-- a slot comes that is ready
pub ready_new_slot : (old new : Slab Slot) (k : ℕ) (v : Slot) (xs : List ℕ) → AreReady old xs → slab.get old k ≡ None → Updates old new k (Some v) → v.name ≡ 0 → k < 4294967295 → AreReady new (xs ++ k ∷ [])
ready_new_slot old new k v xs r was u e small = ready_more old new k (Some v) u xs r (none_never (slab.get old k) was) v refl e small

-- a slot is put into the slab and taken out again: the calls stay
pub same_back : (old mid new : Slab Slot) (k : ℕ) (o : Option Slot) → slab.get old k ≡ None → Updates old mid k o → Updates mid new k None → live_slots new ≡ live_slots old
same_back old mid new k o was u w = live_same old new (λ q. ap live (back old mid new k o was u w q))
