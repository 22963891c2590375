-- What a task asks of the memory leaves each store below the next number, and under an area.
use Rattle.std.proofs.Common.{◌≡◌, ℕ, zero, suc, ◌+◌, ◌-◌, ◌*◌, ◌<◌, ◌==◌, ◌&&◌, Bool, true, false, cond, ◌⊎◌, inl, inr, List, [], ◌∷◌, ◌++◌, length, Option, Some, None, refl, ap, sym, subst, ◌∙◌, arith}
use Rattle.std.specs.Prelude.{◌||◌, if◌then◌else◌, IsSome, remove, replicate, slice_get, slice_set}
use Rattle.std.specs.List.{list_any}
use Rattle.std.specs.Option.{unwrap_or}
use Rattle.std.specs.Ordering.{nat_cmp, eq_by_cmp}
use Rattle.std.specs.Cmp.{nat_cmp_total}
use Rattle.std.specs.FinMap.{FinMap, get, insert, get-empty, get-insert, get-remove}
use Rattle.std.specs.FinMap as map
use Rattle.std.proofs.lemmas.Bool.{eq-eqb, ne_eqb, or_right, or_left}
use Rattle.std.proofs.lemmas.Bool.Decides.{nat_tests}
use Rattle.ipc_ids.specs.declared.numbers.Code.{Code}
use Rattle.ipc_ids.specs.declared.numbers.TaskNo.{TaskNo}
use Rattle.ipc_ids.specs.Codes.{eperm}
use Rattle.ipc_ids.proofs.Common.{is_some}
use Rattle.address_space.specs.declared.area.Right.TheVariants.{Write}
use Rattle.address_space.specs.declared.spaces.Spot.{Spot}
use Rattle.address_space.specs.Areas.{Area, is_subset, refusal, place_of, stands_over}
use Rattle.address_space.specs.Stores.{written_over, write_at}
use Rattle.address_space.specs.Memory.{Memory, IsAdded, no_memory, areas_of, with_areas, with_task, make, make_unless, is_used, drop_place, drop_at, drop_area, spot_of, write_spot, write, refused, area_at, share_unless, share_area, share}
use Rattle.address_space.specs.Sound.{AreHeld}

-- tests over lists

or_case : (a b : Bool) → (a || b) ≡ true → (a ≡ true) ⊎ (b ≡ true)
or_case true b h = inl refl
or_case false b h = inr h

or_other : (a b : Bool) → a ≡ false → (a || b) ≡ true → b ≡ true
or_other true b h g = absurd (cc h)
or_other false b h g = g

module _ {X : Type 0} (p : X → Bool) where
  any_more : (xs ys : List X) → list_any p xs ≡ true → list_any p (xs ++ ys) ≡ true
  any_more [] ys h = absurd (cc h)
  any_more (x ∷ xs) ys h = elim (or_case (p x) (list_any p xs) h) [ inl e ↦ or_left (p x) _ e | inr e ↦ or_right (p x) _ (any_more xs ys e) ]

  any_last : (xs : List X) (y : X) → p y ≡ true → list_any p (xs ++ y ∷ []) ≡ true
  any_last [] y h = or_left (p y) false h
  any_last (x ∷ xs) y h = or_right (p x) _ (any_last xs y h)

  any_left : (xs : List X) (i : ℕ) (x : X) → slice_get xs i ≡ Some x → p x ≡ false → list_any p xs ≡ true → list_any p (remove xs i) ≡ true
  any_left [] i x is other h = absurd (cc h)
  any_left (y ∷ xs) zero x is other h = let same : y ≡ x = cc in or_other (p y) (list_any p xs) (ap p same ∙ other) h
  any_left (y ∷ xs) (suc i) x is other h = elim (or_case (p y) (list_any p xs) h) [ inl e ↦ or_left (p y) _ e | inr e ↦ or_right (p y) _ (any_left xs i x is other e) ]

  -- one item changes, and passes where the old one did
  any_set : (xs : List X) (i : ℕ) (x none : X) → (p (unwrap_or (slice_get xs i) none) ≡ true → p x ≡ true) → list_any p xs ≡ true → list_any p (slice_set xs i x) ≡ true
  any_set [] i x none f h = h
  any_set (y ∷ xs) zero x none f h = elim (or_case (p y) (list_any p xs) h) [ inl e ↦ or_left (p x) _ (f e) | inr e ↦ or_right (p x) _ e ]
  any_set (y ∷ xs) (suc i) x none f h = elim (or_case (p y) (list_any p xs) h) [ inl e ↦ or_left (p y) _ e | inr e ↦ or_right (p y) _ (any_set xs i x none f e) ]

  any_here : (xs : List X) (i : ℕ) (x : X) → i < length xs → p x ≡ true → list_any p (slice_set xs i x) ≡ true
  any_here [] i x few h = absurd (omega arith)
  any_here (y ∷ xs) zero x few h = or_left (p x) _ h
  any_here (y ∷ xs) (suc i) x few h = or_right (p y) _ (any_here xs i x (omega arith) h)

-- the stores after one came or went

inserted : (stores : FinMap nat_cmp (List ℕ)) (key : ℕ) (bytes : List ℕ) (n : ℕ) → IsSome (get (insert stores key bytes) n) → (n ≡ key) ⊎ IsSome (get stores n)
inserted stores key bytes n some = by_key (eq_by_cmp nat_cmp n key) refl (subst IsSome (get-insert nat_cmp_total stores key bytes n) some) where
  by_key : (b : Bool) → eq_by_cmp nat_cmp n key ≡ b → IsSome (cond b (Some bytes) (get stores n)) → (n ≡ key) ⊎ IsSome (get stores n)
  by_key true same h = inl (grind (arith, nat_tests))
  by_key false other h = inr h

removed : (stores : FinMap nat_cmp (List ℕ)) (key n : ℕ) → IsSome (get (map.remove stores key) n) → (n ≡ key → ⊥) × IsSome (get stores n)
removed stores key n some = by_key (eq_by_cmp nat_cmp n key) refl (subst IsSome (get-remove nat_cmp_total stores key n) some) where
  by_key : (b : Bool) → eq_by_cmp nat_cmp n key ≡ b → IsSome (cond b None (get stores n)) → (n ≡ key → ⊥) × IsSome (get stores n)
  by_key true same h = absurd (cc h)
  by_key false other h = ((λ e. grind (arith, nat_tests, e)), h)

pub held_none : AreHeld no_memory
held_none = record { old = λ n some. absurd (none n some); used = λ n some. absurd (none n some) } where
  none : (n : ℕ) → IsSome (get no_memory.stores n) → ⊥
  none n some = let g = rw (get-empty nat_cmp n) at some in cc

pub held_task : (m : Memory) → AreHeld m → AreHeld (with_task m)
held_task m h = record { old = h.old; used = λ n some. any_more (list_any (stands_over n)) m.areas ([] ∷ []) (h.used n some) }

-- a task has one area more
used_more : (m : Memory) (t : TaskNo) (a : Area) (n : ℕ) → is_used n m.areas ≡ true → is_used n (with_areas m t (areas_of m t ++ a ∷ [])).areas ≡ true
used_more m t a n h = any_set (list_any (stands_over n)) m.areas (t.0 - 1) (areas_of m t ++ a ∷ []) [] (any_more (stands_over n) (areas_of m t) (a ∷ [])) h

-- it has one area less, which stands over another store
used_less : (m : Memory) (t : TaskNo) (i : ℕ) (a : Area) (n : ℕ) → slice_get (areas_of m t) i ≡ Some a → (n ≡ a.store → ⊥) → is_used n m.areas ≡ true → is_used n (with_areas m t (remove (areas_of m t) i)).areas ≡ true
used_less m t i a n is other h =
    any_set (list_any (stands_over n)) m.areas (t.0 - 1) (remove (areas_of m t) i) [] (any_left (stands_over n) (areas_of m t) i a is (ne_eqb a.store n (λ e. other (sym e)))) h

held_unless : (m : Memory) (t : TaskNo) (base pages rights : ℕ) (cause : Option Code) → IsAdded m t → AreHeld m → AreHeld (make_unless m t (record { base = base; pages = pages; rights = rights; store = m.next_store }) cause).memory
held_unless m t base pages rights (Some code) added h = h
held_unless m t base pages rights None added h = record { old = old; used = used } where
  old : (n : ℕ) → IsSome (get (insert m.stores m.next_store (replicate (pages * 4096) 0)) n) → n < m.next_store + 1
  old n some = elim (inserted m.stores m.next_store (replicate (pages * 4096) 0) n some) [ inl e ↦ omega (arith, e) | inr e ↦ (let below = h.old n e in omega (arith, below)) ]

  new : is_used m.next_store (with_areas m t (areas_of m t ++ (record { base = base; pages = pages; rights = rights; store = m.next_store }) ∷ [])).areas ≡ true
  new =
      any_here (list_any (stands_over m.next_store)) m.areas (t.0 - 1) _ (let one = added.from_one in let few = added.in_range in omega (arith, one, few))
      (any_last (stands_over m.next_store) (areas_of m t) (record { base = base; pages = pages; rights = rights; store = m.next_store }) (eq-eqb m.next_store m.next_store refl))

  used : (n : ℕ) → IsSome (get (insert m.stores m.next_store (replicate (pages * 4096) 0)) n) → is_used n (with_areas m t (areas_of m t ++ (record { base = base; pages = pages; rights = rights; store = m.next_store }) ∷ [])).areas ≡ true
  used n some = elim (inserted m.stores m.next_store (replicate (pages * 4096) 0) n some) [
    | inl e ↦ rw e new
    | inr e ↦ used_more m t (record { base = base; pages = pages; rights = rights; store = m.next_store }) n (h.used n e)
  ]

pub held_make : (m : Memory) (t : TaskNo) (base pages rights : ℕ) → IsAdded m t → AreHeld m → AreHeld (make m t base pages rights).memory
held_make m t base pages rights added h = held_unless m t base pages rights (refusal base pages rights (areas_of m t)) added h

-- the stores, where that of an area that went goes if no area stands over it
held_if : (m : Memory) (t : TaskNo) (i : ℕ) (a : Area) (used : Bool) → slice_get (areas_of m t) i ≡ Some a → is_used a.store (with_areas m t (remove (areas_of m t) i)).areas ≡ used → AreHeld m
    → AreHeld (record { areas = (with_areas m t (remove (areas_of m t) i)).areas; stores = if used then m.stores else map.remove m.stores a.store; next_store = m.next_store })
held_if m t i a true is there h = record {
  old = h.old;
  used = λ n some. by_store n some (n == a.store) refl;
} where
  by_store : (n : ℕ) → IsSome (get m.stores n) → (b : Bool) → (n == a.store) ≡ b → is_used n (with_areas m t (remove (areas_of m t) i)).areas ≡ true
  by_store n some true same = let e : n ≡ a.store = grind (arith, nat_tests) in rw e there
  by_store n some false other = used_less m t i a n is (λ e. grind (arith, nat_tests, e)) (h.used n some)
held_if m t i a false is gone h = record {
  old = λ n some. h.old n (removed m.stores a.store n some).1;
  used = λ n some. let left = removed m.stores a.store n some in used_less m t i a n is left.0 (h.used n left.1);
}

held_place : (m : Memory) (t : TaskNo) (i : ℕ) (found : Option Area) → slice_get (areas_of m t) i ≡ found → AreHeld m → AreHeld (drop_place m t i found)
held_place m t i None is h = h
held_place m t i (Some a) is h = held_if m t i a (is_used a.store (with_areas m t (remove (areas_of m t) i)).areas) is refl h

held_at : (m : Memory) (t : TaskNo) (place : Option ℕ) → AreHeld m → AreHeld (drop_at m t place).memory
held_at m t None h = h
held_at m t (Some i) h = held_place m t i (slice_get (areas_of m t) i) refl h

pub held_drop : (m : Memory) (t : TaskNo) (base : ℕ) → AreHeld m → AreHeld (drop_area m t base).memory
held_drop m t base h = held_at m t (place_of base (areas_of m t)) h

-- a write brings no store

there_still : (stores : FinMap nat_cmp (List ℕ)) (key at : ℕ) (new : List ℕ) (n : ℕ) → IsSome (get (write_at stores key at new) n) → IsSome (get stores n)
there_still stores key at new n = by_store (get stores key) refl where
  by_store : (o : Option (List ℕ)) → get stores key ≡ o → IsSome (get (write_at stores key at new) n) → IsSome (get stores n)
  by_store None is some = rw is at some
  by_store (Some bytes) is some = elim (inserted stores key (written_over bytes at new) n (rw is at some)) [ inl e ↦ rw e (is_some (get stores key) bytes is) | inr e ↦ e ]

held_spot : (m : Memory) (new : List ℕ) (spot : Option Spot) → AreHeld m → AreHeld (write_spot m new spot).memory
held_spot m new None h = h
held_spot m new (Some s) h = record {
  old = λ n some. h.old n (there_still m.stores s.store s.offset new n some);
  used = λ n some. h.used n (there_still m.stores s.store s.offset new n some);
}

held_some : (m : Memory) (t : TaskNo) (at : ℕ) (new : List ℕ) (none : Bool) → (length new == 0) ≡ none → AreHeld m → AreHeld (write m t at new).memory
held_some m t at new true is h = rw is h
held_some m t at new false is h = rw is (held_spot m new (spot_of m t at (length new) Write) h)

pub held_write : (m : Memory) (t : TaskNo) (at : ℕ) (new : List ℕ) → AreHeld m → AreHeld (write m t at new).memory
held_write m t at new h = held_some m t at new (length new == 0) refl h

held_again : (m : Memory) (to : TaskNo) (a : Area) (cause : Option Code) → AreHeld m → AreHeld (share_unless m to a cause).memory
held_again m to a (Some code) h = h
held_again m to a None h = record { old = h.old; used = λ n some. used_more m to a n (h.used n some) }

held_allowed : (m : Memory) (to : TaskNo) (a : Area) (cause : Option Code) (may : Bool) → AreHeld m → AreHeld (if may then share_unless m to a cause else refused m eperm).memory
held_allowed m to a cause true h = held_again m to a cause h
held_allowed m to a cause false h = h

held_source : (m : Memory) (to : TaskNo) (target pages rights : ℕ) (found : Option Area) → AreHeld m → AreHeld (share_area m to target pages rights found).memory
held_source m to target pages rights None h = h
held_source m to target pages rights (Some a) h =
    held_allowed m to (record { base = target; pages = pages; rights = rights; store = a.store }) (refusal target pages rights (areas_of m to)) ((a.pages == pages) && is_subset rights a.rights) h

pub held_share : (m : Memory) (from : TaskNo) (base : ℕ) (to : TaskNo) (target pages rights : ℕ) → AreHeld m → AreHeld (share m from base to target pages rights).memory
held_share m from base to target pages rights h = held_source m to target pages rights (area_at m from base) h
