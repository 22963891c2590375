-- A write changes the bytes that it names, through one area of the task that may be written, and no other byte.
use Rattle.std.proofs.Common.{◌≡◌, ℕ, zero, suc, ◌+◌, ◌-◌, ◌<◌, ◌≤◌, ◌==◌, ◌⊎◌, inl, inr, Bool, true, false, List, [], ◌∷◌, ◌++◌, length, Option, Some, None, refl, sym, ◌∙◌, ap, subst, arith}
use Rattle.std.specs.Prelude.{if◌then◌else◌, Ok, slice_get, take, drop}
use Rattle.std.specs.Ordering.{nat_cmp}
use Rattle.std.specs.Cmp.{nat_cmp_total}
use Rattle.std.specs.FinMap.{FinMap, get, insert, get-insert}
use Rattle.std.proofs.lemmas.Bool.{cases_eq}
use Rattle.std.proofs.lemmas.Bool.Decides.{nat_tests}
use Rattle.std.proofs.lemmas.Grind.{common_steps}
use Rattle.std.proofs.lemmas.Option.{slice_get_within}
use Rattle.ipc_ids.specs.declared.numbers.TaskNo.{TaskNo}
use Rattle.ipc_ids.proofs.Common.{own_key}
use Rattle.address_space.specs.declared.area.Right.TheVariants.{Write}
use Rattle.address_space.specs.Areas.{Area, holder}
use Rattle.address_space.specs.Stores.{HasBytes, written_over, write_at}
use Rattle.address_space.specs.Memory.{Memory, areas_of, spot_in, write_spot, write}
use Rattle.address_space.specs.Sound.{IsSound}
use Rattle.kernel_laws.specs.MemoryLaws.{IsWritable, byte_in, byte_at, Writes, IsLawfulWrite}
use Rattle.kernel_laws.proofs.OneArea.{one_span, found_writable, none_writable}
use Rattle.kernel_laws.proofs.LawfulReads.{room_of}
use Rattle.kernel_laws.proofs.Lists.{get_take, get_drop}
use Rattle.answerbox.proofs.Chain.{other_key}

-- ---- bytes of a list that others were written over

get_left : (xs ys : List ℕ) (i : ℕ) → i < length xs → slice_get (xs ++ ys) i ≡ slice_get xs i
get_left [] ys i few = absurd (omega arith)
get_left (x ∷ xs) ys zero few = refl
get_left (x ∷ xs) ys (suc i) few = get_left xs ys i (omega arith)

get_right : (xs ys : List ℕ) (k i : ℕ) → k ≡ length xs → slice_get (xs ++ ys) (k + i) ≡ slice_get ys i
get_right [] ys k i is = let e : k + i ≡ i = omega arith in ap (slice_get ys) e
get_right (x ∷ xs) ys zero i is = absurd (omega arith)
get_right (x ∷ xs) ys (suc k) i is = let e : suc k + i ≡ suc (k + i) = omega arith in rw e (get_right xs ys k i (omega arith))

length_take : (xs : List ℕ) (k : ℕ) → k ≤ length xs → k ≡ length (take k xs)
length_take xs k room = grind (arith, common_steps)

before : (xs new : List ℕ) (k n : ℕ) → k + length new ≤ length xs → n < k → slice_get (written_over xs k new) n ≡ slice_get xs n
before xs new k n room few =
    let l = length_take xs k (omega arith) in
    get_left (take k xs) (new ++ drop (k + length new) xs) n (omega (arith, l, few)) ∙ get_take xs k n few

among : (xs new : List ℕ) (k i : ℕ) → k + length new ≤ length xs → i < length new → slice_get (written_over xs k new) (k + i) ≡ slice_get new i
among xs new k i room few = get_right (take k xs) (new ++ drop (k + length new) xs) k i (length_take xs k (omega arith)) ∙ get_left new (drop (k + length new) xs) i few

behind : (xs new : List ℕ) (k n : ℕ) → k + length new ≤ length xs → k + length new ≤ n → slice_get (written_over xs k new) n ≡ slice_get xs n
behind xs new k n room far =
    let j : ℕ = n - (k + length new) in
    let e : k + (length new + j) ≡ n = omega arith in
    let f : k + length new + j ≡ n = omega arith in
    subst (λ i. slice_get (written_over xs k new) i ≡ slice_get xs n) e (get_right (take k xs) (new ++ drop (k + length new) xs) k (length new + j) (length_take xs k (omega arith)) ∙ get_right new (drop (k + length new) xs) (length new) j refl ∙ get_drop xs (k + length new) j ∙ ap (slice_get xs) f)

-- ---- bytes of a store

pub byte_put : (stores : FinMap nat_cmp (List ℕ)) (n i : ℕ) (bytes : List ℕ) → byte_in (get (insert stores n bytes) n) i ≡ slice_get bytes i
byte_put stores n i bytes = rw (get-insert nat_cmp_total stores n bytes n, own_key n) refl

pub byte_elsewhere : (stores : FinMap nat_cmp (List ℕ)) (n q i : ℕ) (bytes : List ℕ) → (q ≡ n → ⊥) → byte_in (get (insert stores n bytes) q) i ≡ byte_in (get stores q) i
byte_elsewhere stores n q i bytes other = rw (get-insert nat_cmp_total stores n bytes q, other_key q n other) refl

-- ---- a write through an area

module _ (m : Memory) (a : Area) (at : ℕ) (new : List ℕ) (from : a.base ≤ at) where
  abbrev k : ℕ
  k = at - a.base

  abbrev after : Memory
  after = record { areas = m.areas; stores = write_at m.stores a.store k new; next_store = m.next_store }

  stores_are : (xs : List ℕ) → get m.stores a.store ≡ Some xs → after.stores ≡ insert m.stores a.store (written_over xs k new)
  stores_are xs is = rw is refl

  byte_is : (xs : List ℕ) → get m.stores a.store ≡ Some xs → (n : ℕ) → byte_at after a.store n ≡ slice_get (written_over xs k new) n
  byte_is xs is n = ap (λ (s : FinMap nat_cmp (List ℕ)). byte_in (get s a.store) n) (stores_are xs is) ∙ byte_put m.stores a.store n (written_over xs k new)

  was : (xs : List ℕ) → get m.stores a.store ≡ Some xs → (n : ℕ) → slice_get xs n ≡ byte_at m a.store n
  was xs is n = ap (λ (o : Option (List ℕ)). byte_in o n) (sym is)

  unnamed : (xs : List ℕ) → get m.stores a.store ≡ Some xs → k + length new ≤ length xs → (n : ℕ) → (a.base + n < at) ⊎ (at + length new ≤ a.base + n) → byte_at after a.store n ≡ byte_at m a.store n
  unnamed xs is room n apart = elim apart [
    | inl low ↦ byte_is xs is n ∙ before xs new k n room (omega arith) ∙ was xs is n
    | inr high ↦ byte_is xs is n ∙ behind xs new k n room (omega arith) ∙ was xs is n
  ]

  writes_in : (o : Option (List ℕ)) → get m.stores a.store ≡ o → HasBytes o (k + length new) → Writes m a at new after
  writes_in None is room = absurd room
  writes_in (Some xs) is room =
      record {
        named = λ i n b e place.
            let j : n ≡ k + i = omega arith in
            byte_is xs is n ∙ ap (slice_get (written_over xs k new)) j ∙ among xs new k i room (slice_get_within new i b e) ∙ e;
        others = λ store n apart. elim (cases_eq store a.store) [
          | inl same ↦ subst (λ q. byte_at after q n ≡ byte_at m q n) (sym same) (unnamed xs is room n (apart same))
          | inr other ↦ ap (λ (s : FinMap nat_cmp (List ℕ)). byte_in (get s store) n) (stores_are xs is) ∙ byte_elsewhere m.stores a.store store n (written_over xs k new) other
        ];
        areas = refl;
        next = refl;
      }

-- ---- a write by a task

module _ (m : Memory) (t : TaskNo) (at : ℕ) (new : List ℕ) (sound : IsSound m) where
  done_by : (h a : Area) → 1 ≤ length new → IsWritable m t at (length new) h → IsWritable m t at (length new) a → ((write_spot m new (spot_in at (Some h))).told ≡ Ok (Some (record { 0 = a.store }))) × Writes m a at new (write_spot m new (spot_in at (Some h))).memory
  done_by h a some r q =
      subst (λ x. ((write_spot m new (spot_in at (Some h))).told ≡ Ok (Some (record { 0 = x.store }))) × Writes m x at new (write_spot m new (spot_in at (Some h))).memory) (one_span m t at (length new) h a sound some r.has q.has r.spans q.spans)
      (refl, writes_in m h at new r.spans.from (get m.stores h.store) refl (room_of m t at (length new) h sound r.has r.spans))

  by_holder : (o : Option Area) → 1 ≤ length new → holder at (length new) Write (areas_of m t) ≡ o → IsLawfulWrite m t at new (write_spot m new (spot_in at o))
  by_holder None some e = record { none = λ z. absurd (omega arith); bytes = λ a _ r. absurd (none_writable m t at (length new) a e r); refused = λ _ _. (refl, refl) }
  by_holder (Some h) some e =
      record {
        none = λ z. absurd (omega arith);
        bytes = λ a _ r. done_by h a some (found_writable m t at (length new) h e) r;
        refused = λ _ no. absurd (no h (found_writable m t at (length new) h e));
      }

  by_count : (b : Bool) → (length new == 0) ≡ b → IsLawfulWrite m t at new (if b then record { memory = m; told = Ok None } else write_spot m new (spot_in at (holder at (length new) Write (areas_of m t))))
  by_count true is = let z : length new ≡ 0 = grind (arith, nat_tests, is) in record { none = λ _. (refl, refl); bytes = λ a some r. absurd (omega (arith, z, some)); refused = λ some no. absurd (omega (arith, z, some)) }
  by_count false is = by_holder (holder at (length new) Write (areas_of m t)) (grind (arith, nat_tests, is)) refl

  pub write_is_lawful : IsLawfulWrite m t at new (write m t at new)
  write_is_lawful = by_count (length new == 0) refl
