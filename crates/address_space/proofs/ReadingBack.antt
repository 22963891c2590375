-- One area holds a range of bytes, so that what is written there is read there.
use Rattle.std.proofs.Common.{◌≡◌, ℕ, zero, suc, ◌+◌, ◌-◌, ◌*◌, ◌<◌, ◌≤◌, ◌==◌, Bool, true, false, List, [], ◌∷◌, length, Option, Some, None, refl, ap, arith}
use Rattle.std.specs.Prelude.{if◌then◌else◌, Ok, slice_index_or}
use Rattle.std.specs.List.{AllPairs}
use Rattle.std.specs.Option.{unwrap_or}
use Rattle.std.specs.Ordering.{nat_cmp}
use Rattle.std.specs.Cmp.{nat_cmp_total}
use Rattle.std.specs.FinMap.{FinMap, get, get-insert}
use Rattle.std.proofs.lemmas.Grind.{common_steps}
use Rattle.std.proofs.lemmas.List.{nil_from_length}
use Rattle.std.proofs.lemmas.Bool.Decides.{nat_tests}
use Rattle.ipc_ids.specs.declared.numbers.TaskNo.{TaskNo}
use Rattle.ipc_ids.specs.declared.numbers.StoreNo.{StoreNo}
use Rattle.ipc_ids.proofs.Common.{own_key}
use Rattle.address_space.specs.declared.area.Right.{Right}
use Rattle.address_space.specs.declared.area.Right.TheVariants.{Read, Write}
use Rattle.address_space.specs.Areas.{Area, holder, holds}
use Rattle.address_space.specs.Stores.{HasBytes, bytes_from, written_over, write_at}
use Rattle.address_space.specs.Memory.{Memory, areas_of, spot_in, spot_of, read_at, read, write_spot, write}
use Rattle.address_space.specs.Sound.{IsSound, AreApart, IsOver}
use Rattle.address_space.proofs.Keeping.{tested, in_holder, within, room}
use Rattle.address_space.proofs.Soundness.{lawful_of, over_of}

-- an area that holds a range is one of the areas
pub found_in : (R : Area → Type 0) (at count : ℕ) (right : Right) (areas : List Area) (h : Area) → ((j : ℕ) (d : Area) → j < length areas → R (slice_index_or areas j d)) → holder at count right areas ≡ Some h → R h × (holds at count right h ≡ true)
found_in R at count right [] h each e = absurd (cc e)
found_in R at count right (a ∷ areas) h each e =
    tested R at count right (holds at count right a) a h areas refl (each zero a (omega arith)) e (λ r. found_in R at count right areas h (λ j d lt. each (suc j) d (omega arith)) r)

-- two areas that are apart don't both hold a byte
clash : (at count : ℕ) (r s : Right) (a b : Area) → 0 < count → AreApart a b → holds at count r a ≡ true → holds at count s b ≡ true → ⊥
clash at count r s a b some apart h g =
    let v = within at count r a h in
    let w = within at count s b g in
    let v0 = v.from in let v1 = v.to in let w0 = w.from in let w1 = w.to in
    let x : a.base < b.base + b.pages * 4096 = omega arith in
    let y : b.base < a.base + a.pages * 4096 = omega arith in
    absurd (grind (arith, nat_tests, apart, x, y))

one_if : (at count : ℕ) (r s : Right) (x : Area) (areas : List Area) (a b : Area) (p q : Bool) → holds at count r x ≡ p → holds at count s x ≡ q → 0 < count → ((j : ℕ) (d : Area) → j < length areas → AreApart x (slice_index_or areas j d)) → (if p then Some x else holder at count r areas) ≡ Some a → (if q then Some x else holder at count s areas) ≡ Some b → (holder at count r areas ≡ Some a → holder at count s areas ≡ Some b → a ≡ b) → a ≡ b
one_if at count r s x areas a b true true h g some apart e f more = cc
one_if at count r s x areas a b true false h g some apart e f more =
    let found = found_in (AreApart x) at count s areas b apart f in
    absurd (clash at count r s x b some found.0 h found.1)
one_if at count r s x areas a b false true h g some apart e f more =
    let found = found_in (AreApart x) at count r areas a apart e in
    absurd (clash at count s r x a some found.0 g found.1)
one_if at count r s x areas a b false false h g some apart e f more = more e f

-- whatever the rights, one area holds a range that is not empty
pub one_holder : (at count : ℕ) (r s : Right) (areas : List Area) (a b : Area) → 0 < count → AllPairs AreApart areas → holder at count r areas ≡ Some a → holder at count s areas ≡ Some b → a ≡ b
one_holder at count r s [] a b some apart e f = absurd (cc e)
one_holder at count r s (x ∷ areas) a b some apart e f =
    one_if at count r s x areas a b (holds at count r x) (holds at count s x) refl refl some (λ j d lt. apart zero (suc j) d (omega arith) (omega arith)) e f
    (λ g h. one_holder at count r s areas a b some (λ i j d below lt. apart (suc i) (suc j) d (omega arith) (omega arith)) g h)

part_written : (bytes : List ℕ) (at : ℕ) (new : List ℕ) → at + length new ≤ length bytes → bytes_from (written_over bytes at new) at (length new) ≡ new
part_written bytes at new h = grind (arith, common_steps)

pub back_if : (stores : FinMap nat_cmp (List ℕ)) (n at : ℕ) (new : List ℕ) (found : Option (List ℕ)) → get stores n ≡ found → HasBytes found (at + length new) → bytes_from (unwrap_or (get (write_at stores n at new) n) []) at (length new) ≡ new
back_if stores n at new None is room = absurd room
back_if stores n at new (Some bytes) is room = rw (is, get-insert nat_cmp_total stores n (written_over bytes at new) n, own_key n) (part_written bytes at new room)

back_at : (m : Memory) (t : TaskNo) (at : ℕ) (new old : List ℕ) (store : Option StoreNo) (f g : Option Area) → holder at (length new) Read (areas_of m t) ≡ f → holder at (length new) Write (areas_of m t) ≡ g → 0 < length new → IsSound m → read_at m (length new) (spot_in at f) ≡ Ok old → (write_spot m new (spot_in at g)).told ≡ Ok store → read_at (write_spot m new (spot_in at g)).memory (length new) (spot_of (write_spot m new (spot_in at g)).memory t at (length new) Read) ≡ Ok new
back_at m t at new old store None g e h some s can may = absurd (cc can)
back_at m t at new old store (Some a) None e h some s can may = absurd (cc may)
back_at m t at new old store (Some a) (Some b) e h some s can may =
    let same : a ≡ b = one_holder at (length new) Read Write (areas_of m t) a b some (lawful_of m t s).apart e h in
    let held = in_holder (IsOver m.stores m.next_store) at (length new) Write (areas_of m t) b (over_of m t s) h in
    let there = room m.stores m.next_store b at (length new) held.0 (within at (length new) Write b held.1) in
    rw (e, same) (ap Ok (back_if m.stores b.store (at - b.base) new (get m.stores b.store) refl there))

back_some : (m : Memory) (t : TaskNo) (at : ℕ) (new old : List ℕ) (store : Option StoreNo) (none : Bool) → (length new == 0) ≡ none → IsSound m → read m t at (length new) ≡ Ok old → (write m t at new).told ≡ Ok store → read (write m t at new).memory t at (length new) ≡ Ok new
back_some m t at new old store true is s can may =
    let nil : new ≡ [] = nil_from_length new (grind (arith, nat_tests)) in
    rw (is, nil) refl
back_some m t at new old store false is s can may =
    let some : 0 < length new = grind (arith, nat_tests) in
    rw is (back_at m t at new old store (holder at (length new) Read (areas_of m t)) (holder at (length new) Write (areas_of m t)) refl refl some s (rw is at can) (rw is at may))

pub reads_back : (m : Memory) (t : TaskNo) (at : ℕ) (new old : List ℕ) (store : Option StoreNo) → IsSound m → read m t at (length new) ≡ Ok old → (write m t at new).told ≡ Ok store → read (write m t at new).memory t at (length new) ≡ Ok new
reads_back m t at new old store s can may = back_some m t at new old store (length new == 0) refl s can may
