-- Bytes that are written through one area are read through another over its store.
use Rattle.std.proofs.Common.{◌≡◌, ℕ, zero, suc, ◌+◌, ◌-◌, ◌*◌, ◌<◌, ◌≤◌, ◌==◌, Bool, true, false, cond, not, List, [], ◌∷◌, length, Option, Some, None, refl, sym, ◌∙◌, ap, subst, arith}
use Rattle.std.specs.Prelude.{if◌then◌else◌, Ok, slice_get, slice_index_or, nat_lt, option_map}
use Rattle.std.specs.List.{AllPairs, position_or_len}
use Rattle.std.specs.FinMap.{get}
use Rattle.std.proofs.lemmas.List.{nil_from_length}
use Rattle.std.proofs.lemmas.Bool.Decides.{nat_tests}
use Rattle.std.proofs.lemmas.Bool.{eqb-true}
use Rattle.ipc_ids.specs.declared.numbers.TaskNo.{TaskNo}
use Rattle.ipc_ids.specs.declared.numbers.StoreNo.{StoreNo}
use Rattle.address_space.specs.declared.facts.Area as facts
use Rattle.address_space.specs.declared.area.Right.{Right}
use Rattle.address_space.specs.declared.area.Right.TheVariants.{Read, Write}
use Rattle.address_space.specs.Areas.{Area, holder, holds, place_of, area_in}
use Rattle.address_space.specs.Memory.{Memory, areas_of, spot_in, spot_of, read_at, read, write_spot, write, area_at, facts_of, area}
use Rattle.address_space.specs.Sound.{IsSound, AreApart, IsOver}
use Rattle.address_space.proofs.Keeping.{IsWithin, within, room, all_got}
use Rattle.address_space.proofs.ReadingBack.{found_in, back_if}
use Rattle.address_space.proofs.Soundness.{in_place, lawful_of, over_of}

-- an area of the list with this base
record IsAt (areas : List Area) (base i : ℕ) (a : Area) : Type 0 where
  there : slice_get areas i ≡ Some a
  begins : a.base ≡ base

placed : (areas : List Area) (i : ℕ) (a : Area) (b : Bool) → area_in areas (cond b (Some i) None) ≡ Some a → slice_get areas i ≡ Some a
placed areas i a true e = e
placed areas i a false e = absurd (cc e)

next_place : (x a : Area) (areas : List Area) (k : ℕ) → slice_get (x ∷ areas) (1 + k) ≡ Some a → slice_get areas k ≡ Some a
next_place x a areas k e = let n : 1 + k ≡ suc k = omega arith in rw n at e

first_if : (p : Area → Bool) (x a : Area) (areas : List Area) (b : Bool) → p x ≡ b → slice_get (x ∷ areas) (cond (not b) (1 + position_or_len p areas) 0) ≡ Some a → (slice_get areas (position_or_len p areas) ≡ Some a → p a ≡ true) → p a ≡ true
first_if p x a areas true is e more = let same : x ≡ a = cc in subst (λ y. p y ≡ true) same is
first_if p x a areas false is e more = more (next_place x a areas (position_or_len p areas) e)

first_passes : (p : Area → Bool) (areas : List Area) (a : Area) → slice_get areas (position_or_len p areas) ≡ Some a → p a ≡ true
first_passes p [] a e = absurd (cc e)
first_passes p (x ∷ areas) a e = first_if p x a areas (p x) refl e (λ r. first_passes p areas a r)

at_base : (areas : List Area) (base : ℕ) (a : Area) → area_in areas (place_of base areas) ≡ Some a → IsAt areas base (position_or_len (λ x. x.base == base) areas) a
at_base areas base a e =
    let i : ℕ = position_or_len (λ x. x.base == base) areas in
    let there : slice_get areas i ≡ Some a = placed areas i a (nat_lt i (length areas)) e in
    record { there = there; begins = eqb-true a.base base (first_passes (λ x. x.base == base) areas a there) }

-- two areas that are apart have no range in common
no_common : (at count : ℕ) (a b : Area) → 0 < count → AreApart a b → IsWithin a at count → IsWithin b at count → ⊥
no_common at count a b some apart v w =
    let v0 = v.from in let v1 = v.to in let w0 = w.from in let w1 = w.to in
    let x : a.base < b.base + b.pages * 4096 = omega arith in
    let y : b.base < a.base + a.pages * 4096 = omega arith in
    absurd (grind (arith, nat_tests, apart, x, y))

index_at : (areas : List Area) (i : ℕ) (a d : Area) → slice_get areas i ≡ Some a → slice_index_or areas i d ≡ a
index_at [] i a d e = absurd (cc e)
index_at (x ∷ areas) zero a d e = cc
index_at (x ∷ areas) (suc i) a d e = index_at areas i a d e

head_if : (at count : ℕ) (right : Right) (x a h : Area) (areas : List Area) (b : Bool) → holds at count right x ≡ b → x ≡ a → 0 < count → ((j : ℕ) (d : Area) → j < length areas → AreApart x (slice_index_or areas j d)) → IsWithin a at count → (if b then Some x else holder at count right areas) ≡ Some h → h ≡ a
head_if at count right x a h areas true is same some apart w e = cc
head_if at count right x a h areas false is same some apart w e =
    let found = found_in (AreApart x) at count right areas h apart e in
    absurd (no_common at count x h some found.0 (subst (λ y. IsWithin y at count) (sym same) w) (within at count right h found.1))

tail_if : (at count : ℕ) (right : Right) (x a h : Area) (areas : List Area) (b : Bool) → holds at count right x ≡ b → 0 < count → AreApart x a → IsWithin a at count → (if b then Some x else holder at count right areas) ≡ Some h → (holder at count right areas ≡ Some h → h ≡ a) → h ≡ a
tail_if at count right x a h areas true is some apart w e more = absurd (no_common at count x a some apart (within at count right x is) w)
tail_if at count right x a h areas false is some apart w e more = more e

-- the area that holds a range is the one in which the range lies
only_holder : (at count : ℕ) (right : Right) (areas : List Area) (i : ℕ) (a h : Area) → 0 < count → AllPairs AreApart areas → slice_get areas i ≡ Some a → IsWithin a at count → holder at count right areas ≡ Some h → h ≡ a
only_holder at count right [] i a h some apart is w e = absurd (cc e)
only_holder at count right (x ∷ areas) zero a h some apart is w e =
    let same : x ≡ a = cc in
    head_if at count right x a h areas (holds at count right x) refl same some (λ j d lt. apart zero (suc j) d (omega arith) (omega arith)) w e
only_holder at count right (x ∷ areas) (suc i) a h some apart is w e =
    let lt = in_place areas i a is in
    let clear : AreApart x (slice_index_or areas i a) = apart zero (suc i) a (omega arith) (omega arith) in
    tail_if at count right x a h areas (holds at count right x) refl some (subst (AreApart x) (index_at areas i a a is) clear) w e
    (λ r. only_holder at count right areas i a h some (λ j k d below within. apart (suc j) (suc k) d (omega arith) (omega arith)) is w r)

-- areas over one store have as many bytes
as_many : (m : Memory) (a b : Area) → IsOver m.stores m.next_store a → IsOver m.stores m.next_store b → a.store ≡ b.store → a.pages * 4096 ≡ b.pages * 4096
as_many m a b o p same =
    let e : option_map length (get m.stores b.store) ≡ Some (a.pages * 4096) = rw same at o.bytes in
    let f : Some (a.pages * 4096) ≡ Some (b.pages * 4096) = sym e ∙ p.bytes in
    cc

lies : (a : Area) (base offset count : ℕ) → a.base ≡ base → offset + count ≤ a.pages * 4096 → IsWithin a (base + offset) count
lies a base offset count e few = record { from = omega arith; to = omega arith }

-- where in its store a range of an area lies
offset_in : (a : Area) (base offset : ℕ) → a.base ≡ base → base + offset - a.base ≡ offset
offset_in a base offset e = omega arith

seen_spots : (m : Memory) (u : TaskNo) (at to offset : ℕ) (new old : List ℕ) (store : Option StoreNo) (a b : Area) (f g : Option Area) → holder to (length new) Read (areas_of m u) ≡ f → ((h : Area) → g ≡ Some h → h ≡ a) → ((h : Area) → f ≡ Some h → h ≡ b) → a.store ≡ b.store → at - a.base ≡ offset → to - b.base ≡ offset → IsOver m.stores m.next_store a → IsWithin a at (length new) → read_at m (length new) (spot_in to f) ≡ Ok old → (write_spot m new (spot_in at g)).told ≡ Ok store → read_at (write_spot m new (spot_in at g)).memory (length new) (spot_of (write_spot m new (spot_in at g)).memory u to (length new) Read) ≡ Ok new
seen_spots m u at to offset new old store a b None g e wrote reads same x y over w can may = absurd (cc can)
seen_spots m u at to offset new old store a b (Some h) None e wrote reads same x y over w can may = absurd (cc may)
seen_spots m u at to offset new old store a b (Some h) (Some k) e wrote reads same x y over w can may =
    let there = room m.stores m.next_store a at (length new) over w in
    let here = rw x at there in
    rw (e, wrote k refl, reads h refl, x, y, ← same) (ap Ok (back_if m.stores a.store offset new (get m.stores a.store) refl here))

seen_some : (m : Memory) (t u : TaskNo) (from to offset : ℕ) (new old : List ℕ) (store : Option StoreNo) (a b : Area) (none : Bool) → (length new == 0) ≡ none → IsSound m → area_at m t from ≡ Some a → area_at m u to ≡ Some b → a.store ≡ b.store → offset + length new ≤ a.pages * 4096 → (write m t (from + offset) new).told ≡ Ok store → read m u (to + offset) (length new) ≡ Ok old → read (write m t (from + offset) new).memory u (to + offset) (length new) ≡ Ok new
seen_some m t u from to offset new old store a b true is s e f same few may can =
    let nil : new ≡ [] = nil_from_length new (grind (arith, nat_tests)) in
    rw (is, nil) refl
seen_some m t u from to offset new old store a b false is s e f same few may can =
    let some : 0 < length new = grind (arith, nat_tests) in
    let p = at_base (areas_of m t) from a e in
    let q = at_base (areas_of m u) to b f in
    let i : ℕ = position_or_len (λ x. x.base == from) (areas_of m t) in
    let j : ℕ = position_or_len (λ x. x.base == to) (areas_of m u) in
    let P : Area → Type 0 = IsOver m.stores m.next_store in
    let over = all_got P (areas_of m t) i a p.there (over_of m t s) in
    let n = as_many m a b over (all_got P (areas_of m u) j b q.there (over_of m u s)) same in
    let v = lies a from offset (length new) p.begins few in
    let w = lies b to offset (length new) q.begins (rw n at few) in
    rw is
    (seen_spots m u (from + offset) (to + offset) offset new old store a b (holder (to + offset) (length new) Read (areas_of m u)) (holder (from + offset) (length new) Write (areas_of m t)) refl
    (λ h g. only_holder (from + offset) (length new) Write (areas_of m t) i a h some (lawful_of m t s).apart p.there v g)
    (λ h g. only_holder (to + offset) (length new) Read (areas_of m u) j b h some (lawful_of m u s).apart q.there w g) same
    (offset_in a from offset p.begins) (offset_in b to offset q.begins) over v (rw is at can) (rw is at may))

seen_facts : (m : Memory) (t u : TaskNo) (from to offset : ℕ) (x y : facts.Area) (new old : List ℕ) (store : Option StoreNo) (f g : Option Area) → area_at m t from ≡ f → area_at m u to ≡ g → IsSound m → facts_of f ≡ Some x → facts_of g ≡ Some y → x.store ≡ y.store → offset + length new ≤ x.pages * 4096 → (write m t (from + offset) new).told ≡ Ok store → read m u (to + offset) (length new) ≡ Ok old → read (write m t (from + offset) new).memory u (to + offset) (length new) ≡ Ok new
seen_facts m t u from to offset x y new old store None g e f s is on same few may can = absurd (cc is)
seen_facts m t u from to offset x y new old store (Some a) None e f s is on same few may can = absurd (cc on)
seen_facts m t u from to offset x y new old store (Some a) (Some b) e f s is on same few may can =
    let p : record { pages = a.pages; rights = a.rights; store = record { 0 = a.store } } ≡ x = cc in
    let q : record { pages = b.pages; rights = b.rights; store = record { 0 = b.store } } ≡ y = cc in
    let n : a.store ≡ b.store = ap (λ (z : StoreNo). z.0) (rw (← p, ← q) at same) in
    seen_some m t u from to offset new old store a b (length new == 0) refl s e f n (rw (← p) at few) may can

pub seen : (m : Memory) (t u : TaskNo) (from to offset : ℕ) (x y : facts.Area) (new old : List ℕ) (store : Option StoreNo) → IsSound m → area m t from ≡ Some x → area m u to ≡ Some y → x.store ≡ y.store → offset + length new ≤ x.pages * 4096 → (write m t (from + offset) new).told ≡ Ok store → read m u (to + offset) (length new) ≡ Ok old → read (write m t (from + offset) new).memory u (to + offset) (length new) ≡ Ok new
seen m t u from to offset x y new old store s is on same few may can = seen_facts m t u from to offset x y new old store (area_at m t from) (area_at m u to) refl refl s is on same few may can
