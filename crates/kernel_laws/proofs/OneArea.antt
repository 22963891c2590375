-- An address of a task lies in one of its areas at most, and the area that the definitions find is one that has it.
use Rattle.std.proofs.Common.{◌≡◌, ℕ, zero, suc, ◌+◌, ◌*◌, ◌<◌, ◌≤◌, ◌==◌, ◌⊎◌, inl, inr, Bool, true, false, List, [], ◌∷◌, Some, None, refl, sym, ap, subst, arith}
use Rattle.std.specs.Prelude.{if◌then◌else◌, ◌||◌, slice_get, slice_index_or}
use Rattle.std.specs.List.{AllPairs}
use Rattle.std.proofs.lemmas.Bool.{cases_eq, eq-eqb, cases_lt, or_cases, or_left, or_right, eqb-true}
use Rattle.std.proofs.lemmas.Bool.Decides.{nat_tests}
use Rattle.std.proofs.lemmas.Option.{slice_get_within, get_or_from_slice_get}
use Rattle.ipc_ids.specs.declared.numbers.TaskNo.{TaskNo}
use Rattle.address_space.specs.declared.area.Right.{Right}
use Rattle.address_space.specs.declared.area.Right.TheVariants.{Read, Write}
use Rattle.address_space.specs.Areas.{Area, allows, holds, holder}
use Rattle.address_space.specs.Memory.{Memory, areas_of}
use Rattle.address_space.specs.Sound.{IsSound, AreApart}
use Rattle.address_space.proofs.Keeping.{both_true, within}
use Rattle.address_space.proofs.Soundness.{lawful_of}
use Rattle.kernel_laws.specs.MemoryLaws.{Has, IsIn, Spans, IsReadable, IsWritable}

-- ---- one area has an address

pub order : (i j : ℕ) → (i ≡ j) ⊎ ((i < j) ⊎ (j < i))
order i j = elim (cases_lt i j) [
  | inl lt ↦ inr (inl lt)
  | inr ge ↦ elim (cases_eq i j) [ inl e ↦ inl e | inr ne ↦ inr (inr (omega (arith, ge, ne))) ]
]

pub apart_at : (areas : List Area) (i j : ℕ) (a b : Area) → AllPairs AreApart areas → i < j → slice_get areas i ≡ Some a → slice_get areas j ≡ Some b → AreApart a b
apart_at areas i j a b all lt p q =
    let there : AreApart (slice_index_or areas i a) (slice_index_or areas j a) = all i j a lt (slice_get_within areas j b q) in
    subst (AreApart a) (get_or_from_slice_get areas j b a q) (subst (λ x. AreApart x (slice_index_or areas j a)) (get_or_from_slice_get areas i a a p) there)

pub no_common : (x : ℕ) (a b : Area) → AreApart a b → IsIn a.base a.pages x → IsIn b.base b.pages x → ⊥
no_common x a b apart v w =
    let v0 = v.from in let v1 = v.to in let w0 = w.from in let w1 = w.to in
    let p : a.base < b.base + b.pages * 4096 = omega arith in
    let q : b.base < a.base + a.pages * 4096 = omega arith in
    absurd (grind (arith, nat_tests, apart, p, q))

same_place : (areas : List Area) (i j : ℕ) (a b : Area) → i ≡ j → slice_get areas i ≡ Some a → slice_get areas j ≡ Some b → a ≡ b
same_place areas i j a b same p q = let r = rw (← same) at q in cc

pub one_area : (m : Memory) (t : TaskNo) (x : ℕ) (a b : Area) → IsSound m → Has m t a → Has m t b → IsIn a.base a.pages x → IsIn b.base b.pages x → a ≡ b
one_area m t x a b sound has also v w = elim (order has.0 also.0) [
  | inl same ↦ same_place (areas_of m t) has.0 also.0 a b same has.1 also.1
  | inr other ↦ elim other [
    | inl lt ↦ absurd (no_common x a b (apart_at (areas_of m t) has.0 also.0 a b (lawful_of m t sound).apart lt has.1 also.1) v w)
    | inr gt ↦ absurd (no_common x b a (apart_at (areas_of m t) also.0 has.0 b a (lawful_of m t sound).apart gt also.1 has.1) w v)
  ]
]

-- ---- the tests of an area

first_of : (a : Area) (at count : ℕ) → 1 ≤ count → Spans a at count → IsIn a.base a.pages at
first_of a at count some s = let from = s.from in let to = s.to in record { from = s.from; to = omega arith }

-- two areas of a task that have the same bytes are one
pub one_span : (m : Memory) (t : TaskNo) (at count : ℕ) (a b : Area) → IsSound m → 1 ≤ count → Has m t a → Has m t b → Spans a at count → Spans b at count → a ≡ b
one_span m t at count a b sound some has also s r = one_area m t at a b sound has also (first_of a at count some s) (first_of b at count some r)

either : (r n o : ℕ) → (r == n) || (r == o) ≡ true → (r ≡ n) ⊎ (r ≡ o)
either r n o h = elim (or_cases (r == n) (r == o) h) [ inl e ↦ inl (eqb-true r n e) | inr e ↦ inr (eqb-true r o e) ]

is_either : (r n o : ℕ) → (r ≡ n) ⊎ (r ≡ o) → (r == n) || (r == o) ≡ true
is_either r n o (inl e) = or_left (r == n) (r == o) (eq-eqb r n e)
is_either r n o (inr e) = or_right (r == n) (r == o) (eq-eqb r o e)

spans : (at count : ℕ) (right : Right) (a : Area) → holds at count right a ≡ true → Spans a at count
spans at count right a h = let w = within at count right a h in record { from = w.from; to = w.to }

holding : (at count : ℕ) (right : Right) (a : Area) → allows a.rights right ≡ true → Spans a at count → holds at count right a ≡ true
holding at count right a may s = let from = s.from in let to = s.to in rw may (grind (arith, nat_tests, from, to))

-- ---- the area that is found

found_if : (at count : ℕ) (right : Right) (x h : Area) (areas : List Area) (b : Bool) → holds at count right x ≡ b → (if b then Some x else holder at count right areas) ≡ Some h → (holder at count right areas ≡ Some h → ((i : ℕ) × (slice_get areas i ≡ Some h)) × (holds at count right h ≡ true)) → ((i : ℕ) × (slice_get (x ∷ areas) i ≡ Some h)) × (holds at count right h ≡ true)
found_if at count right x h areas true is e more = let same : x ≡ h = cc in ((0, ap Some same), subst (λ y. holds at count right y ≡ true) same is)
found_if at count right x h areas false is e more = let f = more e in ((suc f.0.0, f.0.1), f.1)

found : (at count : ℕ) (right : Right) (areas : List Area) (h : Area) → holder at count right areas ≡ Some h → ((i : ℕ) × (slice_get areas i ≡ Some h)) × (holds at count right h ≡ true)
found at count right [] h e = absurd (cc e)
found at count right (x ∷ areas) h e = found_if at count right x h areas (holds at count right x) refl e (λ r. found at count right areas h r)

none_if : (at count : ℕ) (right : Right) (x : Area) (areas : List Area) (b : Bool) → (if b then Some x else holder at count right areas) ≡ None → (b ≡ false) × (holder at count right areas ≡ None)
none_if at count right x areas true e = absurd (cc e)
none_if at count right x areas false e = (refl, e)

none_holds : (at count : ℕ) (right : Right) (areas : List Area) (i : ℕ) (a : Area) → holder at count right areas ≡ None → slice_get areas i ≡ Some a → holds at count right a ≡ true → ⊥
none_holds at count right [] i a e is h = absurd (cc is)
none_holds at count right (x ∷ areas) zero a e is h =
    let f = (none_if at count right x areas (holds at count right x) e).0 in
    let same : x ≡ a = cc in
    let g : holds at count right x ≡ true = subst (λ y. holds at count right y ≡ true) (sym same) h in
    cc
none_holds at count right (x ∷ areas) (suc i) a e is h = none_holds at count right areas i a (none_if at count right x areas (holds at count right x) e).1 is h

-- the area that may be read, or none
pub found_readable : (m : Memory) (t : TaskNo) (at count : ℕ) (h : Area) → holder at count Read (areas_of m t) ≡ Some h → IsReadable m t at count h
found_readable m t at count h e =
    let f = found at count Read (areas_of m t) h e in
    record { has = f.0; right = either h.rights 1 3 (both_true (allows h.rights Read) _ f.1).0; spans = spans at count Read h f.1 }

pub none_readable : (m : Memory) (t : TaskNo) (at count : ℕ) (a : Area) → holder at count Read (areas_of m t) ≡ None → IsReadable m t at count a → ⊥
none_readable m t at count a e r = none_holds at count Read (areas_of m t) r.has.0 a e r.has.1 (holding at count Read a (is_either a.rights 1 3 r.right) r.spans)

-- likewise the one that may be written
pub found_writable : (m : Memory) (t : TaskNo) (at count : ℕ) (h : Area) → holder at count Write (areas_of m t) ≡ Some h → IsWritable m t at count h
found_writable m t at count h e =
    let f = found at count Write (areas_of m t) h e in
    record { has = f.0; right = either h.rights 2 3 (both_true (allows h.rights Write) _ f.1).0; spans = spans at count Write h f.1 }

pub none_writable : (m : Memory) (t : TaskNo) (at count : ℕ) (a : Area) → holder at count Write (areas_of m t) ≡ None → IsWritable m t at count a → ⊥
none_writable m t at count a e r = none_holds at count Write (areas_of m t) r.has.0 a e r.has.1 (holding at count Write a (is_either a.rights 2 3 r.right) r.spans)
