-- A task gets an area, or is refused by the first cause.
use Rattle.std.proofs.Common.{◌≡◌, ℕ, zero, suc, ◌+◌, ◌-◌, ◌*◌, ◌%◌, ◌/◌, ◌<◌, ◌≤◌, ◌==◌, inl, inr, Bool, true, false, cond, ◌&&◌, List, [], ◌∷◌, ◌++◌, length, Option, Some, None, refl, sym, ◌∙◌, ap, subst, arith, nat_lt, nat_le, eq-eqb}
use Rattle.std.specs.Prelude.{if◌then◌else◌, Result, Ok, Err, slice_get, replicate, bit_and, slice_index_or}
use Rattle.std.specs.List.{list_any, position_or_len}
use Rattle.std.proofs.Math.Nat.{mul-mod_left, mod-add-div'}
use Rattle.std.proofs.lemmas.Nat.{and_le_r}
use Rattle.std.proofs.lemmas.Bool.Decides.{nat_tests}
use Rattle.std.proofs.lemmas.List.Sums.{passes_at_first, fails_before_first}
use Rattle.std.proofs.lemmas.Option.{slice_get_within, get_or_from_slice_get, slice_get-get_or, cond_some}
use Rattle.ipc_ids.specs.Codes.{eperm, eexist, einval, elimit}
use Rattle.ipc_ids.specs.declared.numbers.Code.{Code}
use Rattle.ipc_ids.specs.declared.numbers.StoreNo.{StoreNo}
use Rattle.ipc_ids.specs.declared.numbers.TaskNo.{TaskNo}
use Rattle.address_space.specs.Areas.{Area, IsInRange, end_of, overlaps, is_malformed, is_taken, is_full, is_subset, refusal, place_of, area_in}
use Rattle.address_space.specs.Memory.{Memory, IsAdded, areas_of, with_areas, with_store, made_area, make_unless, make, drop_at, drop_area, refused, area_at, share_unless, share_area, share}
use Rattle.address_space.specs.Sound.{IsSound}
use Rattle.address_space.proofs.Keeping.{all_got, both_true}
use Rattle.address_space.proofs.Rows.{others_keep}
use Rattle.address_space.proofs.Soundness.{lawful_of}
use Rattle.kernel_laws.specs.MemoryLaws.{Has, HasAt, IsIn, NoArea, byte_at, IsPossible, IsTaken, IsFirstCause, Gives, IsLawfulMake, AreAmong, IsSharable, IsLawfulShare, IsLawfulDrop}
use Rattle.kernel_laws.proofs.OneArea.{one_area}
use Rattle.kernel_laws.proofs.LawfulWrites.{byte_put, byte_elsewhere}
use Rattle.kernel_laws.proofs.DroppedAreas.{any_of, drops, any_at}
use Rattle.std.proofs.lemmas.Bool.{eqb-true, eq-eqb, both_ways, false_from_ne_true}
use Rattle.kernel_laws.proofs.Told.{code_in, never, always}
use Rattle.kernel_laws.proofs.Lists.{get_copy, past_copies, row_set}

-- ---- the tests of an area that is asked for

possible : (base pages rights : ℕ) → is_malformed base pages rights ≡ false → IsPossible base pages rights
possible base pages rights h =
    let whole : base % 4096 ≡ 0 = grind (arith, nat_tests) in
    let split = mod-add-div' base 4096 in
    record {
      begins = (base / 4096, omega (arith, whole, split));
      some = grind (arith, nat_tests);
      few = grind (arith, nat_tests);
      lowest = grind (arith, nat_tests);
      highest = grind (arith, nat_tests);
      ends = grind (arith, nat_tests);
    }

whole_pages : (base q : ℕ) → base ≡ q * 4096 → base % 4096 ≡ 0
whole_pages base q e = rw e (mul-mod_left q 4096)

impossible : (base pages rights : ℕ) → is_malformed base pages rights ≡ true → IsPossible base pages rights → ⊥
impossible base pages rights h p =
    let whole = whole_pages base p.begins.0 p.begins.1 in
    let some = p.some in let few = p.few in let lowest = p.lowest in let highest = p.highest in let ends = p.ends in
    absurd (grind (arith, nat_tests, h, whole, some, few, lowest, highest, ends))

-- areas of a list that pass a test

none_of : (p : Area → Bool) (areas : List Area) (i : ℕ) (a : Area) → list_any p areas ≡ false
    → slice_get areas i ≡ Some a → p a ≡ false
none_of p areas i a h is = false_from_ne_true (p a) (λ yes. both_ways (list_any p areas) h (any_at p areas i a is yes))

-- ---- the areas of a task

pub range_of : (m : Memory) (t : TaskNo) (a : Area) → IsSound m → Has m t a → IsInRange a.base a.pages a.rights
range_of m t a sound has = all_got (λ b. IsInRange b.base b.pages b.rights) (areas_of m t) has.0 a has.1 (lawful_of m t sound).in_range

module _ (m : Memory) (t : TaskNo) (base pages : ℕ) (sound : IsSound m) where
  common : (a : Area) → 1 ≤ a.pages → 1 ≤ pages → overlaps base (base + pages * 4096) a ≡ true → (x : ℕ) × IsIn a.base a.pages x × IsIn base pages x
  common a has some h =
      let tests = both_true (nat_lt a.base (base + pages * 4096)) (nat_lt base (end_of a)) h in
      let p : a.base < base + pages * 4096 = grind (arith, nat_tests, tests.0) in
      let q : base < a.base + a.pages * 4096 = grind (arith, nat_tests, tests.1) in
      by_order (nat_le a.base base) refl p q where
        by_order : (b : Bool) → nat_le a.base base ≡ b → a.base < base + pages * 4096 → base < a.base + a.pages * 4096 → (x : ℕ) × IsIn a.base a.pages x × IsIn base pages x
        by_order true is p q = let le : a.base ≤ base = grind (arith, nat_tests, is) in (base, record { from = le; to = q }, record { from = omega arith; to = omega arith })
        by_order false is p q = let lt : base < a.base = grind (arith, nat_tests, is) in (a.base, record { from = omega arith; to = omega arith }, record { from = omega arith; to = p })

  taken : 1 ≤ pages → is_taken base pages (areas_of m t) ≡ true → IsTaken m t base pages
  taken some h =
      let found = any_of (overlaps base (base + pages * 4096)) (areas_of m t) h in
      let shared = common found.0 (range_of m t found.0 sound found.1).some some found.2 in
      (found.0, found.1, shared.0, shared.1, shared.2)

  free : is_taken base pages (areas_of m t) ≡ false → IsTaken m t base pages → ⊥
  free h k =
      let apart : overlaps base (base + pages * 4096) k.0 ≡ false = none_of (overlaps base (base + pages * 4096)) (areas_of m t) k.1.0 k.0 h k.1.1 in
      let v0 = k.3.from in let v1 = k.3.to in let w0 = k.4.from in let w1 = k.4.to in
      let p : k.0.base < base + pages * 4096 = omega arith in
      let q : base < k.0.base + k.0.pages * 4096 = omega arith in
      absurd (grind (arith, nat_tests, apart, p, q))

-- ---- the first cause

-- what is told of a cause
abbrev told_of : Option Code → StoreNo → Result StoreNo Code
told_of None store = Ok store
told_of (Some code) store = Err code

abbrev first : Bool → Bool → Bool → Option Code
first b c d = if b then Some einval else (if c then Some eexist else (if d then Some elimit else None))

abbrev the : ℕ → StoreNo
the store = record { 0 = store }

module _ (m : Memory) (t : TaskNo) (base pages rights store : ℕ) (sound : IsSound m) where
  by_tests : (b c d : Bool) → is_malformed base pages rights ≡ b → is_taken base pages (areas_of m t) ≡ c
      → is_full (areas_of m t) ≡ d → IsFirstCause m t base pages rights store (told_of (first b c d) (the store))
  by_tests true c d p q r =
      let no = impossible base pages rights p in
      record {
        impossible = always no;
        taken = never (λ z. omega arith) (λ h. no h.0);
        full = never (λ z. omega arith) (λ h. no h.0);
        given = never (λ z. omega arith) (λ h. no h.0);
      }
  by_tests false true d p q r =
      let can = possible base pages rights p in
      let is = taken m t base pages sound can.some q in
      record {
        impossible = never (λ z. omega arith) (λ no. no can);
        taken = always (can, is);
        full = never (λ z. omega arith) (λ h. h.1 is);
        given = never (λ z. omega arith) (λ h. h.1 is);
      }
  by_tests false false true p q r =
      let can = possible base pages rights p in
      let no = free m t base pages sound q in
      let many : 16 ≤ length (areas_of m t) = grind (arith, nat_tests, r) in
      record {
        impossible = never (λ z. omega arith) (λ not. not can);
        taken = never (λ z. omega arith) (λ h. no h.1);
        full = always (can, no, many);
        given = never (λ z. omega arith) (λ h. let few = h.2 in omega (arith, many, few));
      }
  by_tests false false false p q r =
      let can = possible base pages rights p in
      let no = free m t base pages sound q in
      let few : length (areas_of m t) < 16 = grind (arith, nat_tests, r) in
      record {
        impossible = never (λ z. omega arith) (λ not. not can);
        taken = never (λ z. omega arith) (λ h. no h.1);
        full = never (λ z. omega arith) (λ h. let many = h.2 in omega (arith, many, few));
        given = always (can, no, few);
      }

  first_cause : (cause : Option Code) → refusal base pages rights (areas_of m t) ≡ cause → IsFirstCause m t base pages rights store (told_of cause (the store))
  first_cause cause is = subst (λ c. IsFirstCause m t base pages rights store (told_of c (the store))) is (by_tests (is_malformed base pages rights) (is_taken base pages (areas_of m t)) (is_full (areas_of m t)) refl refl refl)

-- ---- a new area

gives : (m : Memory) (t : TaskNo) (a : Area) → IsAdded m t → Gives m t a (with_areas m t (areas_of m t ++ a ∷ []))
gives m t a added =
    let some = added.from_one in let there = added.in_range in
    record { area = row_set m.areas (t.0 - 1) (areas_of m t ++ a ∷ []) (omega arith); others = λ u more apart. others_keep m t u (areas_of m t ++ a ∷ []) added.from_one more apart }

module _ (m : Memory) (t : TaskNo) (base pages rights : ℕ) (sound : IsSound m) (added : IsAdded m t) where
  abbrev new : ℕ → Area
  new store = record { base = base; pages = pages; rights = rights; store = store }

  by_cause : (cause : Option Code) → refusal base pages rights (areas_of m t) ≡ cause → IsLawfulMake m t base pages rights (make_unless m t (new m.next_store) cause)
  by_cause (Some code) is =
      record {
        cause = first_cause m t base pages rights m.next_store sound (Some code) is;
        refused = λ _ _. refl;
        gives = λ store e. absurd (cc e);
        zeros = λ store e. absurd (cc e);
        others = λ store n other. refl;
      }
  by_cause None is =
      record {
        cause = first_cause m t base pages rights m.next_store sound None is;
        refused = λ code e. absurd (cc e);
        gives = λ store e.
            let same : the m.next_store ≡ store = cc in
            subst (λ (s : StoreNo). Gives m t (new s.0) (made_area m t (new m.next_store))) same (record { area = (gives (with_store m (pages * 4096)) t (new m.next_store) (record { from_one = added.from_one; in_range = added.in_range })).area; others = λ u more apart. others_keep m t u (areas_of m t ++ new m.next_store ∷ []) added.from_one more apart });
        zeros = λ store e n.
            let same : the m.next_store ≡ store = cc in
            subst (λ (s : StoreNo). (n < pages * 4096 → byte_at (made_area m t (new m.next_store)) s.0 n ≡ Some 0) × (pages * 4096 ≤ n → byte_at (made_area m t (new m.next_store)) s.0 n ≡ None)) same
            ((λ few. byte_put m.stores m.next_store n (replicate (pages * 4096) 0) ∙ get_copy (pages * 4096) n 0 few), (λ far. byte_put m.stores m.next_store n (replicate (pages * 4096) 0) ∙ past_copies (pages * 4096) n 0 far));
        others = λ store n other. byte_elsewhere m.stores m.next_store store n (replicate (pages * 4096) 0) other;
      }

  pub make_is_lawful : IsLawfulMake m t base pages rights (make m t base pages rights)
  make_is_lawful = by_cause (refusal base pages rights (areas_of m t)) refl

-- ---- the area with a base

module _ (base : ℕ) (areas : List Area) where
  abbrev test : Area → Bool
  test a = a.base == base

  abbrev place : ℕ
  place = position_or_len test areas

  at_place : (i : ℕ) → cond (nat_lt place (length areas)) (Some place) None ≡ Some i
      → (a : Area) × (slice_get areas i ≡ Some a) × (a.base ≡ base)
  at_place i e =
      let at = cond_some (nat_lt place (length areas)) place i e in
      let few : place < length areas = grind (arith, nat_tests, at.0) in
      let d : Area = record { base = 0; pages = 0; rights = 0; store = 0 } in
      let a : Area = slice_index_or areas place d in (
        a,
        subst (λ j. slice_get areas j ≡ Some a) at.1 (slice_get-get_or areas place d few),
        eqb-true a.base base (passes_at_first test areas d few),
      )

  no_place : (b : Bool) → nat_lt place (length areas) ≡ b → cond b (Some place) None ≡ None → (i : ℕ) (a : Area) → slice_get areas i ≡ Some a → a.base ≡ base → ⊥
  no_place true is e i a at same = absurd (cc e)
  no_place false is e i a at same =
      let there = slice_get_within areas i a at in
      let far : length areas ≤ place = grind (arith, nat_tests, is) in
      let fails = fails_before_first test areas i a (omega (arith, there, far)) in
      both_ways (test a) (subst (λ x. test x ≡ false) (get_or_from_slice_get areas i a a at) fails) (eq-eqb a.base base same)

module _ (m : Memory) (t : TaskNo) (base : ℕ) where
  found_place : (i : ℕ) → place_of base (areas_of m t) ≡ Some i → (a : Area) × (slice_get (areas_of m t) i ≡ Some a) × (a.base ≡ base)
  found_place i e = at_place base (areas_of m t) i e

  nowhere : place_of base (areas_of m t) ≡ None → NoArea (HasAt m t base)
  nowhere e a h = no_place base (areas_of m t) (nat_lt (place base (areas_of m t)) (length (areas_of m t))) refl e h.has.0 a h.has.1 h.begins

  found_in : (o : Option ℕ) (a : Area) → place_of base (areas_of m t) ≡ o → area_in (areas_of m t) o ≡ Some a → HasAt m t base a
  found_in None a is e = absurd (cc e)
  found_in (Some i) a is e =
      let f = found_place i is in
      let same : f.0 ≡ a = let g = f.1 in cc in
      record { has = (i, e); begins = ap (λ (x : Area). x.base) (sym same) ∙ f.2 }

  none_in : (o : Option ℕ) → place_of base (areas_of m t) ≡ o → area_in (areas_of m t) o ≡ None → NoArea (HasAt m t base)
  none_in None is e = nowhere is
  none_in (Some i) is e = absurd (let f = found_place i is in let g = f.1 in cc)

  pub found_at : (a : Area) → area_at m t base ≡ Some a → HasAt m t base a
  found_at a e = found_in (place_of base (areas_of m t)) a refl e

  pub none_at : area_at m t base ≡ None → NoArea (HasAt m t base)
  none_at e = none_in (place_of base (areas_of m t)) refl e

-- a drop tells whether there is such an area
module _ (m : Memory) (t : TaskNo) (base : ℕ) where
  by_place : (o : Option ℕ) → place_of base (areas_of m t) ≡ o → IsLawfulDrop m t base (drop_at m t o)
  by_place None is =
      let no = nowhere m t base is in
      record { gone = always no; dropped = (λ e. absurd (cc e), λ h. absurd (no h.0 h.1)); refused = λ _ _. refl; goes = λ some e. absurd (cc e) }
  by_place (Some i) is =
      let f = found_place m t base i is in
      let has : HasAt m t base f.0 = record { has = (i, f.1); begins = f.2 } in
      record { gone = (λ e. absurd (cc e), λ no. absurd (no f.0 has)); dropped = (λ _. (f.0, has), λ _. refl); refused = λ code e. absurd (cc e); goes = λ some e. (f.0, has, drops m t i f.0 some f.1) }

  pub drop_is_lawful : IsLawfulDrop m t base (drop_area m t base)
  drop_is_lawful = by_place (place_of base (areas_of m t)) refl

-- ---- a share

among : (r all : ℕ) → r ≤ all → 1 ≤ all → all ≤ 3 → bit_and r all ≡ r → AreAmong r all
among zero all le some few e = inl refl
among (suc zero) zero le some few e = absurd (omega arith)
among (suc zero) (suc zero) le some few e = inr (inl refl)
among (suc zero) (suc (suc zero)) le some few e = absurd (cc e)
among (suc zero) (suc (suc (suc zero))) le some few e = inr (inr (refl, inl refl))
among (suc zero) (suc (suc (suc (suc all)))) le some few e = absurd (omega arith)
among (suc (suc zero)) zero le some few e = absurd (omega arith)
among (suc (suc zero)) (suc zero) le some few e = absurd (omega arith)
among (suc (suc zero)) (suc (suc zero)) le some few e = inr (inl refl)
among (suc (suc zero)) (suc (suc (suc zero))) le some few e = inr (inr (refl, inr refl))
among (suc (suc zero)) (suc (suc (suc (suc all)))) le some few e = absurd (omega arith)
among (suc (suc (suc r))) all le some few e = inr (inl (omega arith))

bits_of : (r all : ℕ) → 1 ≤ all → all ≤ 3 → AreAmong r all → bit_and r all ≡ r
bits_of r zero some few h = absurd (omega arith)
bits_of r (suc zero) some few h = elim h [ inl e ↦ rw e refl | inr n ↦ elim n [ inl e ↦ rw e refl | inr e ↦ absurd (let three = e.0 in omega (arith, three)) ] ]
bits_of r (suc (suc zero)) some few h = elim h [ inl e ↦ rw e refl | inr n ↦ elim n [ inl e ↦ rw e refl | inr e ↦ absurd (let three = e.0 in omega (arith, three)) ] ]
bits_of r (suc (suc (suc zero))) some few h = elim h [ inl e ↦ rw e refl | inr n ↦ elim n [ inl e ↦ rw e refl | inr e ↦ elim e.1 [ inl f ↦ rw f refl | inr f ↦ rw f refl ] ] ]
bits_of r (suc (suc (suc (suc all)))) some few h = absurd (omega arith)

pub rights_among : (r all : ℕ) → 1 ≤ all → all ≤ 3 → is_subset r all ≡ true → AreAmong r all
rights_among r all some few h =
    let e : bit_and r all ≡ r = grind (arith, nat_tests, h) in
    let le = and_le_r r all in
    among r all (subst (λ n. n ≤ all) e le) some few e

pub not_among : (r all : ℕ) → 1 ≤ all → all ≤ 3 → is_subset r all ≡ false → AreAmong r all → ⊥
not_among r all some few h a = let e = bits_of r all some few a in absurd (grind (arith, nat_tests, h, e))

no_codes : (b c d : Bool) (store : StoreNo) → (code_in (told_of (first b c d) store) ≡ 1 → ⊥) × (code_in (told_of (first b c d) store) ≡ 2 → ⊥)
no_codes true c d store = (λ e. omega arith, λ e. omega arith)
no_codes false true d store = (λ e. omega arith, λ e. omega arith)
no_codes false false true store = (λ e. omega arith, λ e. omega arith)
no_codes false false false store = (λ e. omega arith, λ e. omega arith)

-- an area with this base is the one that is found
pub one_base : (m : Memory) (t : TaskNo) (base : ℕ) (a b : Area) → IsSound m → HasAt m t base a → HasAt m t base b → a ≡ b
one_base m t base a b sound h g =
    let p = (range_of m t a sound h.has).some in let q = (range_of m t b sound g.has).some in
    let u = h.begins in let v = g.begins in
    one_area m t base a b sound h.has g.has (record { from = omega arith; to = omega arith }) (record { from = omega arith; to = omega arith })

module _ (m : Memory) (from : TaskNo) (base : ℕ) (to : TaskNo) (target pages rights : ℕ) (sound : IsSound m) (added : IsAdded m to) where
  abbrev given : Area → Area
  given a = record { base = target; pages = pages; rights = rights; store = a.store }

  pub sharable : (a : Area) → HasAt m from base a → (a.pages == pages) && is_subset rights a.rights ≡ true → IsSharable m from base pages rights a
  sharable a has h =
      let tests = both_true (a.pages == pages) (is_subset rights a.rights) h in
      let range = range_of m from a sound has.has in
      record { has = has; wide = eqb-true a.pages pages tests.0; rightful = rights_among rights a.rights range.lawful.0 range.lawful.1 tests.1 }

  unsharable : (a b : Area) → HasAt m from base a → (a.pages == pages) && is_subset rights a.rights ≡ false → IsSharable m from base pages rights b → ⊥
  unsharable a b has h s =
      let same : b ≡ a = one_base m from base b a sound s.has has in
      let range = range_of m from a sound has.has in
      let wide : a.pages ≡ pages = ap (λ (x : Area). x.pages) (sym same) ∙ s.wide in
      let right : AreAmong rights a.rights = subst (λ (x : Area). AreAmong rights x.rights) same s.rightful in
      let fails : is_subset rights a.rights ≡ false = rw (eq-eqb a.pages pages wide) at h in
      not_among rights a.rights range.lawful.0 range.lawful.1 fails right

  by_refusal : (a : Area) → HasAt m from base a → IsSharable m from base pages rights a → (cause : Option Code) → refusal target pages rights (areas_of m to) ≡ cause → (code_in (told_of cause (the a.store)) ≡ 1 → ⊥) × (code_in (told_of cause (the a.store)) ≡ 2 → ⊥) → IsLawfulShare m from base to target pages rights (share_unless m to (given a) cause)
  by_refusal a has can (Some code) is codes =
      record {
        gone = never codes.0 (λ no. no a has);
        unlike = never codes.1 (λ h. h.1 a can);
        cause = λ b s. subst (λ (x : Area). IsFirstCause m to target pages rights x.store (Err code)) (one_base m from base a b sound has s.has) (first_cause m to target pages rights a.store sound (Some code) is);
        refused = λ _ _. refl;
        gives = λ store e. absurd (cc e);
        bytes = refl;
      }
  by_refusal a has can None is codes =
      record {
        gone = never codes.0 (λ no. no a has);
        unlike = never codes.1 (λ h. h.1 a can);
        cause = λ b s. subst (λ (x : Area). IsFirstCause m to target pages rights x.store (Ok (the a.store))) (one_base m from base a b sound has s.has) (first_cause m to target pages rights a.store sound None is);
        refused = λ code e. absurd (cc e);
        gives = λ store e. let same : the a.store ≡ store = cc in subst (λ (s : StoreNo). Gives m to (record { base = target; pages = pages; rights = rights; store = s.0 }) (with_areas m to (areas_of m to ++ given a ∷ []))) same (gives m to (given a) added);
        bytes = refl;
      }

  by_right : (a : Area) → HasAt m from base a → (may : Bool) → (a.pages == pages) && is_subset rights a.rights ≡ may → IsLawfulShare m from base to target pages rights (if may then share_unless m to (given a) (refusal target pages rights (areas_of m to)) else refused m eperm)
  by_right a has true is = by_refusal a has (sharable a has is) (refusal target pages rights (areas_of m to)) refl (no_codes (is_malformed target pages rights) (is_taken target pages (areas_of m to)) (is_full (areas_of m to)) (the a.store))
  by_right a has false is =
      record {
        gone = never (λ z. omega arith) (λ no. no a has);
        unlike = always ((a, has), λ b s. unsharable a b has is s);
        cause = λ b s. absurd (unsharable a b has is s);
        refused = λ _ _. refl;
        gives = λ store e. absurd (cc e);
        bytes = refl;
      }

  by_found : (o : Option Area) → area_at m from base ≡ o → IsLawfulShare m from base to target pages rights (share_area m to target pages rights o)
  by_found None is =
      let no = none_at m from base is in
      record {
        gone = always no;
        unlike = never (λ z. omega arith) (λ h. no h.0.0 h.0.1);
        cause = λ b s. absurd (no b s.has);
        refused = λ _ _. refl;
        gives = λ store e. absurd (cc e);
        bytes = refl;
      }
  by_found (Some a) is = by_right a (found_at m from base a is) ((a.pages == pages) && is_subset rights a.rights) refl

  pub share_is_lawful : IsLawfulShare m from base to target pages rights (share m from base to target pages rights)
  share_is_lawful = by_found (area_at m from base) refl
