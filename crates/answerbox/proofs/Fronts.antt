-- The front of a place, told by what the map has at each number.
use Rattle.std.proofs.Common.{◌≡◌, ℕ, ◌<◌, ◌≤◌, Bool, true, false, cond, ◌&&◌, ◌⊎◌, List, [], ◌∷◌, Option, None, Some, refl, ap, sym, ◌∙◌, map, fold, inl, inr, ⊎_elim, arith, T, nat_lt}
use Rattle.std.specs.Prelude.{if◌then◌else◌}
use Rattle.std.specs.Ordering.{nat_cmp, is_eq, is_lt}
use Rattle.std.specs.FinMap.{find, is_sorted, entries, entries_sorted, get-entries}
use Rattle.std.specs.FinMap.Entries.{below_all}
use Rattle.std.proofs.lemmas.Bool.Decides.{nat_tests}
use Rattle.std.proofs.lemmas.Option.{same_Some}
use Rattle.call_slab.specs.declared.call.Call.{Call}
use Rattle.call_slab.specs.declared.call.Place.{Place}
use Rattle.call_slab.proofs.Live.{tie, past_tie}
use Rattle.answerbox.specs.Calls.{CallTable, call_at, same_place, sooner, front}
use Rattle.answerbox.specs.Places.{IsFrontOf, HasNoCalls}

abbrev pick : Place → Option Call → Call → Option Call
pick place best c = if same_place c.place place then sooner best c else best

pub second : (a b : Bool) → T (a && b) → T b
second true b p = p
second false b p = absurd p

pub first : (a b : Bool) → T (a && b) → T a
first true b p = tt
first false b p = p

pub lt_of : (a b : ℕ) → T (is_lt (nat_cmp a b)) → a < b
lt_of a b h = grind (arith, nat_tests)

pub key_same : (n k : ℕ) → is_eq (nat_cmp n k) ≡ true → k ≡ n
key_same n k h = grind (arith, nat_tests)

-- what stands after an entry has a greater number
pub greater : (n : ℕ) (es : List (ℕ × Call)) (k : ℕ) (d : Call) → T (below_all nat_cmp n es) → find nat_cmp k es ≡ Some d → n < k
greater n [] k d b f = absurd (cc f)
greater n (e ∷ es) k d b f =
    let lt : n < e.0 = lt_of n e.0 (first _ _ b) in
    elim (is_eq (nat_cmp k e.0)) as (λ t. is_eq (nat_cmp k e.0) ≡ t → cond t (Some e.1) (find nat_cmp k es) ≡ Some d → n < k) [
      | true ↦ λ t g. let same : e.0 ≡ k = key_same k e.0 t in omega arith
      | false ↦ λ t g. greater n es k d (second _ _ b) g
    ] refl f

idle : (place : Place) (d : Call) (o : Option Call) → same_place d.place place ≡ false → pick place o d ≡ o
idle place d o h = rw h

nobody : (place : Place) (es : List (ℕ × Call)) → T (is_sorted nat_cmp es) → ((k : ℕ) (d : Call) → find nat_cmp k es ≡ Some d → same_place d.place place ≡ false) → fold (pick place) None (map (λ e. e.1) es) ≡ None
nobody place [] s h = refl
nobody place (e ∷ es) s h =
    let head : T (below_all nat_cmp e.0 es) = first _ _ s in
    ap (λ o. fold (pick place) o (map (λ (x : ℕ × Call). x.1) es)) (idle place e.1 None (h e.0 e.1 (rw (tie e.0)))) ∙ (nobody place es (second _ _ s) (λ k d f. h k d (rw (past_tie k e.0 (greater e.0 es k d head f)) f)))

sooner_of : (o : Option Call) (d c : Call) → sooner o d ≡ Some c → (o ≡ Some c) ⊎ ((d ≡ c) × (true ≡ true))
sooner_of None d c g = inr (same_Some d c g, refl)
sooner_of (Some b) d c g =
    elim (nat_lt d.stamp b.stamp) as (λ t. cond t (Some d) (Some b) ≡ Some c → (Some b ≡ Some c) ⊎ ((d ≡ c) × (true ≡ true))) [
      | true ↦ λ h. inr (same_Some d c h, refl)
      | false ↦ λ h. inl h
    ] g

-- what a step takes is the best so far, or the call itself, which stands at the place
one_of : (place : Place) (o : Option Call) (d c : Call) → pick place o d ≡ Some c → (o ≡ Some c) ⊎ ((d ≡ c) × (same_place d.place place ≡ true))
one_of place o d c is =
    elim (same_place d.place place) as (λ b. cond b (sooner o d) o ≡ Some c → (o ≡ Some c) ⊎ ((d ≡ c) × (b ≡ true))) [
      | true ↦ λ g. sooner_of o d c g
      | false ↦ λ g. inl g
    ] is

picked : (place : Place) (es : List (ℕ × Call)) (o : Option Call) (c : Call) → T (is_sorted nat_cmp es) → fold (pick place) o (map (λ e. e.1) es) ≡ Some c → (o ≡ Some c) ⊎ ((k : ℕ) × (find nat_cmp k es ≡ Some c) × (same_place c.place place ≡ true))
picked place [] o c s f = inl f
picked place (e ∷ es) o c s f =
    let head : T (below_all nat_cmp e.0 es) = first _ _ s in
    ⊎_elim
    (λ (h : pick place o e.1 ≡ Some c). ⊎_elim (λ (g : o ≡ Some c). inl g) (λ (g : (e.1 ≡ c) × (same_place e.1.place place ≡ true)). inr (e.0, rw (tie e.0) (ap Some g.0), rw g.0 at g.1)) (one_of place o e.1 c h))
    (λ (h : (k : ℕ) × (find nat_cmp k es ≡ Some c) × (same_place c.place place ≡ true)). inr (h.0, rw (past_tie h.0 e.0 (greater e.0 es h.0 c head h.1)) h.1, h.2))
    (picked place es (pick place o e.1) c (second _ _ s) f)

-- a front is live, and stands at the place
pub front_live : (q : CallTable) (place : Place) (c : Call) → front q place ≡ Some c → (k : ℕ) × (call_at q k ≡ Some c) × (same_place c.place place ≡ true)
front_live q place c is =
    ⊎_elim
    (λ (h : ◌≡◌ {A = Option Call} None (Some c)). absurd (cc h))
    (λ (h : (k : ℕ) × (find nat_cmp k (entries q.records) ≡ Some c) × (same_place c.place place ≡ true)). (h.0, get-entries q.records h.0 ∙ h.1, h.2))
    (picked place (entries q.records) None c (entries_sorted q.records) is)

-- nothing so far, or a call that did not come before
abbrev NoSooner : Call → Option Call → Type 0
NoSooner c None = Unit {0}
NoSooner c (Some b) = c.stamp ≤ b.stamp

-- no entry at the place came before
abbrev NoneSooner : Call → Place → List (ℕ × Call) → Type 0
NoneSooner c place [] = Unit {0}
NoneSooner c place (e ∷ es) = (same_place e.1.place place ≡ true → c.stamp ≤ e.1.stamp) × NoneSooner c place es

at_most : (c b : Call) → Some b ≡ Some c → c.stamp ≤ b.stamp
at_most c b is = let same : b ≡ c = same_Some b c is in rw same (omega arith)

lt_stamp : (a b : ℕ) (x : Bool) → nat_lt a b ≡ x → (x ≡ true → a < b) × (x ≡ false → b ≤ a)
lt_stamp a b x is = (λ t. grind (arith, nat_tests), λ t. grind (arith, nat_tests))

-- what did not come after the sooner of two came after neither
sooner_least : (c d : Call) (o : Option Call) → NoSooner c (sooner o d) → NoSooner c o × (c.stamp ≤ d.stamp)
sooner_least c d None h = (tt, h)
sooner_least c d (Some b) h =
    let test = lt_stamp d.stamp b.stamp (nat_lt d.stamp b.stamp) refl in
    elim (nat_lt d.stamp b.stamp) as (λ t. (t ≡ true → d.stamp < b.stamp) × (t ≡ false → b.stamp ≤ d.stamp) → NoSooner c (cond t (Some d) (Some b)) → (c.stamp ≤ b.stamp) × (c.stamp ≤ d.stamp)) [
      | true ↦ λ k g. let lt = k.0 refl in (omega arith, g)
      | false ↦ λ k g. let le = k.1 refl in (g, omega arith)
    ] test h

pick_least : (place : Place) (c d : Call) (o : Option Call) → NoSooner c (pick place o d) → NoSooner c o × (same_place d.place place ≡ true → c.stamp ≤ d.stamp)
pick_least place c d o h =
    elim (same_place d.place place) as (λ b. NoSooner c (cond b (sooner o d) o) → NoSooner c o × (b ≡ true → c.stamp ≤ d.stamp)) [
      | true ↦ λ g. let k = sooner_least c d o g in (k.0, λ _. k.1)
      | false ↦ λ g. (g, λ t. absurd (cc t))
    ] h

search_least : (place : Place) (c : Call) (es : List (ℕ × Call)) (o : Option Call) → fold (pick place) o (map (λ e. e.1) es) ≡ Some c → NoSooner c o × NoneSooner c place es
search_least place c [] None is = absurd (cc is)
search_least place c [] (Some b) is = (at_most c b is, tt)
search_least place c (e ∷ es) o is =
    let rest = search_least place c es (pick place o e.1) is in
    let here = pick_least place c e.1 o rest.0 in
    (here.0, (here.1, rest.1))

none_sooner : (place : Place) (c : Call) (es : List (ℕ × Call)) (k : ℕ) (d : Call) → NoneSooner c place es → find nat_cmp k es ≡ Some d → same_place d.place place ≡ true → c.stamp ≤ d.stamp
none_sooner place c [] k d h f at = absurd (cc f)
none_sooner place c (e ∷ es) k d h f at =
    elim (is_eq (nat_cmp k e.0)) as (λ t. cond t (Some e.1) (find nat_cmp k es) ≡ Some d → c.stamp ≤ d.stamp) [
      | true ↦ λ g. let same : e.1 ≡ d = same_Some e.1 d g in rw same at h.0 at
      | false ↦ λ g. none_sooner place c es k d h.1 g at
    ] f

-- the front that the search finds has the least stamp of its place
pub front-is_front : (q : CallTable) (place : Place) (n : ℕ) (c : Call) → front q place ≡ Some c → call_at q n ≡ Some c → IsFrontOf q n place
front-is_front q place n c first is =
    let found = front_live q place c first in
    let least = search_least place c (entries q.records) None first in
    record {
      here = rw is found.2;
      least = λ b m d own other at.
          let same : c ≡ b = same_Some c b (sym is ∙ own) in
          rw same at (none_sooner place c (entries q.records) m d least.1 (sym (get-entries q.records m) ∙ other) at);
    }

-- no entry stands at the place
abbrev NoneHere : Place → List (ℕ × Call) → Type 0
NoneHere place [] = Unit {0}
NoneHere place (e ∷ es) = (same_place e.1.place place ≡ false) × NoneHere place es

sooner_some : (o : Option Call) (d : Call) → sooner o d ≡ None → ⊥
sooner_some None d h = cc h
sooner_some (Some b) d h = elim (nat_lt d.stamp b.stamp) as (λ t. cond t (Some d) (Some b) ≡ None → ⊥) [ true ↦ λ g. cc g | false ↦ λ g. cc g ] h

pick_none : (place : Place) (o : Option Call) (d : Call) → pick place o d ≡ None → (o ≡ None) × (same_place d.place place ≡ false)
pick_none place o d h =
    elim (same_place d.place place) as (λ b. cond b (sooner o d) o ≡ None → (o ≡ None) × (b ≡ false)) [
      | true ↦ λ g. absurd (sooner_some o d g)
      | false ↦ λ g. (g, refl)
    ] h

search_none : (place : Place) (es : List (ℕ × Call)) (o : Option Call) → fold (pick place) o (map (λ e. e.1) es) ≡ None → (o ≡ None) × NoneHere place es
search_none place [] o is = (is, tt)
search_none place (e ∷ es) o is =
    let rest = search_none place es (pick place o e.1) is in
    let here = pick_none place o e.1 rest.0 in
    (here.0, (here.1, rest.1))

none_here : (place : Place) (es : List (ℕ × Call)) (k : ℕ) (d : Call) → NoneHere place es → find nat_cmp k es ≡ Some d → same_place d.place place ≡ false
none_here place [] k d h f = absurd (cc f)
none_here place (e ∷ es) k d h f =
    elim (is_eq (nat_cmp k e.0)) as (λ t. cond t (Some e.1) (find nat_cmp k es) ≡ Some d → same_place d.place place ≡ false) [
      | true ↦ λ g. let same : e.1 ≡ d = same_Some e.1 d g in rw same at h.0
      | false ↦ λ g. none_here place es k d h.1 g
    ] f

-- where the search finds no front no call stands
pub no_front-has_no_calls : (q : CallTable) (place : Place) → front q place ≡ None → HasNoCalls q place
no_front-has_no_calls q place none k d is =
    none_here place (entries q.records) k d (search_none place (entries q.records) None none).1 (sym (get-entries q.records k) ∙ is)
