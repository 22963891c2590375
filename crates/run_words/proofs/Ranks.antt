-- A call that comes later to its place has more calls before it there; and stamps of the same order leave each rank.
use Rattle.std.proofs.Common.{◌≡◌, ℕ, zero, suc, ◌+◌, ◌<◌, ◌≤◌, ◌⊎◌, inl, inr, Bool, true, false, ◌&&◌, List, ◌++◌, Option, None, Some, option_map, nat_lt, refl, sym, ap, subst, ◌∙◌, arith, eq-eqb}
use Rattle.std.specs.Prelude.{if◌then◌else◌}
use Rattle.std.proofs.lemmas.Bool.{cases_lt}
use Rattle.std.proofs.lemmas.Bool.Decides.{nat_tests}
use Rattle.call_slab.specs.declared.call.Call.{Call}
use Rattle.call_slab.specs.declared.call.Place.{Place}
use Rattle.call_slab.specs.declared.call.Place.TheVariants.{Incoming, Dispatched, Answers}
use Rattle.answerbox.specs.Calls.{CallTable, call_at, same_place}
use Rattle.kernel_core.proofs.InEvent.{same_place-true}
use Rattle.state_words.specs.declared.stands.Stand.{Stand}
use Rattle.state_words.specs.Order.{stand_of, found_stand, stands_from, stands, is_sooner, rank_among, rank}
use Rattle.run_words.specs.Stamped.{Rises, restamp, restamped}
use Rattle.run_words.proofs.TableStamps.{found}

-- the stand of a call with this stamp at this place
abbrev stand : Place → ℕ → Stand
stand p s = record { place = p; stamp = s }

-- the live calls of the table have a number and a stamp that are not still to come
pub record HasOldCalls (calls : CallTable) : Type 0 where
  pub number : (q : ℕ) (c : Call) → call_at calls q ≡ Some c → q < calls.next_number
  pub stamp : (q : ℕ) (c : Call) → call_at calls q ≡ Some c → c.stamp < calls.next_stamp

pub same_place_self : (p : Place) → same_place p p ≡ true
same_place_self (Incoming t) = grind (arith, eq-eqb)
same_place_self (Dispatched t) = grind (arith, eq-eqb)
same_place_self (Answers t) = grind (arith, eq-eqb)

-- ---- a later stamp has no smaller rank
counts_more : (b : Bool) (s t u : ℕ) → t ≤ u
    → (if b && nat_lt s t then 1 else 0) ≤ (if b && nat_lt s u then 1 else 0)
counts_more true s t u h = grind (arith, nat_tests)
counts_more false s t u h = omega arith

first_and_rest : (o : Option Call) (rest : List Stand) (x : Stand)
    → rank_among (found_stand o ++ rest) x ≡ rank_among (found_stand o) x + rank_among rest x
first_and_rest None rest x = omega arith
first_and_rest (Some c) rest x = omega arith

one_more : (o : Option Call) (p : Place) (s t : ℕ) → s ≤ t
    → rank_among (found_stand o) (stand p s) ≤ rank_among (found_stand o) (stand p t)
one_more None p s t h = omega arith
one_more (Some c) p s t h = let here = counts_more (same_place c.place p) c.stamp s t h in omega arith

no_fewer : (calls : CallTable) (n k : ℕ) (p : Place) (s t : ℕ) → s ≤ t
    → rank_among (stands_from calls n k) (stand p s) ≤ rank_among (stands_from calls n k) (stand p t)
no_fewer calls n zero p s t h = omega arith
no_fewer calls n (suc k) p s t h =
    let here = one_more (call_at calls n) p s t h in
    let there = no_fewer calls (n + 1) k p s t h in
    let one = first_and_rest (call_at calls n) (stands_from calls (n + 1) k) (stand p s) in
    let two = first_and_rest (call_at calls n) (stands_from calls (n + 1) k) (stand p t) in
    omega arith

-- ---- a call counts for a later stamp
counts_now : (b : Bool) (s t : ℕ) → b ≡ true → s < t
    → (if b && nat_lt s s then 1 else 0) < (if b && nat_lt s t then 1 else 0)
counts_now true s t e h = grind (arith, nat_tests)
counts_now false s t e h = absurd (cc e)

one_now : (o : Option Call) (c : Call) (t : ℕ) → o ≡ Some c → c.stamp < t
    → rank_among (found_stand o) (stand c.place c.stamp) < rank_among (found_stand o) (stand c.place t)
one_now o c t e h =
    subst
    (λ (z : Option Call). rank_among (found_stand z) (stand c.place c.stamp) < rank_among (found_stand z) (stand c.place t))
    (sym e)
    (let here = counts_now (same_place c.place c.place) c.stamp t (same_place_self c.place) h in omega arith)

more : (calls : CallTable) (n k q : ℕ) (c : Call) (t : ℕ) → n ≤ q → q < n + k → call_at calls q ≡ Some c → c.stamp < t
    → rank_among (stands_from calls n k) (stand c.place c.stamp) < rank_among (stands_from calls n k) (stand c.place t)
more calls n zero q c t low high e h = absurd (omega arith)
more calls n (suc k) q c t low high e h =
    by (λ l. more calls (n + 1) k q c t l (omega arith) e h) (cases_lt n q) where
      one : rank_among (stands_from calls n (suc k)) (stand c.place c.stamp)
          ≡ rank_among (found_stand (call_at calls n)) (stand c.place c.stamp) + rank_among (stands_from calls (n + 1) k) (stand c.place c.stamp)
      one = first_and_rest (call_at calls n) (stands_from calls (n + 1) k) (stand c.place c.stamp)

      two : rank_among (stands_from calls n (suc k)) (stand c.place t)
          ≡ rank_among (found_stand (call_at calls n)) (stand c.place t) + rank_among (stands_from calls (n + 1) k) (stand c.place t)
      two = first_and_rest (call_at calls n) (stands_from calls (n + 1) k) (stand c.place t)

      by : (n + 1 ≤ q → rank_among (stands_from calls (n + 1) k) (stand c.place c.stamp) < rank_among (stands_from calls (n + 1) k) (stand c.place t))
          → (n < q) ⊎ (q ≤ n)
          → rank_among (stands_from calls n (suc k)) (stand c.place c.stamp) < rank_among (stands_from calls n (suc k)) (stand c.place t)
      by later (inl l) =
          let here = one_more (call_at calls n) c.place c.stamp t (omega arith) in
          let there = later (omega arith) in
          omega (arith, one, two)
      by later (inr l) =
          let same : n ≡ q = omega arith in
          let here = one_now (call_at calls n) c t (ap (call_at calls) same ∙ e) h in
          let there = no_fewer calls (n + 1) k c.place c.stamp t (omega arith) in
          omega (arith, one, two)

-- ---- calls of the same ranks stand in the same order
rank_is : (calls : CallTable) (p : Place) (c : Call) → c.place ≡ p
    → rank calls c ≡ rank_among (stands calls) (stand p c.stamp)
rank_is calls p c e = ap (λ (z : Place). rank_among (stands calls) (stand z c.stamp)) e

pub same_order : (a b : CallTable) → HasOldCalls b
    → (c c' d d' : Call) (p : Place) (q : ℕ) → call_at b q ≡ Some d
    → rank a c ≡ rank b d → rank a c' ≡ rank b d' → c.place ≡ p → c'.place ≡ p → d.place ≡ p → d'.place ≡ p
    → c'.stamp ≤ c.stamp → d'.stamp ≤ d.stamp
same_order a b old c c' d d' p q is r r' e1 e2 e3 e4 h = by (cases_lt d.stamp d'.stamp) where
  before : rank a c' ≤ rank a c
  before =
      let less = no_fewer a 0 a.next_number p c'.stamp c.stamp h in
      let x = rank_is a p c e1 in
      let y = rank_is a p c' e2 in
      omega arith

  by : (d.stamp < d'.stamp) ⊎ (d'.stamp ≤ d.stamp) → d'.stamp ≤ d.stamp
  by (inl l) =
      let below = old.number q d is in
      let less = more b 0 b.next_number q d d'.stamp (omega arith) (omega arith) is l in
      let x : rank_among (stands b) (stand d.place d'.stamp) ≡ rank_among (stands b) (stand p d'.stamp) =
      ap (λ (z : Place). rank_among (stands b) (stand z d'.stamp)) e3 in
      let y = rank_is b p d' e4 in
      absurd (omega (arith, before))
  by (inr l) = l

-- ---- stamps of the same order leave each rank
sooner_same : (f : Place → ℕ → ℕ) → Rises f → (p r : Place) (s t : ℕ)
    → is_sooner (stand p (f p s)) (stand r (f r t)) ≡ is_sooner (stand p s) (stand r t)
sooner_same f rises p r s t = by (same_place p r) refl where
  by : (b : Bool) → same_place p r ≡ b → (b && nat_lt (f p s) (f r t)) ≡ (b && nat_lt s t)
  by true e = ap (λ (z : Place). nat_lt (f z s) (f r t)) (same_place-true p r e) ∙ sym (rises r s t)
  by false e = refl

found_same : (f : Place → ℕ → ℕ) → Rises f → (o : Option Call) (c : Call)
    → rank_among (found_stand (option_map (restamp f) o)) (stand_of (restamp f c)) ≡ rank_among (found_stand o) (stand_of c)
found_same f rises None c = refl
found_same f rises (Some x) c =
    ap (λ (b : Bool). (if b then 1 else 0) + 0) (sooner_same f rises x.place c.place x.stamp c.stamp)

ranks_from : (f : Place → ℕ → ℕ) (d : ℕ) → Rises f → (calls : CallTable) (n k : ℕ) (c : Call)
    → rank_among (stands_from (restamped f d calls) n k) (stand_of (restamp f c)) ≡ rank_among (stands_from calls n k) (stand_of c)
ranks_from f d rises calls n zero c = refl
ranks_from f d rises calls n (suc k) c =
    first_and_rest (call_at (restamped f d calls) n) (stands_from (restamped f d calls) (n + 1) k) (stand_of (restamp f c))
    ∙ ap
    (λ (o : Option Call). rank_among (found_stand o) (stand_of (restamp f c))
    + rank_among (stands_from (restamped f d calls) (n + 1) k) (stand_of (restamp f c)))
    (found f calls.records n)
    ∙ ap
    (λ (m : ℕ). m + rank_among (stands_from (restamped f d calls) (n + 1) k) (stand_of (restamp f c)))
    (found_same f rises (call_at calls n) c)
    ∙ ap (λ (m : ℕ). rank_among (found_stand (call_at calls n)) (stand_of c) + m) (ranks_from f d rises calls (n + 1) k c)
    ∙ sym (first_and_rest (call_at calls n) (stands_from calls (n + 1) k) (stand_of c))

pub same_rank : (f : Place → ℕ → ℕ) (d : ℕ) → Rises f → (calls : CallTable) (c : Call)
    → rank (restamped f d calls) (restamp f c) ≡ rank calls c
same_rank f d rises calls c = ranks_from f d rises calls 0 calls.next_number c
