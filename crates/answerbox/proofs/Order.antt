-- How the neighbours change where a key goes, or comes last.
use Rattle.std.proofs.Common.{◌≡◌, ℕ, ◌+◌, ◌<◌, ◌≤◌, ◌⊎◌, Bool, true, false, cond, ◌==◌, Option, None, Some, refl, sym, ap, ◌∙◌, arith, ⊎_elim, inl, inr}
use Rattle.std.proofs.lemmas.Bool.{cases_eq, cases_lt, eqb-true}
use Rattle.std.proofs.lemmas.Bool.Decides.{nat_tests}
use Rattle.std.proofs.lemmas.Option.{same_Some}
use Rattle.answerbox.specs.Order.{Spot, Least, Greatest, IsLeast, IsGreatest, Apart, Linked}

-- the ranks without key k
pub record Without (R S : ℕ → Option Spot) (k : ℕ) : Type 0 where
  pub old : (q : ℕ) (y : Spot) → S q ≡ Some y → R q ≡ Some y
  pub other : (q : ℕ) (y : Spot) → S q ≡ Some y → q ≡ k → ⊥
  pub kept : (q : ℕ) (y : Spot) → R q ≡ Some y → (q ≡ k → ⊥) → S q ≡ Some y

module _ (R S : ℕ → Option Spot) (k : ℕ) (w : Without R S k) where
  least_kept : (g low : ℕ) (o : Option ℕ) → IsLeast R g low o → (o ≡ Some k → ⊥) → IsLeast S g low o
  least_kept g low None l n = λ j y e s. l j y (w.old j y e) s
  least_kept g low (Some a) l n = record { spot = l.spot; is = w.kept a l.spot l.is (λ e. n (ap Some e)); here = l.here; from = l.from; least = λ j y e. l.least j y (w.old j y e) }

  greatest_kept : (g high : ℕ) (o : Option ℕ) → IsGreatest R g high o → (o ≡ Some k → ⊥) → IsGreatest S g high o
  greatest_kept g high None l n = λ j y e s. l j y (w.old j y e) s
  greatest_kept g high (Some a) l n = record { spot = l.spot; is = w.kept a l.spot l.is (λ e. n (ap Some e)); here = l.here; below = l.below; greatest = λ j y e. l.greatest j y (w.old j y e) }

  -- where the least goes, the next is the least
  least_skips : Apart R → (g low : ℕ) (m : Least R g low k) (o : Option ℕ) → IsLeast R g (m.spot.rank + 1) o → IsLeast S g low o
  least_skips apart g low m None l = λ j y e s.
      let f = w.old j y e in
      ⊎_elim (λ (h : y.rank < low). h) (λ (h : low ≤ y.rank).
      let a : y.rank < m.spot.rank + 1 = l j y f s in
      let b : m.spot.rank ≤ y.rank = m.least j y f s h in
      absurd (w.other j y e (apart j k y m.spot f m.is (s ∙ sym m.here) (omega arith)))) (cases_lt y.rank low)
  least_skips apart g low m (Some a) l =
      record {
        spot = l.spot;
        is = w.kept a l.spot l.is (λ e. let same : l.spot ≡ m.spot = same_Some l.spot m.spot (sym l.is ∙ ap R e ∙ m.is) in let r : l.spot.rank ≡ m.spot.rank = ap (λ (x : Spot). x.rank) same in let f = l.from in absurd (omega arith));
        here = l.here;
        from = let f = l.from in let f2 = m.from in omega arith;
        least = λ j y e s h.
            let f = w.old j y e in
            ⊎_elim (λ (t : y.rank < m.spot.rank + 1).
            let b : m.spot.rank ≤ y.rank = m.least j y f s h in
            absurd (w.other j y e (apart j k y m.spot f m.is (s ∙ sym m.here) (omega arith)))) (λ (t : m.spot.rank + 1 ≤ y.rank). l.least j y f s t) (cases_lt y.rank (m.spot.rank + 1));
      }

  greatest_skips : Apart R → (g high : ℕ) (m : Greatest R g high k) (o : Option ℕ) → IsGreatest R g m.spot.rank o → IsGreatest S g high o
  greatest_skips apart g high m None l = λ j y e s.
      let f = w.old j y e in
      ⊎_elim (λ (h : y.rank < high).
      let a : m.spot.rank ≤ y.rank = l j y f s in
      let b : y.rank ≤ m.spot.rank = m.greatest j y f s h in
      absurd (w.other j y e (apart j k y m.spot f m.is (s ∙ sym m.here) (omega arith)))) (λ (h : high ≤ y.rank). h) (cases_lt y.rank high)
  greatest_skips apart g high m (Some a) l =
      record {
        spot = l.spot;
        is = w.kept a l.spot l.is (λ e. let same : l.spot ≡ m.spot = same_Some l.spot m.spot (sym l.is ∙ ap R e ∙ m.is) in let r : l.spot.rank ≡ m.spot.rank = ap (λ (x : Spot). x.rank) same in let f = l.below in absurd (omega arith));
        here = l.here;
        below = let f = l.below in let f2 = m.below in omega arith;
        greatest = λ j y e s h.
            let f = w.old j y e in
            ⊎_elim (λ (t : y.rank < m.spot.rank). l.greatest j y f s t) (λ (t : m.spot.rank ≤ y.rank).
            let b : y.rank ≤ m.spot.rank = m.greatest j y f s h in
            absurd (w.other j y e (apart j k y m.spot f m.is (s ∙ sym m.here) (omega arith)))) (cases_lt y.rank m.spot.rank);
      }

-- the option is this key
abbrev pub is_key : Option ℕ → ℕ → Bool
is_key None q = false
is_key (Some k) q = k == q

pub is_key_true : (o : Option ℕ) (q : ℕ) → is_key o q ≡ true → o ≡ Some q
is_key_true None q e = cc
is_key_true (Some k) q e = let s : k ≡ q = grind (arith, nat_tests) in ap Some s

pub is_key_false : (o : Option ℕ) (q : ℕ) → is_key o q ≡ false → o ≡ Some q → ⊥
is_key_false None q e f = cc
is_key_false (Some k) q e f = let s : k ≡ q = same_Some k q f in grind (arith, nat_tests)

module _ (R S : ℕ → Option Spot) (k : ℕ) (w : Without R S k) (apart : Apart R) (x : Spot) (at : R k ≡ Some x) where
  -- whatever pointed to k points past it
  least_past : (g low : ℕ) (o next : Option ℕ) → IsLeast R g low o → IsLeast R x.group (x.rank + 1) next → IsLeast S g low (cond (is_key o k) next o)
  least_past g low o next l n =
      elim (is_key o k) as (λ b. is_key o k ≡ b → IsLeast S g low (cond b next o)) [
        | true ↦ λ e.
            let m : Least R g low k = rw (is_key_true o k e) at l in
            let same : x ≡ m.spot = same_Some x m.spot (sym at ∙ m.is) in
            let n2 : IsLeast R g (m.spot.rank + 1) next = rw (same, m.here) at n in
            least_skips R S k w apart g low m next n2
        | false ↦ λ e. least_kept R S k w g low o l (is_key_false o k e)
      ] refl

  greatest_past : (g high : ℕ) (o next : Option ℕ) → IsGreatest R g high o → IsGreatest R x.group x.rank next → IsGreatest S g high (cond (is_key o k) next o)
  greatest_past g high o next l n =
      elim (is_key o k) as (λ b. is_key o k ≡ b → IsGreatest S g high (cond b next o)) [
        | true ↦ λ e.
            let m : Greatest R g high k = rw (is_key_true o k e) at l in
            let same : x ≡ m.spot = same_Some x m.spot (sym at ∙ m.is) in
            let n2 : IsGreatest R g m.spot.rank next = rw (same, m.here) at n in
            greatest_skips R S k w apart g high m next n2
        | false ↦ λ e. greatest_kept R S k w g high o l (is_key_false o k e)
      ] refl

-- a key is taken out, and its neighbours are joined
pub unlinked : (R S : ℕ → Option Spot) (k : ℕ) (x : Spot) (A B H L A' B' H' L' : ℕ → Option ℕ) (top : ℕ) → Linked R A B H L top → Without R S k → R k ≡ Some x
    → ((q : ℕ) (y : Spot) → S q ≡ Some y → A' q ≡ cond (is_key (A q) k) (A k) (A q)) → ((q : ℕ) (y : Spot) → S q ≡ Some y → B' q ≡ cond (is_key (B q) k) (B k) (B q))
    → ((g : ℕ) → H' g ≡ cond (is_key (H g) k) (A k) (H g)) → ((g : ℕ) → L' g ≡ cond (is_key (L g) k) (B k) (L g))
    → Linked S A' B' H' L' top
unlinked R S k x A B H L A' B' H' L' top l w at pa pb ph pl =
    record {
      afters = λ q y e. rw (pa q y e) (least_past R S k w l.apart x at y.group (y.rank + 1) (A q) (A k) (l.afters q y (w.old q y e)) (l.afters k x at));
      befores = λ q y e. rw (pb q y e) (greatest_past R S k w l.apart x at y.group y.rank (B q) (B k) (l.befores q y (w.old q y e)) (l.befores k x at));
      firsts = λ g. rw (ph g) (least_past R S k w l.apart x at g 0 (H g) (A k) (l.firsts g) (l.afters k x at));
      lasts = λ g. rw (pl g) (greatest_past R S k w l.apart x at g top (L g) (B k) (l.lasts g) (l.befores k x at));
      bound = λ q y e. l.bound q y (w.old q y e);
      apart = λ i j y z e f. l.apart i j y z (w.old i y e) (w.old j z f);
    }

-- the ranks with key k, which is new and ranks last
pub record With (R S : ℕ → Option Spot) (k : ℕ) (x : Spot) : Type 0 where
  pub new : S k ≡ Some x
  pub old : (q : ℕ) (y : Spot) → S q ≡ Some y → (q ≡ k → ⊥) → R q ≡ Some y
  pub kept : (q : ℕ) (y : Spot) → R q ≡ Some y → S q ≡ Some y
  pub fresh : (q : ℕ) (y : Spot) → R q ≡ Some y → q ≡ k → ⊥

-- none becomes k
abbrev pub or_key : Option ℕ → ℕ → Option ℕ
or_key None k = Some k
or_key (Some a) k = Some a

module _ (R S : ℕ → Option Spot) (k : ℕ) (x : Spot) (w : With R S k x) (bound : (q : ℕ) (y : Spot) → R q ≡ Some y → y.rank < x.rank) where
  -- a key with its spot is k, or an old one
  spot_of : (q : ℕ) (y : Spot) → S q ≡ Some y → (x ≡ y) ⊎ (R q ≡ Some y)
  spot_of q y e = ⊎_elim (λ (s : q ≡ k). inl (same_Some x y (sym w.new ∙ ap S (sym s) ∙ e))) (λ (n : q ≡ k → ⊥). inr (w.old q y e n)) (cases_eq q k)

  least_joined : (low : ℕ) (o : Option ℕ) → low ≤ x.rank → IsLeast R x.group low o → IsLeast S x.group low (or_key o k)
  least_joined low None h l =
      record {
        spot = x;
        is = w.new;
        here = refl;
        from = h;
        least = λ j y e s t. ⊎_elim (λ (same : x ≡ y). let r : x.rank ≡ y.rank = ap (λ (z : Spot). z.rank) same in omega arith) (λ (f : R j ≡ Some y). let r : y.rank < low = l j y f s in absurd (omega arith)) (spot_of j y e);
      }
  least_joined low (Some a) h l =
      record {
        spot = l.spot;
        is = w.kept a l.spot l.is;
        here = l.here;
        from = l.from;
        least = λ j y e s t. ⊎_elim (λ (same : x ≡ y). let r : x.rank ≡ y.rank = ap (λ (z : Spot). z.rank) same in let b = bound a l.spot l.is in omega arith) (λ (f : R j ≡ Some y). l.least j y f s t) (spot_of j y e);
      }

  least_other : (g low : ℕ) (o : Option ℕ) → (g ≡ x.group → ⊥) → IsLeast R g low o → IsLeast S g low o
  least_other g low None n l = λ j y e s. ⊎_elim (λ (same : x ≡ y). absurd (n (sym s ∙ sym (ap (λ (z : Spot). z.group) same)))) (λ (f : R j ≡ Some y). l j y f s) (spot_of j y e)
  least_other g low (Some a) n l =
      record {
        spot = l.spot;
        is = w.kept a l.spot l.is;
        here = l.here;
        from = l.from;
        least = λ j y e s t. ⊎_elim (λ (same : x ≡ y). absurd (n (sym s ∙ sym (ap (λ (z : Spot). z.group) same)))) (λ (f : R j ≡ Some y). l.least j y f s t) (spot_of j y e);
      }

  greatest_old : (g high : ℕ) (o : Option ℕ) → high ≤ x.rank → IsGreatest R g high o → IsGreatest S g high o
  greatest_old g high None h l = λ j y e s. ⊎_elim (λ (same : x ≡ y). let r : x.rank ≡ y.rank = ap (λ (z : Spot). z.rank) same in omega arith) (λ (f : R j ≡ Some y). l j y f s) (spot_of j y e)
  greatest_old g high (Some a) h l =
      record {
        spot = l.spot;
        is = w.kept a l.spot l.is;
        here = l.here;
        below = l.below;
        greatest = λ j y e s t. ⊎_elim (λ (same : x ≡ y). let r : x.rank ≡ y.rank = ap (λ (z : Spot). z.rank) same in absurd (omega arith)) (λ (f : R j ≡ Some y). l.greatest j y f s t) (spot_of j y e);
      }

  greatest_new : (top : ℕ) → x.rank < top → Greatest S x.group top k
  greatest_new top h =
      record {
        spot = x;
        is = w.new;
        here = refl;
        below = h;
        greatest = λ j y e s t. ⊎_elim (λ (same : x ≡ y). let r : x.rank ≡ y.rank = ap (λ (z : Spot). z.rank) same in omega arith) (λ (f : R j ≡ Some y). let b = bound j y f in omega arith) (spot_of j y e);
      }

  greatest_other : (g high top : ℕ) (o : Option ℕ) → (g ≡ x.group → ⊥) → ((q : ℕ) (y : Spot) → R q ≡ Some y → y.rank < high) → high ≤ top → IsGreatest R g high o → IsGreatest S g top o
  greatest_other g high top None n b h l = λ j y e s. ⊎_elim (λ (same : x ≡ y). absurd (n (sym s ∙ sym (ap (λ (z : Spot). z.group) same)))) (λ (f : R j ≡ Some y). let u = b j y f in let v : high ≤ y.rank = l j y f s in absurd (omega arith)) (spot_of j y e)
  greatest_other g high top (Some a) n b h l =
      record {
        spot = l.spot;
        is = w.kept a l.spot l.is;
        here = l.here;
        below = let u = l.below in omega arith;
        greatest = λ j y e s t. ⊎_elim (λ (same : x ≡ y). absurd (n (sym s ∙ sym (ap (λ (z : Spot). z.group) same)))) (λ (f : R j ≡ Some y). l.greatest j y f s (b j y f)) (spot_of j y e);
      }

pub group_other : (g h : ℕ) → (g == h) ≡ false → g ≡ h → ⊥
group_other g h t e = grind (arith, nat_tests)

-- a bound on all ranks may be raised
pub raised : (R : ℕ → Option Spot) (g top high : ℕ) (o : Option ℕ) → ((q : ℕ) (y : Spot) → R q ≡ Some y → y.rank < top) → top ≤ high → IsGreatest R g top o → IsGreatest R g high o
raised R g top high None b h l = λ j y e s. let u = b j y e in let v : top ≤ y.rank = l j y e s in absurd (omega arith)
raised R g top high (Some a) b h l = record { spot = l.spot; is = l.is; here = l.here; below = let u = l.below in omega arith; greatest = λ j y e s t. l.greatest j y e s (b j y e) }

pointed_first : (R S : ℕ → Option Spot) (k : ℕ) (x : Spot) → With R S k x → ((q : ℕ) (y : Spot) → R q ≡ Some y → y.rank < x.rank) → (g low : ℕ) (o : Option ℕ) → low ≤ x.rank → IsLeast R g low o → IsLeast S g low (cond (g == x.group) (or_key o k) o)
pointed_first R S k x w bound g low o h l =
    elim (g == x.group) as (λ b. (g == x.group) ≡ b → IsLeast S g low (cond b (or_key o k) o)) [
      | true ↦ λ t. let e = eqb-true g x.group t in rw e (least_joined R S k x w bound low o h (rw e at l))
      | false ↦ λ t. least_other R S k x w bound g low o (group_other g x.group t) l
    ] refl

-- a key comes last in its group
pub joined : (R S : ℕ → Option Spot) (k : ℕ) (x : Spot) (A B H L A' B' H' L' : ℕ → Option ℕ) (top : ℕ) → Linked R A B H L top → With R S k x → top ≤ x.rank
    → A' k ≡ None → B' k ≡ L x.group
    → ((q : ℕ) (y : Spot) → R q ≡ Some y → A' q ≡ cond (y.group == x.group) (or_key (A q) k) (A q)) → ((q : ℕ) (y : Spot) → R q ≡ Some y → B' q ≡ B q)
    → ((g : ℕ) → H' g ≡ cond (g == x.group) (or_key (H g) k) (H g)) → ((g : ℕ) → L' g ≡ cond (g == x.group) (Some k) (L g))
    → Linked S A' B' H' L' (x.rank + 1)
joined R S k x A B H L A' B' H' L' top l w h ka kb pa pb ph pl =
    let bound : (q : ℕ) (y : Spot) → R q ≡ Some y → y.rank < x.rank = λ q y e. let b = l.bound q y e in omega arith in
    record {
      afters = λ q y e. ⊎_elim
          (λ (s : q ≡ k).
          let same : x ≡ y = same_Some x y (sym w.new ∙ ap S (sym s) ∙ e) in
          let r : x.rank ≡ y.rank = ap (λ (z : Spot). z.rank) same in
          let none : A' q ≡ None = ap A' s ∙ ka in
          rw none (λ j z f g. ⊎_elim (λ (t : x ≡ z). let u : x.rank ≡ z.rank = ap (λ (v : Spot). v.rank) t in omega arith) (λ (t : R j ≡ Some z). let u = bound j z t in omega arith) (spot_of R S k x w bound j z f)))
          (λ (n : q ≡ k → ⊥).
          let f = w.old q y e n in
          let b = bound q y f in
          rw (pa q y f) (pointed_first R S k x w bound y.group (y.rank + 1) (A q) (omega arith) (l.afters q y f)))
          (cases_eq q k);
      befores = λ q y e. ⊎_elim
          (λ (s : q ≡ k).
          let same : x ≡ y = same_Some x y (sym w.new ∙ ap S (sym s) ∙ e) in
          let is : B' q ≡ L x.group = ap B' s ∙ kb in
          rw (is, ← same) (greatest_old R S k x w bound x.group x.rank (L x.group) (omega arith) (raised R x.group top x.rank (L x.group) l.bound h (l.lasts x.group))))
          (λ (n : q ≡ k → ⊥).
          let f = w.old q y e n in
          let b = bound q y f in
          rw (pb q y f) (greatest_old R S k x w bound y.group y.rank (B q) (omega arith) (l.befores q y f)))
          (cases_eq q k);
      firsts = λ g. rw (ph g) (pointed_first R S k x w bound g 0 (H g) (omega arith) (l.firsts g));
      lasts = λ g. rw (pl g)
          (elim (g == x.group) as (λ b. (g == x.group) ≡ b → IsGreatest S g (x.rank + 1) (cond b (Some k) (L g))) [
            | true ↦ λ t. rw (eqb-true g x.group t) (greatest_new R S k x w bound (x.rank + 1) (omega arith))
            | false ↦ λ t. greatest_other R S k x w bound g top (x.rank + 1) (L g) (group_other g x.group t) l.bound (omega arith) (l.lasts g)
          ] refl);
      bound = λ q y e. ⊎_elim (λ (t : x ≡ y). let u : x.rank ≡ y.rank = ap (λ (v : Spot). v.rank) t in omega arith) (λ (t : R q ≡ Some y). let u = bound q y t in omega arith) (spot_of R S k x w bound q y e);
      apart = λ i j y z e f s r. ⊎_elim
          (λ (a : i ≡ k). ⊎_elim (λ (b : j ≡ k). a ∙ sym b)
          (λ (b : j ≡ k → ⊥).
          let same : x ≡ y = same_Some x y (sym w.new ∙ ap S (sym a) ∙ e) in
          let u : x.rank ≡ y.rank = ap (λ (v : Spot). v.rank) same in
          let v = bound j z (w.old j z f b) in absurd (omega arith)) (cases_eq j k))
          (λ (a : i ≡ k → ⊥). ⊎_elim
          (λ (b : j ≡ k).
          let same : x ≡ z = same_Some x z (sym w.new ∙ ap S (sym b) ∙ f) in
          let u : x.rank ≡ z.rank = ap (λ (v : Spot). v.rank) same in
          let v = bound i y (w.old i y e a) in absurd (omega arith))
          (λ (b : j ≡ k → ⊥). l.apart i j y z (w.old i y e a) (w.old j z f b) s r) (cases_eq j k))
          (cases_eq i k);
    }

-- neighbours point to each other
module _ (R : ℕ → Option Spot) (A B H L : ℕ → Option ℕ) (top : ℕ) (l : Linked R A B H L top) where
  spots_same : (k : ℕ) (x y : Spot) → R k ≡ Some x → R k ≡ Some y → x ≡ y
  spots_same k x y e f = same_Some x y (sym e ∙ f)

  one_greatest : (g high k : ℕ) (o : Option ℕ) → Greatest R g high k → IsGreatest R g high o → o ≡ Some k
  one_greatest g high k None m n = let b = m.below in let c : high ≤ m.spot.rank = n k m.spot m.is m.here in absurd (omega arith)
  one_greatest g high k (Some a) m n =
      let b = m.greatest a n.spot n.is n.here n.below in
      let c = n.greatest k m.spot m.is m.here m.below in
      ap Some (l.apart a k n.spot m.spot n.is m.is (n.here ∙ sym m.here) (omega arith))

  one_least : (g low k : ℕ) (o : Option ℕ) → Least R g low k → IsLeast R g low o → o ≡ Some k
  one_least g low k None m n = let b = m.from in let c : m.spot.rank < low = n k m.spot m.is m.here in absurd (omega arith)
  one_least g low k (Some a) m n =
      let b = m.least a n.spot n.is n.here n.from in
      let c = n.least k m.spot m.is m.here m.from in
      ap Some (l.apart a k n.spot m.spot n.is m.is (n.here ∙ sym m.here) (omega arith))

  -- what stands after q has q before it
  pub before_after : (q k : ℕ) (y : Spot) → R q ≡ Some y → A q ≡ Some k → B k ≡ Some q
  before_after q k y e a =
      let m : Least R y.group (y.rank + 1) k = rw a at (l.afters q y e) in
      let f = m.from in
      one_greatest y.group m.spot.rank q (B k)
      (record { spot = y; is = e; here = refl; below = omega arith; greatest = λ j z s t h. ⊎_elim (λ (u : z.rank < y.rank + 1). omega arith) (λ (u : y.rank + 1 ≤ z.rank). let v = m.least j z s t u in absurd (omega arith)) (cases_lt z.rank (y.rank + 1)) })
      (rw m.here at (l.befores k m.spot m.is))

  pub after_before : (q k : ℕ) (x : Spot) → R k ≡ Some x → B k ≡ Some q → A q ≡ Some k
  after_before q k x e b =
      let m : Greatest R x.group x.rank q = rw b at (l.befores k x e) in
      let f = m.below in
      one_least x.group (m.spot.rank + 1) k (A q)
      (record { spot = x; is = e; here = refl; from = omega arith; least = λ j z s t h. ⊎_elim (λ (u : z.rank < x.rank). let v = m.greatest j z s t u in absurd (omega arith)) (λ (u : x.rank ≤ z.rank). u) (cases_lt z.rank x.rank) })
      (rw m.here at (l.afters q m.spot m.is))

  -- what is first has nothing before it
  pub first_before : (g k : ℕ) → H g ≡ Some k → (x : Spot) × (R k ≡ Some x) × (x.group ≡ g) × (B k ≡ None)
  first_before g k a =
      let m : Least R g 0 k = rw a at (l.firsts g) in
      (m.spot, m.is, m.here, none (B k) m (l.befores k m.spot m.is))
    where
      none : (o : Option ℕ) (m : Least R g 0 k) → IsGreatest R m.spot.group m.spot.rank o → o ≡ None
      none None m n = refl
      none (Some a) m n = let b = n.below in let c = m.least a n.spot n.is (n.here ∙ m.here) (omega arith) in absurd (omega arith)

  pub before_first : (k : ℕ) (x : Spot) → R k ≡ Some x → B k ≡ None → H x.group ≡ Some k
  before_first k x e b =
      let n : IsGreatest R x.group x.rank None = rw b at (l.befores k x e) in
      one_least x.group 0 k (H x.group) (record { spot = x; is = e; here = refl; from = omega arith; least = λ j z s t h. n j z s t }) (l.firsts x.group)

  pub last_after : (g k : ℕ) → L g ≡ Some k → (x : Spot) × (R k ≡ Some x) × (x.group ≡ g) × (A k ≡ None)
  last_after g k a =
      let m : Greatest R g top k = rw a at (l.lasts g) in
      (m.spot, m.is, m.here, none (A k) m (l.afters k m.spot m.is))
    where
      none : (o : Option ℕ) (m : Greatest R g top k) → IsLeast R m.spot.group (m.spot.rank + 1) o → o ≡ None
      none None m n = refl
      none (Some a) m n = let b = n.from in let d = l.bound a n.spot n.is in let c = m.greatest a n.spot n.is (n.here ∙ m.here) d in absurd (omega arith)

  pub after_last : (k : ℕ) (x : Spot) → R k ≡ Some x → A k ≡ None → L x.group ≡ Some k
  after_last k x e a =
      let n : IsLeast R x.group (x.rank + 1) None = rw a at (l.afters k x e) in
      one_greatest x.group top k (L x.group) (record { spot = x; is = e; here = refl; below = l.bound k x e; greatest = λ j z s t h. let u : z.rank < x.rank + 1 = n j z s t in omega arith }) (l.lasts x.group)
