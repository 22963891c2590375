-- A list stays linked where a call is passed over, and where one comes last.
use Rattle.std.proofs.Common.{◌≡◌, ℕ, ◌+◌, ◌<◌, ◌≤◌, true, false, cond, ◌==◌, List, length, Option, None, Some, IsSome, IfSome, option_map, refl, sym, ap, ◌∙◌, arith, ⊎_elim}
use Rattle.std.specs.FinMap.{get}
use Rattle.std.proofs.lemmas.Bool.{cases_eq, eqb-true}
use Rattle.std.proofs.lemmas.Option.{same_Some}
use Rattle.call_slab.specs.declared.slots.Slot.{Slot}
use Rattle.call_slab.specs.declared.links.Links.{Links}
use Rattle.call_slab.specs.Calls.{links_of}
use Rattle.answerbox.specs.declared.chains.Ends.{Ends}
use Rattle.answerbox.specs.declared.chains.Chain.{Chain}
use Rattle.answerbox.specs.Order.{Spot, Greatest, IsLeast, IsGreatest, Linked}
use Rattle.answerbox.specs.Chain.{Slots, Core, core, cores, next_link, previous_link, with_next, with_previous, next_in, previous_in, row_of, rank_of, spot_at, spots, first_of, last_of, next_put, passed_slots, passed_ends, joined_slots, joined_ends, at_row, Chained, unlinked_slots, unlinked_rows, appended_slots, appended_rows, IsBetween, IsBehind}
use Rattle.answerbox.proofs.Order.{raised, Without, is_key, is_key_true, is_key_false, or_key, unlinked, joined, group_other, before_after, after_before, first_before, before_first, last_after, after_last}
use Rattle.answerbox.proofs.Chain.{live_cores, cores-next_put, cores-joined, next-with_next, previous-with_next, previous-with_previous, next-previous_put, previous-next_put, next-next_put, previous-previous_put, first-passed, last-passed, first-joined, last-joined, or_none, same_test, within_ends, link_here, link_there, key_is}

pub live_spot : (ch : Chain) (m : Slots) (q : ℕ) (y : Spot) → spots ch m q ≡ Some y → IsSome (get m q)
live_spot ch m q y e = by (get m q) e
  where
    by : (o : Option Slot) → spot_at ch (option_map core o) ≡ Some y → IsSome o
    by None e = absurd (cc e)
    by (Some s) e = refl

-- a test on the ends: it is the first of its group
end_test : (f b : Option ℕ) (g i k : ℕ) (o : Option ℕ) → ((f ≡ Some k) → (b ≡ None) × (g ≡ i)) → (b ≡ None → g ≡ i → f ≡ Some k) → cond (or_none b) (cond (g == i) o f) f ≡ cond (is_key f k) o f
end_test f None g i k o to from =
    elim (g == i) as (λ t. (g == i) ≡ t → cond t o f ≡ cond (is_key f k) o f) [
      | true ↦ λ t. let e : f ≡ Some k = from refl (eqb-true g i t) in rw (e, key_is k k refl) refl
      | false ↦ λ t. elim (is_key f k) as (λ u. is_key f k ≡ u → f ≡ cond u o f) [
        | true ↦ λ u. absurd (group_other g i t (to (is_key_true f k u)).1)
        | false ↦ λ u. refl
      ] refl
    ] refl
end_test f (Some a) g i k o to from =
    elim (is_key f k) as (λ u. is_key f k ≡ u → f ≡ cond u o f) [
      | true ↦ λ u. absurd (cc (to (is_key_true f k u)).0)
      | false ↦ λ u. refl
    ] refl

-- a call is passed over
pub pass : (ch : Chain) (m : Slots) (es : List Ends) (top k : ℕ) (links : Links) (x : Spot) (S : ℕ → Option Spot) → Chained ch m es top → next_in ch m k ≡ next_link ch links → previous_in ch m k ≡ previous_link ch links → spots ch m k ≡ Some x → Without (spots ch m) S k
    → let n = passed_slots ch m links in let ds = at_row (passed_ends ch links) es x.group in Linked S (next_in ch n) (previous_in ch n) (first_of ds) (last_of ds) top
pass ch m es top k links x S l an bn at w =
    let i = x.group in
    let a = next_link ch links in
    let b = previous_link ch links in
    let m1 = next_put ch m b a in
    let within : i < length es = within_ends (spots ch m) (next_in ch m) (previous_in ch m) es (last_of es) top k x l at in
    let R = spots ch m in
    unlinked R S k x (next_in ch m) (previous_in ch m) (first_of es) (last_of es) _ _ _ _ top l w at
    (λ q y f.
    let r : R q ≡ Some y = w.old q y f in
    next-previous_put ch m1 a b q ∙ next-next_put ch m b a q (live_spot ch m q y r)
    ∙ ap (λ t. cond t a (next_in ch m q)) (same_test b (next_in ch m q) q k
    (λ (h : b ≡ Some q). after_before R (next_in ch m) (previous_in ch m) (first_of es) (last_of es) top l q k x at (bn ∙ h))
    (λ (h : next_in ch m q ≡ Some k). sym bn ∙ before_after R (next_in ch m) (previous_in ch m) (first_of es) (last_of es) top l q k y r h))
    ∙ ap (λ o. cond (is_key (next_in ch m q) k) o (next_in ch m q)) (sym an))
    (λ q y f.
    let r : R q ≡ Some y = w.old q y f in
    previous-previous_put ch m1 a b q (live_cores m1 m q (cores-next_put ch m b a q) (live_spot ch m q y r))
    ∙ ap (λ o. cond (is_key a q) b o) (previous-next_put ch m b a q)
    ∙ ap (λ t. cond t b (previous_in ch m q)) (same_test a (previous_in ch m q) q k
    (λ (h : a ≡ Some q). before_after R (next_in ch m) (previous_in ch m) (first_of es) (last_of es) top l k q x at (an ∙ h))
    (λ (h : previous_in ch m q ≡ Some k). sym an ∙ after_before R (next_in ch m) (previous_in ch m) (first_of es) (last_of es) top l k q y r h))
    ∙ ap (λ o. cond (is_key (previous_in ch m q) k) o (previous_in ch m q)) (sym bn))
    (λ g.
    first-passed ch links es i g within
    ∙ end_test (first_of es g) b g i k a
    (λ h. let z = first_before R (next_in ch m) (previous_in ch m) (first_of es) (last_of es) top l g k h in
    let same : z.0 ≡ x = same_Some z.0 x (sym z.1 ∙ at) in
    (sym bn ∙ z.3, sym z.2 ∙ ap (λ (x : Spot). x.group) same))
    (λ h t. rw t (before_first R (next_in ch m) (previous_in ch m) (first_of es) (last_of es) top l k x at (bn ∙ h)))
    ∙ ap (λ o. cond (is_key (first_of es g) k) o (first_of es g)) (sym an))
    (λ g.
    last-passed ch links es i g within
    ∙ end_test (last_of es g) a g i k b
    (λ h. let z = last_after R (next_in ch m) (previous_in ch m) (first_of es) (last_of es) top l g k h in
    let same : z.0 ≡ x = same_Some z.0 x (sym z.1 ∙ at) in
    (sym an ∙ z.3, sym z.2 ∙ ap (λ (x : Spot). x.group) same))
    (λ h t. rw t (after_last R (next_in ch m) (previous_in ch m) (first_of es) (last_of es) top l k x at (an ∙ h)))
    ∙ ap (λ o. cond (is_key (last_of es g) k) o (last_of es g)) (sym bn))

-- a list has no first key exactly where it has no last
first_none : (R : ℕ → Option Spot) (A B H L : ℕ → Option ℕ) (top g : ℕ) → Linked R A B H L top → L g ≡ None → H g ≡ None
first_none R A B H L top g l e = by (H g) (l.firsts g) (rw e at (l.lasts g))
  where
    by : (o : Option ℕ) → IsLeast R g 0 o → IsGreatest R g top None → o ≡ None
    by None h n = refl
    by (Some a) h n = let u : top ≤ h.spot.rank = n a h.spot h.is h.here in let v = l.bound a h.spot h.is in absurd (omega arith)

first_some : (R : ℕ → Option Spot) (A B H L : ℕ → Option ℕ) (top g a : ℕ) → Linked R A B H L top → L g ≡ Some a → H g ≡ None → ⊥
first_some R A B H L top g a l e f =
    let m : Greatest R g top a = rw e at (l.lasts g) in
    let n : IsLeast R g 0 None = rw f at (l.firsts g) in
    let u : m.spot.rank < 0 = n a m.spot m.is m.here in omega arith

keeps_some : (o : Option ℕ) (k : ℕ) → (o ≡ None → ⊥) → or_key o k ≡ o
keeps_some None k n = absurd (n refl)
keeps_some (Some a) k n = refl

-- a call comes last: R has the others, m has it under k
pub join : (ch : Chain) (R : ℕ → Option Spot) (A B : ℕ → Option ℕ) (es : List Ends) (m : Slots) (top k : ℕ) (x : Spot)
    → Linked R A B (first_of es) (last_of es) top → spots ch m k ≡ Some x → top ≤ x.rank → x.group < length es
    → ((q : ℕ) (y : Spot) → R q ≡ Some y → (spots ch m q ≡ Some y) × (q ≡ k → ⊥) × (next_in ch m q ≡ A q) × (previous_in ch m q ≡ B q))
    → ((q : ℕ) (y : Spot) → spots ch m q ≡ Some y → (q ≡ k → ⊥) → R q ≡ Some y)
    → Chained ch (joined_slots ch m k (last_of es x.group)) (at_row (joined_ends k) es x.group) (x.rank + 1)
join ch R A B es m top k x l at h within others back =
    let i = x.group in
    let last = last_of es i in
    let m1 = next_put ch m last (Some k) in
    let m2 = joined_slots ch m k last in
    let S = spots ch m2 in
    let l1 = with_previous ch (links_of (get m1 k)) last in
    let lk = with_next ch l1 None in
    let live1 : IsSome (get m1 k) = live_cores m1 m k (cores-next_put ch m last (Some k) k) (live_spot ch m k x at) in
    let same : (q : ℕ) → S q ≡ spots ch m q = λ q. ap (spot_at ch) (cores-joined ch m k last q) in
    joined R S k x A B (first_of es) (last_of es) _ _ _ _ top l
    (record {
      new = same k ∙ at;
      old = λ q y f n. back q y (sym (same q) ∙ f) n;
      kept = λ q y f. same q ∙ (others q y f).0;
      fresh = λ q y f. (others q y f).1;
    })
    h
    (link_here (next_link ch) lk m1 k live1 ∙ next-with_next ch l1 None)
    (link_here (previous_link ch) lk m1 k live1 ∙ previous-with_next ch l1 None ∙ previous-with_previous ch (links_of (get m1 k)) last)
    (λ q y f.
    let o = others q y f in
    link_there (next_link ch) lk m1 k q o.1
    ∙ next-next_put ch m last (Some k) q (live_spot ch m q y o.0)
    ∙ ap (λ u. cond (is_key last q) (Some k) u) o.2
    ∙ ends_at q y f)
    (λ q y f.
    let o = others q y f in
    link_there (previous_link ch) lk m1 k q o.1 ∙ previous-next_put ch m last (Some k) q ∙ o.3)
    (λ g. first-joined es i k g within ∙ firsts g)
    (λ g. last-joined es i k g within)
  where
    ends_at : (q : ℕ) (y : Spot) → R q ≡ Some y → cond (is_key (last_of es x.group) q) (Some k) (A q) ≡ cond (y.group == x.group) (or_key (A q) k) (A q)
    ends_at q y f =
        let i = x.group in
        elim (is_key (last_of es i) q) as (λ t. is_key (last_of es i) q ≡ t → cond t (Some k) (A q) ≡ cond (y.group == i) (or_key (A q) k) (A q)) [
          | true ↦ λ t.
              let z = last_after R A B (first_of es) (last_of es) top l i q (is_key_true (last_of es i) q t) in
              let same : z.0 ≡ y = same_Some z.0 y (sym z.1 ∙ f) in
              let g : y.group ≡ i = ap (λ (x : Spot). x.group) (sym same) ∙ z.2 in
              rw (g, z.3, key_is i i refl) refl
          | false ↦ λ t.
              elim (y.group == i) as (λ u. (y.group == i) ≡ u → A q ≡ cond u (or_key (A q) k) (A q)) [
                | true ↦ λ u. sym (keeps_some (A q) k (λ n. is_key_false (last_of es i) q t (rw (eqb-true y.group i u) at (after_last R A B (first_of es) (last_of es) top l q y f n))))
                | false ↦ λ u. refl
              ] refl
        ] refl

    firsts : (g : ℕ) → cond (or_none (last_of es x.group)) (cond (g == x.group) (Some k) (first_of es g)) (first_of es g) ≡ cond (g == x.group) (or_key (first_of es g) k) (first_of es g)
    firsts g =
        let i = x.group in
        elim (g == i) as (λ u. (g == i) ≡ u → cond (or_none (last_of es i)) (cond u (Some k) (first_of es g)) (first_of es g) ≡ cond u (or_key (first_of es g) k) (first_of es g)) [
          | true ↦ λ u. rw (eqb-true g i u) (by (last_of es i) refl)
          | false ↦ λ u. elim (or_none (last_of es i)) as (λ v. cond v (first_of es g) (first_of es g) ≡ first_of es g) [ true ↦ refl | false ↦ refl ]
        ] refl
      where
        by : (o : Option ℕ) → last_of es x.group ≡ o → cond (or_none o) (Some k) (first_of es x.group) ≡ or_key (first_of es x.group) k
        by None f = rw (first_none R A B (first_of es) (last_of es) top x.group l f) refl
        by (Some a) f = sym (keeps_some (first_of es x.group) k (first_some R A B (first_of es) (last_of es) top x.group a l f))

-- the same links, told otherwise
pub linked_alike : (R S : ℕ → Option Spot) (A B A' B' H L : ℕ → Option ℕ) (top : ℕ) → ((q : ℕ) → S q ≡ R q) → Linked R A B H L top → ((q : ℕ) (y : Spot) → S q ≡ Some y → A' q ≡ A q) → ((q : ℕ) (y : Spot) → S q ≡ Some y → B' q ≡ B q) → Linked S A' B' H L top
linked_alike R S A B A' B' H L top h l a b =
    let p : S ≡ R = λ i q. h q i in
    let k : Linked S A B H L top = rw p l in
    record {
      afters = λ q y e. rw (a q y e) (k.afters q y e);
      befores = λ q y e. rw (b q y e) (k.befores q y e);
      firsts = k.firsts;
      lasts = k.lasts;
      bound = k.bound;
      apart = k.apart;
    }

pub raised_top : (R : ℕ → Option Spot) (A B H L : ℕ → Option ℕ) (top more : ℕ) → top ≤ more → Linked R A B H L top → Linked R A B H L more
raised_top R A B H L top more h l =
    record {
      afters = l.afters;
      befores = l.befores;
      firsts = l.firsts;
      apart = l.apart;
      lasts = λ g. raised R g top more (L g) l.bound h (l.lasts g);
      bound = λ k x e. let b = l.bound k x e in omega arith;
    }

-- a change that leaves the links of the list and where each key stands
pub chain_kept : (ch : Chain) (m n : Slots) (es : List Ends) (top : ℕ) → Chained ch m es top → ((j : ℕ) → next_in ch n j ≡ next_in ch m j) → ((j : ℕ) → previous_in ch n j ≡ previous_in ch m j) → ((j : ℕ) → spots ch n j ≡ spots ch m j) → Chained ch n es top
chain_kept ch m n es top l a b c =
    linked_alike (spots ch m) (spots ch n) (next_in ch m) (previous_in ch m) (next_in ch n) (previous_in ch n) (first_of es) (last_of es) top c l (λ q y e. a q) (λ q y e. b q)

pub core_spot : (ch : Chain) (m : Slots) (k : ℕ) (c : Core) (row : Option ℕ) → cores m k ≡ Some c → row_of ch c.call ≡ row → spots ch m k ≡ option_map (λ g. record { group = g; rank = rank_of ch c.call }) row
core_spot ch m k c row e f = ap (spot_at ch) e ∙ ap (option_map (λ g. record { group = g; rank = rank_of ch c.call })) f

without_none : (R S : ℕ → Option Spot) (k : ℕ) → Without R S k → R k ≡ None → (q : ℕ) → S q ≡ R q
without_none R S k w none q =
    ⊎_elim
    (λ (t : q ≡ k). rw (t, none) (here (S k) refl))
    (λ (t : q ≡ k → ⊥). there (R q) (S q) refl refl t)
    (cases_eq q k)
  where
    here : (o : Option Spot) → S k ≡ o → o ≡ None
    here None e = refl
    here (Some y) e = absurd (w.other k y e refl)

    there : (o p : Option Spot) → R q ≡ o → S q ≡ p → (q ≡ k → ⊥) → p ≡ o
    there None None e f t = refl
    there None (Some y) e f t = absurd (cc (e, w.old q y f))
    there (Some x) p e f t = sym f ∙ w.kept q x e t

-- a call is passed over in its list, if it stands in one
pub chain_passed : (ch : Chain) (m : Slots) (es : List Ends) (top k : ℕ) (c : Core) (row : Option ℕ) (links : Links) (S : ℕ → Option Spot) → Chained ch m es top → cores m k ≡ Some c → row_of ch c.call ≡ row
    → next_in ch m k ≡ next_link ch links → previous_in ch m k ≡ previous_link ch links → Without (spots ch m) S k
    → let n = unlinked_slots ch m row links in let ds = unlinked_rows ch es row links in Linked S (next_in ch n) (previous_in ch n) (first_of ds) (last_of ds) top
chain_passed ch m es top k c None links S l at is an bn w =
    linked_alike (spots ch m) S (next_in ch m) (previous_in ch m) (next_in ch m) (previous_in ch m) (first_of es) (last_of es) top
    (without_none (spots ch m) S k w (core_spot ch m k c None at is)) l (λ q y e. refl) (λ q y e. refl)
chain_passed ch m es top k c (Some i) links S l at is an bn w =
    pass ch m es top k links (record { group = i; rank = rank_of ch c.call }) S l an bn (core_spot ch m k c (Some i) at is) w

-- a call is left out of its list, if it stands in one, and n has it no more
pub chain_left : (ch : Chain) (m n : Slots) (es : List Ends) (top k : ℕ) (c : Core) (row : Option ℕ) (links : Links) → Chained ch m es top → cores m k ≡ Some c → row_of ch c.call ≡ row
    → next_in ch m k ≡ next_link ch links → previous_in ch m k ≡ previous_link ch links
    → ((q : ℕ) → (q ≡ k → ⊥) → (spots ch n q ≡ spots ch m q) × (next_in ch n q ≡ next_in ch (unlinked_slots ch m row links) q) × (previous_in ch n q ≡ previous_in ch (unlinked_slots ch m row links) q)) → spots ch n k ≡ None
    → Chained ch n (unlinked_rows ch es row links) top
chain_left ch m n es top k c row links l at is an bn others gone =
    let m1 = unlinked_slots ch m row links in
    let apart : (q : ℕ) (y : Spot) → spots ch n q ≡ Some y → q ≡ k → ⊥ = λ q y e u. absurd (cc (ap (spots ch n) u ∙ gone, e)) in
    linked_alike (spots ch n) (spots ch n) (next_in ch m1) (previous_in ch m1) (next_in ch n) (previous_in ch n) _ _ top (λ q. refl)
    (chain_passed ch m es top k c row links (spots ch n) l at is an bn
    (record { old = λ q y e. sym (others q (apart q y e)).0 ∙ e; other = apart; kept = λ q y e u. (others q u).0 ∙ e }))
    (λ q y e. (others q (apart q y e)).1) (λ q y e. (others q (apart q y e)).2)

-- a call comes last in its list, if it is to stand in one: R has the others, m has it under k
pub chain_joined : (ch : Chain) (R : ℕ → Option Spot) (A B : ℕ → Option ℕ) (m : Slots) (es : List Ends) (top k : ℕ) (c : Core) (row : Option ℕ) → Linked R A B (first_of es) (last_of es) top
    → cores m k ≡ Some c → row_of ch c.call ≡ row → rank_of ch c.call ≡ top → IfSome row (λ i. i < length es) → R k ≡ None
    → ((q : ℕ) → (q ≡ k → ⊥) → (spots ch m q ≡ R q) × (next_in ch m q ≡ A q) × (previous_in ch m q ≡ B q))
    → Chained ch (appended_slots ch m es row k) (appended_rows es row k) (top + 1)
chain_joined ch R A B m es top k c None l at is rank within was others =
    let nothing : spots ch m k ≡ None = core_spot ch m k c None at is in
    let apart : (q : ℕ) (y : Spot) → spots ch m q ≡ Some y → q ≡ k → ⊥ = λ q y e u. absurd (cc (ap (spots ch m) u ∙ nothing, e)) in
    raised_top (spots ch m) (next_in ch m) (previous_in ch m) (first_of es) (last_of es) top (top + 1) (omega arith)
    (linked_alike R (spots ch m) A B (next_in ch m) (previous_in ch m) (first_of es) (last_of es) top
    (λ q. ⊎_elim (λ (t : q ≡ k). ap (spots ch m) t ∙ nothing ∙ sym was ∙ ap R (sym t)) (λ (t : q ≡ k → ⊥). (others q t).0) (cases_eq q k)) l
    (λ q y e. (others q (apart q y e)).1) (λ q y e. (others q (apart q y e)).2))
chain_joined ch R A B m es top k c (Some i) l at is rank within was others =
    let x : Spot = record { group = i; rank = rank_of ch c.call } in
    let mine : spots ch m k ≡ Some x = core_spot ch m k c (Some i) at is in
    let apart : (q : ℕ) (y : Spot) → R q ≡ Some y → q ≡ k → ⊥ = λ q y e u. absurd (cc (ap R u ∙ was, e)) in
    rw (← rank) (join ch R A B es m top k x l mine (omega (arith, rank)) within
    (λ q y e. let n = apart q y e in let o = others q n in (o.0 ∙ e, n, o.1, o.2))
    (λ q y e n. sym (others q n).0 ∙ e))

-- what a list points to is live
greatest_live : (m : Slots) (R : ℕ → Option Spot) (g high : ℕ) (o : Option ℕ) → IsGreatest R g high o → ((q : ℕ) (y : Spot) → R q ≡ Some y → IsSome (get m q)) → IfSome o (λ j. IsSome (get m j))
greatest_live m R g high None n h = tt
greatest_live m R g high (Some a) n h = h a n.spot n.is

least_live : (m : Slots) (R : ℕ → Option Spot) (g low : ℕ) (o : Option ℕ) → IsLeast R g low o → ((q : ℕ) (y : Spot) → R q ≡ Some y → IsSome (get m q)) → IfSome o (λ j. IsSome (get m j))
least_live m R g low None n h = tt
least_live m R g low (Some a) n h = h a n.spot n.is

-- the neighbours of a call in its list, in slots n that have what m has
pub between : (ch : Chain) (m n : Slots) (es : List Ends) (top k : ℕ) (c : Core) (row : Option ℕ) (links : Links) → Chained ch m es top → cores m k ≡ Some c → row_of ch c.call ≡ row
    → next_in ch m k ≡ next_link ch links → previous_in ch m k ≡ previous_link ch links → ((q : ℕ) → cores n q ≡ cores m q) → IsBetween ch n es row links
between ch m n es top k c None links l at is an bn same = tt
between ch m n es top k c (Some i) links l at is an bn same =
    let x : Spot = record { group = i; rank = rank_of ch c.call } in
    let mine : spots ch m k ≡ Some x = core_spot ch m k c (Some i) at is in
    let live : (q : ℕ) (y : Spot) → spots ch m q ≡ Some y → IsSome (get n q) = λ q y e. live_cores n m q (same q) (live_spot ch m q y e) in (
      within_ends (spots ch m) (next_in ch m) (previous_in ch m) es (last_of es) top k x l mine,
      rw bn at (greatest_live n (spots ch m) i (rank_of ch c.call) (previous_in ch m k) (l.befores k x mine) live),
      rw an at (least_live n (spots ch m) i (rank_of ch c.call + 1) (next_in ch m k) (l.afters k x mine) live),
    )

-- the last of a list is live
pub behind : (R : ℕ → Option Spot) (A B : ℕ → Option ℕ) (n : Slots) (es : List Ends) (top k : ℕ) (row : Option ℕ) → Linked R A B (first_of es) (last_of es) top → ((q : ℕ) (y : Spot) → R q ≡ Some y → IsSome (get n q))
    → IsSome (get n k) → IfSome row (λ i. i < length es) → IsBehind n es row k
behind R A B n es top k None l live here within = tt
behind R A B n es top k (Some i) l live here within = (within, here, greatest_live n R i top (last_of es i) (l.lasts i) live)
