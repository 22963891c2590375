-- What the ends and the links of a list say of the live calls by number.
use Rattle.std.proofs.Common.{◌≡◌, ℕ, ◌+◌, ◌<◌, ◌≤◌, Bool, true, false, ◌==◌, List, Option, None, Some, IsSome, IfSome, option_map, refl, sym, ap, ◌∙◌, arith}
use Rattle.std.specs.FinMap.{get, entries, entries_sorted, get-entries}
use Rattle.std.proofs.lemmas.Bool.Decides.{nat_tests}
use Rattle.std.proofs.lemmas.Option.{same_Some}
use Rattle.std.proofs.lemmas.Bool.{eqb-true}
use Rattle.ipc_ids.specs.declared.numbers.TaskNo.{TaskNo}
use Rattle.call_slab.specs.declared.call.Call.{Call}
use Rattle.call_slab.specs.declared.call.Place.{Place}
use Rattle.call_slab.specs.declared.call.Place.TheVariants.{Incoming, Dispatched, Answers}
use Rattle.call_slab.specs.Calls.{CallsState}
use Rattle.answerbox.specs.declared.chains.Ends.{Ends}
use Rattle.answerbox.specs.declared.chains.Chain.{Chain}
use Rattle.answerbox.specs.declared.chains.Chain.TheVariants.{Queue, Own}
use Rattle.answerbox.specs.Order.{Spot, Least, IsLeast}
use Rattle.answerbox.proofs.Counts.{count-alike}
use Rattle.answerbox.proofs.Passing.{live_spot}
use Rattle.answerbox.specs.Calls.{count_of, next_of, same_place, is_caller, front, first_from}
use Rattle.answerbox.specs.Chain.{Slots, Core, cores, place_index, row_of, rank_of, spot_of, spot_at, spots, next_in, first_of, Chained}
use Rattle.answerbox.specs.Stored.{is_row, stands_in, calls_in, Named, Stored}
use Rattle.answerbox.proofs.Callers.{first_is, first_is_none}
use Rattle.answerbox.proofs.Fronts.{front_live, front-is_front, no_front-has_no_calls}
use Rattle.answerbox.proofs.Chain.{key_is}
use Rattle.answerbox.proofs.Names.{under, look}
use Rattle.answerbox.proofs.Keeping.{table_of}

-- a live call has a key
pub key_of_call : (a : CallsState) (r : ℕ) (d : Call) → Named (cores a.slots) (get a.keys) → get (calls_in a) r ≡ Some d → (j : ℕ) × (get a.keys r ≡ Some j) × (c : Core) × (cores a.slots j ≡ Some c) × (c.call ≡ d)
key_of_call a r d h e = by (get a.keys r) refl (sym (look a r h) ∙ e)
  where
    by : (o : Option ℕ) → get a.keys r ≡ o → under (cores a.slots) o ≡ Some d → (j : ℕ) × (get a.keys r ≡ Some j) × (c : Core) × (cores a.slots j ≡ Some c) × (c.call ≡ d)
    by None f g = absurd (cc g)
    by (Some j) f g = let own = h.names r j f in (j, f, own.0, own.1, same_Some own.0.call d (sym (ap (option_map (λ (c : Core). c.call)) own.1) ∙ g))

-- what stands under a key is live
pub call_of_key : (a : CallsState) (k : ℕ) (c : Core) → Named (cores a.slots) (get a.keys) → cores a.slots k ≡ Some c → get (calls_in a) c.call.number.0 ≡ Some c.call
call_of_key a k c h e = let had = h.known k c e in look a c.call.number.0 h ∙ ap (under (cores a.slots)) had.0 ∙ ap (option_map (λ (x : Core). x.call)) e

-- where a live call stands
pub spot_of_call : (ch : Chain) (a : CallsState) (r g : ℕ) (d : Call) → Named (cores a.slots) (get a.keys) → get (calls_in a) r ≡ Some d → row_of ch d ≡ Some g → (j : ℕ) × (c : Core) × (cores a.slots j ≡ Some c) × (c.call ≡ d) × (spots ch a.slots j ≡ Some (record { group = g; rank = rank_of ch d }))
spot_of_call ch a r g d h e row =
    let x = key_of_call a r d h e in
    (x.0, x.2, x.3, x.4, ap (spot_at ch) x.3 ∙ ap (spot_of ch) x.4 ∙ ap (option_map (λ (i : ℕ). record { group = i; rank = rank_of ch d })) row)

-- the call that stands at a spot
pub call_of_spot : (ch : Chain) (m : Slots) (k : ℕ) (x : Spot) → spots ch m k ≡ Some x → (c : Core) × (cores m k ≡ Some c) × (row_of ch c.call ≡ Some x.group) × (rank_of ch c.call ≡ x.rank)
call_of_spot ch m k x e = by (cores m k) refl e
  where
    with : (c : Core) (o : Option ℕ) → row_of ch c.call ≡ o → option_map (λ g. record { group = g; rank = rank_of ch c.call }) o ≡ Some x → (row_of ch c.call ≡ Some x.group) × (rank_of ch c.call ≡ x.rank)
    with c None f g = absurd (cc g)
    with c (Some i) f g =
        let s : ◌≡◌ {A = Spot} (record { group = i; rank = rank_of ch c.call }) x = same_Some (record { group = i; rank = rank_of ch c.call }) x g in
        (f ∙ ap (λ (z : Spot). Some z.group) s, ap (λ (z : Spot). z.rank) s)

    by : (o : Option Core) → cores m k ≡ o → spot_at ch o ≡ Some x → (c : Core) × (cores m k ≡ Some c) × (row_of ch c.call ≡ Some x.group) × (rank_of ch c.call ≡ x.rank)
    by None f g = absurd (cc g)
    by (Some c) f g = let w = with c (row_of ch c.call) refl g in (c, f, w.0, w.1)

-- the least key of a list from a rank on, as a live call
pub record IsFirst (ch : Chain) (a : CallsState) (g low k : ℕ) : Type 0 where
  pub own : Core
  pub at : cores a.slots k ≡ Some own
  pub live : get (calls_in a) own.call.number.0 ≡ Some own.call
  pub row : row_of ch own.call ≡ Some g
  pub from : low ≤ rank_of ch own.call
  pub least : (r : ℕ) (d : Call) → get (calls_in a) r ≡ Some d → row_of ch d ≡ Some g → low ≤ rank_of ch d → rank_of ch own.call ≤ rank_of ch d
  pub one : (r : ℕ) (d : Call) → get (calls_in a) r ≡ Some d → row_of ch d ≡ Some g → rank_of ch d ≡ rank_of ch own.call → d ≡ own.call

pub first_found : (ch : Chain) (a : CallsState) (es : List Ends) (top g low k : ℕ) → Named (cores a.slots) (get a.keys) → Chained ch a.slots es top → Least (spots ch a.slots) g low k → IsFirst ch a g low k
first_found ch a es top g low k h l m =
    let c = call_of_spot ch a.slots k m.spot m.is in
    let from = m.from in
    let rank = c.3 in
    record {
      own = c.0;
      at = c.1;
      live = call_of_key a k c.0 h c.1;
      row = c.2 ∙ ap Some m.here;
      from = omega arith;
      least = λ r d e row le.
          let x = spot_of_call ch a r g d h e row in
          let b = m.least x.0 (record { group = g; rank = rank_of ch d }) x.4 refl le in omega arith;
      one = λ r d e row same.
          let x = spot_of_call ch a r g d h e row in
          let j : x.0 ≡ k = l.apart x.0 k (record { group = g; rank = rank_of ch d }) m.spot x.4 m.is (sym m.here) (same ∙ rank) in
          let core : x.1 ≡ c.0 = same_Some x.1 c.0 (sym x.2 ∙ ap (cores a.slots) j ∙ c.1) in
          sym x.3 ∙ ap (λ (y : Core). y.call) core;
    }

pub none_found : (ch : Chain) (a : CallsState) (g low r : ℕ) (d : Call) → Named (cores a.slots) (get a.keys) → IsLeast (spots ch a.slots) g low None → get (calls_in a) r ≡ Some d → row_of ch d ≡ Some g → rank_of ch d < low
none_found ch a g low r d h l e row = let x = spot_of_call ch a r g d h e row in l x.0 (record { group = g; rank = rank_of ch d }) x.4 refl

place_same : (p r : Place) → same_place p r ≡ true → place_index p ≡ place_index r
place_same (Incoming t) (Incoming u) e = grind (arith, nat_tests)
place_same (Incoming t) (Dispatched u) e = cc
place_same (Incoming t) (Answers u) e = cc
place_same (Dispatched t) (Incoming u) e = cc
place_same (Dispatched t) (Dispatched u) e = grind (arith, nat_tests)
place_same (Dispatched t) (Answers u) e = cc
place_same (Answers t) (Incoming u) e = cc
place_same (Answers t) (Dispatched u) e = cc
place_same (Answers t) (Answers u) e = grind (arith, nat_tests)

place_back : (p r : Place) → place_index p ≡ place_index r → same_place p r ≡ true
place_back (Incoming t) (Incoming u) e = grind (arith, nat_tests)
place_back (Incoming t) (Dispatched u) e = absurd (omega arith)
place_back (Incoming t) (Answers u) e = absurd (omega arith)
place_back (Dispatched t) (Incoming u) e = absurd (omega arith)
place_back (Dispatched t) (Dispatched u) e = grind (arith, nat_tests)
place_back (Dispatched t) (Answers u) e = absurd (omega arith)
place_back (Answers t) (Incoming u) e = absurd (omega arith)
place_back (Answers t) (Dispatched u) e = absurd (omega arith)
place_back (Answers t) (Answers u) e = grind (arith, nat_tests)

by_both : (a b : Bool) → (a ≡ true → b ≡ true) → (b ≡ true → a ≡ true) → a ≡ b
by_both true b f g = sym (f refl)
by_both false true f g = g refl
by_both false false f g = refl

-- two places are one where their queues are
pub place_test : (p r : Place) → same_place p r ≡ (place_index p == place_index r)
place_test p r = by_both _ _ (λ e. key_is _ _ (sym (place_same p r e))) (λ e. place_back p r (eqb-true _ _ e))

-- `front`: the first of the queue
pub front_empty : (a : CallsState) (queues owns : List Ends) (number stamp : ℕ) (place : Place) → Stored a queues owns number stamp → first_of queues (place_index place) ≡ None → front (table_of a number stamp) place ≡ None
front_empty a queues owns number stamp place q e = by (front (table_of a number stamp) place) refl
  where
    by : (o : Option Call) → front (table_of a number stamp) place ≡ o → o ≡ None
    by None f = refl
    by (Some d) f =
        let live = front_live (table_of a number stamp) place d f in
        let n = none_found Queue a (place_index place) 0 live.0 d q.named (rw e at (q.queued.firsts (place_index place))) live.1 (ap Some (place_same d.place place live.2)) in
        absurd (omega arith)

pub front_found : (a : CallsState) (queues owns : List Ends) (number stamp k : ℕ) (place : Place) → Stored a queues owns number stamp → first_of queues (place_index place) ≡ Some k
    → (c : Core) × (cores a.slots k ≡ Some c) × (get (calls_in a) c.call.number.0 ≡ Some c.call) × (front (table_of a number stamp) place ≡ Some c.call)
front_found a queues owns number stamp k place q e =
    let t = table_of a number stamp in
    let m : Least (spots Queue a.slots) (place_index place) 0 k = rw e at (q.queued.firsts (place_index place)) in
    let s = first_found Queue a queues stamp (place_index place) 0 k q.named q.queued m in
    (s.own, s.at, s.live, by s (front t place) refl)
  where
    by : (s : IsFirst Queue a (place_index place) 0 k) (o : Option Call) → front (table_of a number stamp) place ≡ o → o ≡ Some s.own.call
    by s None f =
        let none = no_front-has_no_calls (table_of a number stamp) place f s.own.call.number.0 s.own.call s.live in
        absurd (cc (none, place_back s.own.call.place place (same_Some _ _ s.row)))
    by s (Some d) f =
        let live = front_live (table_of a number stamp) place d f in
        let row : row_of Queue d ≡ Some (place_index place) = ap Some (place_same d.place place live.2) in
        let first = front-is_front (table_of a number stamp) place live.0 d f live.1 in
        let le : d.stamp ≤ s.own.call.stamp = first.least d s.own.call.number.0 s.own.call live.1 s.live (place_back s.own.call.place place (same_Some _ _ s.row)) in
        let ge : s.own.call.stamp ≤ d.stamp = s.least live.0 d live.1 row (omega arith) in
        ap Some (s.one live.0 d live.1 row (omega arith))

-- a call of a caller
caller_row : (t : TaskNo) (d : Call) → is_caller t d.caller ≡ true → row_of Own d ≡ Some t.0
caller_row t d e = by d.caller e
  where
    by : (o : Option TaskNo) → is_caller t o ≡ true → option_map (λ u. u.0) o ≡ Some t.0
    by None e = absurd (cc e)
    by (Some u) e = ap Some (eqb-true u.0 t.0 e)

row_caller : (t : TaskNo) (d : Call) → row_of Own d ≡ Some t.0 → is_caller t d.caller ≡ true
row_caller t d e = by d.caller e
  where
    by : (o : Option TaskNo) → option_map (λ u. u.0) o ≡ Some t.0 → is_caller t o ≡ true
    by None e = absurd (cc e)
    by (Some u) e = key_is u.0 t.0 (sym (same_Some u.0 t.0 e))

-- a live call's number
pub numbered : (a : CallsState) (r : ℕ) (d : Call) → Named (cores a.slots) (get a.keys) → get (calls_in a) r ≡ Some d → d.number.0 ≡ r
numbered a r d h e =
    let x = key_of_call a r d h e in
    let own = h.names r x.0 x.1 in
    let same : own.0 ≡ x.2 = same_Some own.0 x.2 (sym own.1 ∙ x.3) in
    ap (λ (y : Call). y.number.0) (sym x.4) ∙ ap (λ (y : Core). y.call.number.0) (sym same) ∙ own.2

-- the first of a caller's calls from a number on
pub caller_empty : (a : CallsState) (t : TaskNo) (low : ℕ) → Named (cores a.slots) (get a.keys) → IsLeast (spots Own a.slots) t.0 low None → first_from t low (entries (calls_in a)) ≡ None
caller_empty a t low h l =
    first_is_none t low (entries (calls_in a)) (entries_sorted (calls_in a)) (λ k d f le made.
    let live = get-entries (calls_in a) k ∙ f in
    let lt = none_found Own a t.0 low k d h l live (caller_row t d made) in
    let num = numbered a k d h live in
    absurd (omega arith))

pub caller_found : (a : CallsState) (owns : List Ends) (top k : ℕ) (t : TaskNo) (low : ℕ) → Named (cores a.slots) (get a.keys) → Chained Own a.slots owns top → Least (spots Own a.slots) t.0 low k
    → (c : Core) × (cores a.slots k ≡ Some c) × (get (calls_in a) c.call.number.0 ≡ Some c.call) × (first_from t low (entries (calls_in a)) ≡ Some c.call)
caller_found a owns top k t low h l m =
    let s = first_found Own a owns top t.0 low k h l m in (
      s.own,
      s.at,
      s.live,
      first_is t low (entries (calls_in a)) s.own.call.number.0 s.own.call (entries_sorted (calls_in a)) (sym (get-entries (calls_in a) s.own.call.number.0) ∙ s.live) (row_caller t s.own.call s.row) s.from
          (λ j d f made le.
          let live = get-entries (calls_in a) j ∙ f in
          let num = numbered a j d h live in
          let b = s.least j d live (caller_row t d made) (omega arith) in
          omega arith),
    )

-- the next call of the caller of a live call
module _ (a : CallsState) (queues owns : List Ends) (number stamp n k : ℕ) (q : Stored a queues owns number stamp) (at : get a.keys n ≡ Some k) (has : IfSome (get (calls_in a) n) (λ c. IsSome c.caller)) where
  caller_of : (t : TaskNo) × (get (calls_in a) n ≡ Some (q.named.names n k at).0.call) × ((q.named.names n k at).0.call.caller ≡ Some t)
  caller_of =
      let own = q.named.names n k at in
      let is : get (calls_in a) n ≡ Some own.0.call = look a n q.named ∙ ap (under (cores a.slots)) at ∙ ap (option_map (λ (c : Core). c.call)) own.1 in
      let t = some_is own.0.call.caller (rw is at has) in
      (t.0, is, t.1)
    where
      some_is : (o : Option TaskNo) → IsSome o → (t : TaskNo) × (o ≡ Some t)
      some_is None h = absurd (cc h)
      some_is (Some t) h = (t, refl)

  after_of : IsLeast (spots Own a.slots) caller_of.0.0 (n + 1) (next_in Own a.slots k)
  after_of =
      let own = q.named.names n k at in
      let mine : spots Own a.slots k ≡ Some (record { group = caller_of.0.0; rank = own.0.call.number.0 }) =
      ap (spot_at Own) own.1 ∙ ap (λ (o : Option TaskNo). option_map (λ (g : ℕ). record { group = g; rank = own.0.call.number.0 }) (option_map (λ (t : TaskNo). t.0) o)) caller_of.2 in
      rw own.2 at (q.listed.afters k (record { group = caller_of.0.0; rank = own.0.call.number.0 }) mine)

  next_is : next_of (table_of a number stamp) n ≡ first_from caller_of.0 (n + 1) (entries (calls_in a))
  next_is = rw (caller_of.1, caller_of.2) refl

  pub next_live : (j : ℕ) → next_in Own a.slots k ≡ Some j → IsSome (get a.slots j)
  next_live j e = let m : Least (spots Own a.slots) caller_of.0.0 (n + 1) j = rw e at after_of in live_spot Own a.slots j m.spot m.is

  pub next_empty : next_in Own a.slots k ≡ None → next_of (table_of a number stamp) n ≡ None
  next_empty e = next_is ∙ caller_empty a caller_of.0 (n + 1) q.named (rw e at after_of)

  pub next_found : (j : ℕ) → next_in Own a.slots k ≡ Some j → (c : Core) × (cores a.slots j ≡ Some c) × (get (calls_in a) c.call.number.0 ≡ Some c.call) × (next_of (table_of a number stamp) n ≡ Some c.call)
  next_found j e =
      let m : Least (spots Own a.slots) caller_of.0.0 (n + 1) j = rw e at after_of in
      let f = caller_found a owns number j caller_of.0 (n + 1) q.named q.listed m in
      (f.0, f.1, f.2, next_is ∙ f.3)

-- the counts of a place and of a caller
pub count_place : (a : CallsState) (place : Place) → count_of (stands_in Queue (place_index place)) (entries (calls_in a)) ≡ count_of (λ c. same_place c.place place) (entries (calls_in a))
count_place a place = count-alike (stands_in Queue (place_index place)) (λ c. same_place c.place place) (calls_in a) (λ k d e. sym (place_test d.place place))

pub count_caller : (a : CallsState) (t : TaskNo) → count_of (stands_in Own t.0) (entries (calls_in a)) ≡ count_of (λ c. is_caller t c.caller) (entries (calls_in a))
count_caller a t = count-alike (stands_in Own t.0) (λ c. is_caller t c.caller) (calls_in a) (λ k d e. by d.caller)
  where
    by : (o : Option TaskNo) → is_row (option_map (λ u. u.0) o) t.0 ≡ is_caller t o
    by None = refl
    by (Some u) = refl
