-- The calls by number, through the keys.
use Rattle.std.proofs.Common.{◌≡◌, ℕ, ◌<◌, true, false, cond, List, [], ◌∷◌, Option, None, Some, IsSome, option_map, refl, sym, ap, ◌∙◌, arith, ⊎_elim, T}
use Rattle.std.specs.Ordering.{nat_cmp, eq_by_cmp, is_eq}
use Rattle.std.specs.Cmp.{nat_cmp_total}
use Rattle.std.specs.Option.{option_map_or}
use Rattle.std.specs.FinMap.{find, get, insert, remove, entries, entries_sorted, is_sorted, get-insert, get-remove, get-from_entries, get-entries, same_map, nat_cmp-IsAntisymmetric}
use Rattle.std.specs.FinMap.Entries.{below_all}
use Rattle.std.proofs.lemmas.Bool.{cases_eq}
use Rattle.std.proofs.lemmas.Option.{same_Some}
use Rattle.ipc_ids.proofs.Common.{keys_of_same}
use Rattle.call_slab.specs.declared.call.Call.{Call}
use Rattle.call_slab.specs.declared.slots.Slot.{Slot}
use Rattle.call_slab.specs.Calls.{CallsState}
use Rattle.call_slab.proofs.Live.{tie, past_tie}
use Rattle.answerbox.specs.Chain.{Slots, Core, cores}
use Rattle.answerbox.specs.Stored.{named, calls_in, Named}
use Rattle.answerbox.proofs.Chain.{other_key}
use Rattle.answerbox.proofs.Fronts.{first, second, key_same, lt_of}
use Rattle.answerbox.proofs.Moving.{core_is}

-- the call under the key, if any
abbrev pub under : (ℕ → Option Core) → Option ℕ → Option Call
under C None = None
under C (Some k) = option_map (λ c. c.call) (C k)

module _ {X : Type 0} where
  greater : (n : ℕ) (es : List (ℕ × X)) (k : ℕ) (d : X) → T (below_all nat_cmp n es) → find nat_cmp k es ≡ Some d → n < k
  greater n [] k d b f = absurd (cc f)
  greater n (e ∷ es) k d b f =
      let lt : n < e.0 = lt_of n e.0 (first _ _ b) in
      elim (is_eq (nat_cmp k e.0)) as (λ t. is_eq (nat_cmp k e.0) ≡ t → cond t (Some e.1) (find nat_cmp k es) ≡ Some d → n < k) [
        | true ↦ λ t g. let same : e.0 ≡ k = key_same k e.0 t in omega arith
        | false ↦ λ t g. greater n es k d (second _ _ b) g
      ] refl f

find-named : (es : List (ℕ × ℕ)) (m : Slots) (q : ℕ) → T (is_sorted nat_cmp es) → ((q k : ℕ) → find nat_cmp q es ≡ Some k → IsSome (get m k)) → find nat_cmp q (named es m) ≡ under (cores m) (find nat_cmp q es)
find-named [] m q s h = refl
find-named (e ∷ es) m q s h =
    let rest = find-named es m q (second _ _ s) (λ r k f. h r k (rw (past_tie r e.0 (greater e.0 es r k (first _ _ s) f)) f)) in
    by (get m e.1) refl (h e.0 e.1 (rw (tie e.0) refl)) rest
  where
    by : (o : Option Slot) → get m e.1 ≡ o → IsSome o → find nat_cmp q (named es m) ≡ under (cores m) (find nat_cmp q es) → find nat_cmp q (option_map_or (λ s. (e.0, s.call) ∷ named es m) o (named es m)) ≡ under (cores m) (cond (is_eq (nat_cmp q e.0)) (Some e.1) (find nat_cmp q es))
    by None g live rest = absurd (cc live)
    by (Some s) g live rest =
        elim (is_eq (nat_cmp q e.0)) as (λ b. cond b (Some s.call) (find nat_cmp q (named es m)) ≡ under (cores m) (cond b (Some e.1) (find nat_cmp q es))) [
          | true ↦ rw g refl
          | false ↦ rest
        ]

-- what a number leads to
pub look : (a : CallsState) (q : ℕ) → Named (cores a.slots) (get a.keys) → get (calls_in a) q ≡ under (cores a.slots) (get a.keys q)
look a q n =
    get-from_entries nat_cmp_total (named (entries a.keys) a.slots) q
    ∙ find-named (entries a.keys) a.slots q (entries_sorted a.keys) (λ r k f. let c = n.names r k (get-entries a.keys r ∙ f) in let s = core_is (get a.slots k) c.0 c.1 in rw s.1 refl)
    ∙ ap (under (cores a.slots)) (sym (get-entries a.keys q))

-- what has a key is live
pub key_lives : (a : CallsState) (n k : ℕ) → Named (cores a.slots) (get a.keys) → get a.keys n ≡ Some k → IsSome (get (calls_in a) n)
key_lives a n k names at = let c = names.names n k at in rw (look a n names, at, c.1) refl

pub live_key : (a : CallsState) (q : ℕ) → Named (cores a.slots) (get a.keys) → IsSome (get (calls_in a) q) → IsSome (get a.keys q)
live_key a q n h = by (get a.keys q) (rw (look a q n) at h)
  where
    by : (o : Option ℕ) → IsSome (under (cores a.slots) o) → IsSome o
    by None h = h
    by (Some k) h = refl

module _ (C D : ℕ → Option Core) (K M : ℕ → Option ℕ) (n k : ℕ)
    (keys : (q : ℕ) → (q ≡ n → ⊥) → M q ≡ K q) (slots : (j : ℕ) → (j ≡ k → ⊥) → D j ≡ C j) where
  pub named_put : (c : Core) → Named C K → M n ≡ Some k → D k ≡ Some c → c.call.number.0 ≡ n → c.name ≡ n
      → ((q : ℕ) → K q ≡ Some k → q ≡ n) → ((j : ℕ) → K n ≡ Some j → j ≡ k) → Named D M
  named_put c a mk dk num name one old =
      record {
        names = λ q j f. ⊎_elim
            (λ (t : q ≡ n).
            let same : k ≡ j = same_Some k j (sym mk ∙ ap M (sym t) ∙ f) in
            (c, ap D (sym same) ∙ dk, num ∙ sym t))
            (λ (t : q ≡ n → ⊥).
            let g : K q ≡ Some j = sym (keys q t) ∙ f in
            let p = a.names q j g in
            (p.0, slots j (λ u. t (one q (g ∙ ap Some u))) ∙ p.1, p.2))
            (cases_eq q n);
        known = λ j d f. ⊎_elim
            (λ (t : j ≡ k).
            let same : c ≡ d = same_Some c d (sym dk ∙ ap D (sym t) ∙ f) in
            rw (← same, t) (ap M num ∙ mk, name ∙ sym num))
            (λ (t : j ≡ k → ⊥).
            let g : C j ≡ Some d = sym (slots j t) ∙ f in
            let p = a.known j d g in
            let r : d.call.number.0 ≡ n → ⊥ = λ u. t (old j (ap K (sym u) ∙ p.0)) in
            (keys d.call.number.0 r ∙ p.0, p.1))
            (cases_eq j k);
      }

  pub named_out : Named C K → K n ≡ Some k → M n ≡ None → D k ≡ None → Named D M
  named_out a kn mn dk =
      let own = a.names n k kn in
      record {
        names = λ q j f.
            let t : q ≡ n → ⊥ = λ u. absurd (cc (ap M u ∙ mn, f)) in
            let g : K q ≡ Some j = sym (keys q t) ∙ f in
            let p = a.names q j g in (
              p.0,
              slots j (λ u.
                  let same : p.0 ≡ own.0 = same_Some p.0 own.0 (sym p.1 ∙ ap C u ∙ own.1) in
                  t (sym p.2 ∙ ap (λ (x : Core). x.call.number.0) same ∙ own.2)) ∙ p.1,
              p.2,
            );
        known = λ j d f.
            let t : j ≡ k → ⊥ = λ u. absurd (cc (ap D u ∙ dk, f)) in
            let g : C j ≡ Some d = sym (slots j t) ∙ f in
            let p = a.known j d g in
            let r : d.call.number.0 ≡ n → ⊥ = λ u. t (same_Some j k (sym p.0 ∙ ap K u ∙ kn)) in
            (keys d.call.number.0 r ∙ p.0, p.1);
      }

  under_other : (o : Option ℕ) → (o ≡ Some k → ⊥) → under D o ≡ under C o
  under_other None h = refl
  under_other (Some j) h = ap (option_map (λ (c : Core). c.call)) (slots j (λ t. h (ap Some t)))

-- a call is put under its number
pub calls_put : (a b : CallsState) (n k : ℕ) (c : Core) → Named (cores a.slots) (get a.keys) → Named (cores b.slots) (get b.keys)
    → ((q : ℕ) → (q ≡ n → ⊥) → get b.keys q ≡ get a.keys q) → ((j : ℕ) → (j ≡ k → ⊥) → cores b.slots j ≡ cores a.slots j)
    → get b.keys n ≡ Some k → cores b.slots k ≡ Some c → ((q : ℕ) → get a.keys q ≡ Some k → q ≡ n) → calls_in b ≡ insert (calls_in a) n c.call
calls_put a b n k c ha hb keys slots bn bk one =
    same_map nat_cmp_total nat_cmp-IsAntisymmetric _ _ (λ q.
    look b q hb ∙ ⊎_elim
    (λ (t : q ≡ n). rw (t, bn, bk, keys_of_same n n refl) refl)
    (λ (t : q ≡ n → ⊥). rw (other_key q n t, keys q t) (under_other (cores a.slots) (cores b.slots) (get a.keys) (get b.keys) n k keys slots (get a.keys q) (λ u. t (one q u))))
    (cases_eq q n)
    ∙ sym (get-insert nat_cmp_total (calls_in a) n c.call q ∙ ap (cond (eq_by_cmp nat_cmp q n) (Some c.call)) (look a q ha)))

-- a call is taken out
pub calls_out : (a b : CallsState) (n k : ℕ) → Named (cores a.slots) (get a.keys) → Named (cores b.slots) (get b.keys)
    → ((q : ℕ) → (q ≡ n → ⊥) → get b.keys q ≡ get a.keys q) → ((j : ℕ) → (j ≡ k → ⊥) → cores b.slots j ≡ cores a.slots j)
    → get b.keys n ≡ None → ((q : ℕ) → get a.keys q ≡ Some k → q ≡ n) → calls_in b ≡ remove (calls_in a) n
calls_out a b n k ha hb keys slots bn one =
    same_map nat_cmp_total nat_cmp-IsAntisymmetric _ _ (λ q.
    look b q hb ∙ ⊎_elim
    (λ (t : q ≡ n). rw (t, bn, keys_of_same n n refl) refl)
    (λ (t : q ≡ n → ⊥). rw (other_key q n t, keys q t) (under_other (cores a.slots) (cores b.slots) (get a.keys) (get b.keys) n k keys slots (get a.keys q) (λ u. t (one q u))))
    (cases_eq q n)
    ∙ sym (get-remove nat_cmp_total (calls_in a) n q ∙ ap (cond (eq_by_cmp nat_cmp q n) None) (look a q ha)))

-- a key has one number
pub one_number : (a : CallsState) (n k q : ℕ) → Named (cores a.slots) (get a.keys) → get a.keys n ≡ Some k → get a.keys q ≡ Some k → q ≡ n
one_number a n k q h e f =
    let x = h.names n k e in
    let y = h.names q k f in
    let same : y.0 ≡ x.0 = same_Some y.0 x.0 (sym y.1 ∙ x.1) in
    sym y.2 ∙ ap (λ (c : Core). c.call.number.0) same ∙ x.2
