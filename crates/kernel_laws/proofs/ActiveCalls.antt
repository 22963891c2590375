-- The active calls of a phone are those that the definitions count.
use Rattle.std.proofs.Common.{◌≡◌, ℕ, zero, suc, ◌+◌, ◌≤◌, T, Bool, true, false, cond, ◌&&◌, List, [], ◌∷◌, length, Some, refl, ap, sym, subst, ◌∙◌, arith}
use Rattle.std.specs.Prelude.{if◌then◌else◌, slice_get, remove}
use Rattle.std.specs.Ordering.{nat_cmp, is_eq}
use Rattle.std.specs.FinMap.{find, is_sorted, entries, entries_sorted, get-entries}
use Rattle.std.proofs.lemmas.Bool.{eq-eqb, and_parts}
use Rattle.kernel_core.proofs.KilledHistories.{caller_is}
use Rattle.ipc_ids.specs.declared.numbers.Label.{Label}
use Rattle.ipc_ids.specs.declared.numbers.TaskNo.{TaskNo}
use Rattle.ipc_ids.specs.Labels.{same_label}
use Rattle.ipc_ids.proofs.Common.{own_label, label_is}
use Rattle.call_slab.specs.declared.call.Call.{Call}
use Rattle.call_slab.proofs.Live.{past_tie, tie}
use Rattle.answerbox.specs.Calls.{CallTable, is_caller, is_active_on, count_of, active_calls}
use Rattle.answerbox.proofs.Fronts.{first, second, greater, key_same}
use Rattle.switchboard.specs.State.{label_of}
use Rattle.kernel_laws.specs.ActiveCalls.{IsOneOf, AreTheActive, HasActive}

-- ---- two lists of the same numbers, each once, are as long as each other

left_in : (ms : List ℕ) (i n k : ℕ) → slice_get ms i ≡ Some n → (k ≡ n → ⊥) → IsOneOf k ms → IsOneOf k (remove ms i)
left_in [] i n k at other h = absurd (let e = h.1 in cc)
left_in (m ∷ ms) zero n k at other (zero, h) =
    let one : m ≡ n = cc at in
    let two : m ≡ k = cc h in
    absurd (other (sym two ∙ one))
left_in (m ∷ ms) zero n k at other (suc j, h) = (j, h)
left_in (m ∷ ms) (suc i) n k at other (zero, h) = (zero, h)
left_in (m ∷ ms) (suc i) n k at other (suc j, h) = let r = left_in ms i n k at other (j, h) in (suc r.0, r.1)

one_less : (ms : List ℕ) (i n : ℕ) → slice_get ms i ≡ Some n → length (remove ms i) + 1 ≡ length ms
one_less [] i n at = absurd (cc at)
one_less (m ∷ ms) zero n at = omega arith
one_less (m ∷ ms) (suc i) n at = let h = one_less ms i n at in omega (arith, h)

no_more : (ns ms : List ℕ) → ((i j n : ℕ) → slice_get ns i ≡ Some n → slice_get ns j ≡ Some n → i ≡ j) →
    ((n : ℕ) → IsOneOf n ns → IsOneOf n ms) → length ns ≤ length ms
no_more [] ms once sub = omega arith
no_more (n ∷ ns) ms once sub =
    let at : IsOneOf n ms = sub n (0, refl) in
    let less : length (remove ms at.0) + 1 ≡ length ms = one_less ms at.0 n at.1 in
    let rest : length ns ≤ length (remove ms at.0) =
    no_more ns (remove ms at.0) (λ i j m a b. let e = once (suc i) (suc j) m a b in omega (arith, e))
    (λ m h. left_in ms at.0 n m at.1 (λ e. let f = once 0 (suc h.0) n refl (h.1 ∙ ap Some e) in omega (arith, f)) (sub m (suc h.0, h.1))) in
    omega (arith, less, rest)

-- ---- the numbers of the calls that pass a test

module _ (test : Call → Bool) where
  abbrev numbers : List (ℕ × Call) → List ℕ
  numbers [] = []
  numbers (e ∷ es) = if test e.1 then e.0 ∷ numbers es else numbers es

  as_many : (es : List (ℕ × Call)) → count_of test es ≡ length (numbers es)
  as_many [] = refl
  as_many (e ∷ es) = by (test e.1) (as_many es) where
    by : (b : Bool) → count_of test es ≡ length (numbers es) → cond b 1 0 + count_of test es ≡ length (if b then e.0 ∷ numbers es else numbers es)
    by true h = omega (arith, h)
    by false h = omega (arith, h)

  -- the call under a number, which passes
  abbrev Passes : List (ℕ × Call) → ℕ → Type 0
  Passes es n = (c : Call) × (find nat_cmp n es ≡ Some c) × (test c ≡ true)

  behind : (e : ℕ × Call) (es : List (ℕ × Call)) (n : ℕ) → T (is_sorted nat_cmp (e ∷ es)) → Passes es n → Passes (e ∷ es) n
  behind e es n s r = (r.0, rw (past_tie n e.0 (greater e.0 es n r.0 (first _ _ s) r.1)) r.1, r.2)

  listed : (es : List (ℕ × Call)) → T (is_sorted nat_cmp es) → (i n : ℕ) → slice_get (numbers es) i ≡ Some n → Passes es n
  listed [] s i n h = absurd (cc h)
  listed (e ∷ es) s i n h = by (test e.1) refl i h (λ j g. behind e es n s (listed es (second _ _ s) j n g)) where
    by : (b : Bool) → test e.1 ≡ b → (i : ℕ) → slice_get (if b then e.0 ∷ numbers es else numbers es) i ≡ Some n → ((j : ℕ) → slice_get (numbers es) j ≡ Some n → Passes (e ∷ es) n) → Passes (e ∷ es) n
    by true is zero g more =
        let same : e.0 ≡ n = cc g in
        subst (λ (m : ℕ). Passes (e ∷ es) m) same (e.1, rw (tie e.0) refl, is)
    by true is (suc j) g more = more j g
    by false is j g more = more j g

  -- such a call is listed

  here : (b : Bool) (n : ℕ) (ns : List ℕ) → b ≡ true → IsOneOf n (if b then n ∷ ns else ns)
  here true n ns e = (0, refl)
  here false n ns e = absurd (cc e)

  further : (b : Bool) (m n : ℕ) (ns : List ℕ) → IsOneOf n ns → IsOneOf n (if b then m ∷ ns else ns)
  further true m n ns h = (suc h.0, h.1)
  further false m n ns h = h

  found : (es : List (ℕ × Call)) (n : ℕ) (c : Call) → find nat_cmp n es ≡ Some c → test c ≡ true → IsOneOf n (numbers es)
  found [] n c f passes = absurd (cc f)
  found (e ∷ es) n c f passes = by (is_eq (nat_cmp n e.0)) refl f (λ g. found es n c g passes) where
    by : (b : Bool) → is_eq (nat_cmp n e.0) ≡ b → cond b (Some e.1) (find nat_cmp n es) ≡ Some c → (find nat_cmp n es ≡ Some c → IsOneOf n (numbers es)) → IsOneOf n (numbers (e ∷ es))
    by true tie g more =
        let same : e.1 ≡ c = cc g in
        subst (λ (m : ℕ). IsOneOf m (numbers (e ∷ es))) (key_same n e.0 tie) (here (test e.1) e.0 (numbers es) (ap test same ∙ passes))
    by false tie g more = further (test e.1) e.0 n (numbers es) (more g)

  -- no number is listed twice

  apart : (e : ℕ × Call) (es : List (ℕ × Call)) (j n : ℕ) → T (is_sorted nat_cmp (e ∷ es)) → e.0 ≡ n → slice_get (numbers es) j ≡ Some n → ⊥
  apart e es j n s same h =
      let r = listed es (second _ _ s) j n h in
      let above = greater e.0 es n r.0 (first _ _ s) r.1 in
      omega (arith, same, above)

  once : (es : List (ℕ × Call)) → T (is_sorted nat_cmp es) → (i j n : ℕ) → slice_get (numbers es) i ≡ Some n → slice_get (numbers es) j ≡ Some n → i ≡ j
  once [] s i j n g h = absurd (cc g)
  once (e ∷ es) s i j n g h = by (test e.1) i j g h (λ x y a b. once es (second _ _ s) x y n a b) where
    by : (b : Bool) (i j : ℕ) → slice_get (if b then e.0 ∷ numbers es else numbers es) i ≡ Some n → slice_get (if b then e.0 ∷ numbers es else numbers es) j ≡ Some n
        → ((x y : ℕ) → slice_get (numbers es) x ≡ Some n → slice_get (numbers es) y ≡ Some n → x ≡ y) → i ≡ j
    by true zero zero g h more = refl
    by true zero (suc j) g h more = absurd (apart e es j n s (cc g) h)
    by true (suc i) zero g h more = absurd (apart e es i n s (cc h) g)
    by true (suc i) (suc j) g h more = ap suc (more i j g h)
    by false i j g h more = more i j g h

-- ---- the active calls

pub active_is : (t : TaskNo) (p : ℕ) (c : Call) → is_active_on (label_of t p) c ≡ true → (c.from ≡ label_of t p) × (c.caller ≡ Some t)
active_is t p c h =
    let two = and_parts (same_label c.from (label_of t p)) (is_caller t c.caller) h in
    (label_is c.from (label_of t p) two.0, caller_is t c.caller two.1)

pub is_active : (t : TaskNo) (p : ℕ) (c : Call) → c.from ≡ label_of t p → c.caller ≡ Some t → is_active_on (label_of t p) c ≡ true
is_active t p c from caller =
    ap (λ (l : Label). same_label l (label_of t p) && is_caller t c.caller) from
    ∙ ap (λ (b : Bool). b && is_caller t c.caller) (own_label (label_of t p))
    ∙ ap (is_caller t) caller ∙ eq-eqb t.0 t.0 refl

module _ (q : CallTable) (t : TaskNo) (p : ℕ) where
  abbrev test : Call → Bool
  test c = is_active_on (label_of t p) c

  abbrev those : List ℕ
  those = numbers test (entries q.records)

  are_active : AreTheActive q t p those
  are_active = record {
    all = λ n h. found test (entries q.records) n h.0 (sym (get-entries q.records n) ∙ h.1) (is_active t p h.0 h.2 h.3);
    others = λ n h.
        let r = listed test (entries q.records) (entries_sorted q.records) h.0 n h.1 in
        let two = active_is t p r.0 r.2 in
        (r.0, get-entries q.records n ∙ r.1, two.0, two.1);
    once = once test (entries q.records) (entries_sorted q.records);
  }

  pub has_active : HasActive q t p
  has_active = (those, are_active)

  pub active_count : (ns : List ℕ) → AreTheActive q t p ns → active_calls q (label_of t p) ≡ length ns
  active_count ns h =
      let counted : active_calls q (label_of t p) ≡ length those = as_many test (entries q.records) in
      let over : length ns ≤ length those = no_more ns those h.once (λ n g. are_active.all n (h.others n g)) in
      let under : length those ≤ length ns = no_more those ns are_active.once (λ n g. h.all n (are_active.others n g)) in
      omega (arith, counted, over, under)
