-- The call of a task that is found first has the least number, and the area that is found first the least base.
use Rattle.std.proofs.Common.{◌≡◌, ℕ, zero, suc, ◌<◌, ◌≤◌, Bool, true, false, cond, ◌&&◌, List, [], ◌∷◌, Option, None, Some, refl, sym, subst, ◌∙◌, arith, T}
use Rattle.std.specs.Prelude.{nat_lt, nat_le, fold, slice_get, if◌then◌else◌}
use Rattle.std.specs.Ordering.{nat_cmp, is_eq}
use Rattle.std.specs.FinMap.{find, is_sorted, entries, entries_sorted, get-entries}
use Rattle.std.specs.FinMap.Entries.{below_all}
use Rattle.std.proofs.lemmas.Bool.Decides.{nat_tests}
use Rattle.ipc_ids.specs.declared.numbers.TaskNo.{TaskNo}
use Rattle.call_slab.specs.declared.call.Call.{Call}
use Rattle.call_slab.proofs.Live.{tie, past_tie}
use Rattle.answerbox.specs.Calls.{CallTable, call_at, is_caller, first_from, calls_of}
use Rattle.answerbox.proofs.Fronts.{first, second, greater, key_same}
use Rattle.address_space.specs.Areas.{Area, lower}
use Rattle.address_space.specs.Memory.{Memory, areas_of, first_area}

-- ---- calls

-- the call stands under a number, and each other one of its task under a greater one
pub record IsLeast (t : TaskNo) (at : ℕ → Option Call) (c : Call) : Type 0 where
  pub number : ℕ
  pub is : at number ≡ Some c
  pub least : (k : ℕ) (d : Call) → at k ≡ Some d → is_caller t d.caller ≡ true → number ≤ k

module _ (t : TaskNo) where
  behind : (e : ℕ × Call) (es : List (ℕ × Call)) (c : Call) → T (below_all nat_cmp e.0 es)
      → is_caller t e.1.caller ≡ false
      → IsLeast t (λ k. find nat_cmp k es) c → IsLeast t (λ k. find nat_cmp k (e ∷ es)) c
  behind e es c b other h = record {
    number = h.number;
    is = rw (past_tie h.number e.0 (greater e.0 es h.number c b h.is)) h.is;
    least = λ k d is made. at_head k d (is_eq (nat_cmp k e.0)) refl is made (h.least k d);
  } where
    at_head : (k : ℕ) (d : Call) (q : Bool) → is_eq (nat_cmp k e.0) ≡ q → cond q (Some e.1) (find nat_cmp k es) ≡ Some d
        → is_caller t d.caller ≡ true → (find nat_cmp k es ≡ Some d → is_caller t d.caller ≡ true → h.number ≤ k)
        → h.number ≤ k
    at_head k d true q is made later = let same : e.1 ≡ d = cc in
        absurd (let z = rw same at other in let y = sym z ∙ made in cc)
    at_head k d false q is made later = later is made

  at_first : (e : ℕ × Call) (es : List (ℕ × Call)) → T (below_all nat_cmp e.0 es)
      → IsLeast t (λ k. find nat_cmp k (e ∷ es)) e.1
  at_first e es b = record {
    number = e.0;
    is = rw (tie e.0) refl;
    least = λ k d is made. at_head k d (is_eq (nat_cmp k e.0)) refl is;
  } where
    at_head : (k : ℕ) (d : Call) (q : Bool) → is_eq (nat_cmp k e.0) ≡ q
        → cond q (Some e.1) (find nat_cmp k es) ≡ Some d → e.0 ≤ k
    at_head k d true q is = let key = key_same k e.0 q in omega (arith, key)
    at_head k d false q is = let more = greater e.0 es k d b is in omega (arith, more)

  by_test : (e : ℕ × Call) (es : List (ℕ × Call)) (c : Call) (a b : Bool) → T (below_all nat_cmp e.0 es)
      → nat_le 0 e.0 ≡ a
      → is_caller t e.1.caller ≡ b → cond (a && b) (Some e.1) (first_from t 0 es) ≡ Some c
      → (first_from t 0 es ≡ Some c → IsLeast t (λ k. find nat_cmp k es) c) → IsLeast t (λ k. find nat_cmp k (e ∷ es)) c
  by_test e es c true true s l m g later = let same : e.1 ≡ c = cc in
      subst (IsLeast t (λ k. find nat_cmp k (e ∷ es))) same (at_first e es s)
  by_test e es c true false s l m g later = behind e es c s m (later g)
  by_test e es c false b s l m g later = absurd (grind (arith, nat_tests, l))

  found : (es : List (ℕ × Call)) (c : Call) → T (is_sorted nat_cmp es) → first_from t 0 es ≡ Some c
      → IsLeast t (λ k. find nat_cmp k es) c
  found [] c s f = absurd (cc f)
  found (e ∷ es) c s f = by_test e es c (nat_le 0 e.0) (is_caller t e.1.caller) (first _ _ s) refl refl f
      (λ g. found es c (second _ _ s) g)

  pub least_number : (q : CallTable) (c : Call) → calls_of q t ≡ Some c → IsLeast t (call_at q) c
  least_number q c is =
      let h = found (entries q.records) c (entries_sorted q.records) is in
      record {
        number = h.number;
        is = get-entries q.records h.number ∙ h.is;
        least = λ k d at made. h.least k d (sym (get-entries q.records k) ∙ at) made;
      }

-- ---- areas

-- a base is at most the least so far, and each of these
record IsLow (base : ℕ) (so_far : Option ℕ) (areas : List Area) : Type 0 where
  before : (l : ℕ) → so_far ≡ Some l → base ≤ l
  each : (i : ℕ) (a : Area) → slice_get areas i ≡ Some a → base ≤ a.base

one_more : (base : ℕ) (so_far : Option ℕ) (a : Area) (areas : List Area) → IsLow base (lower so_far a.base) areas
    → IsLow base so_far (a ∷ areas)
one_more base so_far a areas h = record { before = so so_far h.before; each = at } where
  own : (o : Option ℕ) → ((l : ℕ) → lower o a.base ≡ Some l → base ≤ l) → base ≤ a.base
  own None f = f a.base refl
  own (Some s) f = by (nat_lt a.base s) refl f where
    by : (b : Bool) → nat_lt a.base s ≡ b → ((l : ℕ) → (if b then Some a.base else Some s) ≡ Some l → base ≤ l)
        → base ≤ a.base
    by true is f = f a.base refl
    by false is f = let le = f s refl in let from : s ≤ a.base = grind (arith, nat_tests, is) in omega (arith, le, from)

  so : (o : Option ℕ) → ((l : ℕ) → lower o a.base ≡ Some l → base ≤ l) → (l : ℕ) → o ≡ Some l → base ≤ l
  so None f l e = absurd (cc e)
  so (Some s) f l e = by (nat_lt a.base s) refl f where
    same : s ≡ l
    same = cc e

    by : (b : Bool) → nat_lt a.base s ≡ b → ((l : ℕ) → (if b then Some a.base else Some s) ≡ Some l → base ≤ l)
        → base ≤ l
    by true is f =
        let le = f a.base refl in
        let less : a.base < s = grind (arith, nat_tests, is) in
        let e = same in omega (arith, le, less, e)
    by false is f = let le = f s refl in let e = same in omega (arith, le, e)

  at : (i : ℕ) (b : Area) → slice_get (a ∷ areas) i ≡ Some b → base ≤ b.base
  at zero b is = let same : a ≡ b = cc is in let le = own so_far h.before in subst (λ (x : Area). base ≤ x.base) same le
  at (suc i) b is = h.each i b is

low : (base : ℕ) (areas : List Area) (so_far : Option ℕ) → fold (λ least a. lower least a.base) so_far areas ≡ Some base
    → IsLow base so_far areas
low base [] so_far e = record {
  before = λ l is. let same : Some base ≡ Some l = sym e ∙ is in let one : base ≡ l = cc in omega (arith, one);
  each = λ i a is. absurd (cc is);
}
low base (a ∷ areas) so_far e = one_more base so_far a areas (low base areas (lower so_far a.base) e)

pub least_area : (m : Memory) (t : TaskNo) (base : ℕ) → first_area m t ≡ Some base → (i : ℕ) (a : Area)
    → slice_get (areas_of m t) i ≡ Some a → base ≤ a.base
least_area m t base e = (low base (areas_of m t) None e).each
