-- The calls of a caller, told by what the map has at each number.
use Rattle.std.proofs.Common.{◌≡◌, ℕ, ◌<◌, ◌≤◌, Bool, true, false, cond, ◌&&◌, List, [], ◌∷◌, Option, None, Some, refl, sym, ap, ◌∙◌, arith, T}
use Rattle.std.specs.Prelude.{nat_le}
use Rattle.std.specs.Ordering.{nat_cmp, is_eq}
use Rattle.std.specs.FinMap.{find, is_sorted, entries, entries_sorted, get-entries}
use Rattle.std.specs.FinMap.Entries.{below_all}
use Rattle.std.proofs.lemmas.Bool.Decides.{nat_tests}
use Rattle.call_slab.specs.declared.call.Call.{Call}
use Rattle.call_slab.proofs.Live.{tie, past_tie}
use Rattle.ipc_ids.specs.declared.numbers.TaskNo.{TaskNo}
use Rattle.answerbox.specs.Calls.{CallTable, call_at, is_caller, first_from, calls_of}
use Rattle.answerbox.proofs.Fronts.{first, second, greater, key_same}

-- a call of the entries that t made and whose number is at least low
pub record IsCallFrom (t : TaskNo) (low : ℕ) (at : ℕ → Option Call) (c : Call) : Type 0 where
  pub number : ℕ
  pub is : at number ≡ Some c
  pub made : is_caller t c.caller ≡ true
  pub from : low ≤ number

further : (t : TaskNo) (low : ℕ) (e : ℕ × Call) (es : List (ℕ × Call)) (c : Call) → T (below_all nat_cmp e.0 es) → IsCallFrom t low (λ k. find nat_cmp k es) c → IsCallFrom t low (λ k. find nat_cmp k (e ∷ es)) c
further t low e es c b h =
    record { number = h.number; is = rw (past_tie h.number e.0 (greater e.0 es h.number c b h.is)) h.is; made = h.made; from = h.from }

here : (t : TaskNo) (low : ℕ) (e : ℕ × Call) (es : List (ℕ × Call)) (c : Call) (a b : Bool) → nat_le low e.0 ≡ a → is_caller t e.1.caller ≡ b → cond (a && b) (Some e.1) (first_from t low es) ≡ Some c → (first_from t low es ≡ Some c → IsCallFrom t low (λ k. find nat_cmp k (e ∷ es)) c) → IsCallFrom t low (λ k. find nat_cmp k (e ∷ es)) c
here t low e es c true true l m g later =
    let same : e.1 ≡ c = cc in
    record { number = e.0; is = rw (tie e.0) g; made = rw same at m; from = grind (arith, nat_tests) }
here t low e es c true false l m g later = later g
here t low e es c false b l m g later = later g

found : (t : TaskNo) (low : ℕ) (es : List (ℕ × Call)) (c : Call) → T (is_sorted nat_cmp es) → first_from t low es ≡ Some c → IsCallFrom t low (λ k. find nat_cmp k es) c
found t low [] c s f = absurd (cc f)
found t low (e ∷ es) c s f = here t low e es c (nat_le low e.0) (is_caller t e.1.caller) refl refl f (λ g. further t low e es c (first _ _ s) (found t low es c (second _ _ s) g))

-- a number below low, or another caller
missed : (a b : Bool) (x : Call) (y : Option Call) → cond (a && b) (Some x) y ≡ None → (a ≡ true → b ≡ false) × (y ≡ None)
missed true true x y h = absurd (cc h)
missed true false x y h = (λ _. refl, h)
missed false b x y h = (λ g. absurd (cc g), h)

none_found : (t : TaskNo) (low : ℕ) (es : List (ℕ × Call)) (k : ℕ) (c : Call) → first_from t low es ≡ None → find nat_cmp k es ≡ Some c → low ≤ k → is_caller t c.caller ≡ false
none_found t low [] k c f g l = absurd (cc g)
none_found t low (e ∷ es) k c f g l =
    let m = missed (nat_le low e.0) (is_caller t e.1.caller) e.1 (first_from t low es) f in
    at_head (is_eq (nat_cmp k e.0)) refl g m.0 (none_found t low es k c m.1)
  where
    at_head : (b : Bool) → is_eq (nat_cmp k e.0) ≡ b → cond b (Some e.1) (find nat_cmp k es) ≡ Some c → (nat_le low e.0 ≡ true → is_caller t e.1.caller ≡ false) → (find nat_cmp k es ≡ Some c → low ≤ k → is_caller t c.caller ≡ false) → is_caller t c.caller ≡ false
    at_head true q h m later =
        let same : e.1 ≡ c = cc in
        let key = key_same k e.0 q in
        let le : nat_le low e.0 ≡ true = grind (arith, nat_tests) in
        rw same at (m le)
    at_head false q h m later = later h l

-- what a task's first call is, and that there is none
pub calls_of_live : (q : CallTable) (t : TaskNo) (c : Call) → calls_of q t ≡ Some c → IsCallFrom t 0 (call_at q) c
calls_of_live q t c is =
    let h = found t 0 (entries q.records) c (entries_sorted q.records) is in
    record { number = h.number; is = get-entries q.records h.number ∙ h.is; made = h.made; from = h.from }

pub calls_of_none : (q : CallTable) (t : TaskNo) (k : ℕ) (c : Call) → calls_of q t ≡ None → call_at q k ≡ Some c → is_caller t c.caller ≡ false
calls_of_none q t k c none is = none_found t 0 (entries q.records) k c none (sym (get-entries q.records k) ∙ is) (omega arith)

at_end : (t : TaskNo) (low : ℕ) (e : ℕ × Call) (x : Option Call) (a b : Bool) → nat_le low e.0 ≡ a → is_caller t e.1.caller ≡ b → (low ≤ e.0 → is_caller t e.1.caller ≡ true → ⊥) → cond (a && b) (Some e.1) x ≡ x
at_end t low e x true true l m h = absurd (h (grind (arith, nat_tests)) m)
at_end t low e x true false l m h = refl
at_end t low e x false b l m h = refl

-- where no call of the task has a number from low on, none is found
pub first_is_none : (t : TaskNo) (low : ℕ) (es : List (ℕ × Call)) → T (is_sorted nat_cmp es) → ((k : ℕ) (d : Call) → find nat_cmp k es ≡ Some d → low ≤ k → is_caller t d.caller ≡ true → ⊥) → first_from t low es ≡ None
first_is_none t low [] s h = refl
first_is_none t low (e ∷ es) s h =
    at_end t low e (first_from t low es) (nat_le low e.0) (is_caller t e.1.caller) refl refl (h e.0 e.1 (rw (tie e.0) refl))
    ∙ first_is_none t low es (second _ _ s) (λ k d f. h k d (rw (past_tie k e.0 (greater e.0 es k d (first _ _ s) f)) f))

at_start : (t : TaskNo) (low : ℕ) (e : ℕ × Call) (x : Option Call) (a b : Bool) → nat_le low e.0 ≡ a → is_caller t e.1.caller ≡ b → low ≤ e.0 → is_caller t e.1.caller ≡ true → cond (a && b) (Some e.1) x ≡ Some e.1
at_start t low e x true true l m h g = refl
at_start t low e x true false l m h g = absurd (cc (m, g))
at_start t low e x false b l m h g = absurd (grind (arith, nat_tests))

-- the call with the least number from low on is found
pub first_is : (t : TaskNo) (low : ℕ) (es : List (ℕ × Call)) (n : ℕ) (c : Call) → T (is_sorted nat_cmp es) → find nat_cmp n es ≡ Some c → is_caller t c.caller ≡ true → low ≤ n
    → ((k : ℕ) (d : Call) → find nat_cmp k es ≡ Some d → is_caller t d.caller ≡ true → low ≤ k → n ≤ k) → first_from t low es ≡ Some c
first_is t low [] n c s f made from least = absurd (cc f)
first_is t low (e ∷ es) n c s f made from least =
    by (is_eq (nat_cmp n e.0)) refl f (λ g. first_is t low es n c (second _ _ s) g made from (λ k d h. least k d (rw (past_tie k e.0 (greater e.0 es k d (first _ _ s) h)) h)))
  where
    by : (b : Bool) → is_eq (nat_cmp n e.0) ≡ b → cond b (Some e.1) (find nat_cmp n es) ≡ Some c → (find nat_cmp n es ≡ Some c → first_from t low es ≡ Some c) → first_from t low (e ∷ es) ≡ Some c
    by true q g later =
        let same : e.1 ≡ c = cc in
        let key : e.0 ≡ n = key_same n e.0 q in
        at_start t low e (first_from t low es) (nat_le low e.0) (is_caller t e.1.caller) refl refl (omega arith) (rw same made) ∙ ap Some same
    by false q g later =
        let after : e.0 < n = greater e.0 es n c (first _ _ s) g in
        at_end t low e (first_from t low es) (nat_le low e.0) (is_caller t e.1.caller) refl refl (λ l m. let le = least e.0 e.1 (rw (tie e.0) refl) m l in absurd (omega arith))
        ∙ later g
