-- How many live calls pass a test, after each change of the calls.
use Rattle.std.proofs.Common.{◌≡◌, ℕ, suc, ◌≤◌, T, length, ◌+◌, Bool, true, false, cond, List, [], ◌∷◌, Option, None, Some, refl, ap, sym, ◌∙◌, arith}
use Rattle.std.specs.Ordering.{nat_cmp, eq_by_cmp, is_eq}
use Rattle.std.specs.Cmp.{nat_cmp_total}
use Rattle.std.specs.declared.cmp.Ordering.{Ordering}
use Rattle.std.specs.declared.cmp.Ordering.TheVariants.{Less, Equal, Greater}
use Rattle.std.specs.FinMap.{FinMap, find, is_sorted, entries_sorted, put, get, insert, remove, entries, len, len-entries, same_map, nat_cmp-IsAntisymmetric, get-entries, get-insert, get-remove, entries-insert}
use Rattle.std.specs.FinMap.Entries.{by_order}
use Rattle.call_slab.specs.declared.call.Call.{Call}
use Rattle.call_slab.specs.declared.call.Place.{Place}
use Rattle.call_slab.proofs.Live.{past_tie, tie}
use Rattle.ipc_ids.specs.declared.numbers.Label.{Label}
use Rattle.ipc_ids.proofs.Common.{own_key, same_by_keys}
use Rattle.answerbox.proofs.Fronts.{first, second, greater}
use Rattle.answerbox.specs.Calls.{CallTable, call_at, enqueue, without_call, with_record, put_at, count_of, is_active_on, active_calls}

placed : (o : Ordering) (n : ℕ) (c : Call) (p : Call → Bool) (e : ℕ × Call) (es rest : List (ℕ × Call)) → is_eq o ≡ false → count_of p rest ≡ cond (p c) 1 0 + count_of p es → count_of p (by_order o ((n, c) ∷ e ∷ es) ((e.0, c) ∷ es) (e ∷ rest)) ≡ cond (p c) 1 0 + count_of p (e ∷ es)
placed Less n c p e es rest apart h = refl
placed Equal n c p e es rest apart h = absurd (cc apart)
placed Greater n c p e es rest apart h = omega arith

pub apart : (b : Bool) (x y : Option Call) (v : Call) → x ≡ Some v → cond b x y ≡ None → (b ≡ false) × (y ≡ None)
apart true x y v is h = absurd (cc h)
apart false x y v is h = (refl, h)

count-put : (p : Call → Bool) (n : ℕ) (c : Call) (es : List (ℕ × Call)) → find nat_cmp n es ≡ None → count_of p (put nat_cmp n c es) ≡ cond (p c) 1 0 + count_of p es
count-put p n c [] h = refl
count-put p n c (e ∷ es) h =
    let there = apart (is_eq (nat_cmp n e.0)) (Some e.1) (find nat_cmp n es) e.1 refl h in
    placed (nat_cmp n e.0) n c p e es (put nat_cmp n c es) there.0 (count-put p n c es there.1)

pub count-insert : (p : Call → Bool) (m : FinMap nat_cmp Call) (n : ℕ) (c : Call) → get m n ≡ None → count_of p (entries (insert m n c)) ≡ cond (p c) 1 0 + count_of p (entries m)
count-insert p m n c h = rw (entries-insert nat_cmp_total m n c) (count-put p n c (entries m) (sym (get-entries m n) ∙ h))

there_again : (b : Bool) (x y : Option Call) → (b ≡ true → x ≡ y) → x ≡ cond b y (cond b None x)
there_again true x y h = h refl
there_again false x y h = refl

-- a call is what was taken out, and the rest
pub insert-remove : (m : FinMap nat_cmp Call) (n : ℕ) (c : Call) → get m n ≡ Some c → m ≡ insert (remove m n) n c
insert-remove m n c is =
    same_map nat_cmp_total nat_cmp-IsAntisymmetric _ _ (λ q.
    there_again (eq_by_cmp nat_cmp q n) (get m q) (Some c) (λ t. ap (get m) (same_by_keys q n t) ∙ is)
    ∙ sym (get-insert nat_cmp_total (remove m n) n c q ∙ ap (cond (eq_by_cmp nat_cmp q n) (Some c)) (get-remove nat_cmp_total m n q)))

pub count-remove : (p : Call → Bool) (m : FinMap nat_cmp Call) (n : ℕ) (c : Call) → get m n ≡ Some c → count_of p (entries m) ≡ cond (p c) 1 0 + count_of p (entries (remove m n))
count-remove p m n c is = ap (λ (x : FinMap nat_cmp Call). count_of p (entries x)) (insert-remove m n c is) ∙ count-insert p (remove m n) n c (get-remove nat_cmp_total m n n ∙ rw (own_key n))

shadow : (b : Bool) (x y : Option Call) → cond b None (cond b x y) ≡ cond b None y
shadow true x y = refl
shadow false x y = refl

pub remove-insert : (m : FinMap nat_cmp Call) (n : ℕ) (d : Call) → remove (insert m n d) n ≡ remove m n
remove-insert m n d =
    same_map nat_cmp_total nat_cmp-IsAntisymmetric _ _ (λ q.
    get-remove nat_cmp_total (insert m n d) n q
    ∙ ap (cond (eq_by_cmp nat_cmp q n) None) (get-insert nat_cmp_total m n d q)
    ∙ shadow (eq_by_cmp nat_cmp q n) (Some d) (get m q)
    ∙ sym (get-remove nat_cmp_total m n q))

-- a call in the place of another
pub count-replace : (p : Call → Bool) (m : FinMap nat_cmp Call) (n : ℕ) (c d : Call) → get m n ≡ Some c → cond (p c) 1 0 + count_of p (entries (insert m n d)) ≡ cond (p d) 1 0 + count_of p (entries m)
count-replace p m n c d is =
    let out = count-remove p m n c is in
    let back = count-remove p (insert m n d) n d (get-insert nat_cmp_total m n d n ∙ rw (own_key n)) in
    let same = ap (λ (x : FinMap nat_cmp Call). count_of p (entries x)) (remove-insert m n d) in
    omega arith

-- a call in the place of another, counted from what is left without either
pub count-swap : (p : Call → Bool) (m : FinMap nat_cmp Call) (n : ℕ) (d : Call) → count_of p (entries (insert m n d)) ≡ cond (p d) 1 0 + count_of p (entries (remove m n))
count-swap p m n d =
    count-remove p (insert m n d) n d (get-insert nat_cmp_total m n d n ∙ rw (own_key n))
    ∙ ap (λ (x : FinMap nat_cmp Call). cond (p d) 1 0 + count_of p (entries x)) (remove-insert m n d)

count-length : (p : Call → Bool) (es : List (ℕ × Call)) → count_of p es ≤ length es
count-length p [] = omega arith
count-length p (e ∷ es) = let h = count-length p es in at_most (p e.1) (count_of p es) (length es) h where
  at_most : (b : Bool) (x y : ℕ) → x ≤ y → cond b 1 0 + x ≤ suc y
  at_most true x y h = omega arith
  at_most false x y h = omega arith

-- no more calls pass than there are
pub count-len : (p : Call → Bool) (m : FinMap nat_cmp Call) → count_of p (entries m) ≤ len m
count-len p m = rw (len-entries m) (count-length p (entries m))

-- where no call passes, each call fails the test
none_counts_in : (p : Call → Bool) (es : List (ℕ × Call)) (n : ℕ) (c : Call) → count_of p es ≡ 0 → find nat_cmp n es ≡ Some c → p c ≡ false
none_counts_in p [] n c z f = absurd (cc f)
none_counts_in p (e ∷ es) n c z f = here (is_eq (nat_cmp n e.0)) (p e.1) e.1 c (count_of p es) (find nat_cmp n es) p refl z f (none_counts_in p es n c) where
  here : (b o : Bool) (x c : Call) (k : ℕ) (y : Option Call) (p : Call → Bool) → p x ≡ o → cond o 1 0 + k ≡ 0 → cond b (Some x) y ≡ Some c → (k ≡ 0 → y ≡ Some c → p c ≡ false) → p c ≡ false
  here true true x c k y p is z f later = absurd (omega arith)
  here true false x c k y p is z f later = let same : x ≡ c = cc in rw (← same) is
  here false true x c k y p is z f later = absurd (omega arith)
  here false false x c k y p is z f later = later (omega arith) f

pub none_counts : (p : Call → Bool) (m : FinMap nat_cmp Call) (n : ℕ) (c : Call) → count_of p (entries m) ≡ 0 → get m n ≡ Some c → p c ≡ false
none_counts p m n c z f = none_counts_in p (entries m) n c z (sym (get-entries m n) ∙ f)

-- a new call
pub count-enqueue : (test : Call → Bool) (q : CallTable) (c : Call) → call_at q c.number.0 ≡ None → count_of test (entries (enqueue q c).records) ≡ cond (test (record c { stamp = q.next_stamp })) 1 0 + count_of test (entries q.records)
count-enqueue test q c free = count-insert test q.records c.number.0 (record c { stamp = q.next_stamp }) free

-- a call that is over
pub count-without_call : (test : Call → Bool) (q : CallTable) (n : ℕ) (c : Call) → call_at q n ≡ Some c → count_of test (entries q.records) ≡ cond (test c) 1 0 + count_of test (entries (without_call q n).records)
count-without_call test q n c is = count-remove test q.records n c is

-- a record in the place of another
pub count-with_record : (test : Call → Bool) (q : CallTable) (c d : Call) → call_at q d.number.0 ≡ Some c → cond (test c) 1 0 + count_of test (entries (with_record q d).records) ≡ cond (test d) 1 0 + count_of test (entries q.records)
count-with_record test q c d is = count-replace test q.records d.number.0 c d is

pub count-put_at : (test : Call → Bool) (q : CallTable) (c d : Call) (place : Place) → call_at q d.number.0 ≡ Some c → cond (test c) 1 0 + count_of test (entries (put_at q d place).records) ≡ cond (test (record d { place = place; stamp = q.next_stamp })) 1 0 + count_of test (entries q.records)
count-put_at test q c d place is = count-replace test q.records d.number.0 c (record d { place = place; stamp = q.next_stamp }) is

at_least_one : (b : Bool) (x y : ℕ) → b ≡ true → x ≡ cond b 1 0 + y → 1 ≤ x
at_least_one true x y e h = omega arith
at_least_one false x y e h = absurd (cc e)

-- a call that passes is counted
pub count-positive : (test : Call → Bool) (q : CallTable) (n : ℕ) (c : Call) → call_at q n ≡ Some c → test c ≡ true → 1 ≤ count_of test (entries q.records)
count-positive test q n c is passes =
    at_least_one (test c) _ _ passes (count-without_call test q n c is)

-- a record that passes where the one before did, and only there
count_stays : (x y before after : ℕ) → x + after ≡ y + before → y ≡ x → after ≡ before
count_stays x y before after h e = omega arith

-- a call is active or not wherever it stands
pub active-put_at : (q : CallTable) (c d : Call) (place : Place) (label : Label) → call_at q d.number.0 ≡ Some c → is_active_on label d ≡ is_active_on label c → active_calls (put_at q d place) label ≡ active_calls q label
active-put_at q c d place label is same = count_stays (cond (is_active_on label c) 1 0) (cond (is_active_on label d) 1 0) _ _ (count-put_at (is_active_on label) q c d place is) (ap (λ (b : Bool). cond b 1 0) same)

pub active-enqueue : (q : CallTable) (c : Call) (label : Label) → call_at q c.number.0 ≡ None → active_calls (enqueue q c) label ≡ cond (is_active_on label c) 1 0 + active_calls q label
active-enqueue q c label free = count-enqueue (is_active_on label) q c free

pub active-without_call : (q : CallTable) (n : ℕ) (c : Call) (label : Label) → call_at q n ≡ Some c → active_calls q label ≡ cond (is_active_on label c) 1 0 + active_calls (without_call q n) label
active-without_call q n c label is = count-without_call (is_active_on label) q n c is

-- no more calls are active than are live
pub active-len : (q : CallTable) (label : Label) → active_calls q label ≤ len q.records
active-len q label = count-len (is_active_on label) q.records

-- two tests that agree on all calls
count_alike_in : (p q : Call → Bool) (es : List (ℕ × Call)) → T (is_sorted nat_cmp es) → ((k : ℕ) (d : Call) → find nat_cmp k es ≡ Some d → p d ≡ q d) → count_of p es ≡ count_of q es
count_alike_in p q [] s h = refl
count_alike_in p q (e ∷ es) s h =
    let here : p e.1 ≡ q e.1 = h e.0 e.1 (rw (tie e.0) refl) in
    let rest = count_alike_in p q es (second _ _ s) (λ k d f. h k d (rw (past_tie k e.0 (greater e.0 es k d (first _ _ s) f)) f)) in
    rw (here, rest) refl

pub count-alike : (p q : Call → Bool) (m : FinMap nat_cmp Call) → ((k : ℕ) (d : Call) → get m k ≡ Some d → p d ≡ q d) → count_of p (entries m) ≡ count_of q (entries m)
count-alike p q m h = count_alike_in p q (entries m) (entries_sorted m) (λ k d f. h k d (get-entries m k ∙ f))

-- no call passes
pub count-none : (p : Call → Bool) (m : FinMap nat_cmp Call) → ((k : ℕ) (d : Call) → get m k ≡ Some d → p d ≡ false) → count_of p (entries m) ≡ 0
count-none p m h = count-alike p (λ d. false) m h ∙ by (entries m)
  where
    by : (es : List (ℕ × Call)) → count_of (λ d. false) es ≡ 0
    by [] = refl
    by (e ∷ es) = let h = by es in omega arith
