-- What the table of calls has at each number after a change, and a list at each index.
use Rattle.std.proofs.Common.{◌≡◌, ℕ, zero, suc, ◌+◌, ◌-◌, ◌<◌, ◌≤◌, cond, ◌⊎◌, inl, inr, List, [], ◌∷◌, length, set, Option, None, Some, refl, ap, ◌∙◌, arith}
use Rattle.std.specs.Prelude.{◌==◌, if◌then◌else◌, IsSome, slice_get}
use Rattle.std.specs.Ordering.{nat_cmp, eq_by_cmp}
use Rattle.std.specs.Cmp.{nat_cmp_total}
use Rattle.std.specs.FinMap.{FinMap, get, insert, remove, get-insert, get-remove, len, len-insert}
use Rattle.std.proofs.lemmas.Bool.Decides.{nat_tests}
use Rattle.std.proofs.lemmas.Bool.{cases_eq, eq-eqb, ne_eqb}
use Rattle.ipc_ids.proofs.Common.{own_key}
use Rattle.call_slab.specs.declared.call.Call.{Call}
use Rattle.answerbox.specs.Calls.{CallTable, call_at, without_call}
use Rattle.answerbox.proofs.Counts.{insert-remove}
use Rattle.phone_table.specs.Phones.{row_at}

same_test : (q n : ℕ) → eq_by_cmp nat_cmp q n ≡ (n == q)
same_test q n = elim (cases_eq n q) [ inl e ↦ grind (arith, nat_tests, eq-eqb) | inr ne ↦ grind (arith, nat_tests, ne_eqb) ]

pub at_insert : (m : FinMap nat_cmp Call) (n q : ℕ) (c : Call) → get (insert m n c) q ≡ (if n == q then Some c else get m q)
at_insert m n q c = get-insert nat_cmp_total m n c q ∙ ap (λ b. cond b (Some c) (get m q)) (same_test q n)

pub at_remove : (m : FinMap nat_cmp Call) (n q : ℕ) → get (remove m n) q ≡ (if n == q then None else get m q)
at_remove m n q = get-remove nat_cmp_total m n q ∙ ap (λ b. cond b None (get m q)) (same_test q n)

-- what a choice gave
pub chosen : {A : Type 0} (m n : ℕ) (x y z : A) → (if m == n then x else y) ≡ z → ((m ≡ n) × (x ≡ z)) ⊎ ((m ≡ n → ⊥) × (y ≡ z))
chosen m n x y z h = elim (cases_eq m n) [ inl e ↦ inl (e, rw (eq-eqb m n e) at h) | inr ne ↦ inr (ne, rw (ne_eqb m n ne) at h) ]

-- a live call has a record
pub record_of : (o : Option Call) → IsSome o → (c : Call) × (o ≡ Some c)
record_of None h = absurd (cc h)
record_of (Some c) h = (c, refl)

-- the table after a step, at the number of the step and at another

pub put_here : (q : CallTable) (m n : ℕ) (d : Call) → m ≡ n → get (insert q.records m d) n ≡ Some d
put_here q m n d e = at_insert q.records m n d ∙ rw (eq-eqb m n e) refl

pub put_other : (q : CallTable) (m n : ℕ) (d : Call) → (m ≡ n → ⊥) → get (insert q.records m d) n ≡ call_at q n
put_other q m n d ne = at_insert q.records m n d ∙ rw (ne_eqb m n ne) refl

pub gone_here : (q : CallTable) (m n : ℕ) → m ≡ n → call_at (without_call q m) n ≡ None
gone_here q m n e = at_remove q.records m n ∙ rw (eq-eqb m n e) refl

pub gone_other : (q : CallTable) (m n : ℕ) → (m ≡ n → ⊥) → call_at (without_call q m) n ≡ call_at q n
gone_other q m n ne = at_remove q.records m n ∙ rw (ne_eqb m n ne) refl

-- a list, and a table by task, where one item was replaced
suc_eqb : (i j : ℕ) → (suc i == suc j) ≡ (i == j)
suc_eqb i j = elim (cases_eq i j) [ inl e ↦ rw (eq-eqb i j e, eq-eqb (suc i) (suc j) (ap suc e)) refl | inr ne ↦ rw (ne_eqb i j ne, ne_eqb (suc i) (suc j) (λ e. ne (omega arith))) refl ]

get_set : {A : Type 0} (xs : List A) (i j : ℕ) (x : A) → i < length xs → slice_get (set xs i x) j ≡ (if j == i then Some x else slice_get xs j)
get_set [] i j x h = absurd (omega (arith, h))
get_set (y ∷ xs) zero zero x h = refl
get_set (y ∷ xs) zero (suc j) x h = rw (ne_eqb (suc j) 0 (λ e. omega arith)) refl
get_set (y ∷ xs) (suc i) zero x h = rw (ne_eqb 0 (suc i) (λ e. omega arith)) refl
get_set (y ∷ xs) (suc i) (suc j) x h = rw (suc_eqb j i) (get_set xs i j x (omega (arith, h)))

pub row_at_set : {A : Type 0} (rows : List A) (t u : ℕ) (row : A) → 1 ≤ t → t ≤ length rows → row_at (set rows (t - 1) row) u ≡ (if u == t then Some row else row_at rows u)
row_at_set rows zero u row some added = absurd (omega (arith, some))
row_at_set rows (suc t) zero row some added = rw (ne_eqb 0 (suc t) (λ e. omega arith)) refl
row_at_set rows (suc t) (suc u) row some added =
    let last : suc t - 1 ≡ t = omega arith in
    let back : suc u - 1 ≡ u = omega arith in
    rw (suc_eqb u t, ne_eqb (suc u) 0 (λ e. omega arith), last, back) (get_set rows t u row (omega (arith, added)))

-- how many calls are live after it

-- a call that is over is one less
pub fewer_calls : (q : CallTable) (n : ℕ) (c : Call) → call_at q n ≡ Some c → len (without_call q n).records + 1 ≡ len q.records
fewer_calls q n c is =
    let gone : get (remove q.records n) n ≡ None = get-remove nat_cmp_total q.records n n ∙ rw (own_key n) in
    let again : len (insert (remove q.records n) n c) ≡ len (remove q.records n) + 1 = rw (len-insert nat_cmp_total (remove q.records n) n c, gone) (omega arith) in
    let whole = ap len (insert-remove q.records n c is) in
    omega arith

-- a record in the place of another leaves as many
pub as_many_calls : (q : CallTable) (n : ℕ) (c d : Call) → call_at q n ≡ Some c → len (insert q.records n d) ≡ len q.records
as_many_calls q n c d is = rw (len-insert nat_cmp_total q.records n d, is) (omega arith)
