-- What the proofs of several crates cite and std does not say: facts of tests, options, numbers and
-- lists, and of labels, phones and outcomes.
use Rattle.std.proofs.Common.{◌≡◌, ℕ, zero, suc, ◌+◌, ◌<◌, T, Bool, true, false, List, [], ◌∷◌, ◌++◌, length, Option, None, Some, refl, sym, ap, ◌∙◌, arith}
use Rattle.std.specs.Prelude.{◌==◌, ◌&&◌, IsSome, Result, Ok, Err, OnOk, slice_get, slice_set}
use Rattle.std.specs.List.{range_with_len}
use Rattle.std.specs.Option.{unwrap_or}
use Rattle.std.specs.Ordering.{nat_cmp, eq_by_cmp}
use Rattle.std.proofs.lemmas.Bool.{and_parts, eq-eqb, eqb-true}
use Rattle.std.proofs.lemmas.Bool.Decides.{nat_tests}
use Rattle.std.proofs.lemmas.Option.{none-some}
use Rattle.ipc_ids.specs.declared.numbers.TaskNo.{TaskNo}
use Rattle.ipc_ids.specs.declared.numbers.Label.{Label}
use Rattle.ipc_ids.specs.declared.message.PhoneState.{PhoneState}
use Rattle.ipc_ids.specs.declared.message.PhoneState.TheVariants.{Free, Connecting, Connected}
use Rattle.ipc_ids.specs.declared.message.Outcome.{Outcome}
use Rattle.ipc_ids.specs.declared.message.Outcome.TheVariants.{Received}
use Rattle.ipc_ids.specs.Labels.{same_label}
use Rattle.ipc_ids.specs.Program.{is_done_or_refused}

-- tests

pub and_false : (b : Bool) → (b && false) ≡ false
and_false true = refl
and_false false = refl

pub and_second : (a b : Bool) → (a && b) ≡ true → b ≡ true
and_second a b h = (and_parts a b h).1

pub and_holds : (a b : Bool) → T a → T b → T (a && b)
and_holds true b p q = q
and_holds false b p q = p

pub not_both : {b : Bool} → b ≡ true → b ≡ false → ⊥
not_both h k = cc

-- options and results

pub is_some : {A : Type 0} (o : Option A) (x : A) → o ≡ Some x → IsSome o
is_some o x e = rw e refl

pub none_some : {A : Type 0} (o : Option A) (x : A) → o ≡ None → o ≡ Some x → ⊥
none_some o x none some = none-some x (sym none ∙ some)

pub then_on_ok : {A E : Type 0} {P Q : Type 0} (r : Result A E) → OnOk r P → (P → Q) → OnOk r Q
then_on_ok (Ok x) h f = f h
then_on_ok (Err e) h f = tt

-- numbers

pub is_same : (n : ℕ) → (n == n) ≡ true
is_same n = eq-eqb n n refl

pub own_key : (n : ℕ) → eq_by_cmp nat_cmp n n ≡ true
own_key n = grind (arith, nat_tests)

pub keys_of_same : (q n : ℕ) → q ≡ n → eq_by_cmp nat_cmp q n ≡ true
keys_of_same q n h = grind (arith, nat_tests)

pub same_by_keys : (q n : ℕ) → eq_by_cmp nat_cmp q n ≡ true → q ≡ n
same_by_keys q n h = grind (arith, nat_tests)

pub suc_over : (m n : ℕ) → m + suc n ≡ suc m + n
suc_over m n = omega arith

-- lists

pub in_marks : (marks : List Bool) (i : ℕ) → unwrap_or (slice_get marks i) false ≡ true → i < length marks
in_marks [] i h = absurd (cc h)
in_marks (b ∷ marks) zero h = omega arith
in_marks (b ∷ marks) (suc i) h = let few = in_marks marks i h in omega (arith, few)

pub get_other :
    {A : Type 0} (xs : List A) (y : A) (i : ℕ) → (i ≡ length xs → ⊥) → slice_get (xs ++ y ∷ []) i ≡ slice_get xs i
get_other [] y zero h = absurd (h refl)
get_other [] y (suc i) h = refl
get_other (x ∷ xs) y zero h = refl
get_other (x ∷ xs) y (suc i) h = get_other xs y i (λ e. h (omega (arith, e)))

pub set_other :
    {A : Type 0} (xs : List A) (i j : ℕ) (y : A) → (j ≡ i → ⊥) → slice_get (slice_set xs i y) j ≡ slice_get xs j
set_other [] i j y h = refl
set_other (x ∷ xs) zero zero y h = absurd (h refl)
set_other (x ∷ xs) zero (suc j) y h = refl
set_other (x ∷ xs) (suc i) zero y h = refl
set_other (x ∷ xs) (suc i) (suc j) y h = set_other xs i j y (λ e. h (ap suc e))

pub range_more : (a n : ℕ) → range_with_len a (suc n) ≡ range_with_len a n ++ (a + n) ∷ []
range_more a zero = ap (λ (m : ℕ). m ∷ []) (let e : a ≡ a + 0 = omega arith in e)
range_more a (suc n) =
    let e : a + 1 + n ≡ a + suc n = omega arith in
    ap (λ (ms : List ℕ). a ∷ ms)
    (range_more (a + 1) n ∙ ap (λ (m : ℕ). range_with_len (a + 1) n ++ m ∷ []) e)

-- labels, phones and outcomes

pub own_label : (a : Label) → same_label a a ≡ true
own_label a = rw (eq-eqb a.task.0 a.task.0 refl, eq-eqb a.phone.0 a.phone.0 refl) refl

pub label_is : (a b : Label) → same_label a b ≡ true → a ≡ b
label_is a b e =
    let h = and_parts (a.task.0 == b.task.0) (a.phone.0 == b.phone.0) e in
    let task = eqb-true a.task.0 b.task.0 h.0 in
    let phone = eqb-true a.phone.0 b.phone.0 h.1 in
    λ j. record { task = record { 0 = task j }; phone = record { 0 = phone j } }

pub same_end : (u v : TaskNo) → Connected u ≡ Connected v → u ≡ v
same_end u v e = cc

pub free_waits : (o : Option PhoneState) → o ≡ Some Free → o ≡ Some Connecting → ⊥
free_waits o a b = cc

-- whether an outcome is a received call
abbrev pub is_receipt : Outcome → Bool
is_receipt (Received n msg label) = true
is_receipt _ = false

pub done_no_receipt : (o : Outcome) → is_done_or_refused o ≡ true → is_receipt o ≡ false
done_no_receipt o h = grind (arith, h)
