-- How many outcomes the programs took: no more than there were events.
use Rattle.std.proofs.Common.{◌≡◌, ℕ, zero, suc, ◌≤◌, ◌<◌, List, [], ◌∷◌, length, set, refl, Result, Ok, Err, subst, sym, ap, arith}
use Rattle.std.specs.Prelude.{◌+◌, get_or, OnOk, OnErr}
use Rattle.ipc_ids.specs.declared.numbers.TaskNo.{TaskNo}
use Rattle.script_lines.specs.declared.plan.Kind.{Kind}
use Rattle.script_lines.specs.declared.plan.Kind.TheVariants as kind
use Rattle.script_lines.specs.declared.plan.TaskPlan.{TaskPlan}
use Rattle.task_system.specs.declared.any.AnyProgram.{AnyProgram}
use Rattle.task_system.specs.Any.{taken, TookFew}
use Rattle.task_system.specs.Run.{program_by, program_of, programs_from}

pub took_more : (m n : ℕ) (ps : List AnyProgram) → m ≤ n → TookFew m ps → TookFew n ps
took_more m n [] le few = tt
took_more m n (p ∷ ps) le few = (omega (arith, le, few.0), took_more m n ps le few.1)

pub took_at : (n i : ℕ) (ps : List AnyProgram) (d : AnyProgram) → i < length ps → TookFew n ps → taken (get_or ps i d) ≤ n
took_at n i [] d h few = absurd (omega (arith, h))
took_at n zero (p ∷ ps) d h few = few.0
took_at n (suc i) (p ∷ ps) d h few = took_at n i ps d (omega (arith, h)) few.1

pub took_set : (n i : ℕ) (ps : List AnyProgram) (p : AnyProgram) → taken p ≤ n → TookFew n ps → TookFew n (set ps i p)
took_set n i [] p h few = tt
took_set n zero (q ∷ ps) p h few = (h, few.1)
took_set n (suc i) (q ∷ ps) p h few = (few.0, took_set n i ps p h few.1)

-- the program at a place took few outcomes
pub took_there : (n place most : ℕ) (ps : List AnyProgram) (p : AnyProgram) → p ≡ get_or ps place p → place < length ps → TookFew n ps → n < most → taken p < most
took_there n place most ps p is h few le =
    let at : taken (get_or ps place p) ≤ n = took_at n place ps p h few in
    let here : taken p ≤ n = subst (λ (q : AnyProgram). taken q ≤ n) (sym is) at in
    omega (arith, here, le)

-- it took one more, or none
one_more_at_most : {T E : Type 0} (r : Result T E) (old new : AnyProgram) → OnOk r (taken new ≡ taken old + 1) → OnErr r (new ≡ old) → taken new ≤ taken old + 1
one_more_at_most (Ok x) old new took same = omega (arith, took)
one_more_at_most (Err e) old new took same = let is : taken new ≡ taken old = ap taken same in omega (arith, is)

pub took_step : {T E : Type 0} (r : Result T E) (n m place : ℕ) (ps : List AnyProgram) (old new : AnyProgram)
    → OnOk r (taken new ≡ taken old + 1) → OnErr r (new ≡ old) → old ≡ get_or ps place old → place < length ps → TookFew n ps → m ≡ n + 1
    → TookFew m (set ps place new)
took_step r n m place ps old new took same is h few more =
    let before : taken old < n + 1 = took_there n place (n + 1) ps old is h few (omega arith) in
    let now : taken new ≤ taken old + 1 = one_more_at_most r old new took same in
    took_set m place ps new (omega (arith, before, now, more)) (took_more n m ps (omega (arith, more)) few)

pub none_taken : (me : TaskNo) (task : TaskPlan) (k : Kind) → taken (program_by me task k) ≡ 0
none_taken me task kind.Naming = refl
none_taken me task kind.Raw = refl
none_taken me task kind.Async = refl
none_taken me task kind.Block = refl

-- before the first event no program took an outcome
pub took_none : (n t : ℕ) (tasks : List TaskPlan) → TookFew n (programs_from t tasks)
took_none n t [] = tt
took_none n t (task ∷ tasks) =
    let none : taken (program_of t task) ≡ 0 = none_taken (record { 0 = t }) task task.kind in
    (omega (arith, none), took_none n (t + 1) tasks)
