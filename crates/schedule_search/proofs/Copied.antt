-- What a look-up by an index gives.
use Rattle.std.proofs.Common.{Bor, ℕ, zero, suc, ◌∷◌, [], arith, ◌≡◌, ◌∙◌, ◌≤◌, ◌⊎◌, inl, inr, ◌<◌, ◌-◌, List, length, get_or, Option, Some, None, refl, sym, ap, slice_get}
use Rattle.std.specs.Prelude.{Bool, nat_lt, is_some, IfSome, if◌then◌else◌}
use Rattle.std.specs.Option.{option_copied}
use Rattle.std.proofs.lemmas.Bool.{cases_lt, ltb-false, ltb-true, lt-ltb, le-ltb}
use Rattle.std.proofs.lemmas.Option.{slice_get_read, slice_get_past}
use Rattle.ipc_ids.specs.declared.numbers.TaskNo.{TaskNo}
use Rattle.task_system.specs.declared.any.AnyProgram.{AnyProgram}
use Rattle.task_system.specs.Run.{RunState}
use Rattle.schedule_search.specs.Holding.{program_with}

pub copied_at : {X : Type 0} (xs : List X) (i : ℕ) (r : Option (Bor X)) → is_some r ≡ nat_lt i (length xs)
    → IfSome r (λ x. x.now ≡ get_or xs i x.now) → option_copied r ≡ slice_get xs i
copied_at xs i None some at = sym (slice_get_past xs i (ltb-false i (length xs) (sym some)))
copied_at xs i (Some x) some at = sym (slice_get_read xs (length xs) i x.now refl (ltb-true i (length xs) (sym some)) at)

one_more : (i n : ℕ) → (i < n) ⊎ (n ≤ i) → nat_lt (suc i) (suc n) ≡ nat_lt i n
one_more i n (inl l) = lt-ltb (suc i) (suc n) (omega arith) ∙ sym (lt-ltb i n l)
one_more i n (inr l) = le-ltb (suc i) (suc n) (omega arith) ∙ sym (le-ltb i n l)

-- whether there is an element at an index
pub some_within : {X : Type 0} (xs : List X) (i : ℕ) → nat_lt i (length xs) ≡ is_some (slice_get xs i)
some_within [] i = le-ltb i 0 (omega arith)
some_within (x ∷ xs) zero = lt-ltb 0 (length (x ∷ xs)) (omega arith)
some_within (x ∷ xs) (suc i) = one_more i (length xs) (cases_lt i (length xs)) ∙ some_within xs i

-- the program of a task
module _ (now : RunState) (task : TaskNo) where
  abbrev by_test : Bool → Option AnyProgram
  by_test some = if some then slice_get now.programs (task.0 - 1) else None

  pub no_task : task.0 ≡ 0 → None ≡ program_with now task
  no_task none = ap by_test (sym (ap (nat_lt 0) none))

  pub task_there : 0 < task.0 → slice_get now.programs (task.0 - 1) ≡ program_with now task
  task_there some = ap by_test (sym (lt-ltb 0 task.0 some))
