-- The programs with which tasks begin.
use Rattle.std.proofs.Common.{◌≡◌, ℕ, ◌+◌, ◌<◌, length, List, [], ◌∷◌, ◌++◌, drop, append_assoc, sym, ap, ◌∙◌}
use Rattle.std.specs.Prelude.{get_or}
use Rattle.std.proofs.lemmas.List.{at_drop_more}
use Rattle.script_lines.specs.declared.plan.TaskPlan.{TaskPlan}
use Rattle.task_system.specs.declared.any.AnyProgram.{AnyProgram}
use Rattle.task_system.specs.Run.{program_of, programs_from}

-- those of the tasks so far, after one more
pub one_more : (tasks : List TaskPlan) (k n : ℕ) (task other : TaskPlan) (p : AnyProgram) (out new whole : List AnyProgram)
    → k < length tasks → task ≡ get_or tasks k other → out ++ programs_from n (drop k tasks) ≡ whole
    → p ≡ program_of n task → new ≡ out ++ p ∷ [] → new ++ programs_from (n + 1) (drop (k + 1) tasks) ≡ whole
one_more tasks k n task other p out new whole less is before made pushed =
    let rest : List AnyProgram = programs_from (n + 1) (drop (k + 1) tasks) in
    ap (λ (v : List AnyProgram). v ++ rest) pushed
    ∙ append_assoc out (p ∷ []) rest
    ∙ ap (λ (q : AnyProgram). out ++ q ∷ rest) (made ∙ ap (program_of n) is)
    ∙ ap (λ (v : List AnyProgram). out ++ v) (sym (at_drop_more (programs_from n) tasks k other less))
    ∙ before
