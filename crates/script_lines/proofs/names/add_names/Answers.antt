use Rattle.std.proofs.Common.{◌∙◌, ◌≡◌, List, ℕ, sym, ap, subst, take, false}
use Rattle.std.specs.Prelude.{is_some}
use Rattle.script_lines.specs.declared.plan.TaskPlan.{TaskPlan}
use Rattle.script_lines.specs.Names.{place_of, task_names}
use Rattle.script_lines.proofs.Soundness.{name_before_is_new}
use Rattle.script_lines.proofs.names.add_names.Goals as goal

pub push-requires-clause-new : goal.push-requires-clause-new
push-requires-clause-new c =
    let before = task_names (take c.loop-task.task-index c.args.tasks.now) in
    let name = ap (λ (t : TaskPlan). t.name) (sym c.task-item.is) ∙ sym c.as_slice.ensures in
    let new = name_before_is_new c.args.tasks.now c.loop-task.task-index c.task-item.result c.requires.differ c.loop-task-test.true in
    rw c.loop-task.invariant (subst (λ (n : List ℕ). is_some (place_of before n) ≡ false) name new)
