use Rattle.std.proofs.Common.{ℕ, List, [], ◌∷◌, ◌++◌, take, sym, ap, ◌∙◌}
use Rattle.std.specs.Global.{Vec}
use Rattle.std.proofs.lemmas.List.{map_push, take_more, take_all}
use Rattle.script_lines.specs.declared.plan.TaskPlan.{TaskPlan}
use Rattle.script_lines.specs.Names.{task_names}
use Rattle.search_goals.specs.Goals.{listed}
use Rattle.search_goals.proofs.names.push_words.Goals as goal

pub loop-task-preserved : goal.loop-task-preserved
loop-task-preserved c =
    let tasks = c.args.tasks.now in
    let i : ℕ = c.loop-task.task-index in
    let task : TaskPlan = c.task-item.result in
    ap listed c.in_ok-push.ensures.items
    ∙ map_push (λ (w : Vec ℕ). w.items) c.loop-task.known.items c.in_ok-name.name
    ∙ ap (λ (ns : List (List ℕ)). ns ++ c.in_ok-name.name.items ∷ []) c.loop-task.invariant
    ∙ ap (λ (n : List ℕ). task_names (take i tasks) ++ n ∷ []) (c.in_ok-name.ensures.items ∙ c.as_slice.ensures)
    ∙ sym (map_push (λ (t : TaskPlan). t.name) (take i tasks) task)
    ∙ ap (λ (t : TaskPlan). task_names (take i tasks ++ t ∷ [])) c.task-item.is
    ∙ sym (ap task_names (take_more tasks i task c.loop-task-test.true))

pub returns : goal.returns
returns c =
    c.loop-task.invariant ∙ ap task_names (take_all c.loop-task.task-index c.args.tasks.now c.loop-task-test.false)

pub loop-task-init : goal.loop-task-init
loop-task-init c = ap listed c.requires
