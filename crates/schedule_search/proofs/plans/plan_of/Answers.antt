use Rattle.std.proofs.Common.{ℕ, ◌-◌, List, length, slice_get, sym, ◌∙◌, ap, subst, ◌≤◌, ◌≡◌}
use Rattle.script_lines.specs.declared.plan.TaskPlan.{TaskPlan}
use Rattle.script_lines.specs.Plan.{Plan}
use Rattle.run_words.specs.Reached.{spawns_of}
use Rattle.schedule_search.specs.Plans.{spawned_plans, plans_of}
use Rattle.schedule_search.proofs.Bodies.{of_spawn}
use Rattle.schedule_search.proofs.plans.plan_of.Goals as goal

pub returns : goal.returns
returns c =
    let plan = c.args.script.now in
    let spawned = spawns_of c.args.from.now in
    let place : ℕ = c.saturating_sub-place.result in
    let tasks : c.as_slice-tasks.result.now ≡ plan.tasks =
    c.as_slice-tasks.ensures ∙ ap (λ (p : Plan). p.tasks) c.script.view_is in
    let templates : c.as_slice.result.now ≡ plan.templates =
    c.as_slice.ensures ∙ ap (λ (p : Plan). p.templates) c.script.view_is in
    c.spawned_plan.ensures
    ∙ ap (λ (z : List TaskPlan). slice_get (spawned_plans z spawned) (place - length c.as_slice-tasks.result.now)) templates
    ∙ ap (λ (z : List TaskPlan). slice_get (spawned_plans plan.templates spawned) (place - length z)) tasks
    ∙ sym (of_spawn plan.tasks (spawned_plans plan.templates spawned) place
    (subst (λ (z : List TaskPlan). length z ≤ place) tasks c.if-place-tasks.false))
    ∙ ap (slice_get (plans_of plan spawned)) c.saturating_sub-place.ensures
