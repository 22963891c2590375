-- Every task runs the program of its plan, after each event of a run: a task of the script the one that the script
-- gives it, and a task that a line of the schedule made the one of the template which that line names.
use Rattle.std.specs.Prelude.{ℕ, suc, ◌≡◌, ⊤, List, [], ◌∷◌, ◌++◌, length, Some, slice_get}
use Rattle.std.specs.Option.{option_to_list}
use Rattle.ipc_ids.specs.declared.message.Event.{Event}
use Rattle.ipc_ids.specs.declared.message.Event.TheVariants.{Spawn}
use Rattle.script_lines.specs.declared.plan.Kind.{Kind}
use Rattle.script_lines.specs.declared.plan.Kind.TheVariants as kind
use Rattle.script_lines.specs.declared.plan.TaskPlan.{TaskPlan}
use Rattle.script_lines.specs.Plan.{Plan}
use Rattle.task_system.specs.declared.any.AnyProgram.{AnyProgram}
use Rattle.task_system.specs.declared.any.AnyProgram.TheVariants as any
use Rattle.task_system.specs.Run.{start, state_after}
use Rattle.run_determined.specs.ScheduleLines.{AreFirstOps}

-- the plans of the tasks after these events: those before, and behind them the templates from which tasks were made
abbrev pub plans_after : List TaskPlan → List TaskPlan → List Event → List TaskPlan
plans_after templates plans [] = plans
plans_after templates plans (Spawn place ∷ events) =
    plans_after templates (plans ++ option_to_list (slice_get templates place)) events
plans_after templates plans (_ ∷ events) = plans_after templates plans events

-- a program of task t, of this kind and with the operations of this plan
abbrev pub IsProgramOf : ℕ → TaskPlan → Kind → AnyProgram → Type 0
IsProgramOf t plan kind.Raw (any.Raw p) = AreFirstOps p.ops plan.bodies
IsProgramOf t plan kind.Async (any.Async p) = (p.state.me.0 ≡ t) × (p.state.bodies ≡ plan.bodies)
IsProgramOf t plan kind.Naming (any.Naming p) = ⊤
IsProgramOf t plan kind.Block (any.Block p) = ⊤
IsProgramOf t plan _ p = ⊥

-- these programs, the first of which is that of task 1, are those of these plans
pub record RunThePlans (plans : List TaskPlan) (programs : List AnyProgram) : Type 0 where
  pub counted : length plans ≡ length programs
  pub each : (i : ℕ) (plan : TaskPlan) (p : AnyProgram) → slice_get plans i ≡ Some plan
      → slice_get programs i ≡ Some p
      → IsProgramOf (suc i) plan plan.kind p

abbrev pub TasksRunTheirPlans : Plan → List Event → Type 0
TasksRunTheirPlans plan events =
    (done later : List Event) → events ≡ done ++ later →
    RunThePlans (plans_after plan.templates plan.tasks done) (state_after (start plan) done).programs
