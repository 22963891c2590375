-- The plans of the tasks of a run, and the bodies that they give its programs.
use Rattle.std.specs.Prelude.{ℕ, ◌≡◌, ◌-◌, ⊤, List, ◌++◌, Option, None, slice_get}
use Rattle.std.specs.List.{filter_map}
use Rattle.ipc_ids.specs.declared.numbers.TaskNo.{TaskNo}
use Rattle.ipc_ids.specs.declared.op.Body.{Body}
use Rattle.ipc_ids.specs.declared.message.Event.{Event}
use Rattle.ipc_ids.specs.declared.message.Event.TheVariants.{Step, Kill, Hangup, Spawn}
use Rattle.script_lines.specs.declared.plan.TaskPlan.{TaskPlan}
use Rattle.script_lines.specs.Plan.{Plan}
use Rattle.search_goals.specs.Places.{bodies_in}
use Rattle.task_system.specs.Run.{ops_of}
use Rattle.run_words.specs.Constants.{Constant, Raw, Naming, Async, Block}

-- the template from which an event makes a task
abbrev pub template_of : List TaskPlan → Event → Option TaskPlan
template_of templates (Step task) = None
template_of templates (Kill task) = None
template_of templates (Hangup task phone) = None
template_of templates (Spawn place) = slice_get templates place

-- the templates of the tasks that these spawns make
abbrev pub spawned_plans : List TaskPlan → List ℕ → List TaskPlan
spawned_plans templates places = filter_map (slice_get templates) places

-- the plans of all tasks behind these spawns: those of the script, and the templates of the others
abbrev pub plans_of : Plan → List ℕ → List TaskPlan
plans_of plan spawned = plan.tasks ++ spawned_plans plan.templates spawned

-- the plan of a task
abbrev pub plan_at : Plan → List ℕ → TaskNo → Option TaskPlan
plan_at plan spawned task = slice_get (plans_of plan spawned) (task.0 - 1)

-- its bodies
abbrev pub bodies_of : Plan → List ℕ → TaskNo → List Body
bodies_of plan spawned task = bodies_in (plan_at plan spawned task)

-- a program of which this is constant does these bodies: a raw one the first of them, one of fibrils all
abbrev pub DoesBodies : Constant → List Body → Type 0
DoesBodies (Raw ops) bodies = ops ≡ ops_of bodies
DoesBodies Naming bodies = ⊤
DoesBodies (Async me own) bodies = own ≡ bodies
DoesBodies Block bodies = ⊤
