-- Which operations a goal may ask for.
use Rattle.std.specs.Prelude.{ℕ, ◌-◌, Bool, true, List, [], length, nat_lt, Option, None, Some, slice_get}
use Rattle.std.specs.List.{list_any}
use Rattle.ipc_ids.specs.declared.numbers.TaskNo.{TaskNo}
use Rattle.ipc_ids.specs.declared.op.Body.{Body}
use Rattle.script_lines.specs.declared.plan.TaskPlan.{TaskPlan}
use Rattle.search_goals.specs.declared.conditions.Condition.{Condition}
use Rattle.search_goals.specs.declared.conditions.Condition.TheVariants as conditions

-- the plan of a task of the script; none of a task that was made
abbrev pub plan_of : List TaskPlan → TaskNo → Option TaskPlan
plan_of tasks task = slice_get tasks (task.0 - 1)

-- the bodies of a plan; none where there is no plan
abbrev pub bodies_in : Option TaskPlan → List Body
bodies_in None = []
bodies_in (Some plan) = plan.bodies

-- those of a task; the naming service and block servers have none
abbrev pub bodies_of : List TaskPlan → TaskNo → List Body
bodies_of tasks task = bodies_in (plan_of tasks task)

-- some body has the operation of this number, counted from 0
abbrev pub has_operation : List Body → ℕ → Bool
has_operation bodies place = list_any (λ body. nat_lt place (length body.ops)) bodies

-- where a condition asks for an operation, some body of its task has it
abbrev pub is_known : List Body → Condition → Bool
is_known bodies (conditions.At subject place) = has_operation bodies place
is_known bodies (conditions.Holds subject register n) = true
is_known bodies (conditions.AtEnd subject) = true
is_known bodies (conditions.Killed task) = true

-- the same of a task by its plan; of a task that was made nothing is known
abbrev pub is_known_of : Option TaskPlan → Condition → Bool
is_known_of None condition = true
is_known_of (Some plan) condition = is_known plan.bodies condition
