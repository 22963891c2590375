-- The names of tasks, in the order of the tasks.
use Rattle.std.specs.Prelude.{ℕ, ◌+◌, List, map, Bool, Option, option_map, position, codes}
use Rattle.std.specs.Str.{bytes_eq}
use Rattle.ipc_ids.specs.declared.numbers.TaskNo.{TaskNo}
use Rattle.script_lines.specs.declared.plan.TaskPlan.{TaskPlan}

abbrev pub task_names : List TaskPlan → List (List ℕ)
task_names tasks = map (λ task. task.name) tasks

-- where a name stands
abbrev pub place_of : List (List ℕ) → List ℕ → Option ℕ
place_of names name = position (λ known. bytes_eq name known) names

-- the task at a place has the number after it
unfoldable pub task_named : List (List ℕ) → List ℕ → Option TaskNo
task_named names name = option_map (λ place. record { 0 = place + 1 }) (place_of names name)

-- the name of the naming service, which no task line gives
abbrev pub ns_name : List ℕ
ns_name = codes "ns"

abbrev pub is_ns : List ℕ → Bool
is_ns name = bytes_eq name ns_name
