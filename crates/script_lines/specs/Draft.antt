-- A script that is still read, as the script of the lines so far, and what a line adds to it.
use Rattle.std.specs.Prelude.{◌≡◌, ℕ, ◌+◌, List, [], ◌∷◌, ◌++◌, length, ⊤, Bool, true, false, not, ◌||◌, ◌&&◌, ◌==◌, nat_le, Option, Some, None, IfSome, option_map, Result, Ok, Err, is_some, slice_get, if◌then◌else◌}
use Rattle.std.specs.List.{list_any}
use Rattle.std.specs.Option.{ok_or, option_map_or, option_and_then}
use Rattle.ipc_ids.specs.Tables.{most_tasks, most_phones, most_operations}
use Rattle.ipc_ids.specs.declared.op.Op.{Op}
use Rattle.ipc_ids.specs.declared.op.Body.{Body}
use Rattle.script_lines.specs.declared.fault.Reason.{Reason}
use Rattle.script_lines.specs.declared.fault.Reason.TheVariants.{OutOfPlace, UnknownName, NameTaken, BadPhone, TooMany}
use Rattle.script_lines.specs.declared.fault.LineFault.{LineFault}
use Rattle.script_lines.specs.declared.fault.LineFault.TheVariants.{Bad, NoMemory}
use Rattle.script_lines.specs.declared.plan.Kind.{Kind}
use Rattle.script_lines.specs.declared.plan.Kind.TheVariants.{Naming, Raw, Async, Block}
use Rattle.script_lines.specs.declared.plan.TaskPlan.{TaskPlan}
use Rattle.script_lines.specs.declared.plan.Wire.{Wire}
use Rattle.script_lines.specs.declared.draft.LastTask.{LastTask}
use Rattle.script_lines.specs.declared.draft.TaskHead.{TaskHead}
use Rattle.script_lines.specs.declared.draft.Draft.{Draft}
use Rattle.script_lines.specs.Names.{task_names, place_of, ns_name, is_ns}
use Rattle.script_lines.specs.Operation.{◌>>=◌}
use Rattle.script_lines.specs.Plan.{Plan}
use Rattle.script_lines.specs.Sound.{most_fibrils, fibrils, connections, has_service, IsSound}

-- how many phones the task at a place has
unfoldable pub limit_at : List TaskPlan → ℕ → ℕ
limit_at tasks place = option_map_or (λ task. task.limit) (slice_get tasks place) 0

-- a wire begins at the phone at this number of the task with this number
abbrev pub is_wired : List Wire → ℕ → ℕ → Bool
is_wired wires from phone = list_any (λ wire. wire.from.0 == from && wire.phone.0 == phone) wires

-- where the script has the naming service, phone 0 of each other task leads to it from the start
abbrev pub leads_to_service : List TaskPlan → ℕ → ℕ → Bool
leads_to_service tasks place phone = has_service tasks && not (place == 0) && phone == 0

-- the list of what is there
abbrev pub if_any : {A : Type 0} → Option A → List A
if_any None = []
if_any (Some x) = x ∷ []

-- the naming service has all phones and no body
abbrev pub service : TaskPlan
service = record { name = ns_name; kind = Naming; limit = most_phones; bodies = []; blocks = 0; service = None }

-- the next line that has words is the first: any before it would have made a task or a template, or
-- stood behind one
unfoldable pub stands_first : Plan → Bool
stands_first plan = length plan.tasks == 0 && length plan.templates == 0

-- the naming service, as the first task
unfoldable pub with_service : Plan → Plan
with_service plan = record plan { tasks = plan.tasks ++ service ∷ [] }

-- a body without operations
abbrev pub empty_body : Bool → Body
empty_body connection = record { connection = connection; ops = [] }

-- the body that a task of this kind has from the start
abbrev pub first_body : Kind → Option Body
first_body Naming = None
first_body Raw = Some (empty_body false)
first_body Async = None
first_body Block = None

-- a task without operations
abbrev pub new_task : TaskHead → TaskPlan
new_task head =
    record {
      name = head.name;
      kind = head.kind;
      limit = head.limit;
      bodies = if_any (first_body head.kind);
      blocks = head.blocks;
      service = head.service;
    }

-- one more task
unfoldable pub with_task : Plan → TaskHead → Result Plan Reason
with_task plan head =
    if is_ns head.name || is_some (place_of (task_names plan.tasks) head.name) then Err NameTaken
    else (if nat_le most_tasks (length plan.tasks) then Err TooMany
    else Ok (record plan { tasks = plan.tasks ++ new_task head ∷ [] }))

-- one more task, or template, whose name is none of the others
unfoldable pub with_new : List (List ℕ) → Plan → TaskHead → Result Plan Reason
with_new others plan head =
    if is_some (place_of others head.name) then Err NameTaken else with_task plan head

-- the wire between the tasks at two places
abbrev pub wire_between : ℕ → ℕ → ℕ → Wire
wire_between from phone to =
    record { from = record { 0 = from + 1 }; phone = record { 0 = phone }; to = record { 0 = to + 1 } }

-- one more wire, between the tasks of two names
unfoldable pub with_wire : Plan → List ℕ → ℕ → List ℕ → Result Plan Reason
with_wire plan from phone to = do
  from ← ok_or (place_of (task_names plan.tasks) from) UnknownName
  to ← ok_or (place_of (task_names plan.tasks) to) UnknownName
  if nat_le (limit_at plan.tasks from) phone || is_wired plan.wires (from + 1) phone
      || leads_to_service plan.tasks from phone then Err BadPhone
      else Ok (record plan { wires = plan.wires ++ wire_between from phone to ∷ [] })

-- the last of a list
abbrev pub last_of : {A : Type 0} → List A → Option A
last_of [] = None
last_of (x ∷ []) = Some x
last_of (x ∷ next ∷ others) = last_of (next ∷ others)

-- the kind of a task that has a body
abbrev pub open_kind : TaskPlan → Option Kind
open_kind task = option_map (λ _. task.kind) (last_of task.bodies)

-- the kind of the last task, if an operation goes to a body of it
unfoldable pub present : Plan → Option Kind
present plan = option_and_then open_kind (last_of plan.tasks)

-- a change of the last of a list
abbrev pub on_last : {A : Type 0} → (A → Result A Reason) → List A → Result (List A) Reason
on_last change [] = Err OutOfPlace
on_last change (x ∷ []) = change x >>= λ y. Ok (y ∷ [])
on_last change (x ∷ next ∷ others) = on_last change (next ∷ others) >>= λ changed. Ok (x ∷ changed)

abbrev pub body_with_op : Op → Body → Result Body Reason
body_with_op op body =
    if nat_le most_operations (length body.ops) then Err TooMany else Ok (record body { ops = body.ops ++ op ∷ [] })

abbrev pub task_with_op : Op → TaskPlan → Result TaskPlan Reason
task_with_op op task =
    on_last (body_with_op op) task.bodies >>= λ bodies. Ok (record task { bodies = bodies })

abbrev pub is_async : Kind → Bool
is_async Naming = false
is_async Raw = false
is_async Async = true
is_async Block = false

-- the last task takes bodies
unfoldable pub takes_bodies : Plan → Bool
takes_bodies plan = option_map_or (λ task. is_async task.kind) (last_of plan.tasks) false

-- there is no room for one more body, of connections or of a fibril
abbrev pub is_full : Bool → List Body → Bool
is_full true bodies = nat_le 1 (connections bodies)
is_full false bodies = nat_le most_fibrils (fibrils bodies)

-- a task with one more body
unfoldable pub task_with_body : Bool → TaskPlan → Result TaskPlan Reason
task_with_body connection task =
    if is_full connection task.bodies then Err TooMany
    else Ok (record task { bodies = task.bodies ++ empty_body connection ∷ [] })

-- one more body of the last task
unfoldable pub with_body : Plan → Bool → Result Plan Reason
with_body plan connection =
    on_last (task_with_body connection) plan.tasks >>= λ tasks. Ok (record plan { tasks = tasks })

-- what an operation or a body leaves of its task
pub record HasHeadOf (old new : TaskPlan) : Type 0 where
  pub name : new.name ≡ old.name
  pub kind : new.kind ≡ old.kind
  pub limit : new.limit ≡ old.limit
  pub blocks : new.blocks ≡ old.blocks
  pub service : new.service ≡ old.service

-- one more operation of the last body of the last task
unfoldable pub with_op : Plan → Op → Result Plan Reason
with_op plan op = on_last (task_with_op op) plan.tasks >>= λ tasks. Ok (record plan { tasks = tasks })

-- what a call made of a value is what the line says, unless memory ran out
abbrev pub Follows : {A B : Type 0} → Result B LineFault → A → Result A Reason → Type 0
Follows (Ok _) new said = said ≡ Ok new
Follows (Err (Bad reason)) new said = said ≡ Err reason
Follows (Err NoMemory) new said = ⊤

-- the last task, with the bodies that it has so far
abbrev pub last_plan : LastTask → TaskPlan
last_plan last =
    record {
      name = last.name;
      kind = last.kind;
      limit = last.limit;
      bodies = last.bodies ++ if_any last.body;
      blocks = last.blocks;
      service = last.service;
    }

abbrev pub last_plans : Option LastTask → List TaskPlan
last_plans last = if_any (option_map last_plan last)

abbrev pub plan_of : Draft → Plan
plan_of draft = record { tasks = draft.done ++ last_plans draft.last; wires = draft.wires; templates = [] }

-- the kind of a task that has a last body, which takes operations
abbrev pub taken_by : LastTask → Option Kind
taken_by last = option_map (λ _. last.kind) last.body

-- the kind of the last task, if it has a body that takes operations
abbrev pub taker : Draft → Option Kind
taker draft = option_and_then taken_by draft.last

-- the last task is an async one
abbrev pub last_is_async : Draft → Bool
last_is_async draft = option_map_or (λ last. is_async last.kind) draft.last false

-- what a call made of a draft is the line's step, unless memory ran out
abbrev pub IsStep : {B : Type 0} → Result B LineFault → Draft → Draft → (Plan → Result Plan Reason) → Type 0
IsStep result old new step = Follows result (plan_of new) (step (plan_of old))

-- without a last one there is none
abbrev pub HasLast : {A B : Type 0} → Option A → List B → Type 0
HasLast None done = done ≡ []
HasLast (Some last) done = ⊤

-- the last task has a last body, if it has one
abbrev pub HasLastBody : LastTask → Type 0
HasLastBody last = HasLast last.body last.bodies

pub record IsWhole (draft : Draft) : Type 0 where
  -- the table has the names of the tasks
  pub names : draft.names ≡ task_names (plan_of draft).tasks
  pub last : HasLast draft.last draft.done
  pub last_body : IfSome draft.last HasLastBody
  pub sound : IsSound (plan_of draft)
