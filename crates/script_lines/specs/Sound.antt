-- What every script keeps.
use Rattle.std.specs.Prelude.{◌≡◌, ◌≢◌, ℕ, ◌-◌, ◌<◌, ◌≤◌, List, [], ◌∷◌, length, slice_index_or, All, AllPairs, Bool, true, false, not, count_by, map, ⊤}
use Rattle.ipc_ids.specs.Tables.{most_tasks, most_phones, most_operations}
use Rattle.ipc_ids.specs.declared.op.Body.{Body}
use Rattle.script_lines.specs.declared.plan.Kind.{Kind}
use Rattle.script_lines.specs.declared.plan.Kind.TheVariants.{Naming, Raw, Async, Block}
use Rattle.script_lines.specs.declared.plan.TaskPlan.{TaskPlan}
use Rattle.script_lines.specs.declared.plan.Wire.{Wire}
use Rattle.script_lines.specs.declared.draft.TaskHead.{TaskHead}
use Rattle.script_lines.specs.Names.{ns_name, task_names}
use Rattle.script_lines.specs.Plan.{Plan}
use Rattle.script_lines.specs.Ranges.{KeepsRanges, is_raw_op, is_async_op}

-- the number of a task, of so many
abbrev pub IsTask : ℕ → ℕ → Type 0
IsTask count number = (1 ≤ number) × (number ≤ count)

-- how many phones a task can have: from 1 to 64
abbrev pub IsLimit : ℕ → Type 0
IsLimit limit = (1 ≤ limit) × (limit ≤ most_phones)

-- blocks of a block server
abbrev pub most_blocks : ℕ
most_blocks = 64

-- how many blocks a block server can have: from 1 to 64
abbrev pub IsBlockCount : ℕ → Type 0
IsBlockCount blocks = (1 ≤ blocks) × (blocks ≤ most_blocks)

abbrev pub NamesDiffer : List TaskPlan → Type 0
NamesDiffer tasks = AllPairs (λ a b. a.name ≢ b.name) tasks

-- the body of a raw task
pub record IsRawBody (body : Body) : Type 0 where
  pub no_connection : body.connection ≡ false
  pub few : length body.ops ≤ most_operations
  pub ranges : All KeepsRanges body.ops
  pub raw_ops : All (λ op. is_raw_op op ≡ true) body.ops

-- a raw task; the name ns is the naming service's, and no other task has it
pub record IsRawTask (task : TaskPlan) : Type 0 where
  pub not_ns : task.name ≢ ns_name
  pub some_phones : 1 ≤ task.limit
  pub few_phones : task.limit ≤ most_phones
  pub one_body : length task.bodies ≡ 1
  pub raw_bodies : All IsRawBody task.bodies

-- the body of a start fibril or of the connections of an async task
pub record IsAsyncBody (body : Body) : Type 0 where
  pub few : length body.ops ≤ most_operations
  pub ranges : All KeepsRanges body.ops
  pub async_ops : All (λ op. is_async_op op ≡ true) body.ops

-- start fibrils of an async task
abbrev pub most_fibrils : ℕ
most_fibrils = 16

-- how many fibrils start with the task, each with a body of its own
abbrev pub fibrils : List Body → ℕ
fibrils bodies = count_by (λ body. not body.connection) bodies

-- how many bodies of connections there are
abbrev pub connections : List Body → ℕ
connections bodies = count_by (λ body. body.connection) bodies

-- an async task, of up to 16 start fibrils and one body of connections
pub record IsAsyncTask (task : TaskPlan) : Type 0 where
  pub not_ns : task.name ≢ ns_name
  pub some_phones : 1 ≤ task.limit
  pub few_phones : task.limit ≤ most_phones
  pub few_fibrils : fibrils task.bodies ≤ most_fibrils
  pub one_connection : connections task.bodies ≤ 1
  pub async_bodies : All IsAsyncBody task.bodies

-- the naming service: all phones, and no body
pub record IsNamingTask (task : TaskPlan) : Type 0 where
  pub name : task.name ≡ ns_name
  pub limit : task.limit ≡ most_phones
  pub no_bodies : task.bodies ≡ []

-- a block server: 1 to 64 blocks, all phones, and no body
pub record IsBlockTask (task : TaskPlan) : Type 0 where
  pub not_ns : task.name ≢ ns_name
  pub limit : task.limit ≡ most_phones
  pub blocks : IsBlockCount task.blocks
  pub no_bodies : task.bodies ≡ []

-- what a task of each kind keeps
abbrev pub IsTaskOf : Kind → TaskPlan → Type 0
IsTaskOf Naming task = IsNamingTask task
IsTaskOf Raw task = IsRawTask task
IsTaskOf Async task = IsAsyncTask task
IsTaskOf Block task = IsBlockTask task

-- a task of any kind has 1 to 64 phones, and what its kind asks
pub record IsSoundTask (task : TaskPlan) : Type 0 where
  pub some_phones : 1 ≤ task.limit
  pub few_phones : task.limit ≤ most_phones
  pub of_kind : IsTaskOf task.kind task

abbrev pub is_naming : Kind → Bool
is_naming Naming = true
is_naming Raw = false
is_naming Async = false
is_naming Block = false

-- the numbers of a task's line fit its kind
abbrev pub HeadFits : Kind → TaskHead → Type 0
HeadFits Naming head = ⊥
HeadFits Raw head = IsLimit head.limit
HeadFits Async head = IsLimit head.limit
HeadFits Block head = (head.limit ≡ most_phones) × IsBlockCount head.blocks

-- the first task is the naming service
abbrev pub has_service : List TaskPlan → Bool
has_service [] = false
has_service (task ∷ _) = is_naming task.kind

-- no task behind another is the naming service
abbrev pub ServiceIsFirst : List TaskPlan → Type 0
ServiceIsFirst tasks = AllPairs (λ a b. b.kind ≢ Naming) tasks

-- with the naming service, a wire from phone 0 begins at the service, since phone 0 of every other
-- task leads to the service from the start
abbrev pub IsBesideService : List TaskPlan → Wire → Type 0
IsBesideService tasks wire = has_service tasks ≡ true → wire.from.0 ≢ 1 → wire.phone.0 ≢ 0

-- a wire leads from a task, over a phone in the task's range, to a task
pub record Leads (tasks : List TaskPlan) (wire : Wire) : Type 0 where
  pub from_task : IsTask (length tasks) wire.from.0
  pub to_task : IsTask (length tasks) wire.to.0
  pub in_range : (d : TaskPlan) → wire.phone.0 < (slice_index_or tasks (wire.from.0 - 1) d).limit

-- no two wires begin at the same phone of the same task
abbrev pub PhonesDiffer : List Wire → Type 0
PhonesDiffer wires = AllPairs (λ a b. a.from ≡ b.from → a.phone ≢ b.phone) wires

-- no name stands in both lists
abbrev pub AreApart : List (List ℕ) → List (List ℕ) → Type 0
AreApart names others = All (λ other. All (λ name. name ≢ other) names) others

-- what tasks can be made from while others run
abbrev pub IsRawOrAsync : Kind → Type 0
IsRawOrAsync Naming = ⊥
IsRawOrAsync Raw = ⊤
IsRawOrAsync Async = ⊤
IsRawOrAsync Block = ⊥

-- each of them makes raw or async tasks
abbrev pub AreRawOrAsync : List TaskPlan → Type 0
AreRawOrAsync templates = All IsRawOrAsync (map (λ template. template.kind) templates)

-- each task keeps what its kind asks; the naming service comes first and has phone 0 of the others; the
-- templates are raw or async, and have names of their own
pub record IsSound (plan : Plan) : Type 0 where
  pub few : length plan.tasks ≤ most_tasks
  pub names_differ : NamesDiffer plan.tasks
  pub sound_tasks : All IsSoundTask plan.tasks
  pub service_is_first : ServiceIsFirst plan.tasks
  pub wires_lead : All (Leads plan.tasks) plan.wires
  pub phones_differ : PhonesDiffer plan.wires
  pub beside_service : All (IsBesideService plan.tasks) plan.wires
  pub few_templates : length plan.templates ≤ most_tasks
  pub template_names_differ : NamesDiffer plan.templates
  pub templates_apart : AreApart (task_names plan.tasks) (task_names plan.templates)
  pub sound_templates : All IsSoundTask plan.templates
  pub raw_or_async : AreRawOrAsync plan.templates
