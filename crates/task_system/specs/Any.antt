-- The programs of all kinds: what each kind asks, becomes and tells, by an equation for each kind.
use Rattle.std.specs.Prelude.{ℕ, ◌≤◌, ⊤, List, [], ◌∷◌, Bool, true, false, ◌≡◌, Some, map, slice_get}
use Rattle.ipc_ids.specs.declared.message.Request.{Request}
use Rattle.ipc_ids.specs.declared.message.Outcome.{Outcome}
use Rattle.ipc_ids.specs.declared.entry.Entry.{Entry}
use Rattle.script_lines.specs.declared.plan.Kind.{Kind}
use Rattle.script_lines.specs.declared.plan.Kind.TheVariants as kind
use Rattle.script_lines.specs.declared.plan.TaskPlan.{TaskPlan}
use Rattle.raw_program.specs.Raw as raw
use Rattle.naming_service.specs.Naming as naming
use Rattle.async_task.specs.Program as async_task
use Rattle.block_server.specs.Blocks as block
use Rattle.task_system.specs.declared.any.AnyProgram.{AnyProgram}
use Rattle.task_system.specs.declared.any.AnyProgram.TheVariants as any

-- what it asks next
abbrev pub wanted : AnyProgram → Request
wanted (any.Raw p) = raw.wanted p
wanted (any.Naming p) = naming.wanted p
wanted (any.Async p) = async_task.wanted p
wanted (any.Block p) = block.wanted p

-- what an outcome makes of it
abbrev pub after : AnyProgram → Outcome → AnyProgram
after (any.Raw p) o = any.Raw (raw.after p o)
after (any.Naming p) o = any.Naming (naming.after p o)
after (any.Async p) o = any.Async (async_task.after p o)
after (any.Block p) o = any.Block (block.after p o)

-- the entries of its own that it makes of an outcome
abbrev pub entries : AnyProgram → Outcome → List Entry
entries (any.Raw p) o = raw.entries p o
entries (any.Naming p) o = naming.entries p o
entries (any.Async p) o = async_task.entries p o
entries (any.Block p) o = block.entries p o

-- how many outcomes it took
abbrev pub taken : AnyProgram → ℕ
taken (any.Raw p) = p.taken
taken (any.Naming p) = p.taken
taken (any.Async p) = p.taken
taken (any.Block p) = p.taken

-- each of them took so many outcomes at most
abbrev pub TookFew : ℕ → List AnyProgram → Type 0
TookFew most [] = ⊤
TookFew most (p ∷ ps) = (taken p ≤ most) × TookFew most ps

-- it is the naming service; it is a block server
abbrev pub serves_names : AnyProgram → Bool
serves_names (any.Raw p) = false
serves_names (any.Naming p) = true
serves_names (any.Async p) = false
serves_names (any.Block p) = false

abbrev pub keeps_blocks : AnyProgram → Bool
keeps_blocks (any.Raw p) = false
keeps_blocks (any.Naming p) = false
keeps_blocks (any.Async p) = false
keeps_blocks (any.Block p) = true

-- the task at this place is a block server
abbrev pub is_block : Kind → Bool
is_block kind.Naming = false
is_block kind.Raw = false
is_block kind.Async = false
is_block kind.Block = true

abbrev pub IsBlockServer : ℕ → List TaskPlan → Type 0
IsBlockServer i tasks = slice_get (map (λ task. is_block task.kind) tasks) i ≡ Some true
