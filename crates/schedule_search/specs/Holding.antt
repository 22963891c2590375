-- Which conditions of a goal hold in one state.
use Rattle.std.specs.Prelude.{ℕ, ◌-◌, ◌==◌, ◌&&◌, ◌||◌, Bool, true, false, not, List, length, nat_le, nat_lt, Option, None, Some, is_some, if◌then◌else◌, slice_get}
use Rattle.std.specs.List.{list_all}
use Rattle.ipc_ids.specs.declared.numbers.FibrilNo.{FibrilNo}
use Rattle.ipc_ids.specs.declared.numbers.TaskNo.{TaskNo}
use Rattle.ipc_ids.specs.declared.op.Body.{Body}
use Rattle.switchboard.specs.State.{KernelState, is_alive}
use Rattle.raw_program.specs.Raw.{RawState, operation}
use Rattle.async_task.specs.declared.context.Context.{Context}
use Rattle.async_task.specs.AsyncState.{AsyncState, context_at, op_in}
use Rattle.task_system.specs.declared.any.AnyProgram.{AnyProgram}
use Rattle.task_system.specs.declared.any.AnyProgram.TheVariants as any
use Rattle.task_system.specs.Run.{RunState}
use Rattle.search_goals.specs.declared.conditions.Condition.{Condition}
use Rattle.search_goals.specs.declared.conditions.Condition.TheVariants as conditions

-- ---- what a condition is about

-- its task
abbrev pub task_of : Condition → TaskNo
task_of (conditions.At subject n) = subject.task
task_of (conditions.Holds subject k n) = subject.task
task_of (conditions.AtEnd subject) = subject.task
task_of (conditions.Killed task) = task

-- the fibril that it names, if it names one
abbrev pub named_fibril : Condition → Option FibrilNo
named_fibril (conditions.At subject n) = subject.fibril
named_fibril (conditions.Holds subject k n) = subject.fibril
named_fibril (conditions.AtEnd subject) = subject.fibril
named_fibril (conditions.Killed task) = None

-- in a task of fibrils, where none is named, the first
abbrev pub or_first : Option FibrilNo → FibrilNo
or_first None = record { 0 = 1 }
or_first (Some f) = f

-- ---- what is asked of a body

-- a register that may not be there holds that
abbrev pub is_number : ℕ → Option ℕ → Bool
is_number n None = false
is_number n (Some held) = held == n

-- by whether there is a next operation, its number and the registers: it is the one that is asked for, counted from 0;
-- a register holds what is asked; there is none. That the task was killed is not told by a body.
abbrev pub holds_at : Condition → (goes_on : Bool) → (place : ℕ) → (registers : List ℕ) → Bool
holds_at (conditions.At subject n) goes_on place registers = goes_on && place == n
holds_at (conditions.Holds subject k n) goes_on place registers = is_number n (slice_get registers k)
holds_at (conditions.AtEnd subject) goes_on place registers = not goes_on
holds_at (conditions.Killed task) goes_on place registers = false

-- of a fibril that has ended, nothing of which is kept: it is at its end, and has no operation and no registers
abbrev pub holds_of_ended : Condition → Bool
holds_of_ended (conditions.At subject n) = false
holds_of_ended (conditions.Holds subject k n) = false
holds_of_ended (conditions.AtEnd subject) = true
holds_of_ended (conditions.Killed task) = false

-- of a raw task, which has no fibrils
abbrev pub holds_of_raw : Condition → Option FibrilNo → RawState → Bool
holds_of_raw c None p = holds_at c (is_some (operation p)) p.place p.registers
holds_of_raw c (Some f) p = false

-- of a fibril that keeps this, or keeps nothing any more, where the bodies are those of its task
abbrev pub holds_kept : Condition → List Body → Option Context → Bool
holds_kept c bodies None = holds_of_ended c
holds_kept c bodies (Some t) =
    holds_at c (is_some (op_in (slice_get bodies t.body) t.place)) t.place t.registers

-- a fibril of this number was made
abbrev pub was_made : AsyncState → FibrilNo → Bool
was_made a f = nat_lt 0 f.0 && nat_le f.0 (length a.contexts)

-- of a fibril; nothing of one that was never made
abbrev pub holds_of_fibril : Condition → AsyncState → FibrilNo → Bool
holds_of_fibril c a f = was_made a f && holds_kept c a.bodies (context_at a f)

-- of a program; the naming service and block servers have no operations and no registers
abbrev pub holds_of : Condition → AnyProgram → Bool
holds_of c (any.Raw p) = holds_of_raw c (named_fibril c) p
holds_of c (any.Naming p) = false
holds_of c (any.Async p) = holds_of_fibril c p.state (or_first (named_fibril c))
holds_of c (any.Block p) = false

-- ---- in a state

-- what is asked is that a task was killed, and it has ended
abbrev pub is_killed : Condition → KernelState → Bool
is_killed (conditions.At subject n) k = false
is_killed (conditions.Holds subject register n) k = false
is_killed (conditions.AtEnd subject) k = false
is_killed (conditions.Killed task) k = not (is_alive k task)

-- the program of the task of this number; that of a task that was killed stays as it was
abbrev pub program_with : RunState → TaskNo → Option AnyProgram
program_with now task = if nat_lt 0 task.0 then slice_get now.programs (task.0 - 1) else None

-- of a task with this program; nothing holds where there is no such task
abbrev pub holds_if : Condition → KernelState → Option AnyProgram → Bool
holds_if c k None = false
holds_if c k (Some p) = is_killed c k || holds_of c p

-- a condition holds
abbrev pub holds : Condition → RunState → Bool
holds c now = holds_if c now.kernel (program_with now (task_of c))

-- so does each of these
abbrev pub all_hold : List Condition → RunState → Bool
all_hold cs now = list_all (λ c. holds c now) cs
