-- What of a run no event changes, but that a spawn adds a program.
use Rattle.std.specs.Prelude.{List, [], ◌∷◌, ◌++◌, map, Option, None, Some, slice_get}
use Rattle.ipc_ids.specs.declared.numbers.TaskNo.{TaskNo}
use Rattle.ipc_ids.specs.declared.op.Op.{Op}
use Rattle.ipc_ids.specs.declared.op.Body.{Body}
use Rattle.ipc_ids.specs.declared.message.Event.{Event}
use Rattle.ipc_ids.specs.declared.message.Event.TheVariants.{Step, Kill, Hangup, Spawn}
use Rattle.script_lines.specs.declared.plan.TaskPlan.{TaskPlan}
use Rattle.kernel_core.specs.Kernel.{next_task}
use Rattle.task_system.specs.declared.any.AnyProgram.{AnyProgram}
use Rattle.task_system.specs.declared.any.AnyProgram.TheVariants as any
use Rattle.task_system.specs.Run.{RunState, program_of, turn}

-- what is constant of a program: its kind, and with it the operations of a raw one, the number and the bodies of an
-- async task
pub data Constant : Type 0 where
  Raw : List Op → Constant
  Naming : Constant
  Async : TaskNo → List Body → Constant
  Block : Constant

abbrev pub constant : AnyProgram → Constant
constant (any.Raw p) = Raw p.ops
constant (any.Naming p) = Naming
constant (any.Async p) = Async p.state.me p.state.bodies
constant (any.Block p) = Block

-- what is constant of a run: of each program, the templates from which more tasks can be made, and the naming service,
-- where there is one
pub record Constants : Type 0 where
  pub programs : List Constant
  pub templates : List TaskPlan
  pub names : Option TaskNo

abbrev pub constants : RunState → Constants
constants now = record { programs = map constant now.programs; templates = now.templates; names = now.names }

-- the program of a task that is made from this template, where there is one
abbrev pub made_from : RunState → Option TaskPlan → List Constant
made_from now None = []
made_from now (Some plan) = constant (program_of (next_task now.kernel).0 plan) ∷ []

-- the program that an event adds, which a spawn alone does
abbrev pub made_by : RunState → Event → List Constant
made_by now (Spawn place) = made_from now (slice_get now.templates place)
made_by now (Step task) = []
made_by now (Kill task) = []
made_by now (Hangup task phone) = []

-- the programs that events add, each on the state that the one before left
abbrev pub made_by_all : RunState → List Event → List Constant
made_by_all now [] = []
made_by_all now (e ∷ events) = made_by now e ++ made_by_all (turn now e).state events

-- with these programs more
abbrev pub with_made : Constants → List Constant → Constants
with_made c made = record { programs = c.programs ++ made; templates = c.templates; names = c.names }
