-- A run: what the events of a schedule make of a script's tasks, and the entries that tell of it.
use Rattle.std.specs.Prelude.{ℕ, ◌≡◌, ◌+◌, ◌-◌, length, if◌then◌else◌, List, [], ◌∷◌, ◌++◌, Option, None, Some, slice_get, slice_set, refl}
use Rattle.std.specs.Coded.{Coded, code_by, coded×, coded_list}
use Rattle.script_lines.specs.Sound.{has_service}
use Rattle.ipc_ids.specs.declared.numbers.TaskNo.{TaskNo}
use Rattle.ipc_ids.specs.declared.message.Request.{Request}
use Rattle.ipc_ids.specs.declared.message.Request.TheVariants as ask
use Rattle.ipc_ids.specs.declared.message.Event.{Event}
use Rattle.ipc_ids.specs.declared.message.Event.TheVariants.{Step, Kill, Hangup, Spawn}
use Rattle.ipc_ids.specs.declared.entry.Entry.{Entry}
use Rattle.ipc_ids.specs.Trace.{TraceState}
use Rattle.ipc_ids.specs.declared.op.Op.{Op}
use Rattle.ipc_ids.specs.declared.op.Body.{Body}
use Rattle.script_lines.specs.declared.plan.Kind.{Kind}
use Rattle.script_lines.specs.declared.plan.Kind.TheVariants as kind
use Rattle.script_lines.specs.declared.plan.TaskPlan.{TaskPlan}
use Rattle.script_lines.specs.Plan.{Plan}
use Rattle.script_reader.specs.Schedule.{MayCome, MayAllCome}
use Rattle.switchboard.specs.State.{KernelState, Transition, is_alive, with_task}
use Rattle.switchboard.specs.Serving.{Served}
use Rattle.switchboard.specs.State as kernel
use Rattle.kernel_core.specs.Kernel.{serve, kill_event, next_task, spawn_event}
use Rattle.kernel_core.specs.History.{served_entries, killed_entries, gone_entries}
use Rattle.raw_program.specs.Raw as raw
use Rattle.naming_service.specs.Naming as naming
use Rattle.async_task.specs.Program as async_task
use Rattle.block_server.specs.Blocks as block
use Rattle.task_system.specs.declared.any.AnyProgram.{AnyProgram}
use Rattle.task_system.specs.declared.any.AnyProgram.TheVariants as any
use Rattle.task_system.specs.Any.{wanted, after, entries}
use Rattle.task_system.specs.Wiring.{with_wires, wires_to_service}

-- the kernel, the program of each task from the first on, what more tasks can be made from, and the naming service,
-- where there is one
pub record RunState : Type 0 where
  pub kernel : KernelState
  pub programs : List AnyProgram
  pub templates : List TaskPlan
  pub names : Option TaskNo

-- the state after an event, and the entries that tell of it
pub record RunTransition : Type 0 where
  pub state : RunState
  pub entries : List Entry

-- each task in turn, with as many free phones as its limit
abbrev pub with_tasks : KernelState → List TaskPlan → KernelState
with_tasks k [] = k
with_tasks k (task ∷ tasks) = with_tasks (with_task k task.limit) tasks

-- the operations of the first body, the only one of a raw task
abbrev pub ops_of : List Body → List Op
ops_of [] = []
ops_of (body ∷ bodies) = body.ops

-- a program before its first step, by the number, the plan and the kind of its task
abbrev pub program_by : TaskNo → TaskPlan → Kind → AnyProgram
program_by me task kind.Naming = any.Naming naming.started
program_by me task kind.Raw = any.Raw (raw.started (ops_of task.bodies))
program_by me task kind.Async = any.Async (record { state = async_task.started me task.bodies; taken = 0 })
program_by me task kind.Block = any.Block (block.started task.blocks task.service)

-- the program of a task with this number, before its first step
abbrev pub program_of : ℕ → TaskPlan → AnyProgram
program_of t task = program_by (record { 0 = t }) task task.kind

-- those of all tasks, the first of which has this number
abbrev pub programs_from : ℕ → List TaskPlan → List AnyProgram
programs_from t [] = []
programs_from t (task ∷ tasks) = program_of t task ∷ programs_from (t + 1) tasks

-- the tasks in their order and the wires to the naming service
abbrev pub with_service : List TaskPlan → KernelState
with_service tasks = with_wires (with_tasks kernel.start tasks) (wires_to_service tasks)

-- the naming service, where there is one: the first task
abbrev pub service_of : List TaskPlan → Option TaskNo
service_of tasks = if has_service tasks then Some (record { 0 = 1 }) else None

-- the tasks of the script, then its wires, those to the naming service first; there is no call yet
abbrev pub start : Plan → RunState
start plan =
    record {
      kernel = with_wires (with_service plan.tasks) plan.wires;
      programs = programs_from 1 plan.tasks;
      templates = plan.templates;
      names = service_of plan.tasks;
    }

-- the programs stay
abbrev pub with_kernel : RunState → KernelState → RunState
with_kernel now kernel = record { kernel = kernel; programs = now.programs; templates = now.templates; names = now.names }

-- the program of a task that has not ended
abbrev pub program_at : RunState → TaskNo → Option AnyProgram
program_at now task = if is_alive now.kernel task then slice_get now.programs (task.0 - 1) else None

-- a trace has these entries more
abbrev pub Tells : TraceState → TraceState → List Entry → Type 0
Tells before now entries = now.entries ≡ before.entries ++ entries

-- a trace has a first part of these entries more
abbrev pub TellsPart : TraceState → TraceState → List Entry → Type 0
TellsPart before now entries =
    (told : List Entry) × (rest : List Entry) × (told ++ rest ≡ entries) × Tells before now told

-- an event on a task that has ended changes nothing
abbrev pub gone : RunState → TaskNo → RunTransition
gone now task = record { state = now; entries = gone_entries task }

-- the kernel serves the program's request, the program gets the outcome, and its own entries come last
abbrev pub step_served : RunState → TaskNo → AnyProgram → Served → RunTransition
step_served now task program served =
    record {
      state = record {
        kernel = served.state;
        programs = slice_set now.programs (task.0 - 1) (after program served.outcome);
        templates = now.templates;
        names = now.names;
      };
      entries = served_entries task (wanted program) served ++ entries program served.outcome;
    }

-- a step of a task that may have ended
abbrev pub step_by : RunState → TaskNo → Option AnyProgram → RunTransition
step_by now task None = gone now task
step_by now task (Some program) = step_served now task program (serve now.kernel task (wanted program))

-- a step of a task
abbrev pub step : RunState → TaskNo → RunTransition
step now task = step_by now task (program_at now task)

-- the kernel serves a request that no program made, and no program gets its outcome
abbrev pub request_served : RunState → TaskNo → Request → Served → RunTransition
request_served now task request served =
    record {
      state = with_kernel now served.state;
      entries = served_entries task request served;
    }

-- the same of a task that may have ended
abbrev pub request : RunState → TaskNo → Request → RunTransition
request now task asked =
    if is_alive now.kernel task then request_served now task asked (serve now.kernel task asked) else gone now task

-- a hangup of a phone
abbrev pub hangup : RunState → TaskNo → ℕ → RunTransition
hangup now task phone = request now task (ask.Hangup phone)

-- the kernel brings the task to its end, of which no program is told
abbrev pub killed : RunState → TaskNo → Transition → RunTransition
killed now task done =
    record {
      state = with_kernel now done.state;
      entries = killed_entries task done;
    }

-- a kill
abbrev pub kill : RunState → TaskNo → RunTransition
kill now task = if is_alive now.kernel task then killed now task (kill_event now.kernel task) else gone now task

-- the next task is made, with a program of its own
abbrev pub spawned : RunState → TaskPlan → Transition → RunTransition
spawned now plan done =
    record {
      state = record {
        kernel = done.state;
        programs = now.programs ++ program_of (next_task now.kernel).0 plan ∷ [];
        templates = now.templates;
        names = now.names;
      };
      entries = done.entries;
    }

-- from this template, where there is one
abbrev pub spawn_by : RunState → Option TaskPlan → RunTransition
spawn_by now None = record { state = now; entries = [] }
spawn_by now (Some plan) = spawned now plan (spawn_event now.kernel plan.limit now.names)

abbrev pub spawn : RunState → ℕ → RunTransition
spawn now place = spawn_by now (slice_get now.templates place)

-- the event is on a task that was made, or makes one from a template while there are few
abbrev pub MayHappen : RunState → Event → Type 0
MayHappen now e = MayCome (length now.kernel.tasks.alive) (length now.templates) e

-- so does each of these, after those before it
abbrev pub MayAllHappen : RunState → List Event → Type 0
MayAllHappen now events = MayAllCome (length now.kernel.tasks.alive) (length now.templates) events

-- what an event makes of the state
abbrev pub turn : RunState → Event → RunTransition
turn now (Step task) = step now task
turn now (Kill task) = kill now task
turn now (Hangup task phone) = hangup now task phone
turn now (Spawn place) = spawn now place

-- the entries of events, each on the state that the one before left
abbrev pub run_from : RunState → List Event → List Entry
run_from now [] = []
run_from now (e ∷ events) = (turn now e).entries ++ run_from (turn now e).state events

-- the state that events leave
abbrev pub state_after : RunState → List Event → RunState
state_after now [] = now
state_after now (e ∷ events) = state_after (turn now e).state events

-- the run of a script under a schedule
abbrev pub run : Plan → List Event → List Entry
run plan events = run_from (start plan) events

-- how states of a run are told apart, by codes of their parts
abbrev pub run_code : Coded KernelState → Coded AnyProgram → Coded (List TaskPlan) → Coded (Option TaskNo) → Coded RunState
run_code k program plans task =
    code_by
    (KernelState × (List AnyProgram × (List TaskPlan × Option TaskNo)))
    (coded× k (coded× (coded_list program) (coded× plans task)))
    (λ now. (now.kernel, (now.programs, (now.templates, now.names))))
    (λ parts. record { kernel = parts.0; programs = parts.1.0; templates = parts.1.1.0; names = parts.1.1.1 })
    (λ _. refl)
