-- What the entries so far, the history, tell of a run's state between two events.
use Rattle.std.specs.Prelude.{ℕ, suc, ◌≡◌, ◌++◌, List, Some, slice_get, length, map, All, ⊤}
use Rattle.script_lines.specs.declared.plan.Wire.{Wire}
use Rattle.script_lines.specs.Plan.{Plan}
use Rattle.script_lines.specs.Sound.{IsSoundTask}
use Rattle.ipc_ids.specs.declared.entry.Entry.{Entry}
use Rattle.ipc_ids.specs.Doings.{doings}
use Rattle.ipc_ids.specs.KeptCalls.{KeepsCalls}
use Rattle.kernel_core.specs.History.{HistoryFits}
use Rattle.route_laws.specs.Leads.{Lead, Beginning}
use Rattle.route_laws.specs.PhoneHistory.{RoutesFit}
use Rattle.async_laws.specs.Links.{IsHistoryOf}
use Rattle.async_laws.specs.NoLostWakes.{NoWakeIsLost}
use Rattle.async_task.specs.Program.{AsyncTask}
use Rattle.async_laws.specs.QuietTasks.{TellsOfNoFibril}
use Rattle.naming_service.specs.NamingHistory.{NamingFits}
use Rattle.block_server.specs.BlockHistory.{BlocksFit}
use Rattle.task_system.specs.declared.any.AnyProgram.{AnyProgram}
use Rattle.task_system.specs.declared.any.AnyProgram.TheVariants as any
use Rattle.task_system.specs.Run.{RunState, service_of}
use Rattle.task_system.specs.Wiring.{wires_to_service}

-- what they tell of the program of task t; a raw program, the naming service and a block server have
-- no fibrils
abbrev pub ProgramFits : List Entry → ℕ → AnyProgram → Type 0
ProgramFits h t (any.Raw p) = TellsOfNoFibril h t
ProgramFits h t (any.Naming p) = TellsOfNoFibril h t
ProgramFits h t (any.Async p) = IsHistoryOf h t p.state
ProgramFits h t (any.Block p) = TellsOfNoFibril h t

-- of each program, the first of which is that of task 1
abbrev pub ProgramsFit : List Entry → List AnyProgram → Type 0
ProgramsFit h ps = (i : ℕ) (p : AnyProgram) → slice_get ps i ≡ Some p → ProgramFits h (suc i) p

-- what they tell of a service: what the task did fits the state of the program
abbrev pub ServiceFits : List Entry → ℕ → AnyProgram → Type 0
ServiceFits h t (any.Raw p) = ⊤
ServiceFits h t (any.Naming p) = NamingFits (doings t h) p
ServiceFits h t (any.Async p) = ⊤
ServiceFits h t (any.Block p) = BlocksFit (doings t h) p

-- of each program, likewise
abbrev pub ServicesFit : List Entry → List AnyProgram → Type 0
ServicesFit h ps = (i : ℕ) (p : AnyProgram) → slice_get ps i ≡ Some p → ServiceFits h (suc i) p

-- where the phone of a wire leads
abbrev pub lead_of : Wire → Lead
lead_of wire = record { phone = record { task = wire.from; phone = wire.phone }; to = wire.to }

-- how the run of a script begins: with the wires to the naming service, and then those of the script
abbrev pub beginning : Plan → Beginning
beginning plan = record {
  wires = map lead_of (wires_to_service plan.tasks) ++ map lead_of plan.wires;
  names = service_of plan.tasks;
}

-- of a run that began so, they fit the kernel, its phones, and each program, of which each task has one; a call that
-- came to a task, and was not passed on, is settled
pub record RunFits (b : Beginning) (h : List Entry) (now : RunState) : Type 0 where
  pub kernel : HistoryFits h now.kernel
  pub routes : RoutesFit b h now.kernel
  pub names : now.names ≡ b.names
  pub programs : ProgramsFit h now.programs
  pub services : ServicesFit h now.programs
  pub kept : (t : ℕ) → KeepsCalls h t
  pub paired : length now.programs ≡ length now.kernel.tasks.alive
  pub templates : All IsSoundTask now.templates

-- no task with fibrils has lost a wake-up
abbrev pub KeepsAllWakes : RunState → Type 0
KeepsAllWakes now =
    (i : ℕ) (p : AsyncTask) → slice_get now.programs i ≡ Some (any.Async p) → NoWakeIsLost p.state
