-- What the lines of a schedule do: one that makes a task from a template, one that hangs up a phone, one that gives a
-- task its turn, and one that kills a task. They are said of any state of a run, and of what such a line makes of it.
use Rattle.std.specs.Prelude.{ℕ, ◌≡◌, true, false, List, [], ◌∷◌, ◌++◌, Option, Some, ◌-◌, slice_get, slice_set, replicate}
use Rattle.ipc_ids.specs.declared.numbers.TaskNo.{TaskNo}
use Rattle.ipc_ids.specs.declared.message.Request.TheVariants as request
use Rattle.ipc_ids.specs.declared.message.Event.{Event}
use Rattle.ipc_ids.specs.declared.message.Event.TheVariants.{Step, Kill, Hangup, Spawn}
use Rattle.ipc_ids.specs.declared.entry.Entry.TheVariants as entry
use Rattle.ipc_ids.specs.declared.op.Op.{Op}
use Rattle.ipc_ids.specs.declared.op.Body.{Body}
use Rattle.script_lines.specs.declared.plan.Kind.{Kind}
use Rattle.script_lines.specs.declared.plan.Kind.TheVariants as kind
use Rattle.script_lines.specs.declared.plan.TaskPlan.{TaskPlan}
use Rattle.script_lines.specs.Plan.{Plan}
use Rattle.switchboard.specs.State.{Transition, is_alive, phone_at}
use Rattle.switchboard.specs.Serving.{Served}
use Rattle.kernel_laws.specs.SpawnLaws.{new_number}
use Rattle.kernel_determined.specs.SpawnLaw.{IsSpawn}
use Rattle.kernel_determined.specs.HangupLaw.{IsHangup}
use Rattle.kernel_determined.specs.KernelLaw.{IsServed}
use Rattle.kernel_determined.specs.KillLaw.{IsKill}
use Rattle.raw_program.specs.Raw.{RawState}
use Rattle.async_task.specs.Program.{AsyncTask, started}
use Rattle.task_system.specs.declared.any.AnyProgram.{AnyProgram}
use Rattle.task_system.specs.declared.any.AnyProgram.TheVariants as any
use Rattle.task_system.specs.Any as own
use Rattle.task_system.specs.Run.{RunState, RunTransition, start, state_after, turn, service_of}

-- ---- a task is made

-- the operations are those of the first body, the only one of a raw task
abbrev pub AreFirstOps : List Op → List Body → Type 0
AreFirstOps ops [] = ops ≡ []
AreFirstOps ops (body ∷ bodies) = ops ≡ body.ops

-- a raw program that has the operations of these bodies, stands before the first one, and has 0 in each register
pub record IsNewRaw (bodies : List Body) (p : RawState) : Type 0 where
  pub ops : AreFirstOps p.ops bodies
  pub place : p.place ≡ 0
  pub registers : p.registers ≡ replicate 32 0
  pub taken : p.taken ≡ 0

-- a program with fibrils of task t, which has these bodies, begins as a task of the script with these bodies does, and
-- was told nothing yet
pub record IsNewAsync (t : TaskNo) (bodies : List Body) (p : AsyncTask) : Type 0 where
  pub me : p.state.me ≡ t
  pub bodies_are : p.state.bodies ≡ bodies
  pub begins : p.state ≡ started t bodies
  pub taken : p.taken ≡ 0

-- a program of this kind that has the operations of these bodies; templates are of no other kind
abbrev pub IsNewProgram : TaskNo → List Body → Kind → AnyProgram → Type 0
IsNewProgram t bodies kind.Raw (any.Raw p) = IsNewRaw bodies p
IsNewProgram t bodies kind.Async (any.Async p) = IsNewAsync t bodies p
IsNewProgram t bodies _ p = ⊥

-- from one state to another a task is made from this template: the kernel makes one with its limit of phones, of which
-- phone 0 leads to the naming service, and it gets a program of its kind with its operations
pub record IsMadeFrom (template : TaskPlan) (names : Option TaskNo) (before : RunState) (done : RunTransition)
    : Type 0 where
  pub kernel : IsSpawn template.limit names before.kernel
      (record { state = done.state.kernel; entries = done.entries })
  pub program : AnyProgram
  pub has : IsNewProgram (new_number before.kernel) template.bodies template.kind program
  -- it comes behind the programs of the other tasks, which stay
  pub programs : done.state.programs ≡ before.programs ++ program ∷ []
  pub templates : done.state.templates ≡ before.templates

-- so it is in the run of a script wherever a line of the schedule makes a task: from the template that it names
abbrev pub SpawnsMakeTheirTemplate : Plan → List Event → Type 0
SpawnsMakeTheirTemplate plan events =
    (done later : List Event) (place : ℕ) → events ≡ done ++ Spawn place ∷ later →
    (template : TaskPlan) × (slice_get plan.templates place ≡ Some template)
    × IsMadeFrom template (service_of plan.tasks) (state_after (start plan) done)
    (turn (state_after (start plan) done) (Spawn place))

-- ---- a phone is hung up

-- phone p of task t, which is alive, is hung up as the kernel's law has it, and no program hears of it
pub record IsHungUpFor (t : TaskNo) (p : ℕ) (before : RunState) (done : RunTransition) : Type 0 where
  pub served : Served
  pub lawful : IsHangup (phone_at before.kernel t p) t p before.kernel served
  pub kernel : done.state.kernel ≡ served.state
  pub programs : done.state.programs ≡ before.programs
  pub templates : done.state.templates ≡ before.templates
  pub entries : done.entries ≡ entry.Head t (request.Hangup p) ∷ (served.entries ++ entry.Outcome served.outcome ∷ [])

-- nothing happens, but that the task is told to have ended
pub record IsGone (t : TaskNo) (before : RunState) (done : RunTransition) : Type 0 where
  pub nothing : done.state ≡ before
  pub entries : done.entries ≡ entry.Gone t ∷ []

-- what a line comes to that hangs up phone p of task t
pub record IsHangupLine (t : TaskNo) (p : ℕ) (before : RunState) (done : RunTransition) : Type 0 where
  pub living : is_alive before.kernel t ≡ true → IsHungUpFor t p before done
  pub ended : is_alive before.kernel t ≡ false → IsGone t before done

-- so it is in the run of a script wherever a line of the schedule hangs up a phone: the one that it names
abbrev pub HangupLinesHangUpTheirPhone : Plan → List Event → Type 0
HangupLinesHangUpTheirPhone plan events =
    (done later : List Event) (t : TaskNo) (p : ℕ) → events ≡ done ++ Hangup t p ∷ later →
    IsHangupLine t p (state_after (start plan) done) (turn (state_after (start plan) done) (Hangup t p))

-- ---- a task has its turn

-- task t, which is alive and runs this program, asks what the program wants next; the kernel does with it what its law
-- says; and the program hears of the outcome
pub record IsServedFor (t : TaskNo) (p : AnyProgram) (before : RunState) (done : RunTransition) : Type 0 where
  pub served : Served
  pub lawful : IsServed before.kernel t (own.wanted p) served
  pub kernel : done.state.kernel ≡ served.state
  pub programs : done.state.programs ≡ slice_set before.programs (t.0 - 1) (own.after p served.outcome)
  pub templates : done.state.templates ≡ before.templates
  pub entries : done.entries
      ≡ (entry.Head t (own.wanted p) ∷ (served.entries ++ entry.Outcome served.outcome ∷ []))
      ++ own.entries p served.outcome

-- what a line comes to that gives task t its turn
pub record IsStepLine (t : TaskNo) (before : RunState) (done : RunTransition) : Type 0 where
  pub living : (p : AnyProgram) → is_alive before.kernel t ≡ true → slice_get before.programs (t.0 - 1) ≡ Some p
      → IsServedFor t p before done
  pub ended : is_alive before.kernel t ≡ false → IsGone t before done

-- so it is in the run of a script wherever a line of the schedule gives a task its turn
abbrev pub StepsServeTheirTask : Plan → List Event → Type 0
StepsServeTheirTask plan events =
    (done later : List Event) (t : TaskNo) → events ≡ done ++ Step t ∷ later →
    IsStepLine t (state_after (start plan) done) (turn (state_after (start plan) done) (Step t))

-- ---- a task is killed

-- task t, which is alive, is killed as the kernel's law has it, and no program hears of it
pub record IsKilledFor (t : TaskNo) (before : RunState) (done : RunTransition) : Type 0 where
  pub step : Transition
  pub lawful : IsKill t before.kernel step
  pub kernel : done.state.kernel ≡ step.state
  pub programs : done.state.programs ≡ before.programs
  pub templates : done.state.templates ≡ before.templates
  pub entries : done.entries ≡ entry.Kill t ∷ step.entries

-- what a line comes to that kills task t
pub record IsKillLine (t : TaskNo) (before : RunState) (done : RunTransition) : Type 0 where
  pub living : is_alive before.kernel t ≡ true → IsKilledFor t before done
  pub ended : is_alive before.kernel t ≡ false → IsGone t before done

-- so it is in the run of a script wherever a line of the schedule kills a task
abbrev pub KillLinesKillTheirTask : Plan → List Event → Type 0
KillLinesKillTheirTask plan events =
    (done later : List Event) (t : TaskNo) → events ≡ done ++ Kill t ∷ later →
    IsKillLine t (state_after (start plan) done) (turn (state_after (start plan) done) (Kill t))
