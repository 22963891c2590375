-- The lines of a schedule do what they name.
use Rattle.std.proofs.Common.{◌≡◌, ℕ, zero, suc, ◌-◌, ◌≤◌, Bool, true, false, List, [], ◌∷◌, ◌++◌, length, Option, None, Some, refl, ap, sym, subst, ◌∙◌}
use Rattle.std.specs.Prelude.{if◌then◌else◌, slice_get, All, map}
use Rattle.std.specs.Option.{option_map}
use Rattle.std.proofs.lemmas.Option.{slice_get-map}
use Rattle.ipc_ids.specs.declared.numbers.TaskNo.{TaskNo}
use Rattle.ipc_ids.specs.declared.message.Request.TheVariants as request
use Rattle.ipc_ids.specs.declared.message.Event.{Event}
use Rattle.ipc_ids.specs.declared.message.Event.TheVariants.{Step, Kill, Hangup, Spawn}
use Rattle.ipc_ids.specs.declared.op.Body.{Body}
use Rattle.script_lines.specs.declared.plan.Kind.{Kind}
use Rattle.script_lines.specs.declared.plan.Kind.TheVariants as kind
use Rattle.script_lines.specs.declared.plan.TaskPlan.{TaskPlan}
use Rattle.script_lines.specs.Plan.{Plan}
use Rattle.script_lines.specs.Sound.{IsSound, IsSoundTask, IsRawOrAsync}
use Rattle.script_reader.specs.Schedule.{tasks_after, MayCome, MayAllCome}
use Rattle.switchboard.specs.State.{is_alive}
use Rattle.switchboard.specs.Sound as kernel
use Rattle.kernel_core.specs.Kernel.{serve, kill_event, next_task, spawn_event}
use Rattle.kernel_determined.specs.KernelLaw.{IsKernel}
use Rattle.kernel_determined.proofs.Machines.{kernel_is_lawful}
use Rattle.kernel_determined.specs.SpawnLaw.{IsSpawn}
use Rattle.kernel_determined.proofs.SpawnDetermined.{spawn_is_so}
use Rattle.kernel_determined.proofs.HangupDetermined.{hangup_is_so}
use Rattle.async_task.specs.AsyncState.{AsyncState}
use Rattle.async_task.specs.Steps.{bare_task, start_in, start_at, start_bodies}
use Rattle.task_system.specs.declared.any.AnyProgram.{AnyProgram}
use Rattle.task_system.specs.Any.{wanted}
use Rattle.task_system.specs.Run.{RunState, RunTransition, start, run, state_after, turn, step_by, step_served, killed, spawn_by, spawned, request_served, gone, program_by, ops_of, service_of}
use Rattle.task_system.proofs.OpenWires.{item}
use Rattle.run_laws.specs.RunHistory.{beginning, RunFits}
use Rattle.run_laws.proofs.RunHistories.{part_told, templates_stay}
use Rattle.run_determined.proofs.ByEvent.{all_at}
use Rattle.run_determined.specs.ScheduleLines.{IsGone, AreFirstOps, IsNewProgram, IsMadeFrom, SpawnsMakeTheirTemplate, IsHungUpFor, IsHangupLine, HangupLinesHangUpTheirPhone, IsServedFor, IsStepLine, StepsServeTheirTask, IsKilledFor, IsKillLine, KillLinesKillTheirTask}

-- ---- an event of a schedule may come where it does

may_there : (tasks templates : ℕ) (done later : List Event) (e : Event)
    → MayAllCome tasks templates (done ++ e ∷ later) → (n : ℕ) × MayCome n templates e
may_there tasks templates [] later e may = (tasks, may.0)
may_there tasks templates (d ∷ done) later e may = may_there (tasks_after tasks d) templates done later e may.1

-- ---- a program before its first step

pub first_ops : (bodies : List Body) → AreFirstOps (ops_of bodies) bodies
first_ops [] = refl
first_ops (body ∷ bodies) = refl

-- starting fibrils leaves the number and the bodies of a task
pub record IsStill (a b : AsyncState) : Type 0 where
  pub me : b.me ≡ a.me
  pub bodies : b.bodies ≡ a.bodies

in_still : (n : ℕ) (connection : Bool) (a : AsyncState) → IsStill a (start_in n connection a)
in_still n true a = record { me = refl; bodies = refl }
in_still n false a = record { me = refl; bodies = refl }

at_still : (n : ℕ) (o : Option Body) (a : AsyncState) → IsStill a (start_at n o a)
at_still n None a = record { me = refl; bodies = refl }
at_still n (Some body) a = in_still n body.connection a

pub bodies_still : (n : ℕ) (a : AsyncState) → IsStill a (start_bodies n a)
bodies_still zero a = record { me = refl; bodies = refl }
bodies_still (suc n) a =
    let before = bodies_still n a in
    let after = at_still n (slice_get a.bodies n) (start_bodies n a) in
    record { me = after.me ∙ before.me; bodies = after.bodies ∙ before.bodies }

is_new : (t : TaskNo) (template : TaskPlan) (k : Kind) → IsRawOrAsync k
    → IsNewProgram t template.bodies k (program_by t template k)
is_new t template kind.Raw may =
    record { ops = first_ops template.bodies; place = refl; registers = refl; taken = refl }
is_new t template kind.Async may =
    let still = bodies_still (length template.bodies) (bare_task t template.bodies) in
    record { me = still.me; bodies_are = still.bodies; begins = refl; taken = refl }
is_new t template _ may = absurd may

-- ---- a line that makes a task

made_from : (now : RunState) (template : TaskPlan) (names : Option TaskNo) → now.names ≡ names
    → kernel.IsSound now.kernel → 1 ≤ template.limit → IsRawOrAsync template.kind
    → IsMadeFrom template names now (spawned now template (spawn_event now.kernel template.limit now.names))
made_from now template names same sound some may = record {
  kernel = subst
      (λ (o : Option TaskNo). IsSpawn template.limit o now.kernel (spawn_event now.kernel template.limit now.names))
      same (spawn_is_so now.kernel template.limit now.names sound some);
  program = program_by (next_task now.kernel) template template.kind;
  has = is_new (next_task now.kernel) template template.kind may;
  programs = refl;
  templates = refl;
}

kind_may : (templates : List TaskPlan) (place : ℕ) (template : TaskPlan)
    → All IsRawOrAsync (map (λ (x : TaskPlan). x.kind) templates) → slice_get templates place ≡ Some template
    → IsRawOrAsync template.kind
kind_may templates place template may at =
    let kind : TaskPlan → Kind = λ x. x.kind in
    all_at IsRawOrAsync (map kind templates) place template.kind may
    (slice_get-map kind templates place ∙ ap (option_map kind) at)

module _ (plan : Plan) (events : List Event) (sound : IsSound plan)
    (may : MayAllCome (length plan.tasks) (length plan.templates) events) where
  may_split : (done later : List Event) → events ≡ done ++ later
      → MayAllCome (length plan.tasks) (length plan.templates) (done ++ later)
  may_split done later is =
      subst (λ (es : List Event). MayAllCome (length plan.tasks) (length plan.templates) es) is may

  told : (done later : List Event) → events ≡ done ++ later
      → RunFits (beginning plan) (run plan done) (state_after (start plan) done)
  told done later is = part_told plan done later sound (may_split done later is)

  pub spawns_make : SpawnsMakeTheirTemplate plan events
  spawns_make done later place is =
      let now : RunState = state_after (start plan) done in
      let fits : RunFits (beginning plan) (run plan done) now = told done (Spawn place ∷ later) is in
      let it = may_there (length plan.tasks) (length plan.templates) done later (Spawn place)
      (may_split done (Spawn place ∷ later) is) in
      let found = item plan.templates place it.1.0 in
      let at : slice_get now.templates place ≡ Some found.0 =
      ap (λ (ts : List TaskPlan). slice_get ts place) (templates_stay (start plan) done) ∙ found.1 in (
        found.0,
        found.1,
        subst (λ (o : Option TaskPlan). IsMadeFrom found.0 (service_of plan.tasks) now (spawn_by now o)) (sym at)
            (made_from now found.0 (service_of plan.tasks) fits.names fits.kernel.sound
            (all_at IsSoundTask plan.templates place found.0 sound.sound_templates found.1).some_phones
            (kind_may plan.templates place found.0 sound.raw_or_async found.1)),
      )

-- ---- a line that hangs up a phone

hung_up_for : (now : RunState) (t : TaskNo) (p : ℕ)
    → IsHungUpFor t p now (request_served now t (request.Hangup p) (serve now.kernel t (request.Hangup p)))
hung_up_for now t p = record {
  served = serve now.kernel t (request.Hangup p);
  lawful = hangup_is_so now.kernel t p;
  kernel = refl;
  programs = refl;
  templates = refl;
  entries = refl;
}

-- a line on a task that has ended does nothing
nothing_for : (now : RunState) (t : TaskNo) → IsGone t now (gone now t)
nothing_for now t = record { nothing = refl; entries = refl }

hangup_line : (now : RunState) (t : TaskNo) (p : ℕ) → IsHangupLine t p now (turn now (Hangup t p))
hangup_line now t p =
    let line : Bool → RunTransition = λ b.
    if b then request_served now t (request.Hangup p) (serve now.kernel t (request.Hangup p)) else gone now t in
    record {
      living = λ lives. subst (λ (b : Bool). IsHungUpFor t p now (line b)) (sym lives) (hung_up_for now t p);
      ended = λ ended. subst (λ (b : Bool). IsGone t now (line b)) (sym ended) (nothing_for now t);
    }

pub hangups_hang_up : (plan : Plan) (events : List Event) → HangupLinesHangUpTheirPhone plan events
hangups_hang_up plan events done later t p is = hangup_line (state_after (start plan) done) t p

-- ---- a line that gives a task its turn, and one that kills a task

served_for : (now : RunState) (t : TaskNo) (p : AnyProgram) → kernel.IsSound now.kernel → is_alive now.kernel t ≡ true
    → IsServedFor t p now (step_served now t p (serve now.kernel t (wanted p)))
served_for now t p sound alive =
    let laws : IsKernel serve kill_event spawn_event = kernel_is_lawful in
    record {
      served = serve now.kernel t (wanted p);
      lawful = laws.requests now.kernel t (wanted p) (record { sound = sound; alive = alive });
      kernel = refl;
      programs = refl;
      templates = refl;
      entries = refl;
    }

step_line : (now : RunState) (t : TaskNo) → kernel.IsSound now.kernel → IsStepLine t now (turn now (Step t))
step_line now t sound =
    let line : Bool → RunTransition = λ b.
    step_by now t (if b then slice_get now.programs (t.0 - 1) else None) in
    record {
      living = λ p lives at. subst (λ (b : Bool). IsServedFor t p now (line b)) (sym lives)
          (subst (λ (o : Option AnyProgram). IsServedFor t p now (step_by now t o)) (sym at)
          (served_for now t p sound lives));
      ended = λ ended. subst (λ (b : Bool). IsGone t now (line b)) (sym ended) (nothing_for now t);
    }

killed_for : (now : RunState) (t : TaskNo) → kernel.IsSound now.kernel → is_alive now.kernel t ≡ true
    → IsKilledFor t now (killed now t (kill_event now.kernel t))
killed_for now t sound alive =
    let laws : IsKernel serve kill_event spawn_event = kernel_is_lawful in
    record {
      step = kill_event now.kernel t;
      lawful = laws.killed now.kernel t (record { sound = sound; alive = alive });
      kernel = refl;
      programs = refl;
      templates = refl;
      entries = refl;
    }

kill_line : (now : RunState) (t : TaskNo) → kernel.IsSound now.kernel → IsKillLine t now (turn now (Kill t))
kill_line now t sound =
    let line : Bool → RunTransition = λ b. if b then killed now t (kill_event now.kernel t) else gone now t in
    record {
      living = λ lives. subst (λ (b : Bool). IsKilledFor t now (line b)) (sym lives) (killed_for now t sound lives);
      ended = λ ended. subst (λ (b : Bool). IsGone t now (line b)) (sym ended) (nothing_for now t);
    }

pub steps_serve : (plan : Plan) (events : List Event) → IsSound plan
    → MayAllCome (length plan.tasks) (length plan.templates) events → StepsServeTheirTask plan events
steps_serve plan events sound may done later t is =
    step_line (state_after (start plan) done) t (told plan events sound may done (Step t ∷ later) is).kernel.sound

pub kills_kill : (plan : Plan) (events : List Event) → IsSound plan
    → MayAllCome (length plan.tasks) (length plan.templates) events → KillLinesKillTheirTask plan events
kills_kill plan events sound may done later t is =
    kill_line (state_after (start plan) done) t (told plan events sound may done (Kill t ∷ later) is).kernel.sound
