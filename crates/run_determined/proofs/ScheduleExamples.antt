-- Wrong machines at the lines of a schedule, on two small states: each breaks the law. In one state there is no task,
-- and there are two templates, of which the second is another in kind, in operations or in its limit; in the other
-- there is one task with two phones, both of which are slammed.
use Rattle.std.proofs.Common.{ℕ, ◌≡◌, true, false, Option, None, Some, List, [], ◌∷◌, refl, ap, ◌∙◌, arith}
use Rattle.std.specs.Prelude.{slice_get}
use Rattle.route_laws.proofs.PhoneExamples.{apart}
use Rattle.ipc_ids.specs.declared.numbers.TaskNo.{TaskNo}
use Rattle.ipc_ids.specs.declared.message.Request.TheVariants as request
use Rattle.ipc_ids.specs.declared.message.Outcome.TheVariants as outcome
use Rattle.ipc_ids.specs.declared.message.PhoneState.{PhoneState}
use Rattle.ipc_ids.specs.declared.message.PhoneState.TheVariants.{Free, Connected, HungUp, Slammed}
use Rattle.ipc_ids.specs.declared.entry.Entry.{Entry}
use Rattle.ipc_ids.specs.declared.entry.Entry.TheVariants as entry
use Rattle.ipc_ids.specs.declared.op.Op.{Op}
use Rattle.ipc_ids.specs.declared.op.Op.TheVariants as op
use Rattle.script_lines.specs.declared.plan.Kind.TheVariants as kind
use Rattle.script_lines.specs.declared.plan.TaskPlan.{TaskPlan}
use Rattle.answerbox.specs.Calls.{no_calls}
use Rattle.address_space.specs.Memory.{no_memory}
use Rattle.switchboard.specs.State as kernel
use Rattle.kernel_core.specs.Kernel.{serve, spawn_event}
use Rattle.kernel_laws.specs.SpawnLaws.{new_number}
use Rattle.task_system.specs.declared.any.AnyProgram.{AnyProgram}
use Rattle.task_system.specs.declared.any.AnyProgram.TheVariants as any
use Rattle.ipc_ids.specs.declared.op.Value.TheVariants.{Number}
use Rattle.raw_program.specs.Raw.{started}
use Rattle.task_system.specs.Run.{program_of, RunState, RunTransition, step_served, spawn_by, spawned, request as served_request}
use Rattle.ipc_ids.specs.declared.message.Event.TheVariants.{Spawn}
use Rattle.run_determined.specs.TaskPrograms.{plans_after, RunThePlans}
use Rattle.run_determined.specs.ScheduleLines.{IsNewProgram, IsMadeFrom, IsHangupLine, IsStepLine}

-- ---- templates

-- a raw task of one phone that receives, one that jumps, one of two phones, and one with fibrils
abbrev template_of : ℕ → List Op → TaskPlan
template_of limit ops = record {
  name = [];
  kind = kind.Raw;
  limit = limit;
  bodies = record { connection = false; ops = ops } ∷ [];
  blocks = 0;
  service = None;
}

abbrev receiver : TaskPlan
receiver = template_of 1 (op.Receive ∷ [])

abbrev jumper : TaskPlan
jumper = template_of 1 (op.Jump 0 ∷ [])

abbrev wide : TaskPlan
wide = template_of 2 (op.Receive ∷ [])

abbrev with_fibrils : TaskPlan
with_fibrils = record receiver { kind = kind.Async }

-- no task yet, the first of two templates, and the other
abbrev before : TaskPlan → RunState
before other = record { kernel = kernel.start; programs = []; templates = receiver ∷ other ∷ []; names = None }

-- a machine that makes every task from the first template
abbrev from_the_first : RunState → ℕ → RunTransition
from_the_first now place = spawn_by now (slice_get now.templates 0)

-- what a raw program does first
abbrev first_op : AnyProgram → Option Op
first_op (any.Raw p) = slice_get p.ops 0
first_op _ = None

abbrev first_of : List AnyProgram → Option Op
first_of [] = None
first_of (p ∷ ps) = first_op p

-- a program of the law has the operations of the template
law_of_ops : (t : TaskNo) (p : AnyProgram) → IsNewProgram t jumper.bodies kind.Raw p → first_op p ≡ Some (op.Jump 0)
law_of_ops t (any.Raw p) new = ap (λ (ops : List Op). slice_get ops 0) new.ops
law_of_ops t _ new = absurd new

other_operations : IsMadeFrom jumper None (before jumper) (from_the_first (before jumper) 1) → ⊥
other_operations made =
    let e : ◌≡◌ {A = Option Op} (Some op.Receive) (Some (op.Jump 0)) =
    (ap first_of made.programs ∙ law_of_ops (new_number kernel.start) made.program made.has) in
    cc

-- it has the kind of the template
law_of_kind : (t : TaskNo) (p : AnyProgram) → IsNewProgram t with_fibrils.bodies kind.Async p → first_op p ≡ None
law_of_kind t (any.Async p) new = refl
law_of_kind t _ new = absurd new

another_kind : IsMadeFrom with_fibrils None (before with_fibrils) (from_the_first (before with_fibrils) 1) → ⊥
another_kind made =
    let e : ◌≡◌ {A = Option Op} (Some op.Receive) None =
    (ap first_of made.programs ∙ law_of_kind (new_number kernel.start) made.program made.has) in
    cc

-- it has as many phones as the template says
another_limit : IsMadeFrom wide None (before wide) (from_the_first (before wide) 1) → ⊥
another_limit made =
    let e : ◌≡◌ {A = Option PhoneState} None (Some Free) = (made.kernel.makes.free 1 (omega arith) (omega arith)) in cc

-- with the naming service there, its phone 0 leads to it: a machine that makes the task without it breaks the law
abbrev with_service : RunState
with_service =
    record {
      kernel = kernel.with_task kernel.start 1;
      programs = [];
      templates = receiver ∷ [];
      names = Some (record { 0 = 1 });
    }

leads_nowhere : IsMadeFrom receiver (Some (record { 0 = 1 })) with_service
    (spawned with_service receiver (spawn_event with_service.kernel 1 None)) → ⊥
leads_nowhere made = never (record { 0 = 1 }) (made.kernel.makes.leads (record { 0 = 1 }) refl refl) where
  never : (u : TaskNo) → ◌≡◌ {A = Option PhoneState} (Some Free) (Some (Connected u)) → ⊥
  never u e = cc

-- ---- hangups

-- task 1 with two phones, which are slammed
abbrev slammed : RunState
slammed = record {
  kernel = record {
    tasks = record { alive = true ∷ []; phones = (Slammed ∷ Slammed ∷ []) ∷ [] };
    calls = no_calls;
    memory = no_memory;
    events = 0;
  };
  programs = [];
  templates = [];
  names = None;
}

abbrev one : TaskNo
one = record { 0 = 1 }

abbrev hung_up_phone : List Entry → ℕ
hung_up_phone (entry.Head t (request.Hangup p) ∷ es) = p
hung_up_phone _ = 5

-- a machine that always hangs up phone 0
hangs_up_the_first : IsHangupLine one 1 slammed (served_request slammed one (request.Hangup 0)) → ⊥
hangs_up_the_first line = apart 0 1 (ap hung_up_phone (line.living refl).entries) refl

-- a machine that tells of the right phone, and hangs up no phone
hangs_up_nothing : IsHangupLine one 1 slammed
    (record { state = slammed; entries = entry.Head one (request.Hangup 1) ∷ entry.Outcome outcome.Done ∷ [] }) → ⊥
hangs_up_nothing line =
    let it = line.living refl in
    never (ap (λ (k : kernel.KernelState). kernel.phone_at k one 1) it.kernel ∙ it.lawful.hangup.phone.this)
  where
    never : ◌≡◌ {A = Option PhoneState} (Some Slammed) (Some HungUp) → ⊥
    never e = cc

-- ---- turns

-- the program of the task asks to hang up phone 1
abbrev asks_for_the_second : RunState
asks_for_the_second =
    record slammed { programs = any.Raw (started (op.Hangup (Number 1) ∷ [])) ∷ [] }

-- a machine that tells of what the program wants, and hangs up phone 0
serves_another_request : IsStepLine one asks_for_the_second
    (step_served asks_for_the_second one (any.Raw (started (op.Hangup (Number 1) ∷ [])))
    (serve asks_for_the_second.kernel one (request.Hangup 0))) → ⊥
serves_another_request line =
    let it = line.living (any.Raw (started (op.Hangup (Number 1) ∷ []))) refl refl in
    let served = it.lawful in
    never (ap (λ (k : kernel.KernelState). kernel.phone_at k one 1) it.kernel ∙ served.hangup.phone.this)
  where
    never : ◌≡◌ {A = Option PhoneState} (Some Slammed) (Some HungUp) → ⊥
    never e = cc

-- a machine that gives no task its turn
gives_no_turn : IsStepLine one asks_for_the_second (record { state = asks_for_the_second; entries = [] }) → ⊥
gives_no_turn line =
    let it = line.living (any.Raw (started (op.Hangup (Number 1) ∷ []))) refl refl in
    apart 5 1 (ap hung_up_phone it.entries) refl

-- ---- programs

-- a line makes the first task from the second template, and a machine gives it the program of the first one
another_program : RunThePlans (plans_after (receiver ∷ jumper ∷ []) [] (Spawn 1 ∷ [])) (program_of 1 receiver ∷ [])
    → ⊥
another_program runs =
    let e : ◌≡◌ {A = Option Op} (Some op.Receive) (Some (op.Jump 0)) =
    (ap (λ (ops : List Op). slice_get ops 0) (runs.each 0 jumper (program_of 1 receiver) refl refl)) in
    cc

-- it gives it the program of another kind
another_kind_of_program : RunThePlans (plans_after (receiver ∷ with_fibrils ∷ []) [] (Spawn 1 ∷ []))
    (program_of 1 receiver ∷ []) → ⊥
another_kind_of_program runs = runs.each 0 with_fibrils (program_of 1 receiver) refl refl

-- it makes no program for the task
no_program : RunThePlans (plans_after (receiver ∷ jumper ∷ []) [] (Spawn 1 ∷ [])) [] → ⊥
no_program runs = apart 1 0 runs.counted refl
