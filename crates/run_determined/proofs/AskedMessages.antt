-- The programs of a run ask with five arguments.
use Rattle.std.proofs.Common.{◌≡◌, ℕ, zero, suc, ◌+◌, ◌-◌, inl, inr, List, [], ◌∷◌, ◌++◌, Option, None, Some, refl, ap, sym, subst}
use Rattle.std.specs.Prelude.{All, length, slice_get, slice_set}
use Rattle.std.proofs.lemmas.List.Elements.{All-nil, All-head, All-tail}
use Rattle.std.proofs.lemmas.Option.{same_Some}
use Rattle.ipc_ids.specs.declared.message.Event.{Event}
use Rattle.ipc_ids.specs.declared.message.Outcome.{Outcome}
use Rattle.ipc_ids.specs.declared.message.Request.{Request}
use Rattle.ipc_ids.specs.declared.message.Request.TheVariants as request
use Rattle.ipc_ids.specs.declared.op.Body.{Body}
use Rattle.script_lines.specs.declared.plan.Kind.{Kind}
use Rattle.script_lines.specs.declared.plan.Kind.TheVariants as kind
use Rattle.script_lines.specs.declared.plan.TaskPlan.{TaskPlan}
use Rattle.script_lines.specs.Plan.{Plan}
use Rattle.kernel_core.specs.Kernel.{serve, next_task}
use Rattle.kernel_laws.specs.Connecting.{HasFive}
use Rattle.naming_service.specs.Naming as naming
use Rattle.block_server.specs.Blocks as block
use Rattle.async_task.specs.Steps.{bare_task}
use Rattle.task_system.specs.declared.any.AnyProgram.{AnyProgram}
use Rattle.task_system.specs.declared.any.AnyProgram.TheVariants as any
use Rattle.task_system.specs.Any.{wanted, after}
use Rattle.task_system.specs.Run.{RunState, RunTransition, program_by, program_of, programs_from, ops_of, start, turn}
use Rattle.run_laws.proofs.RunHistories.{turn_templates}
use Rattle.program_examples.specs.FiveArguments.{GivesFive, GiveFive, ScriptGivesFive, CarriesFive, naming_after, server_after}
use Rattle.program_examples.proofs.ProgramArguments.{raw_asks, fibrils_ask, naming_asks, server_asks}
use Rattle.run_determined.specs.AskedMessages.{AskWithFive}
use Rattle.run_determined.proofs.AsyncSteps.{step_still}
use Rattle.run_determined.proofs.ByEvent as happens
use Rattle.run_determined.proofs.ByEvent.{Happens, what_happens, states_keep, all_at}
use Rattle.run_determined.proofs.ScheduleLines.{bodies_still}
use Rattle.run_determined.proofs.TaskPrograms.{at_set, at_last}

-- ---- a program

-- its operations give five arguments, or it is a service that was told some outcomes
abbrev pub IsOfFive : AnyProgram → Type 0
IsOfFive (any.Raw p) = All GivesFive p.ops
IsOfFive (any.Async p) = GiveFive p.state.bodies
IsOfFive (any.Naming p) = (told : List Outcome) × (p ≡ naming_after told)
IsOfFive (any.Block p) =
    (count : ℕ) × (service : Option ℕ) × (told : List Outcome) × (p ≡ server_after count service told)

pub asks_with_five : (p : AnyProgram) → IsOfFive p → CarriesFive (wanted p)
asks_with_five (any.Raw p) it = raw_asks p it
asks_with_five (any.Async p) it = fibrils_ask p.state it
asks_with_five (any.Naming p) it =
    subst (λ (s : naming.NamingState). CarriesFive (naming.wanted s)) (sym it.1) (naming_asks it.0)
asks_with_five (any.Block p) it =
    subst (λ (s : block.BlockState). CarriesFive (block.wanted s)) (sym it.3) (server_asks it.0 it.1 it.2)

after_is : (p : AnyProgram) (o : Outcome) → IsOfFive p → IsOfFive (after p o)
after_is (any.Raw p) o it = it
after_is (any.Async p) o it = subst (λ (bodies : List Body). GiveFive bodies) (sym (step_still p.state o).1) it
after_is (any.Naming p) o it = (o ∷ it.0, ap (λ (s : naming.NamingState). naming.after s o) it.1)
after_is (any.Block p) o it = (it.0, it.1, o ∷ it.2, ap (λ (s : block.BlockState). block.after s o) it.3)

first_body : (bodies : List Body) → GiveFive bodies → All GivesFive (ops_of bodies)
first_body [] five = All-nil GivesFive
first_body (body ∷ bodies) five = All-head (λ (b : Body). All GivesFive b.ops) body bodies five

new_is : (t : ℕ) (plan : TaskPlan) → GiveFive plan.bodies → (k : Kind)
    → IsOfFive (program_by (record { 0 = t }) plan k)
new_is t plan five kind.Raw = first_body plan.bodies five
new_is t plan five kind.Async =
    let still = bodies_still (length plan.bodies) (bare_task (record { 0 = t }) plan.bodies) in
    subst (λ (bodies : List Body). GiveFive bodies) (sym still.bodies) five
new_is t plan five kind.Naming = ([], refl)
new_is t plan five kind.Block = (plan.blocks, plan.service, [], refl)

-- ---- programs

abbrev pub AreOfFive : List AnyProgram → Type 0
AreOfFive ps = (i : ℕ) (p : AnyProgram) → slice_get ps i ≡ Some p → IsOfFive p

abbrev PlansGiveFive : List TaskPlan → Type 0
PlansGiveFive plans = All (λ (plan : TaskPlan). GiveFive plan.bodies) plans

served : (ps : List AnyProgram) (u : ℕ) (p : AnyProgram) (o : Outcome) → slice_get ps u ≡ Some p → AreOfFive ps
    → AreOfFive (slice_set ps u (after p o))
served ps u p o at it i x is = elim (at_set ps u i (after p o) x is) [
  | inl e ↦ subst IsOfFive (sym e.1) (after_is p o (it u p at))
  | inr e ↦ it i x e
]

one_more : (ps : List AnyProgram) (t : ℕ) (plan : TaskPlan) → GiveFive plan.bodies → AreOfFive ps
    → AreOfFive (ps ++ program_of t plan ∷ [])
one_more ps t plan five it i x is = elim (at_last ps (program_of t plan) i x is) [
  | inl old ↦ it i x old
  | inr made ↦ subst IsOfFive made.1 (new_is t plan five plan.kind)
]

from : (t : ℕ) (plans : List TaskPlan) → PlansGiveFive plans → AreOfFive (programs_from t plans)
from t [] five i p is = absurd (cc is)
from t (plan ∷ plans) five zero p is =
    subst IsOfFive (same_Some (program_of t plan) p is)
    (new_is t plan (All-head (λ (x : TaskPlan). GiveFive x.bodies) plan plans five) plan.kind)
from t (plan ∷ plans) five (suc i) p is =
    from (t + 1) plans (All-tail (λ (x : TaskPlan). GiveFive x.bodies) plan plans five) i p is

-- ---- each event

-- the templates and the programs of a state give and ask with five
pub record IsOfFiveNow (now : RunState) : Type 0 where
  pub templates : PlansGiveFive now.templates
  pub programs : AreOfFive now.programs

turned : (now : RunState) (e : Event) (next : RunTransition) → Happens now e next → IsOfFiveNow now
    → AreOfFive next.state.programs
turned now e next (happens.served u p _ at) it =
    served now.programs (u.0 - 1) p (serve now.kernel u (wanted p)).outcome at it.programs
turned now e next (happens.spawned place plan _ at) it =
    one_more now.programs (next_task now.kernel).0 plan
    (all_at (λ (x : TaskPlan). GiveFive x.bodies) now.templates place plan it.templates at) it.programs
turned now e next _ it = it.programs

pub turn_of_five : (now : RunState) (e : Event) → IsOfFiveNow now → IsOfFiveNow (turn now e).state
turn_of_five now e it = record {
  templates = subst PlansGiveFive (sym (turn_templates now e)) it.templates;
  programs = turned now e (turn now e) (what_happens now e) it;
}

pub start_of_five : (plan : Plan) → ScriptGivesFive plan → IsOfFiveNow (start plan)
start_of_five plan five = record { templates = five.templates; programs = from 1 plan.tasks five.tasks }

pub tasks_ask_with_five : (plan : Plan) (events : List Event) → ScriptGivesFive plan → AskWithFive plan events
tasks_ask_with_five plan events five i p is =
    asks_with_five p ((states_keep IsOfFiveNow turn_of_five (start plan) events (start_of_five plan five)).programs i p is)

-- ---- messages of a request

pub has_five : (asked : Request) → CarriesFive asked → HasFive asked
has_five (request.Call phone msg) five = five
has_five (request.Forward call phone mode None) five = tt
has_five (request.Forward call phone mode (Some msg)) five = five
has_five _ five = tt
