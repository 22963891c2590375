-- Each program of a run does the bodies of its task's plan.
use Rattle.std.proofs.Common.{ℕ, zero, suc, ◌≡◌, ◌≤◌, ◌<◌, ◌+◌, ◌-◌, Bool, true, false, cond, List, [], ◌∷◌, ◌++◌, map, length, Option, None, Some, refl, sym, ◌∙◌, ap, subst, arith, slice_get}
use Rattle.std.specs.Prelude.{⊤, nat_lt}
use Rattle.std.specs.List.{cons_option}
use Rattle.std.specs.Option.{option_map}
use Rattle.std.proofs.lemmas.Option.{slice_get-map, same_Some}
use Rattle.ipc_ids.specs.declared.numbers.TaskNo.{TaskNo}
use Rattle.ipc_ids.specs.declared.op.Body.{Body}
use Rattle.ipc_ids.specs.declared.message.Event.{Event}
use Rattle.ipc_ids.specs.declared.message.Event.TheVariants.{Step, Kill, Hangup, Spawn}
use Rattle.script_lines.specs.declared.plan.Kind.{Kind}
use Rattle.script_lines.specs.declared.plan.Kind.TheVariants as kind
use Rattle.script_lines.specs.declared.plan.TaskPlan.{TaskPlan}
use Rattle.script_lines.specs.Plan.{Plan}
use Rattle.kernel_core.specs.Kernel.{next_task}
use Rattle.async_task.specs.AsyncState.{AsyncState, op_in}
use Rattle.async_task.specs.Steps.{bare_task, start_in, start_at, start_bodies}
use Rattle.task_system.specs.declared.any.AnyProgram.{AnyProgram}
use Rattle.task_system.specs.Run.{RunState, ops_of, program_by, program_of, programs_from, start, turn}
use Rattle.run_words.specs.Constants.{Constant, constant, Constants, made_from, made_by_all}
use Rattle.run_words.proofs.KeptConstants.{turn_keeps, events_keep}
use Rattle.run_words.specs.Reached.{IsReached, spawns_of}
use Rattle.search_goals.specs.Places.{bodies_in}
use Rattle.schedule_search.specs.Plans.{template_of, spawned_plans, plans_of, bodies_of, DoesBodies}
use Rattle.schedule_search.specs.Holding.{program_with}

-- ---- a program before its first step

starts_in : (n : ℕ) (connection : Bool) (a : AsyncState) → (start_in n connection a).bodies ≡ a.bodies
starts_in n true a = refl
starts_in n false a = refl

starts_at : (n : ℕ) (o : Option Body) (a : AsyncState) → (start_at n o a).bodies ≡ a.bodies
starts_at n None a = refl
starts_at n (Some body) a = starts_in n body.connection a

starts_all : (n : ℕ) (a : AsyncState) → (start_bodies n a).bodies ≡ a.bodies
starts_all zero a = refl
starts_all (suc n) a = starts_at n (slice_get a.bodies n) (start_bodies n a) ∙ starts_all n a

kind_does : (me : TaskNo) (plan : TaskPlan) (k : Kind) → DoesBodies (constant (program_by me plan k)) plan.bodies
kind_does me plan kind.Naming = tt
kind_does me plan kind.Raw = refl
kind_does me plan kind.Async = starts_all (length plan.bodies) (bare_task me plan.bodies)
kind_does me plan kind.Block = tt

plan_does : (t : ℕ) (plan : TaskPlan) → DoesBodies (constant (program_of t plan)) plan.bodies
plan_does t plan = kind_does (record { 0 = t }) plan plan.kind

-- ---- all programs

-- these are constant of programs that do the bodies of these plans, in their order
DoAll : List Constant → List TaskPlan → Type 0
DoAll [] [] = ⊤
DoAll [] (plan ∷ plans) = ⊥
DoAll (c ∷ cs) [] = ⊥
DoAll (c ∷ cs) (plan ∷ plans) = DoesBodies c plan.bodies × DoAll cs plans

all_do : (t : ℕ) (plans : List TaskPlan) → DoAll (map constant (programs_from t plans)) plans
unfolding DoAll
all_do t [] = tt
all_do t (plan ∷ plans) = (plan_does t plan, all_do (t + 1) plans)

both_do : (cs : List Constant) (plans : List TaskPlan) (ds : List Constant) (more : List TaskPlan)
    → DoAll cs plans → DoAll ds more → DoAll (cs ++ ds) (plans ++ more)
unfolding DoAll
both_do [] [] ds more h k = k
both_do [] (plan ∷ plans) ds more h k = absurd h
both_do (c ∷ cs) [] ds more h k = absurd h
both_do (c ∷ cs) (plan ∷ plans) ds more h k = (h.0, both_do cs plans ds more h.1 k)

made_does : (now : RunState) (o : Option TaskPlan) (cs : List Constant) (plans : List TaskPlan)
    → DoAll cs plans → DoAll (made_from now o ++ cs) (cons_option o plans)
unfolding DoAll
made_does now None cs plans h = h
made_does now (Some plan) cs plans h = (plan_does (next_task now.kernel).0 plan, h)

module _ (now : RunState) where
  event_does : (e : Event) (events : List Event)
      → DoAll (made_by_all (turn now e).state events) (spawned_plans now.templates (spawns_of events))
      → DoAll (made_by_all now (e ∷ events)) (spawned_plans now.templates (spawns_of (e ∷ events)))
  event_does (Step task) events h = h
  event_does (Kill task) events h = h
  event_does (Hangup task phone) events h = h
  event_does (Spawn place) events h =
      made_does now (slice_get now.templates place) (made_by_all (turn now (Spawn place)).state events)
      (spawned_plans now.templates (spawns_of events)) h

events_do : (now : RunState) (events : List Event)
    → DoAll (made_by_all now events) (spawned_plans now.templates (spawns_of events))
unfolding DoAll
events_do now [] = tt
events_do now (e ∷ events) =
    event_does now e events
    (subst (λ (templates : List TaskPlan). DoAll (made_by_all (turn now e).state events) (spawned_plans templates (spawns_of events)))
    (ap (λ (z : Constants). z.templates) (turn_keeps now e)) (events_do (turn now e).state events))

reached_do : (plan : Plan) (spawned : List ℕ) (now : RunState) → IsReached plan spawned now
    → DoAll (map constant now.programs) (plans_of plan spawned)
reached_do plan spawned now r =
    let first : List Constant = map constant (programs_from 1 plan.tasks) in
    let made : List Constant = made_by_all (start plan) r.events in
    let all : DoAll (first ++ made) (plans_of plan (spawns_of r.events)) =
    both_do first plan.tasks made (spawned_plans plan.templates (spawns_of r.events)) (all_do 1 plan.tasks) (events_do (start plan) r.events) in
    let same : map constant now.programs ≡ first ++ made =
    ap (λ (z : RunState). map constant z.programs) r.state
    ∙ ap (λ (z : Constants). z.programs) (events_keep (start plan) r.events) in
    subst (λ (cs : List Constant). DoAll cs (plans_of plan spawned)) (sym same)
    (subst (λ (places : List ℕ). DoAll (first ++ made) (plans_of plan places)) r.spawns all)

-- ---- the program of one task

does_at : (cs : List Constant) (plans : List TaskPlan) (i : ℕ) (c : Constant)
    → DoAll cs plans → slice_get cs i ≡ Some c → DoesBodies c (bodies_in (slice_get plans i))
unfolding DoAll
does_at [] plans i c h e = absurd (cc e)
does_at (d ∷ cs) [] i c h e = absurd h
does_at (d ∷ cs) (plan ∷ plans) zero c h e = subst (λ (z : Constant). DoesBodies z plan.bodies) (same_Some d c e) h.0
does_at (d ∷ cs) (plan ∷ plans) (suc i) c h e = does_at cs plans i c h.1 e

is_there : (b : Bool) (o : Option AnyProgram) (p : AnyProgram) → Some p ≡ cond b o None → o ≡ Some p
is_there true o p e = sym e
is_there false o p e = absurd (cc e)

pub task_does : (plan : Plan) (spawned : List ℕ) (now : RunState) (task : TaskNo) (p : AnyProgram)
    → IsReached plan spawned now → Some p ≡ program_with now task
    → DoesBodies (constant p) (bodies_of plan spawned task)
task_does plan spawned now task p r e =
    let i : ℕ = task.0 - 1 in
    let at : slice_get now.programs i ≡ Some p = is_there (nat_lt 0 task.0) (slice_get now.programs i) p e in
    does_at (map constant now.programs) (plans_of plan spawned) i (constant p) (reached_do plan spawned now r)
    (slice_get-map constant now.programs i ∙ ap (option_map constant) at)

-- ---- what the code looks up

-- a plan of the script, and one of a spawn
pub of_script : (plans more : List TaskPlan) (i : ℕ) → i < length plans → slice_get (plans ++ more) i ≡ slice_get plans i
of_script [] more i h = absurd (omega arith)
of_script (plan ∷ plans) more zero h = refl
of_script (plan ∷ plans) more (suc i) h = of_script plans more i (omega arith)

pub of_spawn : (plans more : List TaskPlan) (i : ℕ) → length plans ≤ i
    → slice_get (plans ++ more) i ≡ slice_get more (i - length plans)
of_spawn [] more i h = let same : i ≡ i - 0 = omega arith in ap (slice_get more) same
of_spawn (plan ∷ plans) more zero h = absurd (omega arith)
of_spawn (plan ∷ plans) more (suc i) h =
    let same : i - length plans ≡ suc i - length (plan ∷ plans) = omega arith in
    of_spawn plans more i (omega arith) ∙ ap (slice_get more) same

-- an event, and then others
pub one_spawned : (templates : List TaskPlan) (e : Event) (events : List Event)
    → spawned_plans templates (spawns_of (e ∷ events))
    ≡ cons_option (template_of templates e) (spawned_plans templates (spawns_of events))
one_spawned templates (Step task) events = refl
one_spawned templates (Kill task) events = refl
one_spawned templates (Hangup task phone) events = refl
one_spawned templates (Spawn place) events = refl

-- the operations of a raw task are those of the first body
pub first_body : (bodies : List Body) (place : ℕ) → op_in (slice_get bodies 0) place ≡ slice_get (ops_of bodies) place
first_body [] place = refl
first_body (body ∷ bodies) place = refl
