-- Every task runs the program of its plan, after each event of a run.
use Rattle.std.proofs.Common.{◌≡◌, ℕ, zero, suc, ◌+◌, ◌-◌, ◌⊎◌, inl, inr, List, [], ◌∷◌, ◌++◌, length, length-append, Option, None, Some, refl, ap, sym, subst, ◌∙◌, arith}
use Rattle.std.specs.Prelude.{slice_get, slice_set}
use Rattle.std.specs.Option.{option_to_list}
use Rattle.std.proofs.lemmas.List.{append-nil, length-set}
use Rattle.std.proofs.lemmas.Option.{same_Some, slice_get_within}
use Rattle.ipc_ids.specs.declared.numbers.TaskNo.{TaskNo}
use Rattle.ipc_ids.specs.declared.message.Outcome.{Outcome}
use Rattle.ipc_ids.specs.declared.message.Event.{Event}
use Rattle.ipc_ids.specs.declared.message.Event.TheVariants.{Step, Kill, Hangup, Spawn}
use Rattle.script_lines.specs.declared.plan.Kind.{Kind}
use Rattle.script_lines.specs.declared.plan.Kind.TheVariants as kind
use Rattle.script_lines.specs.declared.plan.TaskPlan.{TaskPlan}
use Rattle.script_lines.specs.Plan.{Plan}
use Rattle.script_lines.specs.Sound.{IsSound}
use Rattle.script_reader.specs.Schedule.{MayAllCome}
use Rattle.kernel_core.specs.Kernel.{serve, next_task}
use Rattle.async_task.specs.Steps.{bare_task}
use Rattle.task_system.specs.declared.any.AnyProgram.{AnyProgram}
use Rattle.task_system.specs.declared.any.AnyProgram.TheVariants as any
use Rattle.task_system.specs.Any.{wanted, after}
use Rattle.task_system.specs.Run.{RunState, RunTransition, program_by, program_of, programs_from, start, state_after, turn, spawn_by, MayAllHappen}
use Rattle.run_laws.specs.RunHistory.{beginning, RunFits}
use Rattle.run_laws.proofs.RunHistories.{turn_fits, start_told, turn_templates, later_may, may_from}
use Rattle.route_laws.specs.Leads.{Beginning}
use Rattle.ipc_ids.specs.declared.entry.Entry.{Entry}
use Rattle.run_determined.specs.TaskPrograms.{plans_after, IsProgramOf, RunThePlans, TasksRunTheirPlans}
use Rattle.run_determined.proofs.AsyncSteps.{step_still}
use Rattle.run_determined.proofs.ByEvent as happens
use Rattle.run_determined.proofs.ByEvent.{Happens, what_happens, may_part}
use Rattle.run_determined.proofs.ScheduleLines.{bodies_still, first_ops}

-- ---- a program stays that of its plan

after_keeps : (t : ℕ) (plan : TaskPlan) (k : Kind) (p : AnyProgram) (o : Outcome) → IsProgramOf t plan k p
    → IsProgramOf t plan k (after p o)
after_keeps t plan kind.Raw (any.Raw p) o it = it
after_keeps t plan kind.Async (any.Async p) o it =
    let still = step_still p.state o in
    (ap (λ (me : TaskNo). me.0) still.0 ∙ it.0, still.1 ∙ it.1)
after_keeps t plan kind.Naming (any.Naming p) o it = tt
after_keeps t plan kind.Block (any.Block p) o it = tt
after_keeps t plan _ _ o it = absurd it

-- before its first step it is that
new_is : (t : ℕ) (plan : TaskPlan) (k : Kind) → IsProgramOf t plan k (program_by (record { 0 = t }) plan k)
new_is t plan kind.Raw = first_ops plan.bodies
new_is t plan kind.Async =
    let still = bodies_still (length plan.bodies) (bare_task (record { 0 = t }) plan.bodies) in
    (ap (λ (me : TaskNo). me.0) still.me, still.bodies)
new_is t plan kind.Naming = tt
new_is t plan kind.Block = tt

-- ---- lists of programs

pub at_set : (ps : List AnyProgram) (i j : ℕ) (x p : AnyProgram) → slice_get (slice_set ps i x) j ≡ Some p
    → (j ≡ i) × (p ≡ x) × ((q : AnyProgram) × (slice_get ps j ≡ Some q)) ⊎ (slice_get ps j ≡ Some p)
at_set [] i zero x p h = absurd (cc h)
at_set [] i (suc j) x p h = absurd (cc h)
at_set (q ∷ ps) zero zero x p h = inl (refl, sym (same_Some x p h), (q, refl))
at_set (q ∷ ps) zero (suc j) x p h = inr h
at_set (q ∷ ps) (suc i) zero x p h = inr h
at_set (q ∷ ps) (suc i) (suc j) x p h =
    elim (at_set ps i j x p h) [ inl e ↦ inl (ap suc e.0, e.1, e.2) | inr e ↦ inr e ]

module _ {A : Type 0} where
  pub at_last : (xs : List A) (x : A) (j : ℕ) (y : A) → slice_get (xs ++ x ∷ []) j ≡ Some y
      → (slice_get xs j ≡ Some y) ⊎ ((j ≡ length xs) × (x ≡ y))
  at_last [] x zero y h = inr (refl, same_Some x y h)
  at_last [] x (suc j) y h = absurd (cc h)
  at_last (z ∷ xs) x zero y h = inl h
  at_last (z ∷ xs) x (suc j) y h = elim (at_last xs x j y h) [ inl e ↦ inl e | inr e ↦ inr (ap suc e.0, e.1) ]

  within : (xs : List A) (j : ℕ) (y : A) → slice_get xs j ≡ Some y → j ≡ length xs → ⊥
  within xs j y h e = let few = slice_get_within xs j y h in omega (arith, few, e)

-- ---- each event

served_plans : (plans : List TaskPlan) (ps : List AnyProgram) (u : ℕ) (p : AnyProgram) (o : Outcome)
    → slice_get ps u ≡ Some p → RunThePlans plans ps → RunThePlans plans (slice_set ps u (after p o))
served_plans plans ps u p o at it = record {
  counted = it.counted ∙ sym (length-set ps u (after p o));
  each = λ i plan x has is. elim (at_set ps u i (after p o) x is) [
    | inl e ↦
        let here : slice_get ps i ≡ Some p = ap (slice_get ps) e.0 ∙ at in
        subst (IsProgramOf (suc i) plan plan.kind) (sym e.1)
        (after_keeps (suc i) plan plan.kind p o (it.each i plan p has here))
    | inr e ↦ it.each i plan x has e
  ];
}

made_plans : (plans : List TaskPlan) (ps : List AnyProgram) (template : TaskPlan) (t : ℕ) → t ≡ suc (length ps)
    → RunThePlans plans ps → RunThePlans (plans ++ template ∷ []) (ps ++ program_of t template ∷ [])
made_plans plans ps template t number it = record {
  counted =
      length-append plans (template ∷ []) ∙ (let same = it.counted in omega (arith, same))
      ∙ sym (length-append ps (program_of t template ∷ []));
  each = λ i plan x has is. elim (at_last ps (program_of t template) i x is) [
    | inl old ↦ elim (at_last plans template i plan has) [
      | inl was ↦ it.each i plan x was old
      | inr new ↦ absurd (within ps i x old (new.0 ∙ it.counted))
    ]
    | inr made ↦ elim (at_last plans template i plan has) [
      | inl was ↦ absurd (within plans i plan was (made.0 ∙ sym it.counted))
      | inr new ↦
          let place : t ≡ suc i = number ∙ ap suc (sym made.0) in
          subst (λ (y : TaskPlan). IsProgramOf (suc i) y y.kind x) new.1
          (subst (IsProgramOf (suc i) template template.kind) made.1
          (subst (λ (m : ℕ). IsProgramOf m template template.kind (program_of t template)) place
          (new_is t template template.kind)))
    ]
  ];
}

-- the plans after one event
abbrev next_plans : List TaskPlan → List TaskPlan → Event → List TaskPlan
next_plans templates plans (Spawn place) = plans ++ option_to_list (slice_get templates place)
next_plans templates plans _ = plans

module _ (now : RunState) (plans : List TaskPlan) (it : RunThePlans plans now.programs)
    (paired : length now.programs ≡ length now.kernel.tasks.alive) where
  turned : (e : Event) (next : RunTransition) → Happens now e next → ((place : ℕ) → e ≡ Spawn place → ⊥)
      → RunThePlans plans next.state.programs
  turned e next (happens.served u p _ at) not =
      served_plans plans now.programs (u.0 - 1) p (serve now.kernel u (wanted p)).outcome at it
  turned e next (happens.nothing place is) not = absurd (not place is)
  turned e next (happens.spawned place template is _) not = absurd (not place is)
  turned e next _ not = it

  made : (o : Option TaskPlan) → RunThePlans (plans ++ option_to_list o) (spawn_by now o).state.programs
  made None = subst (λ (ps : List TaskPlan). RunThePlans ps now.programs) (sym (append-nil plans)) it
  made (Some template) = made_plans plans now.programs template (next_task now.kernel).0 (omega (arith, paired)) it

  turn_plans : (e : Event) → RunThePlans (next_plans now.templates plans e) (turn now e).state.programs
  turn_plans (Step u) = turned (Step u) (turn now (Step u)) (what_happens now (Step u)) (λ place e. cc e)
  turn_plans (Kill u) = turned (Kill u) (turn now (Kill u)) (what_happens now (Kill u)) (λ place e. cc e)
  turn_plans (Hangup u phone) =
      turned (Hangup u phone) (turn now (Hangup u phone)) (what_happens now (Hangup u phone)) (λ place e. cc e)
  turn_plans (Spawn place) = made (slice_get now.templates place)

first_event : (templates plans : List TaskPlan) (e : Event) (events : List Event) (ps : List AnyProgram)
    → RunThePlans (plans_after templates (next_plans templates plans e) events) ps
    → RunThePlans (plans_after templates plans (e ∷ events)) ps
first_event templates plans (Spawn place) events ps h = h
first_event templates plans _ events ps h = h

-- all events
plans_kept : (b : Beginning) (h : List Entry) (now : RunState) → RunFits b h now → (plans : List TaskPlan)
    → RunThePlans plans now.programs → (events : List Event) → MayAllHappen now events
    → RunThePlans (plans_after now.templates plans events) (state_after now events).programs
plans_kept b h now told plans it [] may = it
plans_kept b h now told plans it (e ∷ events) may =
    let next : RunTransition = turn now e in
    let later : List TaskPlan = next_plans now.templates plans e in
    first_event now.templates plans e events (state_after next.state events).programs
    (subst (λ (ts : List TaskPlan). RunThePlans (plans_after ts later events)
    (state_after next.state events).programs) (turn_templates now e)
    (plans_kept b (h ++ next.entries) next.state (turn_fits b h now told e may.0) later
    (turn_plans now plans it told.paired e) events (later_may now e events may)))

-- ---- the start

programs_are : (t : ℕ) (tasks : List TaskPlan) (i : ℕ) (plan : TaskPlan) (p : AnyProgram)
    → slice_get tasks i ≡ Some plan → slice_get (programs_from t tasks) i ≡ Some p
    → IsProgramOf (t + i) plan plan.kind p
programs_are t [] i plan p has is = absurd (cc has)
programs_are t (task ∷ tasks) zero plan p has is =
    subst (λ (m : ℕ). IsProgramOf m plan plan.kind p) (omega arith)
    (subst (IsProgramOf t plan plan.kind) (same_Some (program_of t task) p is)
    (subst (λ (y : TaskPlan). IsProgramOf t y y.kind (program_of t task)) (same_Some task plan has)
    (new_is t task task.kind)))
programs_are t (task ∷ tasks) (suc i) plan p has is =
    subst (λ (m : ℕ). IsProgramOf m plan plan.kind p) (omega arith) (programs_are (t + 1) tasks i plan p has is)

counted : (t : ℕ) (tasks : List TaskPlan) → length tasks ≡ length (programs_from t tasks)
counted t [] = refl
counted t (task ∷ tasks) = ap suc (counted (t + 1) tasks)

start_plans : (plan : Plan) → RunThePlans plan.tasks (start plan).programs
start_plans plan = record {
  counted = counted 1 plan.tasks;
  each = λ i task p has is. subst (λ (m : ℕ). IsProgramOf m task task.kind p) (one_more i)
      (programs_are 1 plan.tasks i task p has is);
} where
  one_more : (i : ℕ) → 1 + i ≡ suc i
  one_more i = omega arith

pub tasks_run_their_plans : (plan : Plan) (events : List Event) → IsSound plan
    → MayAllCome (length plan.tasks) (length plan.templates) events → TasksRunTheirPlans plan events
tasks_run_their_plans plan events sound may done later is =
    plans_kept (beginning plan) [] (start plan) (start_told plan sound) plan.tasks (start_plans plan) done
    (may_from plan done (start plan) refl (may_part plan events done later is may))
