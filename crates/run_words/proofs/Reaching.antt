-- A state that is reached is sound, and what is constant of it is told by the script and the spawns.
use Rattle.std.proofs.Common.{ℕ, ◌≡◌, ◌+◌, List, [], ◌∷◌, ◌++◌, length, length-append, Option, None, Some, refl, sym, ◌∙◌, ap, subst, arith}
use Rattle.std.specs.Prelude.{slice_get}
use Rattle.std.proofs.lemmas.Grind.{flat_map-append}
use Rattle.std.proofs.lemmas.List.{append-nil}
use Rattle.ipc_ids.specs.declared.message.Event.{Event}
use Rattle.ipc_ids.specs.declared.message.Event.TheVariants.{Step, Kill, Hangup, Spawn}
use Rattle.script_lines.specs.declared.plan.TaskPlan.{TaskPlan}
use Rattle.script_lines.specs.Plan.{Plan}
use Rattle.script_lines.specs.Sound as script
use Rattle.script_reader.specs.Schedule.{MayAllCome, tasks_after}
use Rattle.switchboard.specs.Sound.{IsSound}
use Rattle.task_system.specs.Run.{RunState, program_of, start, turn, state_after, MayHappen, MayAllHappen}
use Rattle.run_words.specs.Constants.{Constant, constant, constants, made_from, made_by_all, with_made}
use Rattle.run_words.proofs.KeptConstants.{events_keep}
use Rattle.run_laws.proofs.RunHistories.{run_told, may_from, turn_count, turn_templates, later_may, start_counted, templates_stay}
use Rattle.run_words.specs.Reached.{spawn_of, spawns_of, IsReached}

abbrev tasks_of : RunState → ℕ
tasks_of now = length now.kernel.tasks.alive

-- ---- what is constant of the programs that spawns add

-- where there are so many tasks, and this template, if there is one
abbrev made_one : ℕ → Option TaskPlan → List Constant
made_one tasks None = []
made_one tasks (Some plan) = constant (program_of (tasks + 1) plan) ∷ []

abbrev made_at : List TaskPlan → ℕ → List ℕ → List Constant
made_at templates tasks [] = []
made_at templates tasks (place ∷ places) =
    made_one tasks (slice_get templates place) ++ made_at templates (tasks + 1) places

one_made : (now : RunState) (o : Option TaskPlan) → made_from now o ≡ made_one (tasks_of now) o
one_made now None = refl
one_made now (Some plan) = refl

module _ (now : RunState) where
  next_made : (e : Event) (places : List ℕ) → MayHappen now e
      → made_at (turn now e).state.templates (tasks_of (turn now e).state) places
      ≡ made_at now.templates (tasks_after (tasks_of now) e) places
  next_made e places may =
      ap (λ (z : List TaskPlan). made_at z (tasks_of (turn now e).state) places) (turn_templates now e)
      ∙ ap (λ (z : ℕ). made_at now.templates z places) (turn_count now e may)

  and_made : (e : Event) (events : List Event)
      → made_by_all (turn now e).state events ≡ made_at now.templates (tasks_after (tasks_of now) e) (spawns_of events)
      → made_by_all now (e ∷ events) ≡ made_at now.templates (tasks_of now) (spawns_of (e ∷ events))
  and_made (Step t) events h = h
  and_made (Kill t) events h = h
  and_made (Hangup t phone) events h = h
  and_made (Spawn place) events h =
      ap (λ (z : List Constant). z ++ made_by_all (turn now (Spawn place)).state events) (one_made now (slice_get now.templates place))
      ∙ ap (λ (z : List Constant). made_one (tasks_of now) (slice_get now.templates place) ++ z) h

all_made : (now : RunState) (events : List Event) → MayAllHappen now events
    → made_by_all now events ≡ made_at now.templates (tasks_of now) (spawns_of events)
all_made now [] may = refl
all_made now (e ∷ events) may =
    and_made now e events
    (all_made (turn now e).state events (later_may now e events may) ∙ next_made now e (spawns_of events) may.0)

-- ---- a state that is reached

reached_may : (plan : Plan) (spawned : List ℕ) (now : RunState) (r : IsReached plan spawned now) → MayAllHappen (start plan) r.events
reached_may plan spawned now r = may_from plan r.events (start plan) refl r.may

pub reached_constants : (plan : Plan) (spawned : List ℕ) (now : RunState) → IsReached plan spawned now
    → constants now ≡ with_made (constants (start plan)) (made_at plan.templates (tasks_of (start plan)) spawned)
reached_constants plan spawned now r =
    ap constants r.state
    ∙ events_keep (start plan) r.events
    ∙ ap (with_made (constants (start plan)))
    (all_made (start plan) r.events (reached_may plan spawned now r)
    ∙ ap (made_at plan.templates (tasks_of (start plan))) r.spawns)

pub reached_sound : (plan : Plan) (spawned : List ℕ) (now : RunState) → script.IsSound plan → IsReached plan spawned now → IsSound now.kernel
reached_sound plan spawned now sound r =
    subst (λ (z : RunState). IsSound z.kernel) (sym r.state) (run_told plan r.events sound r.may).kernel.sound

-- ---- the start, and one event more

pub begins : (plan : Plan) → IsReached plan [] (start plan)
begins plan = record { events = []; may = tt; spawns = refl; state = refl }

may_more : (now : RunState) (events : List Event) (e : Event) → MayAllHappen now events → MayHappen (state_after now events) e
    → MayAllHappen now (events ++ e ∷ [])
may_more now [] e may h = (h, tt)
may_more now (f ∷ events) e may h =
    let next : RunState = (turn now f).state in
    let more : List Event = events ++ e ∷ [] in
    let later : MayAllHappen next more = may_more next events e (later_may now f events may) h in
    let there : MayAllCome (tasks_of next) (length now.templates) more =
    subst (λ (z : List TaskPlan). MayAllCome (tasks_of next) (length z) more) (turn_templates now f) later in
    (may.0, subst (λ (z : ℕ). MayAllCome z (length now.templates) more) (turn_count now f may.0) there)

after_more : (now : RunState) (events : List Event) (e : Event)
    → (turn (state_after now events) e).state ≡ state_after now (events ++ e ∷ [])
after_more now [] e = refl
after_more now (f ∷ events) e = after_more (turn now f).state events e

pub goes_on : (plan : Plan) (spawned : List ℕ) (now : RunState) (e : Event) → IsReached plan spawned now → MayHappen now e
    → IsReached plan (spawned ++ spawn_of e) (turn now e).state
goes_on plan spawned now e r may =
    let more : List Event = r.events ++ e ∷ [] in
    let here : MayHappen (state_after (start plan) r.events) e = subst (λ (z : RunState). MayHappen z e) r.state may in
    let all : MayAllHappen (start plan) more = may_more (start plan) r.events e (reached_may plan spawned now r) here in
    record {
      events = more;
      may = subst (λ (z : ℕ). MayAllCome z (length plan.templates) more) (start_counted plan) all;
      spawns = flat_map-append spawn_of r.events (e ∷ [])
          ∙ ap (λ (z : List ℕ). spawns_of r.events ++ z) (append-nil (spawn_of e))
          ∙ ap (λ (z : List ℕ). z ++ spawn_of e) r.spawns;
      state = ap (λ (z : RunState). (turn z e).state) r.state ∙ after_more (start plan) r.events e;
    }

-- ---- how many tasks there are, and which templates

pub one_counted : (n : ℕ) (e : Event) → tasks_after n e ≡ n + length (spawn_of e)
one_counted n (Step t) = omega arith
one_counted n (Kill t) = omega arith
one_counted n (Hangup t phone) = omega arith
one_counted n (Spawn place) = refl

counted : (now : RunState) (events : List Event) → MayAllHappen now events
    → tasks_of (state_after now events) ≡ tasks_of now + length (spawns_of events)
counted now [] may = omega arith
counted now (e ∷ events) may =
    let later = counted (turn now e).state events (later_may now e events may) in
    let one = turn_count now e may.0 in
    let here = one_counted (tasks_of now) e in
    let both = length-append (spawn_of e) (spawns_of events) in
    omega (arith, later, one, here, both)

pub reached_tasks : (plan : Plan) (spawned : List ℕ) (now : RunState) → IsReached plan spawned now
    → length now.kernel.tasks.alive ≡ length plan.tasks + length spawned
reached_tasks plan spawned now r =
    ap tasks_of r.state
    ∙ counted (start plan) r.events (reached_may plan spawned now r)
    ∙ ap (λ (z : ℕ). z + length (spawns_of r.events)) (start_counted plan)
    ∙ ap (λ (z : List ℕ). length plan.tasks + length z) r.spawns

pub reached_templates : (plan : Plan) (spawned : List ℕ) (now : RunState) → IsReached plan spawned now → now.templates ≡ plan.templates
reached_templates plan spawned now r = ap (λ (z : RunState). z.templates) r.state ∙ templates_stay (start plan) r.events
