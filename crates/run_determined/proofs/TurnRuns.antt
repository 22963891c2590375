-- In the run of a sound script tasks come in turn, under every schedule.
use Rattle.std.proofs.Common.{◌≡◌, ℕ, zero, suc, ◌+◌, ◌-◌, ◌<◌, ◌≤◌, Bool, true, false, List, [], ◌∷◌, ◌++◌, length, length-append, map, Option, None, Some, refl, sym, subst, ◌∙◌, arith}
use Rattle.std.specs.Prelude.{⊤, if◌then◌else◌, All}
use Rattle.std.proofs.lemmas.List.{append-nil, length-set}
use Rattle.ipc_ids.specs.declared.numbers.TaskNo.{TaskNo}
use Rattle.ipc_ids.specs.declared.message.Request.{Request}
use Rattle.ipc_ids.specs.declared.message.Request.TheVariants as request
use Rattle.ipc_ids.specs.declared.message.Outcome.{Outcome}
use Rattle.ipc_ids.specs.declared.message.Event.{Event}
use Rattle.ipc_ids.specs.declared.entry.Entry.{Entry}
use Rattle.ipc_ids.specs.declared.entry.Entry.TheVariants as entry
use Rattle.ipc_ids.specs.Holdings.{on_top, newest_first}
use Rattle.ipc_ids.proofs.LawfulAreas.{newest_first-append}
use Rattle.script_lines.specs.declared.plan.TaskPlan.{TaskPlan}
use Rattle.script_lines.specs.declared.plan.Wire.{Wire}
use Rattle.script_lines.specs.Plan.{Plan}
use Rattle.script_lines.specs.Sound as script
use Rattle.script_lines.specs.Sound.{has_service}
use Rattle.script_reader.specs.Schedule.{MayAllCome}
use Rattle.switchboard.specs.Serving.{Served}
use Rattle.ipc_ids.specs.Effects.{is_effect, AreEffects}
use Rattle.kernel_core.specs.Kernel.{serve, kill_event, next_task, named, spawning}
use Rattle.ipc_ids.specs.Actors.{AreOfTasks}
use Rattle.kernel_core.specs.History.{served_entries}
use Rattle.kernel_core.proofs.HonestEvents.{serve_is_honest, kill_is_honest}
use Rattle.async_task.specs.Steps.{step}
use Rattle.async_laws.specs.Links.{is_own, AreOwn}
use Rattle.async_laws.proofs.OwnEntries.{own_entries}
use Rattle.task_system.specs.declared.any.AnyProgram.{AnyProgram}
use Rattle.task_system.specs.declared.any.AnyProgram.TheVariants as any
use Rattle.task_system.specs.Any.{wanted, after, entries}
use Rattle.task_system.specs.Run.{RunState, RunTransition, run, turn, step_served, request_served, killed, gone}
use Rattle.task_system.specs.Wiring.{service_wires, wires_to_service}
use Rattle.route_laws.specs.Leads.{Lead, Beginning}
use Rattle.run_laws.specs.RunHistory.{lead_of, beginning}
use Rattle.run_laws.proofs.RunHistories.{start_counted}
use Rattle.run_determined.specs.PhoneCauses.{HadCause}
use Rattle.run_determined.specs.TasksInTurn.{count_after, IsInTurn, AllInTurn, TasksComeInTurn, NoneIsOf, NothingComesBeforeItsSpawn, CameInTurn}
use Rattle.run_determined.proofs.ByEvent as happens
use Rattle.run_determined.proofs.ByEvent.{Happens, what_happens}
use Rattle.run_determined.proofs.CauseEvents.{had_before}
use Rattle.run_determined.proofs.CauseRuns.{IsCaused, lives_told, caused_run_keeps}
use Rattle.run_determined.proofs.LiveCalls.{AreLawful, lawful_before}
use Rattle.run_determined.proofs.TurnSteps.{BeginAt, IsNoSpawn, in_turn}

-- ---- entries that make no task

abbrev AreNoSpawn : List Entry → Type 0
AreNoSpawn [] = ⊤
AreNoSpawn (e ∷ es) = IsNoSpawn e × AreNoSpawn es

both_no_spawn : (es fs : List Entry) → AreNoSpawn es → AreNoSpawn fs → AreNoSpawn (es ++ fs)
both_no_spawn [] fs a b = b
both_no_spawn (e ∷ es) fs a b = (a.0, both_no_spawn es fs a.1 b)

effects_no_spawn : (es : List Entry) → AreEffects es → AreNoSpawn es
effects_no_spawn [] effects = tt
effects_no_spawn (e ∷ es) effects = (one e effects.0, effects_no_spawn es effects.1) where
  one : (e : Entry) → is_effect e ≡ true → IsNoSpawn e
  one (entry.Spawn t) is = absurd (cc is)
  one _ is = tt

own_no_spawn : (u : ℕ) (es : List Entry) → AreOwn u es → AreNoSpawn es
own_no_spawn u [] own = tt
own_no_spawn u (e ∷ es) own = (one e own.0, own_no_spawn u es own.1) where
  one : (e : Entry) → is_own u e ≡ true → IsNoSpawn e
  one (entry.Spawn t) mine = absurd (cc mine)
  one _ mine = tt

program_no_spawn : (p : AnyProgram) (o : Outcome) → AreNoSpawn (entries p o)
program_no_spawn (any.Async p) o = own_no_spawn p.state.me.0 (step p.state o).entries (own_entries p.state o)
program_no_spawn _ o = tt

same_count : (n : ℕ) (e : Entry) (q : List Entry) → IsNoSpawn e → count_after n (e ∷ q) ≡ count_after n q
same_count n (entry.Spawn t) q plain = absurd plain
same_count n _ q plain = refl

-- ---- each event

record InTurn (n : ℕ) (q : List Entry) (count : ℕ) : Type 0 where
  pub came : CameInTurn n q
  pub counted : count_after n q ≡ count

-- entries that make no task come in turn
each_in_turn : (b : Beginning) (n : ℕ) → BeginAt n b.wires → (es q : List Entry) (count : ℕ) → InTurn n q count
    → AreNoSpawn es → AreLawful (on_top es q) → HadCause b (on_top es q) → AreOfTasks count es
    → InTurn n (on_top es q) count
each_in_turn b n begins [] q count it plain l had known = it
each_in_turn b n begins (e ∷ es) q count it plain l had known =
    let m : AreLawful (e ∷ q) = lawful_before es (e ∷ q) l in
    let c : HadCause b (e ∷ q) = had_before b es (e ∷ q) had in
    each_in_turn b n begins es (e ∷ q) count
    (record {
      came = (it.came, in_turn b n begins q e it.came plain.0 m c.1 (rw it.counted known.0));
      counted = same_count n e q plain.0 ∙ it.counted;
    })
    plain.1 l had known.1

-- of a longer list the last entries
last_known : (n : ℕ) (h es : List Entry) → AreOfTasks n (h ++ es) → AreOfTasks n es
last_known n [] es known = known
last_known n (e ∷ h) es known = last_known n h es known.1

-- what holds of a run so far
abbrev Turns : ℕ → List Entry → RunState → Type 0
Turns n h now = InTurn n (newest_first h) (length now.kernel.tasks.alive)

module _ (b : Beginning) (n : ℕ) (begins : BeginAt n b.wires) (h : List Entry) (now : RunState)
    (so : IsCaused b h now) (it : Turns n h now) where
  abbrev After : RunTransition → Type 0
  After next = IsCaused b (h ++ next.entries) next.state → Turns n (h ++ next.entries) next.state

  -- entries that make no task
  no_task : (next : RunTransition) → length next.state.programs ≡ length now.programs → AreNoSpawn next.entries
      → After next
  no_task next same plain comes =
      let count : length next.state.kernel.tasks.alive ≡ length now.kernel.tasks.alive =
      sym comes.told.paired ∙ same ∙ so.told.paired in
      rw (newest_first-append h next.entries)
      (each_in_turn b n begins next.entries (newest_first h) (length next.state.kernel.tasks.alive)
      (record { came = it.came; counted = it.counted ∙ sym count })
      plain
      (subst AreLawful (newest_first-append h next.entries) (lives_told b (h ++ next.entries) next.state comes))
      (subst (HadCause b) (newest_first-append h next.entries) comes.causes.fit.had)
      (last_known (length next.state.kernel.tasks.alive) h next.entries comes.told.kernel.known))

  -- a request
  request_turn : (next : RunTransition) (u : TaskNo) (asked : Request) (own : List Entry)
      → next.entries ≡ served_entries u asked (serve now.kernel u asked) ++ own
      → length next.state.programs ≡ length now.programs → AreNoSpawn own → After next
  request_turn next u asked own is same plain =
      let s : Served = serve now.kernel u asked in
      no_task next same
      (subst AreNoSpawn (sym is) (both_no_spawn (served_entries u asked s) own (
        tt,
        both_no_spawn s.entries (entry.Outcome s.outcome ∷ [])
            (effects_no_spawn s.entries (serve_is_honest now.kernel u asked).effects) (tt, tt),
      ) plain))

  -- a task is made, with these entries behind the head
  made_turn : (es : List Entry) → AreNoSpawn es → AreOfTasks (length now.kernel.tasks.alive + 1) es
      → AreLawful (newest_first (h ++ entry.Spawn (next_task now.kernel) ∷ es))
      → HadCause b (newest_first (h ++ entry.Spawn (next_task now.kernel) ∷ es))
      → InTurn n (newest_first (h ++ entry.Spawn (next_task now.kernel) ∷ es)) (length now.kernel.tasks.alive + 1)
  made_turn es plain known l had =
      let whole : List Entry = entry.Spawn (next_task now.kernel) ∷ es in
      let count : count_after n (newest_first h) ≡ length now.kernel.tasks.alive = it.counted in
      rw (newest_first-append h whole)
      (each_in_turn b n begins es (entry.Spawn (next_task now.kernel) ∷ newest_first h)
      (length now.kernel.tasks.alive + 1)
      (record { came = (it.came, omega (arith, count)); counted = omega (arith, count) })
      plain
      (subst AreLawful (newest_first-append h whole) l)
      (subst (HadCause b) (newest_first-append h whole) had)
      known)

  made_by : (o : Option TaskNo) (plan : TaskPlan)
      → AreLawful (newest_first (h ++ (spawning now.kernel (next_task now.kernel) plan.limit o).entries))
      → HadCause b (newest_first (h ++ (spawning now.kernel (next_task now.kernel) plan.limit o).entries))
      → InTurn n (newest_first (h ++ (spawning now.kernel (next_task now.kernel) plan.limit o).entries))
      (length (spawning now.kernel (next_task now.kernel) plan.limit o).state.tasks.alive)
  made_by None plan l had =
      subst (InTurn n (newest_first (h ++ entry.Spawn (next_task now.kernel) ∷ [])))
      (sym (length-append now.kernel.tasks.alive (true ∷ []))) (made_turn [] tt tt l had)
  made_by (Some u) plan l had =
      subst (InTurn n _) (sym (length-append now.kernel.tasks.alive (true ∷ [])))
      (made_turn _ (tt, tt) (tt, tt) l had)

  turned : (e : Event) (next : RunTransition) → Happens now e next → After next
  turned e next (happens.gone u) = no_task (gone now u) refl (tt, tt)
  turned e next (happens.served u p _ _) =
      let s : Served = serve now.kernel u (wanted p) in
      request_turn (step_served now u p s) u (wanted p) (entries p s.outcome) refl
      (length-set now.programs (u.0 - 1) (after p s.outcome)) (program_no_spawn p s.outcome)
  turned e next (happens.killed u _) =
      no_task (killed now u (kill_event now.kernel u)) refl
      (tt, effects_no_spawn (kill_event now.kernel u).entries (kill_is_honest now.kernel u))
  turned e next (happens.hung_up u phone _) =
      let s : Served = serve now.kernel u (request.Hangup phone) in
      request_turn (request_served now u (request.Hangup phone) s) u (request.Hangup phone) []
      (sym (append-nil (served_entries u (request.Hangup phone) s))) refl tt
  turned e next (happens.nothing _ _) = λ comes. subst (λ (es : List Entry). Turns n es now) (sym (append-nil h)) it
  turned e next (happens.spawned place template _ _) = λ comes.
      made_by (named now.kernel now.names) template (lives_told b _ _ comes) comes.causes.fit.had

-- ---- the start

both_begin : (n : ℕ) (first later : List Lead) → BeginAt n first → BeginAt n later → BeginAt n (first ++ later)
both_begin n [] later a b = b
both_begin n (w ∷ first) later a b = (a.0, both_begin n first later a.1 b)

service_begins : (n m t : ℕ) → 1 ≤ t → t + m ≤ n + 1 → BeginAt n (map lead_of (service_wires m t))
service_begins n zero t some few = tt
service_begins n (suc m) t some few =
    ((some, omega (arith, few)), service_begins n m (t + 1) (omega (arith, some)) (omega (arith, few)))

to_service_begin : (tasks : List TaskPlan) → BeginAt (length tasks) (map lead_of (wires_to_service tasks))
to_service_begin [] = tt
to_service_begin (task ∷ tasks) = by_test (has_service (task ∷ tasks)) where
  by_test : (x : Bool)
      → BeginAt (length (task ∷ tasks)) (map lead_of (if x then service_wires (length (task ∷ tasks) - 1) 2 else []))
  by_test true = service_begins (length (task ∷ tasks)) (length (task ∷ tasks) - 1) 2 (omega arith) (omega arith)
  by_test false = tt

script_begins : (tasks : List TaskPlan) (wires : List Wire) → All (script.Leads tasks) wires
    → BeginAt (length tasks) (map lead_of wires)
script_begins tasks [] lead = tt
script_begins tasks (w ∷ wires) lead =
    ((lead 0 w (omega arith)).from_task, script_begins tasks wires (λ i d lt. lead (suc i) d (omega (arith, lt))))

beginning_begins : (plan : Plan) → script.IsSound plan → BeginAt (length plan.tasks) (beginning plan).wires
beginning_begins plan sound =
    both_begin (length plan.tasks) (map lead_of (wires_to_service plan.tasks)) (map lead_of plan.wires)
    (to_service_begin plan.tasks) (script_begins plan.tasks plan.wires sound.wires_lead)

-- ---- the law

came_before : (n : ℕ) (es p : List Entry) → CameInTurn n (on_top es p) → CameInTurn n p
came_before n [] p l = l
came_before n (e ∷ es) p l = let m : CameInTurn n (e ∷ p) = came_before n es (e ∷ p) l in m.0

all_came : (n : ℕ) (es p : List Entry) → CameInTurn n (on_top es p) → AllInTurn n p es
all_came n [] p l = tt
all_came n (e ∷ es) p l = let m : CameInTurn n (e ∷ p) = came_before n es (e ∷ p) l in (m.1, all_came n es (e ∷ p) l)

pub run_is_in_turn : (plan : Plan) (events : List Event) → script.IsSound plan
    → MayAllCome (length plan.tasks) (length plan.templates) events
    → TasksComeInTurn (length plan.tasks) (run plan events)
run_is_in_turn plan events sound may =
    let n : ℕ = length plan.tasks in
    let b : Beginning = beginning plan in
    let it = caused_run_keeps plan events sound may (Turns n)
    (λ h now e so comes turns.
    turned b n (beginning_begins plan sound) h now so turns e (turn now e) (what_happens now e) comes)
    (record { came = tt; counted = sym (start_counted plan) }) in
    all_came n (run plan events) [] it.1.came

-- in such a list no entry of a task stands before the one that makes it
none_before : (n : ℕ) (before p later : List Entry) (t : TaskNo) → AllInTurn n p (before ++ entry.Spawn t ∷ later)
    → NoneIsOf t.0 before × (count_after n p < t.0)
none_before n [] p later t l = (tt, let next : t.0 ≡ suc (count_after n p) = l.0 in omega (arith, next))
none_before n (e ∷ before) p later t l = by_entry e l.0 (none_before n before (e ∷ p) later t l.1) where
  by_entry : (e : Entry) → IsInTurn n p e → NoneIsOf t.0 before × (count_after n (e ∷ p) < t.0)
      → NoneIsOf t.0 (e ∷ before) × (count_after n p < t.0)
  by_entry (entry.Spawn u) turn rest =
      let next : u.0 ≡ suc (count_after n p) = turn in
      let few : suc (count_after n p) < t.0 = rest.1 in
      ((λ same. let s : u.0 ≡ t.0 = same in omega (arith, next, few, s), rest.0), omega (arith, few))
  by_entry x turn rest =
      let few : count_after n p < t.0 = rest.1 in
      ((λ of. let most : t.0 ≤ count_after n p = (turn t.0 of).1 in omega (arith, few, most), rest.0), few)

pub nothing_before_its_spawn : (plan : Plan) (events : List Event) → script.IsSound plan
    → MayAllCome (length plan.tasks) (length plan.templates) events → NothingComesBeforeItsSpawn (run plan events)
nothing_before_its_spawn plan events sound may before later t is =
    (none_before (length plan.tasks) before [] later t
    (subst (TasksComeInTurn (length plan.tasks)) is (run_is_in_turn plan events sound may))).0
