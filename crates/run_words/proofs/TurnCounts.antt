-- A run goes on alike whatever its kernel and its programs counted.
use Rattle.std.proofs.Common.{◌≡◌, ◌-◌, Bool, true, false, List, [], ◌∷◌, ◌++◌, refl, sym, ◌∙◌, ap, subst, Option, None, Some, cond, slice_get}
use Rattle.std.specs.Option.{option_map}
use Rattle.std.proofs.lemmas.Option.{slice_get-map}
use Rattle.ipc_ids.specs.declared.numbers.TaskNo.{TaskNo}
use Rattle.ipc_ids.specs.declared.message.Request.{Request}
use Rattle.ipc_ids.specs.declared.message.Request.TheVariants as ask
use Rattle.ipc_ids.specs.declared.message.Event.{Event}
use Rattle.ipc_ids.specs.declared.message.Event.TheVariants.{Step, Kill, Hangup, Spawn}
use Rattle.script_lines.specs.declared.plan.TaskPlan.{TaskPlan}
use Rattle.switchboard.specs.State.{KernelState, Transition, is_alive}
use Rattle.switchboard.specs.Serving.{Served}
use Rattle.kernel_core.specs.Kernel.{serve, kill_event, spawn_event, next_task}
use Rattle.kernel_core.specs.History.{served_entries}
use Rattle.task_system.specs.declared.any.AnyProgram.{AnyProgram}
use Rattle.task_system.specs.Any.{wanted, entries}
use Rattle.task_system.specs.Run.{RunState, RunTransition, gone, step_by, step_served, program_at, program_of, request, request_served, kill, killed, spawn_by, spawned, turn, run_from, state_after}
use Rattle.run_words.specs.Counted.{with_count, served_with_count}
use Rattle.run_words.proofs.RequestCounts.{serve_counts, kill_counts, spawn_counts}
use Rattle.run_words.specs.AlikeStates.{uncounted, uncounted_program, uncounted_programs, AreAlikeStates, AreAlikeTurns}
use Rattle.run_words.proofs.ProgramCounts.{wanted_uncounted, entries_uncounted, all_twice, set_uncounted, more_uncounted}

-- what an event leaves, without its counts: this kernel and these programs
abbrev left_as : RunState → KernelState → List AnyProgram → RunState
left_as now k ps = record { kernel = with_count 0 k; programs = ps; templates = now.templates; names = now.names }

-- the kernel alone has changed
same_programs : (now : RunState) (k : KernelState)
    → left_as now k (uncounted_programs (uncounted_programs now.programs))
    ≡ left_as now k (uncounted_programs now.programs)
same_programs now k = ap (left_as now k) (all_twice now.programs)

if_alike : (b : Bool) (x y x' y' : RunTransition) → AreAlikeTurns x' x → AreAlikeTurns y' y
    → AreAlikeTurns (cond b x' y') (cond b x y)
if_alike true x y x' y' h k = h
if_alike false x y x' y' h k = k

-- ---- a step

step_is_served : (now : RunState) (task : TaskNo) (p : AnyProgram) (s : Served)
    → AreAlikeTurns (step_served (uncounted now) task (uncounted_program p) (served_with_count 1 s))
    (step_served now task p s)
step_is_served now task p s =
    record {
      entries = ap (λ z. served_entries task z s ++ entries (uncounted_program p) s.outcome) (wanted_uncounted p)
          ∙ ap (λ z. served_entries task (wanted p) s ++ z) (entries_uncounted p s.outcome);
      state = ap (left_as now s.state) (set_uncounted now.programs (task.0 - 1) p s.outcome);
    }

step_by_program : (now : RunState) (task : TaskNo) (o : Option AnyProgram)
    → AreAlikeTurns (step_by (uncounted now) task (option_map uncounted_program o)) (step_by now task o)
step_by_program now task None = record { entries = refl; state = same_programs now now.kernel }
step_by_program now task (Some p) =
    let served : Served = serve now.kernel task (wanted p) in
    let e : serve (with_count 0 now.kernel) task (wanted (uncounted_program p)) ≡ served_with_count 1 served =
    ap (serve (with_count 0 now.kernel) task) (wanted_uncounted p) ∙ serve_counts 0 now.kernel task (wanted p) in
    subst
    (λ (z : Served). AreAlikeTurns (step_served (uncounted now) task (uncounted_program p) z)
    (step_served now task p served))
    (sym e)
    (step_is_served now task p served)

program_found : (b : Bool) (now : RunState) (task : TaskNo)
    → cond b (slice_get (uncounted_programs now.programs) (task.0 - 1)) None
    ≡ option_map uncounted_program (cond b (slice_get now.programs (task.0 - 1)) None)
program_found true now task = slice_get-map uncounted_program now.programs (task.0 - 1)
program_found false now task = refl

step_alike : (now : RunState) (task : TaskNo)
    → AreAlikeTurns (step_by (uncounted now) task (program_at (uncounted now) task))
    (step_by now task (program_at now task))
step_alike now task =
    subst
    (λ z. AreAlikeTurns (step_by (uncounted now) task z) (step_by now task (program_at now task)))
    (sym (program_found (is_alive now.kernel task) now task))
    (step_by_program now task (program_at now task))

-- ---- the other events

request_alike : (now : RunState) (task : TaskNo) (r : Request)
    → AreAlikeTurns (request (uncounted now) task r) (request now task r)
request_alike now task r =
    let served : Served = serve now.kernel task r in
    if_alike (is_alive now.kernel task) (request_served now task r served) (gone now task)
    (request_served (uncounted now) task r (serve (with_count 0 now.kernel) task r)) (gone (uncounted now) task)
    (subst
    (λ (z : Served). AreAlikeTurns (request_served (uncounted now) task r z) (request_served now task r served))
    (sym (serve_counts 0 now.kernel task r))
    (record { entries = refl; state = same_programs now served.state }))
    (record { entries = refl; state = same_programs now now.kernel })

kill_alike : (now : RunState) (task : TaskNo) → AreAlikeTurns (kill (uncounted now) task) (kill now task)
kill_alike now task =
    let done : Transition = kill_event now.kernel task in
    if_alike (is_alive now.kernel task) (killed now task done) (gone now task)
    (killed (uncounted now) task (kill_event (with_count 0 now.kernel) task)) (gone (uncounted now) task)
    (subst
    (λ (z : Transition). AreAlikeTurns (killed (uncounted now) task z) (killed now task done))
    (sym (kill_counts 0 now.kernel task))
    (record { entries = refl; state = same_programs now done.state }))
    (record { entries = refl; state = same_programs now now.kernel })

spawn_alike : (now : RunState) (o : Option TaskPlan) → AreAlikeTurns (spawn_by (uncounted now) o) (spawn_by now o)
spawn_alike now None = record { entries = refl; state = same_programs now now.kernel }
spawn_alike now (Some plan) =
    let done : Transition = spawn_event now.kernel plan.limit now.names in
    let made : AnyProgram = program_of (next_task now.kernel).0 plan in
    subst
    (λ (z : Transition). AreAlikeTurns (spawned (uncounted now) plan z) (spawned now plan done))
    (sym (spawn_counts 0 now.kernel plan.limit now.names))
    (record { entries = refl; state = ap (left_as now done.state) (more_uncounted now.programs made) })

-- ---- each event, and all events of a schedule

turn_uncounted : (now : RunState) (e : Event) → AreAlikeTurns (turn (uncounted now) e) (turn now e)
turn_uncounted now (Step task) = step_alike now task
turn_uncounted now (Kill task) = kill_alike now task
turn_uncounted now (Hangup task phone) = request_alike now task (ask.Hangup phone)
turn_uncounted now (Spawn place) = spawn_alike now (slice_get now.templates place)

pub turns_alike : (a b : RunState) (e : Event) → AreAlikeStates a b → AreAlikeTurns (turn a e) (turn b e)
turns_alike a b e h =
    let of_a : AreAlikeTurns (turn (uncounted a) e) (turn a e) = turn_uncounted a e in
    let of_b : AreAlikeTurns (turn (uncounted b) e) (turn b e) = turn_uncounted b e in
    record {
      entries = sym of_a.entries ∙ ap (λ (z : RunState). (turn z e).entries) h ∙ of_b.entries;
      state = sym of_a.state ∙ ap (λ (z : RunState). uncounted (turn z e).state) h ∙ of_b.state;
    }

pub runs_alike : (a b : RunState) (events : List Event) → AreAlikeStates a b → run_from a events ≡ run_from b events
runs_alike a b [] h = refl
runs_alike a b (e ∷ events) h =
    let t : AreAlikeTurns (turn a e) (turn b e) = turns_alike a b e h in
    ap (λ z. z ++ run_from (turn a e).state events) t.entries
    ∙ ap (λ z. (turn b e).entries ++ z) (runs_alike (turn a e).state (turn b e).state events t.state)

pub ends_alike : (a b : RunState) (events : List Event) → AreAlikeStates a b
    → AreAlikeStates (state_after a events) (state_after b events)
ends_alike a b [] h = h
ends_alike a b (e ∷ events) h =
    ends_alike (turn a e).state (turn b e).state events (turns_alike a b e h).state
