-- From states of a run that are alike, an event tells the same and leaves states that are alike.
use Rattle.std.proofs.Common.{ℕ, ◌≡◌, ◌+◌, ◌-◌, Bool, true, false, List, [], ◌∷◌, ◌++◌, length, refl, sym, ◌∙◌, ap, subst, Option, None, Some, cond, slice_get, slice_set}
use Rattle.std.specs.Option.{option_map}
use Rattle.std.proofs.lemmas.Option.{slice_get-map}
use Rattle.std.proofs.lemmas.List.{map-append, map-set}
use Rattle.ipc_ids.specs.declared.numbers.TaskNo.{TaskNo}
use Rattle.ipc_ids.specs.declared.message.Outcome.{Outcome}
use Rattle.ipc_ids.specs.declared.message.Request.{Request}
use Rattle.ipc_ids.specs.declared.message.Request.TheVariants as ask
use Rattle.ipc_ids.specs.declared.message.Event.{Event}
use Rattle.ipc_ids.specs.declared.message.Event.TheVariants.{Step, Kill, Hangup, Spawn}
use Rattle.ipc_ids.specs.declared.entry.Entry.{Entry}
use Rattle.ipc_ids.specs.declared.entry.Entry.TheVariants as entry
use Rattle.script_lines.specs.declared.plan.TaskPlan.{TaskPlan}
use Rattle.switchboard.specs.State.{Tasks, KernelState, Transition, is_alive, alive_in}
use Rattle.switchboard.specs.Serving.{Served}
use Rattle.switchboard.specs.Sound.{IsSound}
use Rattle.kernel_core.specs.Kernel.{serve, kill_event, spawn_event, next_task}
use Rattle.task_system.specs.declared.any.AnyProgram.{AnyProgram}
use Rattle.task_system.specs.Any.{wanted, after, entries}
use Rattle.task_system.specs.Run.{RunState, RunTransition, gone, step_by, step_served, program_at, program_of, request, request_served, kill, killed, spawn_by, spawned, turn}
use Rattle.run_words.specs.AlikeStates.{uncounted_program, uncounted_programs, AreAlikePrograms}
use Rattle.run_words.proofs.ProgramCounts.{alike_wanted, alike_entries, alike_after}
use Rattle.run_words.proofs.KernelGoingOn.{GoOnAlike, ServeOnAlike, served_on, killed_on, spawned_on}
use Rattle.run_words.specs.Alike.{AreAlikeRuns}

-- the events have the same entries, and leave states that are alike
abbrev AreAlikeTurns : RunTransition → RunTransition → Type 0
AreAlikeTurns x y = (x.entries ≡ y.entries) × AreAlikeRuns x.state y.state

-- ---- programs

-- one of them takes an outcome
set_alike : (ps qs : List AnyProgram) (i : ℕ) (p q : AnyProgram)
    → uncounted_programs ps ≡ uncounted_programs qs → AreAlikePrograms p q
    → uncounted_programs (slice_set ps i p) ≡ uncounted_programs (slice_set qs i q)
set_alike ps qs i p q h k =
    map-set uncounted_program ps i p
    ∙ ap (λ z. slice_set z i (uncounted_program p)) h
    ∙ ap (λ z. slice_set (uncounted_programs qs) i z) k
    ∙ sym (map-set uncounted_program qs i q)

-- one more
more_alike : (ps qs : List AnyProgram) (p q : AnyProgram)
    → uncounted_programs ps ≡ uncounted_programs qs → p ≡ q
    → uncounted_programs (ps ++ p ∷ []) ≡ uncounted_programs (qs ++ q ∷ [])
more_alike ps qs p q h k =
    map-append uncounted_program ps (p ∷ [])
    ∙ ap (λ (z : List AnyProgram). z ++ uncounted_program p ∷ []) h
    ∙ ap (λ (z : AnyProgram). uncounted_programs qs ++ uncounted_program z ∷ []) k
    ∙ sym (map-append uncounted_program qs (q ∷ []))

-- the outcomes are the same too
after_alike : (p q : AnyProgram) (o o' : Outcome) → AreAlikePrograms p q → o ≡ o'
    → AreAlikePrograms (after p o) (after q o')
after_alike p q o o' h k = alike_after p q o h ∙ ap (λ (z : Outcome). uncounted_program (after q z)) k

-- ---- what is told of a request

-- the entries of a request of this outcome
abbrev told_of : TaskNo → Request → List Entry → Outcome → List Entry
told_of task asked es o = entry.Head task asked ∷ es ++ entry.Outcome o ∷ []

told_alike : (task : TaskNo) (asked asked' : Request) (x y : Served) → asked ≡ asked' → ServeOnAlike x y
    → told_of task asked x.entries x.outcome ≡ told_of task asked' y.entries y.outcome
told_alike task asked asked' x y h k =
    ap (λ (z : Request). told_of task z x.entries x.outcome) h
    ∙ ap (λ (z : List Entry). told_of task asked' z x.outcome) k.entries
    ∙ ap (λ (z : Outcome). told_of task asked' y.entries z) k.outcome

-- and what the program itself tells of the outcome
own_alike : (p q : AnyProgram) (o o' : Outcome) → AreAlikePrograms p q → o ≡ o' → entries p o ≡ entries q o'
own_alike p q o o' h k = alike_entries p q o h ∙ ap (λ (z : Outcome). entries q z) k

-- the same request is served
same_request : (k : KernelState) (t : TaskNo) (x : Served) (asked asked' : Request) → asked ≡ asked'
    → ServeOnAlike x (serve k t asked) → ServeOnAlike x (serve k t asked')
same_request k t x asked asked' e h = subst (λ (z : Request). ServeOnAlike x (serve k t z)) e h

-- ---- which tasks are alive, and their programs

if_alike : (p q : Bool) (x y x' y' : RunTransition) → p ≡ q → AreAlikeTurns x x' → AreAlikeTurns y y'
    → AreAlikeTurns (cond p x y) (cond q x' y')
if_alike true true x y x' y' e h k = h
if_alike true false x y x' y' e h k = absurd (cc)
if_alike false true x y x' y' e h k = absurd (cc)
if_alike false false x y x' y' e h k = k

alive_alike : (a b : RunState) (task : TaskNo) → AreAlikeRuns a b → is_alive a.kernel task ≡ is_alive b.kernel task
alive_alike a b task h = ap (λ (z : Tasks). alive_in z.alive task.0) h.kernel.tasks

found_alike : (p q : Bool) (x y : Option AnyProgram) → p ≡ q → option_map uncounted_program x ≡ option_map uncounted_program y
    → option_map uncounted_program (cond p x None) ≡ option_map uncounted_program (cond q y None)
found_alike true true x y e h = h
found_alike true false x y e h = absurd (cc)
found_alike false true x y e h = absurd (cc)
found_alike false false x y e h = refl

program_alike : (a b : RunState) (task : TaskNo) → AreAlikeRuns a b
    → option_map uncounted_program (program_at a task) ≡ option_map uncounted_program (program_at b task)
program_alike a b task h =
    found_alike (is_alive a.kernel task) (is_alive b.kernel task)
    (slice_get a.programs (task.0 - 1)) (slice_get b.programs (task.0 - 1))
    (alive_alike a b task h)
    (sym (slice_get-map uncounted_program a.programs (task.0 - 1))
    ∙ ap (λ (z : List AnyProgram). slice_get z (task.0 - 1)) h.programs
    ∙ slice_get-map uncounted_program b.programs (task.0 - 1))

-- ---- what an event makes of two states that are alike

module _ (a b : RunState) (sound : IsSound a.kernel) (likewise : IsSound b.kernel) (h : AreAlikeRuns a b) where
  gone_alike : (task : TaskNo) → AreAlikeTurns (gone a task) (gone b task)
  gone_alike task = (refl, h)

  -- ---- a step

  step_served_alike : (task : TaskNo) (p q : AnyProgram) (x y : Served) → AreAlikePrograms p q → ServeOnAlike x y
      → AreAlikeTurns (step_served a task p x) (step_served b task q y)
  step_served_alike task p q x y same s =
      let told = told_alike task (wanted p) (wanted q) x y (alike_wanted p q same) s in
      let own : entries p x.outcome ≡ entries q y.outcome = own_alike p q x.outcome y.outcome same s.outcome in (
        ap (λ (z : List Entry). z ++ entries p x.outcome) told
            ∙ ap (λ (z : List Entry). told_of task (wanted q) y.entries y.outcome ++ z) own,
        record {
          kernel = s.states;
          programs = set_alike a.programs b.programs (task.0 - 1) (after p x.outcome) (after q y.outcome) h.programs
              (after_alike p q x.outcome y.outcome same s.outcome);
          templates = h.templates;
          names = h.names;
        },
      )

  step_alike : (task : TaskNo) (o o' : Option AnyProgram) → option_map uncounted_program o ≡ option_map uncounted_program o'
      → AreAlikeTurns (step_by a task o) (step_by b task o')
  step_alike task None None e = gone_alike task
  step_alike task None (Some q) e = absurd (cc)
  step_alike task (Some p) None e = absurd (cc)
  step_alike task (Some p) (Some q) e =
      let same : AreAlikePrograms p q = cc in
      step_served_alike task p q (serve a.kernel task (wanted p)) (serve b.kernel task (wanted q)) same
      (same_request b.kernel task (serve a.kernel task (wanted p)) (wanted p) (wanted q) (alike_wanted p q same)
      (served_on a.kernel b.kernel task (wanted p) sound likewise h.kernel))

  -- ---- the other events

  request_alike : (task : TaskNo) (asked : Request) → AreAlikeTurns (request a task asked) (request b task asked)
  request_alike task asked =
      let x : Served = serve a.kernel task asked in
      let y : Served = serve b.kernel task asked in
      let s : ServeOnAlike x y = served_on a.kernel b.kernel task asked sound likewise h.kernel in
      if_alike (is_alive a.kernel task) (is_alive b.kernel task)
      (request_served a task asked x) (gone a task) (request_served b task asked y) (gone b task)
      (alive_alike a b task h) (
        told_alike task asked asked x y refl s,
        record { kernel = s.states; programs = h.programs; templates = h.templates; names = h.names },
      )
      (gone_alike task)

  kill_alike : (task : TaskNo) → AreAlikeTurns (kill a task) (kill b task)
  kill_alike task =
      let x : Transition = kill_event a.kernel task in
      let y : Transition = kill_event b.kernel task in
      let s : GoOnAlike x y = killed_on a.kernel b.kernel task sound likewise h.kernel in
      if_alike (is_alive a.kernel task) (is_alive b.kernel task)
      (killed a task x) (gone a task) (killed b task y) (gone b task)
      (alive_alike a b task h) (
        ap (λ (z : List Entry). entry.Kill task ∷ z) s.entries,
        record { kernel = s.states; programs = h.programs; templates = h.templates; names = h.names },
      )
      (gone_alike task)

  -- both make a task of the same program
  made_alike : (plan : TaskPlan) → program_of (next_task a.kernel).0 plan ≡ program_of (next_task b.kernel).0 plan
  made_alike plan = ap (λ (z : Tasks). program_of (length z.alive + 1) plan) h.kernel.tasks

  spawned_alike : (plan : TaskPlan) (x y : Transition) → GoOnAlike x y → AreAlikeTurns (spawned a plan x) (spawned b plan y)
  spawned_alike plan x y s = (
    s.entries,
    record {
      kernel = s.states;
      programs = more_alike a.programs b.programs
          (program_of (next_task a.kernel).0 plan) (program_of (next_task b.kernel).0 plan) h.programs (made_alike plan);
      templates = h.templates;
      names = h.names;
    },
  )

  spawn_alike : (o : Option TaskPlan) → AreAlikeTurns (spawn_by a o) (spawn_by b o)
  spawn_alike None = (refl, h)
  spawn_alike (Some plan) =
      let x : Transition = spawn_event a.kernel plan.limit a.names in
      spawned_alike plan x (spawn_event b.kernel plan.limit b.names)
      (subst (λ (z : Option TaskNo). GoOnAlike x (spawn_event b.kernel plan.limit z)) h.names
      (spawned_on a.kernel b.kernel plan.limit a.names sound likewise h.kernel))

  -- ---- each event

  turned_by : (e : Event) → AreAlikeTurns (turn a e) (turn b e)
  turned_by (Step task) = step_alike task (program_at a task) (program_at b task) (program_alike a b task h)
  turned_by (Kill task) = kill_alike task
  turned_by (Hangup task phone) = request_alike task (ask.Hangup phone)
  turned_by (Spawn place) =
      subst (λ (z : List TaskPlan). AreAlikeTurns (spawn_by a (slice_get a.templates place)) (spawn_by b (slice_get z place)))
      h.templates
      (spawn_alike (slice_get a.templates place))

pub turned : (a b : RunState) → IsSound a.kernel → IsSound b.kernel → AreAlikeRuns a b → (e : Event)
    → ((turn a e).entries ≡ (turn b e).entries) × AreAlikeRuns (turn a e).state (turn b e).state
turned a b sound likewise h e = turned_by a b sound likewise h e
