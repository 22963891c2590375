-- Each event keeps what the history tells of the kernel and of each program.
use Rattle.std.proofs.Common.{◌≡◌, ◌⊎◌, inl, inr, ℕ, zero, suc, Bool, true, false, List, [], ◌∷◌, ◌++◌, Option, None, Some, refl, sym, ap, ◌∙◌, subst, arith, append_assoc, length, length-append, ◌≤◌, ◌<◌}
use Rattle.std.specs.Prelude.{if◌then◌else◌, slice_get, slice_set, All, ◌-◌, ◌+◌, ◌==◌}
use Rattle.std.proofs.lemmas.Bool.{ne_eqb, eqb-true}
use Rattle.std.proofs.lemmas.List.{append-nil, length-set}
use Rattle.std.proofs.lemmas.Option.{get_or_from_slice_get, slice_get_within, same_Some}
use Rattle.ipc_ids.specs.declared.numbers.TaskNo.{TaskNo}
use Rattle.ipc_ids.specs.declared.message.Request.{Request}
use Rattle.ipc_ids.specs.declared.message.Request.TheVariants as ask
use Rattle.ipc_ids.specs.declared.message.Outcome.{Outcome}
use Rattle.ipc_ids.specs.declared.message.PhoneState.TheVariants.{Connected}
use Rattle.ipc_ids.specs.declared.message.Event.{Event}
use Rattle.ipc_ids.specs.declared.message.Event.TheVariants.{Step, Kill, Hangup, Spawn}
use Rattle.ipc_ids.specs.declared.entry.Entry.{Entry}
use Rattle.ipc_ids.specs.declared.entry.Entry.TheVariants as entry
use Rattle.script_lines.specs.declared.plan.Kind.{Kind}
use Rattle.script_lines.specs.declared.plan.Kind.TheVariants as kind
use Rattle.script_lines.specs.declared.plan.TaskPlan.{TaskPlan}
use Rattle.script_lines.specs.declared.plan.Wire.{Wire}
use Rattle.script_lines.specs.Plan.{Plan}
use Rattle.script_lines.specs.Sound as script
use Rattle.switchboard.specs.State.{KernelState, is_alive, alive_in, label_of, with_task, with_event}
use Rattle.switchboard.specs.State as kernel
use Rattle.switchboard.specs.Serving.{Served}
use Rattle.ipc_ids.specs.Program.{fits}
use Rattle.ipc_ids.specs.Lawful.{Lawful}
use Rattle.ipc_ids.specs.Tales.{past}
use Rattle.kernel_core.specs.Kernel.{serve, kill_event, next_task, named, spawning, spawn_event}
use Rattle.ipc_ids.specs.Actors.{actor, IsOneOf, AreOfTasks}
use Rattle.kernel_core.specs.History.{HistoryFits, served_entries, killed_entries, gone_entries}
use Rattle.ipc_ids.specs.Effects.{AreEffects}
use Rattle.kernel_core.proofs.FittingOutcomes.{outcome_fits}
use Rattle.kernel_core.proofs.HonestEvents.{serve_is_honest, kill_is_honest}
use Rattle.kernel_core.proofs.ServedHistories.{serve_fits}
use Rattle.kernel_core.proofs.KilledHistories.{kill_fits}
use Rattle.kernel_core.proofs.Marks.{serve_marks, alive_known}
use Rattle.kernel_core.proofs.SpawnedHistories.{spawn_fits}
use Rattle.cleanup.proofs.Killing.{kill_marks}
use Rattle.kernel_core.proofs.WholeHistories.{start_fits, task_fits, wire_fits, gone_fits}
use Rattle.kernel_core.proofs.InEvent.{same_task}
use Rattle.async_task.specs.Program.{AsyncTask}
use Rattle.async_task.specs.Steps.{step}
use Rattle.async_laws.specs.Links as links
use Rattle.async_laws.specs.Links.{IsHistoryOf, AreStrange}
use Rattle.async_laws.specs.QuietTasks.{TellsOfNoFibril, AreSilent}
use Rattle.async_laws.proofs.OwnEntries as async_task
use Rattle.async_laws.proofs.Linking.{event_keeps, event_keeps_others, kill_keeps, hangup_keeps, gone_keeps, spawn_keeps}
use Rattle.async_laws.proofs.NewTasks.{new_fits, known_strange, strange_quiet}
use Rattle.async_laws.proofs.EventsFit.{fitting_is_lawful}
use Rattle.ipc_ids.specs.Facts.{facts}
use Rattle.ipc_ids.specs.Replies.{RepliesWereLawful, IsPassedOn}
use Rattle.ipc_ids.specs.Exchanges.{ExchangesWereLawful}
use Rattle.async_laws.proofs.QuietTasks.{nothing_passed_on, owns_silent, served_quiet, killed_quiet, gone_quiet, spawned_quiet, start_quiet}
use Rattle.task_system.specs.declared.any.AnyProgram.{AnyProgram}
use Rattle.task_system.specs.declared.any.AnyProgram.TheVariants as any
use Rattle.task_system.specs.Any.{wanted, after, entries}
use Rattle.task_system.specs.Run.{RunState, RunTransition, with_tasks, with_service, program_by, program_of, programs_from, start, step_by, step_served, request_served, killed, gone, spawned, spawn_by, MayHappen, MayAllHappen, turn, run_from, state_after, run}
use Rattle.script_reader.specs.Schedule.{tasks_after, MayAllCome}
use Rattle.run_laws.specs.RunHistory.{beginning, ProgramFits, ProgramsFit, ServiceFits, ServicesFit, RunFits, KeepsAllWakes}
use Rattle.task_system.specs.Wiring.{with_wire, with_wires, wires_to_service, AreOpen}
use Rattle.run_laws.proofs.OwnEntries.{IsOwn, AreOwn, own_entries_fit}
use Rattle.ipc_ids.proofs.KeptCalls.{start_keeps}
use Rattle.run_laws.proofs.ServiceHistories.{served_by, step_entries, own_serves, others_serve, hangup_serves, killed_serves, gone_serves, first_serves, made_serves, fresh_serves, step_keeps, hangup_keeps_calls, killed_keeps_calls, made_keeps_calls, calls_gone}
use Rattle.route_laws.specs.Leads.{Beginning}
use Rattle.route_laws.specs.PhoneHistory.{RoutesFit}
use Rattle.route_laws.proofs.PhoneEvents.{phones_serve, phones_kill, phones_gone, phones_spawn}
use Rattle.run_laws.proofs.PhoneRuns.{own_routes, start_routes}
use Rattle.task_system.proofs.OpenWires.{service_wires_are_open, wires_are_open}

-- The kernel.
tasks_fit : (k : KernelState) (tasks : List TaskPlan) → HistoryFits [] k → HistoryFits [] (with_tasks k tasks)
tasks_fit k [] fits = fits
tasks_fit k (task ∷ tasks) fits = tasks_fit (with_task k task.limit) tasks (task_fits [] k task.limit fits)

wires_fit : (k : KernelState) (wires : List Wire) → AreOpen k wires → HistoryFits [] k → HistoryFits [] (with_wires k wires)
wires_fit k [] ready fits = fits
wires_fit k (wire ∷ wires) ready fits =
    wires_fit (with_wire k wire) wires ready.1 (wire_fits [] k wire.from wire.phone.0 wire.to fits ready.0.from ready.0.to ready.0.free)

-- what a program tells of itself is of its fibrils
own_one : (t : ℕ) (e : Entry) → links.is_own t e ≡ true → IsOwn e
own_one t (entry.Sent u f n slot) own = tt
own_one t (entry.Gets u f n slot reply) own = tt
own_one t (entry.Blocks u f why) own = tt
own_one t (entry.Starts u f label) own = tt
own_one t (entry.Ends u f) own = tt
own_one t (entry.Begins u f e mode session phone) own = tt
own_one t (entry.ExchangeEnds u f e) own = tt
own_one t (entry.Drops u f e) own = tt
own_one t (entry.RefusedOp u f code) own = tt
own_one t _ own = absurd (cc own)

all_own : (t : ℕ) (es : List Entry) → links.AreOwn t es → AreOwn es
all_own t [] own = tt
all_own t (e ∷ es) own = (own_one t e own.0, all_own t es own.1)

own_entries : (p : AnyProgram) (o : Outcome) → AreOwn (entries p o)
own_entries (any.Raw p) o = tt
own_entries (any.Naming p) o = tt
own_entries (any.Block p) o = tt
own_entries (any.Async p) o = all_own p.state.me.0 (step p.state o).entries (async_task.own_entries p.state o)

-- the entries of a step: the head, what the kernel did, the outcome, and the program's own
abbrev whole : TaskNo → Request → Served → List Entry → List Entry
whole t asked served own = entry.Head t asked ∷ (served.entries ++ (entry.Outcome served.outcome ∷ own))

in_parts : (t : TaskNo) (asked : Request) (served : Served) (own : List Entry) → served_entries t asked served ++ own ≡ whole t asked served own
in_parts t asked served own =
    ap (λ (es : List Entry). entry.Head t asked ∷ es) (append_assoc served.entries (entry.Outcome served.outcome ∷ []) own)

-- so a step with the program's own entries fits as the kernel's service alone
own_told : (h : List Entry) (k : KernelState) (t : TaskNo) (asked : Request) (served : Served) (p : AnyProgram) (o : Outcome) → AreOfTasks (length k.tasks.alive) (entries p o)
    → HistoryFits (h ++ served_entries t asked served) k → HistoryFits (h ++ (served_entries t asked served ++ entries p o)) k
own_told h k t asked served p o known told =
    let rest : List Entry = served.entries ++ entry.Outcome served.outcome ∷ [] in
    let own : List Entry = entries p o in
    subst
    (λ (es : List Entry). HistoryFits es k)
    (append_assoc h (served_entries t asked served) own)
    (own_entries_fit h rest own t asked k (own_entries p o) known told)

-- The programs, kind by kind.

-- what a program tells of itself is of the fibrils of its own task
apart_own : (h : List Entry) (u : TaskNo) (q : AnyProgram) (o : Outcome) → ProgramFits h u.0 q → links.AreOwn u.0 (entries q o)
apart_own h u (any.Raw q) o fits = tt
apart_own h u (any.Naming q) o fits = tt
apart_own h u (any.Block q) o fits = tt
apart_own h u (any.Async q) o fits =
    subst (λ (n : ℕ). links.AreOwn n (step q.state o).entries) fits.0.me (async_task.own_entries q.state o)

-- so each is of a task that there is
own_known_one : (n : ℕ) (u : TaskNo) (e : Entry) → IsOneOf n (Some u) → links.is_own u.0 e ≡ true → IsOneOf n (actor e)
own_known_one n u e known own = by_actor (actor e) refl where
  by_actor : (o : Option TaskNo) → actor e ≡ o → IsOneOf n o
  by_actor None is = tt
  by_actor (Some v) is =
      let same : v.0 ≡ u.0 = grind (arith, eqb-true, is, own) in
      (omega (arith, known.0, same), omega (arith, known.1, same))

own_known : (n : ℕ) (u : TaskNo) (es : List Entry) → IsOneOf n (Some u) → links.AreOwn u.0 es → AreOfTasks n es
own_known n u [] known own = tt
own_known n u (e ∷ es) known own = (own_known_one n u e known own.0, own_known n u es known own.1)

-- a task without fibrils, after a request that was served
quiet_parts : (h : List Entry) (t : ℕ) (u : TaskNo) (asked : Request) (served : Served) (own : List Entry) → TellsOfNoFibril h t
    → AreEffects served.entries → AreSilent t own → TellsOfNoFibril (h ++ (served_entries u asked served ++ own)) t
quiet_parts h t u asked served own none effects silent =
    subst
    (λ (es : List Entry). TellsOfNoFibril (h ++ es) t)
    (sym (in_parts u asked served own))
    (served_quiet h served.entries own t u asked served.outcome none effects silent)

-- the laws of calls, after an event
lawful_now : (h : List Entry) (k : KernelState) → HistoryFits h k → Lawful (past h)
lawful_now h k told = told.told.lawful

own_async : (h : List Entry) (k : KernelState) (p : AsyncTask) → HistoryFits h k → IsHistoryOf h p.state.me.0 p.state
    → HistoryFits (h ++ step_entries k p.state.me (any.Async p)) (served_by k p.state.me (any.Async p)).state
    → IsHistoryOf (h ++ step_entries k p.state.me (any.Async p)) p.state.me.0 (step p.state (served_by k p.state.me (any.Async p)).outcome).state
own_async h k p told kept now =
    let me : TaskNo = p.state.me in
    let asked : Request = wanted (any.Async p) in
    let served : Served = served_by k me (any.Async p) in
    let own : List Entry = entries (any.Async p) served.outcome in
    let parts : served_entries me asked served ++ own ≡ whole me asked served own = in_parts me asked served own in
    subst
    (λ (es : List Entry). IsHistoryOf (h ++ es) me.0 (step p.state served.outcome).state)
    (sym parts)
    (event_keeps h served.entries me.0 p.state served.outcome kept
    (subst (λ (es : List Entry). Lawful (past (h ++ es))) parts (lawful_now (h ++ step_entries k me (any.Async p)) served.state now))
    (serve_is_honest k me asked)
    (outcome_fits k me asked told.sound))

-- a program whose task has just been served, and that was told the outcome
own_fits : (h : List Entry) (k : KernelState) (t : TaskNo) (p : AnyProgram) → HistoryFits h k → ProgramFits h t.0 p
    → HistoryFits (h ++ step_entries k t p) (served_by k t p).state
    → ProgramFits (h ++ step_entries k t p) t.0 (after p (served_by k t p).outcome)
own_fits h k t (any.Raw p) told fits now =
    let served : Served = served_by k t (any.Raw p) in
    quiet_parts h t.0 t (wanted (any.Raw p)) served [] fits (serve_is_honest k t (wanted (any.Raw p))).effects tt
own_fits h k t (any.Naming p) told fits now =
    let served : Served = served_by k t (any.Naming p) in
    quiet_parts h t.0 t (wanted (any.Naming p)) served [] fits (serve_is_honest k t (wanted (any.Naming p))).effects tt
own_fits h k t (any.Block p) told fits now =
    let served : Served = served_by k t (any.Block p) in
    quiet_parts h t.0 t (wanted (any.Block p)) served [] fits (serve_is_honest k t (wanted (any.Block p))).effects tt
own_fits h k t (any.Async p) told fits now =
    subst
    (λ (u : TaskNo). IsHistoryOf h u.0 p.state → HistoryFits (h ++ step_entries k u (any.Async p)) (served_by k u (any.Async p)).state
    → IsHistoryOf (h ++ step_entries k u (any.Async p)) u.0 (step p.state (served_by k u (any.Async p)).outcome).state)
    (same_task p.state.me t fits.0.me)
    (λ kept after_it. own_async h k p told kept after_it)
    fits now

-- the entries of a program of another task say nothing of this one
apart_silent : (h : List Entry) (u : TaskNo) (q : AnyProgram) (o : Outcome) (t : ℕ) → (u.0 == t) ≡ false → ProgramFits h u.0 q → AreSilent t (entries q o)
apart_silent h u (any.Raw q) o t apart fits = tt
apart_silent h u (any.Naming q) o t apart fits = tt
apart_silent h u (any.Block q) o t apart fits = tt
apart_silent h u (any.Async q) o t apart fits = owns_silent t u.0 (entries (any.Async q) o) apart (apart_own h u (any.Async q) o fits)

others_quiet : (h : List Entry) (k : KernelState) (u : TaskNo) (q : AnyProgram) (t : ℕ) → (u.0 ≡ t → ⊥) → ProgramFits h u.0 q → TellsOfNoFibril h t
    → TellsOfNoFibril (h ++ step_entries k u q) t
others_quiet h k u q t apart by none =
    let served : Served = served_by k u q in
    quiet_parts h t u (wanted q) served (entries q served.outcome) none (serve_is_honest k u (wanted q)).effects
    (apart_silent h u q served.outcome t (ne_eqb u.0 t apart) by)

hangup_quiet : (h : List Entry) (k : KernelState) (u : TaskNo) (phone t : ℕ) → TellsOfNoFibril h t
    → TellsOfNoFibril (h ++ served_entries u (ask.Hangup phone) (serve k u (ask.Hangup phone))) t
hangup_quiet h k u phone t none =
    let served : Served = serve k u (ask.Hangup phone) in
    served_quiet h served.entries [] t u (ask.Hangup phone) served.outcome none (serve_is_honest k u (ask.Hangup phone)).effects tt

-- a program that is told nothing of the event: a step of another task, with that program's own entries
others_fit : (h : List Entry) (k : KernelState) (u : TaskNo) (q : AnyProgram) (t : ℕ) (p : AnyProgram) → (u.0 ≡ t → ⊥) → ProgramFits h u.0 q → ProgramFits h t p
    → HistoryFits (h ++ step_entries k u q) (served_by k u q).state
    → ProgramFits (h ++ step_entries k u q) t p
others_fit h k u q t (any.Raw p) apart by fits now = others_quiet h k u q t apart by fits
others_fit h k u q t (any.Naming p) apart by fits now = others_quiet h k u q t apart by fits
others_fit h k u q t (any.Block p) apart by fits now = others_quiet h k u q t apart by fits
others_fit h k u q t (any.Async p) apart by fits now =
    let asked : Request = wanted q in
    let served : Served = served_by k u q in
    let own : List Entry = entries q served.outcome in
    let parts : served_entries u asked served ++ own ≡ whole u asked served own = in_parts u asked served own in
    subst
    (λ (es : List Entry). IsHistoryOf (h ++ es) t p.state)
    (sym parts)
    (event_keeps_others h served.entries own t p.state u asked served.outcome fits (ne_eqb u.0 t apart)
    (subst (λ (es : List Entry). Lawful (past (h ++ es))) parts (lawful_now (h ++ step_entries k u q) served.state now))
    (serve_is_honest k u asked).effects
    (apart_own h u q served.outcome by))

-- a hangup from outside, of its own task or of another
hangup_fits : (h : List Entry) (k : KernelState) (u : TaskNo) (phone t : ℕ) (p : AnyProgram) → HistoryFits h k → ProgramFits h t p
    → HistoryFits (h ++ served_entries u (ask.Hangup phone) (serve k u (ask.Hangup phone))) (serve k u (ask.Hangup phone)).state
    → ProgramFits (h ++ served_entries u (ask.Hangup phone) (serve k u (ask.Hangup phone))) t p
hangup_fits h k u phone t (any.Raw p) told fits now = hangup_quiet h k u phone t fits
hangup_fits h k u phone t (any.Naming p) told fits now = hangup_quiet h k u phone t fits
hangup_fits h k u phone t (any.Block p) told fits now = hangup_quiet h k u phone t fits
hangup_fits h k u phone t (any.Async p) told fits now =
    let served : Served = serve k u (ask.Hangup phone) in
    hangup_keeps h served.entries t p.state u (ask.Hangup phone) served.outcome fits
    (lawful_now (h ++ served_entries u (ask.Hangup phone) served) served.state now)
    (serve_is_honest k u (ask.Hangup phone))
    (outcome_fits k u (ask.Hangup phone) told.sound)

-- a kill, of its own task or of another
killed_fits : (h : List Entry) (k : KernelState) (u : TaskNo) (t : ℕ) (p : AnyProgram) → ProgramFits h t p
    → HistoryFits (h ++ killed_entries u (kill_event k u)) (kill_event k u).state
    → ProgramFits (h ++ killed_entries u (kill_event k u)) t p
killed_fits h k u t (any.Raw p) fits now = killed_quiet h (kill_event k u).entries t u fits (kill_is_honest k u)
killed_fits h k u t (any.Naming p) fits now = killed_quiet h (kill_event k u).entries t u fits (kill_is_honest k u)
killed_fits h k u t (any.Block p) fits now = killed_quiet h (kill_event k u).entries t u fits (kill_is_honest k u)
killed_fits h k u t (any.Async p) fits now =
    kill_keeps h (kill_event k u).entries t p.state u fits (lawful_now (h ++ killed_entries u (kill_event k u)) (kill_event k u).state now) (kill_is_honest k u)

-- an event on a task that has ended
gone_fit : (h : List Entry) (k : KernelState) (u : TaskNo) (t : ℕ) (p : AnyProgram) → ProgramFits h t p → HistoryFits (h ++ gone_entries u) k → ProgramFits (h ++ gone_entries u) t p
gone_fit h k u t (any.Raw p) fits now = gone_quiet h t u fits
gone_fit h k u t (any.Naming p) fits now = gone_quiet h t u fits
gone_fit h k u t (any.Block p) fits now = gone_quiet h t u fits
gone_fit h k u t (any.Async p) fits now = gone_keeps h t p.state u fits (lawful_now (h ++ gone_entries u) k now)

-- the making of a task, of its own task or of another
made_fits : (h es : List Entry) (k : KernelState) (u : TaskNo) (t : ℕ) (p : AnyProgram) → AreEffects es → ProgramFits h t p → HistoryFits (h ++ entry.Spawn u ∷ es) k → ProgramFits (h ++ entry.Spawn u ∷ es) t p
made_fits h es k u t (any.Raw p) effects fits now = spawned_quiet h es t u fits effects
made_fits h es k u t (any.Naming p) effects fits now = spawned_quiet h es t u fits effects
made_fits h es k u t (any.Block p) effects fits now = spawned_quiet h es t u fits effects
made_fits h es k u t (any.Async p) effects fits now = spawn_keeps h es t p.state u fits (lawful_now (h ++ entry.Spawn u ∷ es) k now) effects

-- a program of a task that is not there yet, of which nothing is told
fresh_fits : (h : List Entry) (t : ℕ) (task : TaskPlan) (kind : Kind) → AreStrange t h → Lawful (past h) → ProgramFits h t (program_by (record { 0 = t }) task kind)
fresh_fits h t task kind.Naming strange lawful = strange_quiet h t strange
fresh_fits h t task kind.Raw strange lawful = strange_quiet h t strange
fresh_fits h t task kind.Block strange lawful = strange_quiet h t strange
fresh_fits h t task kind.Async strange lawful = new_fits h (record { 0 = t }) task.bodies strange lawful

-- before the first event
first_fits : (t : ℕ) (task : TaskPlan) (kind : Kind) → ProgramFits [] t (program_by (record { 0 = t }) task kind)
first_fits t task kind.Naming = start_quiet t
first_fits t task kind.Raw = start_quiet t
first_fits t task kind.Block = start_quiet t
first_fits t task kind.Async = new_fits [] (record { 0 = t }) task.bodies tt tt

-- a task that is alive has a number from 1 on
pub number_of : (alive : List Bool) (t : ℕ) → alive_in alive t ≡ true → suc (t - 1) ≡ t
number_of alive zero h = absurd (cc h)
number_of alive (suc t) h = omega arith

at_set : (ps : List AnyProgram) (i j : ℕ) (x p : AnyProgram) → slice_get (slice_set ps i x) j ≡ Some p
    → (j ≡ i) × (p ≡ x) ⊎ ((j ≡ i → ⊥) × (slice_get ps j ≡ Some p))
at_set [] i zero x p h = absurd (cc h)
at_set [] i (suc j) x p h = absurd (cc h)
at_set (q ∷ ps) zero zero x p h = inl (refl, sym (same_Some x p h))
at_set (q ∷ ps) zero (suc j) x p h = inr (λ e. cc, h)
at_set (q ∷ ps) (suc i) zero x p h = inr (λ e. cc, h)
at_set (q ∷ ps) (suc i) (suc j) x p h = elim (at_set ps i j x p h) [
  | inl e ↦ inl (ap suc e.0, e.1)
  | inr e ↦ inr (λ same. e.0 (omega (arith, same)), e.1)
]

-- one program has changed, and each other is as before
one_changed : (new : List Entry) (ps : List AnyProgram) (i : ℕ) (x : AnyProgram)
    → ((j : ℕ) (p : AnyProgram) → (j ≡ i → ⊥) → slice_get ps j ≡ Some p → ProgramFits new (suc j) p)
    → ProgramFits new (suc i) x → ProgramsFit new (slice_set ps i x)
one_changed new ps i x others changed j p at = elim (at_set ps i j x p at) [
  | inl e ↦ subst (λ (q : AnyProgram). ProgramFits new (suc j) q) (sym e.1) (subst (λ (n : ℕ). ProgramFits new (suc n) x) (sym e.0) changed)
  | inr e ↦ others j p e.0 e.1
]

-- one program more
at_last : (ps : List AnyProgram) (x : AnyProgram) (j : ℕ) (p : AnyProgram) → slice_get (ps ++ x ∷ []) j ≡ Some p
    → (slice_get ps j ≡ Some p) ⊎ ((j ≡ length ps) × (p ≡ x))
at_last [] x zero p h = inr (refl, sym (same_Some x p h))
at_last [] x (suc j) p h = absurd (cc h)
at_last (q ∷ ps) x zero p h = inl h
at_last (q ∷ ps) x (suc j) p h = elim (at_last ps x j p h) [ inl e ↦ inl e | inr e ↦ inr (omega (arith, e.0), e.1) ]

services_changed : (new : List Entry) (ps : List AnyProgram) (i : ℕ) (x : AnyProgram)
    → ((j : ℕ) (p : AnyProgram) → (j ≡ i → ⊥) → slice_get ps j ≡ Some p → ServiceFits new (suc j) p)
    → ServiceFits new (suc i) x → ServicesFit new (slice_set ps i x)
services_changed new ps i x others changed j p at = elim (at_set ps i j x p at) [
  | inl e ↦ subst (λ (q : AnyProgram). ServiceFits new (suc j) q) (sym e.1) (subst (λ (n : ℕ). ServiceFits new (suc n) x) (sym e.0) changed)
  | inr e ↦ others j p e.0 e.1
]

get_none : {A : Type 0} (xs : List A) (i : ℕ) → slice_get xs i ≡ None → length xs ≤ i
get_none [] i none = omega arith
get_none (x ∷ xs) zero none = absurd (cc none)
get_none (x ∷ xs) (suc i) none = let rest = get_none xs i none in omega arith

-- a template that is there is sound
sound_template : (templates : List TaskPlan) (place : ℕ) (plan : TaskPlan) → All script.IsSoundTask templates → slice_get templates place ≡ Some plan → script.IsSoundTask plan
sound_template templates place plan sound at = subst script.IsSoundTask (get_or_from_slice_get templates place plan plan at) (sound place plan (slice_get_within templates place plan at))

-- a task that is not among so many
not_there : (n t : ℕ) → t ≡ suc n → IsOneOf n (Some (record { 0 = t })) → ⊥
not_there n t is known = let most : t ≤ n = known.1 in omega (arith, is, most)

-- The run.

-- the state after an event
abbrev FitsAfter : Beginning → List Entry → RunTransition → Type 0
FitsAfter b h next = RunFits b (h ++ next.entries) next.state

module _ (b : Beginning) (h : List Entry) (now : RunState) (told : RunFits b h now) where
  gone_told : (t : TaskNo) → IsOneOf (length now.kernel.tasks.alive) (Some t) → FitsAfter b h (gone now t)
  gone_told t there =
      let kept : HistoryFits (h ++ gone_entries t) now.kernel = gone_fits h now.kernel t told.kernel there in
      record {
        kernel = kept;
        routes = phones_gone b h now.kernel told.kernel told.routes t;
        names = told.names;
        programs = λ i p at. gone_fit h now.kernel t (suc i) p (told.programs i p at) kept;
        kept = λ u. calls_gone h t u (told.kept u);
        services = λ i p at. gone_serves h t (suc i) p (told.services i p at);
        paired = told.paired;
        templates = told.templates;
      }

  served_told : (t : TaskNo) (p : AnyProgram) → is_alive now.kernel t ≡ true → slice_get now.programs (t.0 - 1) ≡ Some p
      → FitsAfter b h (step_served now t p (serve now.kernel t (wanted p)))
  served_told t p alive at =
      let served : Served = serve now.kernel t (wanted p) in
      let es : List Entry = step_entries now.kernel t p in
      let number : suc (t.0 - 1) ≡ t.0 = number_of now.kernel.tasks.alive t.0 alive in
      let before : ProgramFits h t.0 p = subst (λ (n : ℕ). ProgramFits h n p) number (told.programs (t.0 - 1) p at) in
      let marks : length served.state.tasks.alive ≡ length now.kernel.tasks.alive = ap length (serve_marks now.kernel t (wanted p)) in
      let own : AreOfTasks (length served.state.tasks.alive) (entries p served.outcome) =
      rw marks (own_known (length now.kernel.tasks.alive) t (entries p served.outcome) (alive_known now.kernel.tasks.alive t alive) (apart_own h t p served.outcome before)) in
      let kept : HistoryFits (h ++ es) served.state = own_told h served.state t (wanted p) served p served.outcome own (serve_fits h now.kernel t (wanted p) told.kernel alive) in
      let new : ProgramFits (h ++ es) t.0 (after p served.outcome) = own_fits h now.kernel t p told.kernel before kept in
      record {
        kernel = kept;
        routes = own_routes b h served.state t (wanted p) served (entries p served.outcome) (own_entries p served.outcome) (phones_serve b h now.kernel told.kernel told.routes t (wanted p));
        names = told.names;
        programs =
            one_changed (h ++ es) now.programs (t.0 - 1) (after p served.outcome)
            (λ j q apart there. others_fit h now.kernel t p (suc j) q (λ same. apart (omega (arith, same))) before (told.programs j q there) kept)
            (subst (λ (n : ℕ). ProgramFits (h ++ es) n (after p served.outcome)) (sym number) new);
        kept = λ u. step_keeps h now.kernel t p u told.kernel kept (own_entries p served.outcome) (told.kept u);
        services = services_changed (h ++ es) now.programs (t.0 - 1) (after p served.outcome)
            (λ j q apart there. others_serve h now.kernel t p (suc j) q (λ same. apart (omega (arith, same))) (own_entries p served.outcome) (told.services j q there))
            (subst (λ (n : ℕ). ServiceFits (h ++ es) n (after p served.outcome)) (sym number)
            (own_serves h now.kernel t p told.kernel kept (own_entries p served.outcome) (told.kept t.0)
            (subst (λ (n : ℕ). ServiceFits h n p) number (told.services (t.0 - 1) p at))));
        paired = length-set now.programs (t.0 - 1) (after p served.outcome) ∙ told.paired ∙ sym marks;
        templates = told.templates;
      }

  stepped : (t : TaskNo) (x : Bool) (o : Option AnyProgram) → IsOneOf (length now.kernel.tasks.alive) (Some t) → is_alive now.kernel t ≡ x → slice_get now.programs (t.0 - 1) ≡ o → FitsAfter b h (step_by now t (if x then o else None))
  stepped t true None there alive at = gone_told t there
  stepped t true (Some p) there alive at = served_told t p alive at
  stepped t false o there alive at = gone_told t there

  hung_up : (t : TaskNo) (phone : ℕ) (x : Bool) → IsOneOf (length now.kernel.tasks.alive) (Some t) → is_alive now.kernel t ≡ x
      → FitsAfter b h (if x then request_served now t (ask.Hangup phone) (serve now.kernel t (ask.Hangup phone)) else gone now t)
  hung_up t phone true there alive =
      let kept : HistoryFits (h ++ served_entries t (ask.Hangup phone) (serve now.kernel t (ask.Hangup phone))) (serve now.kernel t (ask.Hangup phone)).state =
      serve_fits h now.kernel t (ask.Hangup phone) told.kernel alive in
      record {
        kernel = kept;
        routes = phones_serve b h now.kernel told.kernel told.routes t (ask.Hangup phone);
        names = told.names;
        programs = λ i p at. hangup_fits h now.kernel t phone (suc i) p told.kernel (told.programs i p at) kept;
        kept = λ u. hangup_keeps_calls h now.kernel t phone u told.kernel kept (told.kept u);
        services = λ i p at. hangup_serves h now.kernel t phone (suc i) p told.kernel (told.services i p at);
        paired = told.paired ∙ sym (ap length (serve_marks now.kernel t (ask.Hangup phone)));
        templates = told.templates;
      }
  hung_up t phone false there alive = gone_told t there

  ended : (t : TaskNo) (x : Bool) → IsOneOf (length now.kernel.tasks.alive) (Some t) → is_alive now.kernel t ≡ x → FitsAfter b h (if x then killed now t (kill_event now.kernel t) else gone now t)
  ended t true there alive =
      let kept : HistoryFits (h ++ killed_entries t (kill_event now.kernel t)) (kill_event now.kernel t).state = kill_fits h now.kernel t told.kernel alive in
      record {
        kernel = kept;
        routes = phones_kill b h now.kernel told.kernel told.routes t alive;
        names = told.names;
        programs = λ i p at. killed_fits h now.kernel t (suc i) p (told.programs i p at) kept;
        kept = λ u. killed_keeps_calls h now.kernel t u kept (told.kept u);
        services = λ i p at. killed_serves h now.kernel t (suc i) p (told.services i p at);
        paired = told.paired ∙ sym (ap length (kill_marks now.kernel t) ∙ length-set now.kernel.tasks.alive (t.0 - 1) false);
        templates = told.templates;
      }
  ended t false there alive = gone_told t there

  -- a task is made, with these effects behind the head
  made : (plan : TaskPlan) (es : List Entry) (k : KernelState) → AreEffects es → HistoryFits (h ++ entry.Spawn (next_task now.kernel) ∷ es) k → RoutesFit b (h ++ entry.Spawn (next_task now.kernel) ∷ es) k → length k.tasks.alive ≡ length now.kernel.tasks.alive + 1
      → FitsAfter b h (spawned now plan (record { state = k; entries = entry.Spawn (next_task now.kernel) ∷ es }))
  made plan es k effects kept routes more =
      let t : TaskNo = next_task now.kernel in
      let n : ℕ = length now.kernel.tasks.alive in
      let number : t.0 ≡ suc n = omega arith in
      let strange : AreStrange t.0 h = known_strange n t.0 h told.kernel.known (not_there n t.0 number) in
      let new : AnyProgram = program_of t.0 plan in
      let fresh : ProgramFits h t.0 new = fresh_fits h t.0 plan plan.kind strange (lawful_now h now.kernel told.kernel) in
      let serves : ServiceFits h t.0 new = fresh_serves h t.0 plan plan.kind strange in
      record {
        kernel = kept;
        routes = routes;
        names = told.names;
        programs = λ j q at. elim (at_last now.programs new j q at) [
          | inl e ↦ made_fits h es k t (suc j) q effects (told.programs j q e) kept
          | inr e ↦
              let place : suc j ≡ t.0 = omega (arith, e.0, told.paired, number) in
              made_fits h es k t (suc j) q effects (subst (λ (x : AnyProgram). ProgramFits h (suc j) x) (sym e.1) (subst (λ (m : ℕ). ProgramFits h m new) (sym place) fresh)) kept
        ];
        kept = λ u. made_keeps_calls h es k t u effects kept (told.kept u);
        services = λ j q at. elim (at_last now.programs new j q at) [
          | inl e ↦ made_serves h es t (suc j) q effects (told.services j q e)
          | inr e ↦
              let place : suc j ≡ t.0 = omega (arith, e.0, told.paired, number) in
              made_serves h es t (suc j) q effects (subst (λ (x : AnyProgram). ServiceFits h (suc j) x) (sym e.1) (subst (λ (m : ℕ). ServiceFits h m new) (sym place) serves))
        ];
        paired = length-append now.programs (new ∷ []) ∙ omega (arith, told.paired, more);
        templates = told.templates;
      }

  made_by : (plan : TaskPlan) (o : Option TaskNo) → HistoryFits (h ++ (spawning now.kernel (next_task now.kernel) plan.limit o).entries) (with_event (spawning now.kernel (next_task now.kernel) plan.limit o).state)
      → RoutesFit b (h ++ (spawning now.kernel (next_task now.kernel) plan.limit o).entries) (with_event (spawning now.kernel (next_task now.kernel) plan.limit o).state)
      → FitsAfter b h (spawned now plan (record { state = with_event (spawning now.kernel (next_task now.kernel) plan.limit o).state; entries = (spawning now.kernel (next_task now.kernel) plan.limit o).entries }))
  made_by plan None kept routes = made plan [] _ tt kept routes (length-append now.kernel.tasks.alive (true ∷ []))
  made_by plan (Some u) kept routes = made plan (entry.PhoneIs (label_of (next_task now.kernel) 0) (Connected u) ∷ []) _ (refl, tt) kept routes (length-append now.kernel.tasks.alive (true ∷ []))

  spawned_told : (place : ℕ) (o : Option TaskPlan) → slice_get now.templates place ≡ o → FitsAfter b h (spawn_by now o)
  spawned_told place None at = rw (append-nil h) told
  spawned_told place (Some plan) at =
      let sound : script.IsSoundTask plan = sound_template now.templates place plan told.templates at in
      made_by plan (named now.kernel now.names) (spawn_fits h now.kernel plan.limit now.names sound.some_phones told.kernel)
      (subst (λ (o : Option TaskNo). RoutesFit b (h ++ (spawn_event now.kernel plan.limit o).entries) (spawn_event now.kernel plan.limit o).state) (sym told.names)
      (phones_spawn b h now.kernel plan.limit sound.some_phones told.kernel told.routes))

  -- each event that may come
  pub turn_fits : (e : Event) → MayHappen now e → FitsAfter b h (turn now e)
  turn_fits (Step t) may = stepped t (is_alive now.kernel t) (slice_get now.programs (t.0 - 1)) may refl refl
  turn_fits (Kill t) may = ended t (is_alive now.kernel t) may refl
  turn_fits (Hangup t phone) may = hung_up t phone (is_alive now.kernel t) may refl
  turn_fits (Spawn place) may = spawned_told place (slice_get now.templates place) refl

-- the same of states that are known by equations
pub kept_by : (b : Beginning) (h : List Entry) (before now new : RunState) (e : Event) → before ≡ now → new ≡ (turn before e).state → MayHappen now e
    → RunFits b h now → RunFits b (h ++ (turn now e).entries) new
kept_by b h before now new e same is may told =
    subst
    (λ (r : RunState). RunFits b (h ++ (turn now e).entries) r)
    (sym (is ∙ ap (λ (r : RunState). (turn r e).state) same))
    (turn_fits b h now told e may)

first_programs : (t : ℕ) (tasks : List TaskPlan) (i : ℕ) (p : AnyProgram) → slice_get (programs_from (suc t) tasks) i ≡ Some p → ProgramFits [] (suc (t + i)) p
first_programs t [] i p at = absurd (cc at)
first_programs t (task ∷ tasks) zero p at =
    subst (λ (q : AnyProgram). ProgramFits [] (suc (t + 0)) q) (same_Some (program_of (suc t) task) p at)
    (subst (λ (n : ℕ). ProgramFits [] n (program_of (suc t) task)) (suc_is t) (first_fits (suc t) task task.kind))
  where
    suc_is : (n : ℕ) → suc n ≡ suc (n + 0)
    suc_is n = omega arith
first_programs t (task ∷ tasks) (suc i) p at =
    subst (λ (n : ℕ). ProgramFits [] n p) (moved t i) (first_programs (suc t) tasks i p (subst (λ (n : ℕ). slice_get (programs_from n tasks) i ≡ Some p) (one_more t) at))
  where
    moved : (n m : ℕ) → suc (suc n + m) ≡ suc (n + suc m)
    moved n m = omega arith

    one_more : (n : ℕ) → suc n + 1 ≡ suc (suc n)
    one_more n = omega arith

programs_counted : (t : ℕ) (tasks : List TaskPlan) → length (programs_from t tasks) ≡ length tasks
programs_counted t [] = refl
programs_counted t (task ∷ tasks) = ap suc (programs_counted (t + 1) tasks)

wires_same : (k : KernelState) (wires : List Wire) → (with_wires k wires).tasks.alive ≡ k.tasks.alive
wires_same k [] = refl
wires_same k (wire ∷ wires) = wires_same (with_wire k wire) wires

tasks_counted : (k : KernelState) (tasks : List TaskPlan) → length (with_tasks k tasks).tasks.alive ≡ length k.tasks.alive + length tasks
tasks_counted k [] = omega arith
tasks_counted k (task ∷ tasks) = let rest = tasks_counted (with_task k task.limit) tasks in let one = length-append k.tasks.alive (true ∷ []) in omega (arith, rest, one)

-- there are as many tasks as the script has
pub start_counted : (plan : Plan) → length (start plan).kernel.tasks.alive ≡ length plan.tasks
start_counted plan =
    let all = ap length (wires_same (with_service plan.tasks) plan.wires) ∙ ap length (wires_same (with_tasks kernel.start plan.tasks) (wires_to_service plan.tasks)) ∙ tasks_counted kernel.start plan.tasks in
    omega (arith, all)

first_services : (t : ℕ) (tasks : List TaskPlan) (i : ℕ) (p : AnyProgram) → slice_get (programs_from (suc t) tasks) i ≡ Some p → ServiceFits [] (suc (t + i)) p
first_services t [] i p at = absurd (cc at)
first_services t (task ∷ tasks) zero p at =
    subst (λ (q : AnyProgram). ServiceFits [] (suc (t + 0)) q) (same_Some (program_of (suc t) task) p at)
    (subst (λ (n : ℕ). ServiceFits [] n (program_of (suc t) task)) (suc_is t) (first_serves (suc t) task task.kind))
  where
    suc_is : (n : ℕ) → suc n ≡ suc (n + 0)
    suc_is n = omega arith
first_services t (task ∷ tasks) (suc i) p at =
    subst (λ (n : ℕ). ServiceFits [] n p) (moved t i) (first_services (suc t) tasks i p (subst (λ (n : ℕ). slice_get (programs_from n tasks) i ≡ Some p) (one_more t) at))
  where
    moved : (n m : ℕ) → suc (suc n + m) ≡ suc (n + suc m)
    moved n m = omega arith

    one_more : (n : ℕ) → suc n + 1 ≡ suc (suc n)
    one_more n = omega arith

-- before the first event
pub start_told : (plan : Plan) → script.IsSound plan → RunFits (beginning plan) [] (start plan)
start_told plan sound =
    let tasks = tasks_fit kernel.start plan.tasks start_fits in
    let service = wires_fit (with_tasks kernel.start plan.tasks) (wires_to_service plan.tasks) (service_wires_are_open plan sound) tasks in
    let kernel_fits = wires_fit (with_service plan.tasks) plan.wires (wires_are_open plan sound) service in
    record {
      kernel = kernel_fits;
      routes = start_routes plan sound kernel_fits;
      names = refl;
      programs = λ i p at. subst (λ (n : ℕ). ProgramFits [] n p) (from_zero i) (first_programs 0 plan.tasks i p at);
      kept = λ t. start_keeps t;
      services = λ i p at. subst (λ (n : ℕ). ServiceFits [] n p) (from_zero i) (first_services 0 plan.tasks i p at);
      paired = programs_counted 1 plan.tasks ∙ sym (start_counted plan);
      templates = sound.sound_templates;
    }
  where
    from_zero : (n : ℕ) → suc (0 + n) ≡ suc n
    from_zero n = omega arith

-- how many tasks there are after an event
module _ (now : RunState) where
  abbrev tasks_of : RunTransition → ℕ
  tasks_of next = length next.state.kernel.tasks.alive

  stepped_count : (t : TaskNo) (b : Bool) (o : Option AnyProgram) → tasks_of (step_by now t (if b then o else None)) ≡ length now.kernel.tasks.alive
  stepped_count t true None = refl
  stepped_count t true (Some p) = ap length (serve_marks now.kernel t (wanted p))
  stepped_count t false o = refl

  hung_count : (t : TaskNo) (phone : ℕ) (b : Bool) → tasks_of (if b then request_served now t (ask.Hangup phone) (serve now.kernel t (ask.Hangup phone)) else gone now t) ≡ length now.kernel.tasks.alive
  hung_count t phone true = ap length (serve_marks now.kernel t (ask.Hangup phone))
  hung_count t phone false = refl

  ended_count : (t : TaskNo) (b : Bool) → tasks_of (if b then killed now t (kill_event now.kernel t) else gone now t) ≡ length now.kernel.tasks.alive
  ended_count t true = ap length (kill_marks now.kernel t) ∙ length-set now.kernel.tasks.alive (t.0 - 1) false
  ended_count t false = refl

  made_count : (t : TaskNo) (limit : ℕ) (o : Option TaskNo) → length (spawning now.kernel t limit o).state.tasks.alive ≡ length now.kernel.tasks.alive + 1
  made_count t limit None = length-append now.kernel.tasks.alive (true ∷ [])
  made_count t limit (Some u) = length-append now.kernel.tasks.alive (true ∷ [])

  spawned_count : (place : ℕ) (o : Option TaskPlan) → slice_get now.templates place ≡ o → place < length now.templates → tasks_of (spawn_by now o) ≡ length now.kernel.tasks.alive + 1
  spawned_count place None at lt = absurd (let least = get_none now.templates place at in omega (arith, least, lt))
  spawned_count place (Some plan) at lt = made_count (next_task now.kernel) plan.limit (named now.kernel now.names)

  pub turn_count : (e : Event) → MayHappen now e → tasks_of (turn now e) ≡ tasks_after (length now.kernel.tasks.alive) e
  turn_count (Step t) may = stepped_count t (is_alive now.kernel t) (slice_get now.programs (t.0 - 1))
  turn_count (Kill t) may = ended_count t (is_alive now.kernel t)
  turn_count (Hangup t phone) may = hung_count t phone (is_alive now.kernel t)
  turn_count (Spawn place) may = spawned_count place (slice_get now.templates place) refl may.0

  spawn_templates : (o : Option TaskPlan) → (spawn_by now o).state.templates ≡ now.templates
  spawn_templates None = refl
  spawn_templates (Some plan) = refl

  step_templates : (t : TaskNo) (o : Option AnyProgram) → (step_by now t o).state.templates ≡ now.templates
  step_templates t None = refl
  step_templates t (Some p) = refl

  by_choice : (b : Bool) (x y : RunTransition) → x.state.templates ≡ now.templates → y.state.templates ≡ now.templates → (if b then x else y).state.templates ≡ now.templates
  by_choice true x y h g = h
  by_choice false x y h g = g

  pub turn_templates : (e : Event) → (turn now e).state.templates ≡ now.templates
  turn_templates (Step t) = step_templates t _
  turn_templates (Kill t) = by_choice (is_alive now.kernel t) _ _ refl refl
  turn_templates (Hangup t phone) = by_choice (is_alive now.kernel t) _ _ refl refl
  turn_templates (Spawn place) = spawn_templates (slice_get now.templates place)

  -- what may come later still may
  pub later_may : (e : Event) (later : List Event) → MayAllHappen now (e ∷ later) → MayAllHappen (turn now e).state later
  later_may e later may = rw (turn_count e may.0, turn_templates e) may.1

-- the events that a feed has left, of a state that is known by an equation
pub may_from : (plan : Plan) (left : List Event) (now : RunState) → now ≡ start plan → MayAllCome (length plan.tasks) (length plan.templates) left → MayAllHappen now left
may_from plan left now is may = rw (is, start_counted plan) may

pub may_now : (now : RunState) (e : Event) (left rest : List Event) → left ≡ e ∷ rest → MayAllHappen now left → MayHappen now e
may_now now e left rest is may = (rw is at may).0

pub may_on : (now next : RunState) (e : Event) (left rest : List Event) → left ≡ e ∷ rest → next ≡ (turn now e).state → MayAllHappen now left → MayAllHappen next rest
may_on now next e left rest is after may = rw after (later_may now e rest (rw is at may))

-- the state that all events of a schedule leave fits what they tell
pub state_told : (b : Beginning) (h : List Entry) (now : RunState) → RunFits b h now → (events : List Event) → MayAllHappen now events → RunFits b (h ++ run_from now events) (state_after now events)
state_told b h now told [] may = rw (append-nil h) told
state_told b h now told (e ∷ events) may =
    let next : RunTransition = turn now e in
    subst (λ (es : List Entry). RunFits b es (state_after next.state events)) (append_assoc h next.entries (run_from next.state events))
    (state_told b (h ++ next.entries) next.state (turn_fits b h now told e may.0) events (later_may now e events may))

-- what a schedule may ask, so may a first part of it
pub may_first : (tasks templates : ℕ) (done rest : List Event) → MayAllCome tasks templates (done ++ rest) → MayAllCome tasks templates done
may_first tasks templates [] rest may = tt
may_first tasks templates (e ∷ done) rest may = (may.0, may_first (tasks_after tasks e) templates done rest may.1)

-- of a run from the start, and of a first part of its events
pub run_told : (plan : Plan) (events : List Event) → script.IsSound plan → MayAllCome (length plan.tasks) (length plan.templates) events
    → RunFits (beginning plan) (run plan events) (state_after (start plan) events)
run_told plan events sound may = state_told (beginning plan) [] (start plan) (start_told plan sound) events (may_from plan events (start plan) refl may)

pub part_told : (plan : Plan) (done rest : List Event) → script.IsSound plan → MayAllCome (length plan.tasks) (length plan.templates) (done ++ rest)
    → RunFits (beginning plan) (run plan done) (state_after (start plan) done)
part_told plan done rest sound may = run_told plan done sound (may_first (length plan.tasks) (length plan.templates) done rest may)

-- in a state that its entries fit no task with fibrils has lost a wake-up
pub fitting_keeps_wakes : (b : Beginning) (h : List Entry) (now : RunState) → RunFits b h now → KeepsAllWakes now
fitting_keeps_wakes b h now told i p at = (told.programs i (any.Async p) at).0.wakes.wakes

-- what each program does keeps the laws of replies and of exchanges
abbrev FactsAreLawful : List Entry → ℕ → Type 0
FactsAreLawful h t = RepliesWereLawful (facts t h) × IsPassedOn (facts t h) × ExchangesWereLawful (facts t h)

quiet_lawful : (h : List Entry) (t : ℕ) → TellsOfNoFibril h t → FactsAreLawful h t
quiet_lawful h t none = (none.replies, nothing_passed_on (facts t h) none, none.exchanges)

program_lawful : (h : List Entry) (t : ℕ) (p : AnyProgram) → ProgramFits h t p → FactsAreLawful h t
program_lawful h t (any.Raw p) fits = quiet_lawful h t fits
program_lawful h t (any.Naming p) fits = quiet_lawful h t fits
program_lawful h t (any.Block p) fits = quiet_lawful h t fits
program_lawful h t (any.Async p) fits = fitting_is_lawful h t p.state fits.0

-- nothing is told of a task that is not there
nobody_lawful : (b : Beginning) (h : List Entry) (now : RunState) → RunFits b h now → (t : ℕ) → (IsOneOf (length now.kernel.tasks.alive) (Some (record { 0 = t })) → ⊥) → FactsAreLawful h t
nobody_lawful b h now told t other = quiet_lawful h t (strange_quiet h t (known_strange (length now.kernel.tasks.alive) t h told.kernel.known other))

-- so do the entries of a run, of every task
pub facts_are_lawful : (b : Beginning) (h : List Entry) (now : RunState) → RunFits b h now → (t : ℕ) → FactsAreLawful h t
facts_are_lawful b h now told zero = nobody_lawful b h now told zero (λ known. let some : 1 ≤ 0 = known.0 in omega (arith, some))
facts_are_lawful b h now told (suc i) = by_place (slice_get now.programs i) refl where
  by_place : (o : Option AnyProgram) → slice_get now.programs i ≡ o → FactsAreLawful h (suc i)
  by_place None at = nobody_lawful b h now told (suc i) (λ known. let most : suc i ≤ length now.kernel.tasks.alive = known.1 in let none = get_none now.programs i at in omega (arith, most, none, told.paired))
  by_place (Some p) at = program_lawful h (suc i) p (told.programs i p at)

-- what tasks are made from stays
pub templates_stay : (now : RunState) (events : List Event) → (state_after now events).templates ≡ now.templates
templates_stay now [] = refl
templates_stay now (e ∷ events) = templates_stay (turn now e).state events ∙ turn_templates now e
