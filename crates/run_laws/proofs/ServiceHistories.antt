-- Each event keeps it that what a service did fits its state, and that calls are kept.
use Rattle.std.proofs.Common.{◌≡◌, ℕ, Bool, true, false, List, [], ◌∷◌, ◌++◌, refl, sym, ap, ◌∙◌, subst, append_assoc}
use Rattle.std.specs.Prelude.{◌==◌, not}
use Rattle.std.proofs.lemmas.Bool.{eq-eqb, ne_eqb, not-true}
use Rattle.ipc_ids.specs.declared.numbers.TaskNo.{TaskNo}
use Rattle.ipc_ids.specs.declared.message.Request.{Request}
use Rattle.ipc_ids.specs.declared.message.Request.TheVariants as ask
use Rattle.ipc_ids.specs.declared.entry.Entry.{Entry}
use Rattle.ipc_ids.specs.declared.entry.Entry.TheVariants as entry
use Rattle.script_lines.specs.declared.plan.TaskPlan.{TaskPlan}
use Rattle.ipc_ids.specs.Lawful.{Lawful}
use Rattle.ipc_ids.specs.Tales.{past}
use Rattle.ipc_ids.specs.Doings.{Doing, Asks, Told, doings, doings_of, is_own_event, MayBeTold}
use Rattle.ipc_ids.specs.Holdings.{on_top}
use Rattle.ipc_ids.specs.KeptCalls.{KeepsCalls, is_within, AreWithin, served, did}
use Rattle.ipc_ids.proofs.KeptCalls.{doings_served, served_keeps, told_is_new, doings_killed, killed_keeps, doings_gone, gone_keeps, doings_spawned, spawned_keeps}
use Rattle.script_lines.specs.declared.plan.Kind.{Kind}
use Rattle.script_lines.specs.declared.plan.Kind.TheVariants as kind
use Rattle.switchboard.specs.State.{KernelState}
use Rattle.switchboard.specs.Serving.{Served}
use Rattle.kernel_core.specs.Kernel.{serve, kill_event}
use Rattle.kernel_core.specs.History.{HistoryFits, served_entries, killed_entries, gone_entries}
use Rattle.ipc_ids.specs.Effects.{AreEffects}
use Rattle.async_laws.specs.Links.{is_strange, AreStrange}
use Rattle.kernel_core.proofs.FittingOutcomes.{outcome_fits}
use Rattle.kernel_core.proofs.HonestEvents.{serve_is_honest, kill_is_honest}
use Rattle.naming_service.specs.Naming.{after as naming_after}
use Rattle.naming_service.specs.NamingHistory.{NamingFits}
use Rattle.naming_service.proofs.StepsFit as naming
use Rattle.block_server.specs.Blocks.{after as block_after}
use Rattle.block_server.specs.BlockHistory.{BlocksFit}
use Rattle.block_server.proofs.StepsFit as block
use Rattle.task_system.specs.declared.any.AnyProgram.{AnyProgram}
use Rattle.task_system.specs.declared.any.AnyProgram.TheVariants as any
use Rattle.task_system.specs.Any.{wanted, after, entries}
use Rattle.task_system.specs.Run.{program_by}
use Rattle.run_laws.specs.RunHistory.{ServiceFits}
use Rattle.run_laws.proofs.OwnEntries.{IsOwn, AreOwn}
use Rattle.run_laws.proofs.Refusals.{effects_within, refusals_are_true}

-- what a program tells of itself is within its event
own_within_one : (e : Entry) → IsOwn e → is_within e ≡ true
own_within_one (entry.Sent t f n slot) own = refl
own_within_one (entry.Gets t f n slot reply) own = refl
own_within_one (entry.Blocks t f why) own = refl
own_within_one (entry.Starts t f label) own = refl
own_within_one (entry.Ends t f) own = refl
own_within_one (entry.Begins t f e mode session phone) own = refl
own_within_one (entry.ExchangeEnds t f e) own = refl
own_within_one (entry.Drops t f e) own = refl
own_within_one (entry.RefusedOp t f code) own = refl
own_within_one _ own = absurd own

own_within : (es : List Entry) → AreOwn es → AreWithin es
own_within [] own = tt
own_within (e ∷ es) own = (own_within_one e own.0, own_within es own.1)

-- the entries of a request that is served, with those of its program
in_parts : (t : TaskNo) (asked : Request) (s : Served) (own : List Entry) → served_entries t asked s ++ own ≡ served t asked s.entries s.outcome own
in_parts t asked s own = ap (λ (es : List Entry). entry.Head t asked ∷ es) (append_assoc s.entries (entry.Outcome s.outcome ∷ []) own)

abbrev pub served_by : KernelState → TaskNo → AnyProgram → Served
served_by k t p = serve k t (wanted p)

abbrev pub step_entries : KernelState → TaskNo → AnyProgram → List Entry
step_entries k t p = served_entries t (wanted p) (served_by k t p) ++ entries p (served_by k t p).outcome

-- a service of which the entries say what they said
same_serves : (h es : List Entry) (t : ℕ) (p : AnyProgram) → doings t (h ++ es) ≡ doings t h → ServiceFits h t p → ServiceFits (h ++ es) t p
same_serves h es t (any.Raw p) same fit = tt
same_serves h es t (any.Naming p) same fit = subst (λ (d : List Doing). NamingFits d p) (sym same) fit
same_serves h es t (any.Async p) same fit = tt
same_serves h es t (any.Block p) same fit = subst (λ (d : List Doing). BlocksFit d p) (sym same) fit

-- a step of task u, whose program is q
module _ (h : List Entry) (k : KernelState) (u : TaskNo) (q : AnyProgram) where
  abbrev came : Served
  came = served_by k u q

  abbrev own : List Entry
  own = entries q came.outcome

  quiet : AreWithin came.entries
  quiet = effects_within came.entries (serve_is_honest k u (wanted q)).effects

  did_so : (t : ℕ) → AreOwn own → doings t (h ++ step_entries k u q) ≡ did (u.0 == t) (wanted q) came.outcome (doings t h)
  did_so t are_own =
      ap (λ (es : List Entry). doings t (h ++ es)) (in_parts u (wanted q) came own)
      ∙ doings_served h came.entries own t u (wanted q) came.outcome quiet (own_within own are_own)

  law : (now : KernelState) → HistoryFits (h ++ step_entries k u q) now → Lawful (past (h ++ served u (wanted q) came.entries came.outcome own))
  law now told = subst (λ (es : List Entry). Lawful (past (h ++ es))) (in_parts u (wanted q) came own) told.told.lawful

  pub step_keeps : (t : ℕ) → HistoryFits h k → HistoryFits (h ++ step_entries k u q) came.state → AreOwn own → KeepsCalls h t → KeepsCalls (h ++ step_entries k u q) t
  step_keeps t before told are_own keeps =
      subst (λ (es : List Entry). KeepsCalls (h ++ es) t) (sym (in_parts u (wanted q) came own))
      (served_keeps h came.entries own u (wanted q) came.outcome (law came.state told) quiet (own_within own are_own) t (serve_is_honest k u (wanted q)).received keeps)

  may_be_told : HistoryFits h k → HistoryFits (h ++ step_entries k u q) came.state → AreOwn own → KeepsCalls h u.0 → MayBeTold (doings u.0 h) (wanted q) came.outcome
  may_be_told before told are_own keeps = record {
    new = told_is_new h came.entries own u (wanted q) came.outcome (law came.state told) quiet (own_within own are_own) (serve_is_honest k u (wanted q)).received keeps;
    refusal = refusals_are_true k u (wanted q);
  }

  did_itself : AreOwn own → doings u.0 (h ++ step_entries k u q) ≡ Told came.outcome ∷ (Asks (wanted q) ∷ doings u.0 h)
  did_itself are_own = did_so u.0 are_own ∙ ap (λ (b : Bool). did b (wanted q) came.outcome (doings u.0 h)) (eq-eqb u.0 u.0 refl)

  -- a program that is told nothing of the event
  pub others_serve : (t : ℕ) (p : AnyProgram) → (u.0 ≡ t → ⊥) → AreOwn own → ServiceFits h t p → ServiceFits (h ++ step_entries k u q) t p
  others_serve t p apart are_own fit =
      same_serves h (step_entries k u q) t p (did_so t are_own ∙ ap (λ (b : Bool). did b (wanted q) came.outcome (doings t h)) (ne_eqb u.0 t apart)) fit

-- the program of the task itself
pub own_serves : (h : List Entry) (k : KernelState) (u : TaskNo) (q : AnyProgram) → HistoryFits h k → HistoryFits (h ++ step_entries k u q) (served_by k u q).state
    → AreOwn (entries q (served_by k u q).outcome) → KeepsCalls h u.0 → ServiceFits h u.0 q → ServiceFits (h ++ step_entries k u q) u.0 (after q (served_by k u q).outcome)
own_serves h k u (any.Raw s) before told are_own keeps fit = tt
own_serves h k u (any.Async s) before told are_own keeps fit = tt
own_serves h k u (any.Naming s) before told are_own keeps fit =
    subst (λ (d : List Doing). NamingFits d (naming_after s (served_by k u (any.Naming s)).outcome)) (sym (did_itself h k u (any.Naming s) are_own))
    (naming.step_fits (doings u.0 h) s (served_by k u (any.Naming s)).outcome fit (outcome_fits k u (wanted (any.Naming s)) before.sound) (may_be_told h k u (any.Naming s) before told are_own keeps))
own_serves h k u (any.Block s) before told are_own keeps fit =
    subst (λ (d : List Doing). BlocksFit d (block_after s (served_by k u (any.Block s)).outcome)) (sym (did_itself h k u (any.Block s) are_own))
    (block.step_fits (doings u.0 h) s (served_by k u (any.Block s)).outcome fit (outcome_fits k u (wanted (any.Block s)) before.sound) (may_be_told h k u (any.Block s) before told are_own keeps))

-- a hangup from outside, of its own task or of another
module _ (h : List Entry) (k : KernelState) (u : TaskNo) (phone : ℕ) where
  abbrev hung : Served
  hung = serve k u (ask.Hangup phone)

  abbrev hangup_entries : List Entry
  hangup_entries = served_entries u (ask.Hangup phone) hung

  quiet_hangup : AreWithin hung.entries
  quiet_hangup = effects_within hung.entries (serve_is_honest k u (ask.Hangup phone)).effects

  did_hangup : (t : ℕ) → doings t (h ++ hangup_entries) ≡ did (u.0 == t) (ask.Hangup phone) hung.outcome (doings t h)
  did_hangup t = doings_served h hung.entries [] t u (ask.Hangup phone) hung.outcome quiet_hangup tt

  pub hangup_keeps_calls : (t : ℕ) → HistoryFits h k → HistoryFits (h ++ hangup_entries) hung.state → KeepsCalls h t → KeepsCalls (h ++ hangup_entries) t
  hangup_keeps_calls t before told keeps =
      served_keeps h hung.entries [] u (ask.Hangup phone) hung.outcome told.told.lawful quiet_hangup tt t (serve_is_honest k u (ask.Hangup phone)).received keeps

  by_task : (t : ℕ) (p : AnyProgram) (b : Bool) → HistoryFits h k → doings t (h ++ hangup_entries) ≡ did b (ask.Hangup phone) hung.outcome (doings t h) → ServiceFits h t p → ServiceFits (h ++ hangup_entries) t p
  by_task t p false before same fit = same_serves h hangup_entries t p same fit
  by_task t (any.Raw s) true before same fit = tt
  by_task t (any.Async s) true before same fit = tt
  by_task t (any.Naming s) true before same fit = subst (λ (d : List Doing). NamingFits d s) (sym same) (naming.hangup_fits (doings t h) s phone hung.outcome fit (outcome_fits k u (ask.Hangup phone) before.sound))
  by_task t (any.Block s) true before same fit = subst (λ (d : List Doing). BlocksFit d s) (sym same) (block.hangup_fits (doings t h) s phone hung.outcome fit (outcome_fits k u (ask.Hangup phone) before.sound))

  pub hangup_serves : (t : ℕ) (p : AnyProgram) → HistoryFits h k → ServiceFits h t p → ServiceFits (h ++ hangup_entries) t p
  hangup_serves t p before fit = by_task t p (u.0 == t) before (did_hangup t) fit

-- a kill
pub killed_keeps_calls : (h : List Entry) (k : KernelState) (u : TaskNo) (t : ℕ) → HistoryFits (h ++ killed_entries u (kill_event k u)) (kill_event k u).state → KeepsCalls h t → KeepsCalls (h ++ killed_entries u (kill_event k u)) t
killed_keeps_calls h k u t told keeps = killed_keeps h (kill_event k u).entries t u told.told.lawful (effects_within (kill_event k u).entries (kill_is_honest k u)) keeps

pub killed_serves : (h : List Entry) (k : KernelState) (u : TaskNo) (t : ℕ) (p : AnyProgram) → ServiceFits h t p → ServiceFits (h ++ killed_entries u (kill_event k u)) t p
killed_serves h k u t p fit = same_serves h (killed_entries u (kill_event k u)) t p (doings_killed h (kill_event k u).entries t u (effects_within (kill_event k u).entries (kill_is_honest k u))) fit

-- an event on a task that has ended
pub calls_gone : (h : List Entry) (t : TaskNo) (u : ℕ) → KeepsCalls h u → KeepsCalls (h ++ gone_entries t) u
calls_gone h t u keeps = gone_keeps h u t keeps

pub gone_serves : (h : List Entry) (u : TaskNo) (t : ℕ) (p : AnyProgram) → ServiceFits h t p → ServiceFits (h ++ gone_entries u) t p
gone_serves h u t p fit = same_serves h (gone_entries u) t p (doings_gone h t u) fit

-- the making of a task
pub made_keeps_calls : (h es : List Entry) (k : KernelState) (u : TaskNo) (t : ℕ) → AreEffects es → HistoryFits (h ++ (entry.Spawn u ∷ es)) k → KeepsCalls h t → KeepsCalls (h ++ (entry.Spawn u ∷ es)) t
made_keeps_calls h es k u t effects told keeps = spawned_keeps h es t u told.told.lawful (effects_within es effects) keeps

pub made_serves : (h es : List Entry) (u : TaskNo) (t : ℕ) (p : AnyProgram) → AreEffects es → ServiceFits h t p → ServiceFits (h ++ (entry.Spawn u ∷ es)) t p
made_serves h es u t p effects fit = same_serves h (entry.Spawn u ∷ es) t p (doings_spawned h es t u (effects_within es effects)) fit

-- a task of which nothing is told did nothing
strange_keeps : (t : ℕ) (e : Entry) (q : List Entry) → is_strange t e ≡ true → doings_of t q ≡ [] → is_own_event t q ≡ false
    → (doings_of t (e ∷ q) ≡ []) × (is_own_event t (e ∷ q) ≡ false)
strange_keeps t (entry.Head u asked) q strange none apart = by_task (u.0 == t) refl strange where
  by_task : (b : Bool) → (u.0 == t) ≡ b → not b ≡ true → (doings_of t (entry.Head u asked ∷ q) ≡ []) × (is_own_event t (entry.Head u asked ∷ q) ≡ false)
  by_task true is not-true = absurd (cc not-true)
  by_task false is not-true = (rw is none, is)
strange_keeps t (entry.Kill u) q strange none apart = (none, not-true (u.0 == t) strange)
strange_keeps t (entry.Gone u) q strange none apart = (none, not-true (u.0 == t) strange)
strange_keeps t (entry.Spawn u) q strange none apart = (none, not-true (u.0 == t) strange)
strange_keeps t (entry.Outcome o) q strange none apart = (rw apart none, apart)
strange_keeps t _ q strange none apart = (none, apart)

strange_doings : (t : ℕ) (es q : List Entry) → AreStrange t es → doings_of t q ≡ [] → is_own_event t q ≡ false → doings_of t (on_top es q) ≡ []
strange_doings t [] q strange none apart = none
strange_doings t (e ∷ es) q strange none apart =
    let next = strange_keeps t e q strange.0 none apart in
    strange_doings t es (e ∷ q) strange.1 next.0 next.1

-- before the first event
pub first_serves : (t : ℕ) (task : TaskPlan) (kind : Kind) → ServiceFits [] t (program_by (record { 0 = t }) task kind)
first_serves t task kind.Naming = naming.start_fits
first_serves t task kind.Raw = tt
first_serves t task kind.Async = tt
first_serves t task kind.Block = block.start_fits task.blocks task.service

-- a program of a task that is not there yet, of which nothing is told
pub fresh_serves : (h : List Entry) (t : ℕ) (task : TaskPlan) (kind : Kind) → AreStrange t h → ServiceFits h t (program_by (record { 0 = t }) task kind)
fresh_serves h t task kind strange =
    same_serves [] h t (program_by (record { 0 = t }) task kind) (strange_doings t h [] strange refl refl) (first_serves t task kind)
