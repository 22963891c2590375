-- The run of a sound script keeps the causes, under every schedule.
use Rattle.std.proofs.Common.{◌≡◌, ℕ, true, List, [], ◌∷◌, ◌++◌, length, Option, sym, subst, append_assoc}
use Rattle.std.proofs.lemmas.List.{append-nil}
use Rattle.std.proofs.lemmas.Option.{none-some}
use Rattle.ipc_ids.specs.declared.numbers.TaskNo.{TaskNo}
use Rattle.ipc_ids.specs.declared.message.Request.TheVariants as request
use Rattle.ipc_ids.specs.declared.message.Outcome.{Outcome}
use Rattle.ipc_ids.specs.declared.message.Event.{Event}
use Rattle.ipc_ids.specs.declared.entry.Entry.{Entry}
use Rattle.ipc_ids.specs.declared.entry.Entry.TheVariants as entry
use Rattle.ipc_ids.specs.Lawful.{Lawful}
use Rattle.ipc_ids.specs.Holdings.{newest_first}
use Rattle.script_lines.specs.Plan.{Plan}
use Rattle.script_lines.specs.Sound.{IsSound, IsSoundTask}
use Rattle.script_reader.specs.Schedule.{MayAllCome}
use Rattle.switchboard.specs.Serving.{Served}
use Rattle.kernel_core.specs.Kernel.{serve, spawn_event}
use Rattle.kernel_core.specs.History.{served_entries}
use Rattle.async_task.specs.Steps.{step}
use Rattle.async_laws.specs.Links.{is_own, AreOwn}
use Rattle.async_laws.proofs.OwnEntries.{own_entries}
use Rattle.task_system.specs.declared.any.AnyProgram.{AnyProgram}
use Rattle.task_system.specs.declared.any.AnyProgram.TheVariants as any
use Rattle.task_system.specs.Any.{wanted, entries}
use Rattle.task_system.specs.Run.{RunState, RunTransition, start, run, state_after, turn}
use Rattle.route_laws.specs.Leads.{Beginning}
use Rattle.route_laws.proofs.PhoneEvents.{tales_are}
use Rattle.run_laws.specs.RunHistory.{beginning, RunFits}
use Rattle.run_laws.proofs.RunHistories.{start_told, run_told}
use Rattle.run_determined.specs.PhoneCauses.{PhonesChangeForCause}
use Rattle.run_determined.proofs.ByEvent as happens
use Rattle.run_determined.proofs.ByEvent.{Happens, what_happens, run_keeps, all_at}
use Rattle.run_determined.proofs.CauseSteps.{IsPlain, ArePlain}
use Rattle.run_determined.proofs.CauseEvents.{CausesKept, causes_serve, causes_kill, causes_gone, causes_plain, causes_spawn, kept_are_caused}
use Rattle.run_determined.proofs.LiveCalls.{AreLawful}

-- a program's own entries tell of its fibrils
own_plain : (t : ℕ) (e : Entry) → is_own t e ≡ true → IsPlain e
own_plain t (entry.Accepted n from method to) own = absurd (cc own)
own_plain t (entry.Received n u) own = absurd (cc own)
own_plain t (entry.Forwarded n u to label) own = absurd (cc own)
own_plain t (entry.Answered n reply by) own = absurd (cc own)
own_plain t (entry.Dropped n u) own = absurd (cc own)
own_plain t (entry.PhoneIs label state) own = absurd (cc own)
own_plain t (entry.Outcome told) own = absurd (cc own)
own_plain t _ own = tt

all_plain : (t : ℕ) (es : List Entry) → AreOwn t es → ArePlain es
all_plain t [] own = tt
all_plain t (e ∷ es) own = (own_plain t e own.0, all_plain t es own.1)

entries_plain : (p : AnyProgram) (o : Outcome) → ArePlain (entries p o)
entries_plain (any.Async p) o = all_plain p.state.me.0 (step p.state o).entries (own_entries p.state o)
entries_plain _ o = tt

-- before the first event

pub start_caused : (plan : Plan) → RunFits (beginning plan) [] (start plan)
    → CausesKept (beginning plan) [] (start plan).kernel
start_caused plan told = record {
  fit = record {
    had = tt;
    phones = told.routes.phones;
    kept = λ n c l is has. absurd (none-some _ (told.kernel.areas.calls n c is).made);
  };
  whole = tt;
}

-- each event

abbrev KeptAfter : Beginning → List Entry → RunTransition → Type 0
KeptAfter b h next = CausesKept b (h ++ next.entries) next.state.kernel

module _ (b : Beginning) (h : List Entry) (now : RunState) (told : RunFits b h now)
    (f : CausesKept b h now.kernel) where
  happens_kept : (e : Event) (next : RunTransition) → Happens now e next → KeptAfter b h next
  happens_kept e next (happens.gone t) = causes_gone b h now.kernel told.kernel f t
  happens_kept e next (happens.served t p _ _) =
      let s : Served = serve now.kernel t (wanted p) in
      let own : List Entry = entries p s.outcome in
      subst (λ (es : List Entry). CausesKept b es s.state) (append_assoc h (served_entries t (wanted p) s) own)
      (causes_plain b (h ++ served_entries t (wanted p) s) own s.state (entries_plain p s.outcome)
      (causes_serve b h now.kernel told.kernel f t (wanted p)))
  happens_kept e next (happens.killed t alive) = causes_kill b h now.kernel told.kernel f t alive
  happens_kept e next (happens.hung_up t phone _) = causes_serve b h now.kernel told.kernel f t (request.Hangup phone)
  happens_kept e next (happens.nothing _ _) = rw (append-nil h) f
  happens_kept e next (happens.spawned place template _ at) =
      subst (λ (o : Option TaskNo). CausesKept b (h ++ (spawn_event now.kernel template.limit o).entries)
      (spawn_event now.kernel template.limit o).state) (sym told.names)
      (causes_spawn b h now.kernel template.limit
      (all_at IsSoundTask now.templates place template told.templates at).some_phones told.kernel f)

  pub turn_kept : (e : Event) → KeptAfter b h (turn now e)
  turn_kept e = happens_kept e (turn now e) (what_happens now e)

-- all events

-- the entries fit the state, and had their causes
pub record IsCaused (b : Beginning) (h : List Entry) (now : RunState) : Type 0 where
  pub told : RunFits b h now
  pub causes : CausesKept b h now.kernel

pub lives_told : (b : Beginning) (h : List Entry) (now : RunState) → IsCaused b h now → AreLawful (newest_first h)
lives_told b h now so = subst Lawful (tales_are h []) so.told.kernel.told.lawful

-- what each event keeps beside, a run keeps that had it at first
module _ (plan : Plan) (events : List Event) (sound : IsSound plan)
    (may : MayAllCome (length plan.tasks) (length plan.templates) events) where
  abbrev b : Beginning
  b = beginning plan

  -- both hold
  record Holds (K : List Entry → RunState → Type 0) (h : List Entry) (now : RunState) : Type 0 where
    pub causes : CausesKept b h now.kernel
    pub kept : K h now

  pub caused_run_keeps : (K : List Entry → RunState → Type 0)
      → ((h : List Entry) (now : RunState) (e : Event) → IsCaused b h now
      → IsCaused b (h ++ (turn now e).entries) (turn now e).state → K h now
      → K (h ++ (turn now e).entries) (turn now e).state)
      → K [] (start plan) → IsCaused b (run plan events) (state_after (start plan) events)
      × K (run plan events) (state_after (start plan) events)
  caused_run_keeps K keep first =
      let it : Holds K (run plan events) (state_after (start plan) events) =
      run_keeps plan events sound may (Holds K)
      (λ h now e told after i.
      let causes : CausesKept b (h ++ (turn now e).entries) (turn now e).state.kernel =
      turn_kept b h now told i.causes e in
      record {
        causes = causes;
        kept = keep h now e (record { told = told; causes = i.causes })
            (record { told = after; causes = causes }) i.kept;
      })
      (record { causes = start_caused plan (start_told plan sound); kept = first }) in
      (record { told = run_told plan events sound may; causes = it.causes }, it.kept)

pub run_causes : (plan : Plan) (events : List Event) → IsSound plan
    → MayAllCome (length plan.tasks) (length plan.templates) events
    → CausesKept (beginning plan) (run plan events) (state_after (start plan) events).kernel
run_causes plan events sound may =
    run_keeps plan events sound may (λ h now. CausesKept (beginning plan) h now.kernel)
    (λ h now e told _ f. turn_kept (beginning plan) h now told f e) (start_caused plan (start_told plan sound))

pub run_is_caused : (plan : Plan) (events : List Event) → IsSound plan
    → MayAllCome (length plan.tasks) (length plan.templates) events
    → PhonesChangeForCause (beginning plan) (run plan events)
run_is_caused plan events sound may =
    kept_are_caused (beginning plan) (run plan events) (state_after (start plan) events).kernel
    (run_causes plan events sound may)
