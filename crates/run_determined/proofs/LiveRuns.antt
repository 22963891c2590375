-- In the run of a sound script a fibril that waits for an answer waits for a call that is still to be answered.
use Rattle.std.proofs.Common.{◌≡◌, ℕ, suc, ◌-◌, true, false, inl, inr, List, [], ◌∷◌, ◌++◌, length, Option, None, Some, refl, ap, sym, subst, ◌∙◌, append_assoc}
use Rattle.std.specs.Prelude.{not, slice_get}
use Rattle.std.proofs.lemmas.Bool.{false≢true}
use Rattle.std.proofs.lemmas.List.{append-nil}
use Rattle.ipc_ids.specs.declared.numbers.TaskNo.{TaskNo}
use Rattle.ipc_ids.specs.declared.message.Request.TheVariants as request
use Rattle.ipc_ids.specs.declared.message.Outcome.{Outcome}
use Rattle.ipc_ids.specs.declared.message.Why.TheVariants as why
use Rattle.ipc_ids.specs.declared.message.Event.{Event}
use Rattle.ipc_ids.specs.declared.entry.Entry.{Entry}
use Rattle.ipc_ids.specs.declared.entry.Entry.TheVariants as entry
use Rattle.ipc_ids.specs.Tales as tale
use Rattle.ipc_ids.specs.Tales.{Tale, tales, past}
use Rattle.ipc_ids.specs.Life.{Life, Back, life, is_killed}
use Rattle.ipc_ids.specs.Replies.{Waiter}
use Rattle.ipc_ids.specs.Holdings.{newest_first, making}
use Rattle.script_lines.specs.Plan.{Plan}
use Rattle.script_lines.specs.Sound.{IsSound}
use Rattle.script_reader.specs.Schedule.{MayAllCome}
use Rattle.call_slab.specs.declared.call.Call.{Call}
use Rattle.call_slab.specs.declared.call.Place.{Place}
use Rattle.call_slab.specs.declared.call.Place.TheVariants as place
use Rattle.answerbox.specs.Calls.{call_at}
use Rattle.switchboard.specs.State.{alive_in, is_alive}
use Rattle.switchboard.specs.Serving.{Served}
use Rattle.kernel_core.specs.Kernel.{serve, kill_event, next_task, named, spawning}
use Rattle.kernel_core.specs.History.{life_at, IsGone, TellsOf, served_entries}
use Rattle.kernel_core.proofs.HonestEvents.{serve_is_honest, kill_is_honest}
use Rattle.async_task.specs.Program.{AsyncTask}
use Rattle.async_task.specs.Steps.{step}
use Rattle.async_laws.specs.Links.{AreOwn}
use Rattle.async_laws.proofs.OwnEntries.{own_entries}
use Rattle.task_system.specs.declared.any.AnyProgram.{AnyProgram}
use Rattle.task_system.specs.declared.any.AnyProgram.TheVariants as any
use Rattle.task_system.specs.Any.{wanted, entries}
use Rattle.task_system.specs.Run.{RunState, RunTransition, start, run, state_after, turn, step_served}
use Rattle.route_laws.specs.Leads.{Beginning}
use Rattle.route_laws.proofs.PhoneEvents.{not_ended, tales_are}
use Rattle.run_laws.specs.RunHistory.{beginning, ProgramFits, RunFits}
use Rattle.run_laws.proofs.RunHistories.{number_of}
use Rattle.run_determined.specs.PhoneCauses.{HadCause}
use Rattle.run_determined.specs.LiveWaits.{IsStillToBeAnswered, WaitsForLiveCalls, WaitsAreForLiveCalls}
use Rattle.run_determined.proofs.AsyncSteps.{AreSentAs, step_sends}
use Rattle.run_determined.proofs.ByEvent as happens
use Rattle.run_determined.proofs.ByEvent.{Happens, what_happens, may_part}
use Rattle.run_determined.proofs.CauseRuns.{IsCaused, lives_told, caused_run_keeps}
use Rattle.run_determined.proofs.LiveCalls.{AreLawful, IsOnItsWay, IsMadeBy, own_call}
use Rattle.run_determined.proofs.LiveEvents.{KeepsSends, start_sends, step_kept, quiet_kept}

-- ---- programs

program_sends : (p : AnyProgram) (o : Outcome) → AreSentAs o (entries p o)
program_sends (any.Async p) o = step_sends p.state o
program_sends _ o = tt

program_owns : (h : List Entry) (u : ℕ) (p : AnyProgram) (o : Outcome) → ProgramFits h u p → AreOwn u (entries p o)
program_owns h u (any.Async p) o fits =
    subst (λ (n : ℕ). AreOwn n (step p.state o).entries) fits.0.me (own_entries p.state o)
program_owns h u _ o fits = tt

-- ---- each event

module _ (b : Beginning) (h : List Entry) (now : RunState) (told : RunFits b h now) (t : ℕ)
    (kept : KeepsSends t h) where
  abbrev After : RunTransition → Type 0
  After next = AreLawful (newest_first (h ++ next.entries)) → HadCause b (newest_first (h ++ next.entries))
      → KeepsSends t (h ++ next.entries)

  served_sends : (u : TaskNo) (p : AnyProgram) → is_alive now.kernel u ≡ true
      → slice_get now.programs (u.0 - 1) ≡ Some p → After (step_served now u p (serve now.kernel u (wanted p)))
  served_sends u p alive at l had =
      let s : Served = serve now.kernel u (wanted p) in
      let own : List Entry = entries p s.outcome in
      let parts : served_entries u (wanted p) s ++ own
      ≡ entry.Head u (wanted p) ∷ (s.entries ++ (entry.Outcome s.outcome ∷ own)) =
      ap (λ (es : List Entry). entry.Head u (wanted p) ∷ es)
      (append_assoc s.entries (entry.Outcome s.outcome ∷ []) own) in
      let fits : ProgramFits h u.0 p =
      subst (λ (n : ℕ). ProgramFits h n p) (number_of now.kernel.tasks.alive u.0 alive)
      (told.programs (u.0 - 1) p at) in
      subst (λ (es : List Entry). KeepsSends t (h ++ es)) (sym parts)
      (step_kept b t h kept u (wanted p) s.entries s.outcome own (serve_is_honest now.kernel u (wanted p))
      (program_owns h u.0 p s.outcome fits) (program_sends p s.outcome)
      (subst (λ (es : List Entry). AreLawful (newest_first (h ++ es))) parts l)
      (subst (λ (es : List Entry). HadCause b (newest_first (h ++ es))) parts had))

  made_sends : (o : Option TaskNo) (limit : ℕ)
      → AreLawful (newest_first (h ++ (spawning now.kernel (next_task now.kernel) limit o).entries))
      → KeepsSends t (h ++ (spawning now.kernel (next_task now.kernel) limit o).entries)
  made_sends None limit l =
      quiet_kept b t h kept (entry.Spawn (next_task now.kernel)) (tale.Spawn (next_task now.kernel).0) [] refl
      (λ n. refl) (λ n. refl) (λ n g. g) (λ e. cc e) tt l
  made_sends (Some u) limit l =
      quiet_kept b t h kept (entry.Spawn (next_task now.kernel)) (tale.Spawn (next_task now.kernel).0) _ refl
      (λ n. refl) (λ n. refl) (λ n g. g) (λ e. cc e) (refl, tt) l

  turned_sends : (e : Event) (next : RunTransition) → Happens now e next → After next
  turned_sends e next (happens.gone u) = λ l _.
      quiet_kept b t h kept (entry.Gone u) (tale.Gone u.0) [] refl (λ n. refl) (λ n. refl) (λ n g. g)
      (λ e. cc e) tt l
  turned_sends e next (happens.served u p alive at) = served_sends u p alive at
  turned_sends e next (happens.killed u _) = λ l _.
      quiet_kept b t h kept (entry.Kill u) (tale.Kill u.0) (kill_event now.kernel u).entries refl (λ n. refl)
      (λ n. refl) (λ n g. g) (λ e. cc e) (kill_is_honest now.kernel u) l
  turned_sends e next (happens.hung_up u phone _) = λ l had.
      let s : Served = serve now.kernel u (request.Hangup phone) in
      step_kept b t h kept u (request.Hangup phone) s.entries s.outcome []
      (serve_is_honest now.kernel u (request.Hangup phone)) tt tt l had
  turned_sends e next (happens.nothing _ _) = λ _ _. subst (KeepsSends t) (sym (append-nil h)) kept
  turned_sends e next (happens.spawned place template _ _) = λ l _.
      made_sends (named now.kernel now.names) template.limit l

abbrev AllKeepSends : List Entry → RunState → Type 0
AllKeepSends h now = (t : ℕ) → KeepsSends t h

-- ---- who waits

-- between two events no call goes back
not_back : (p : List Tale) (n caller : ℕ) (o : Option Call) → TellsOf p n o → life n p ≡ Back caller → ⊥
not_back p n caller None told is = subst IsGone is told
not_back p n caller (Some c) told is = never c.from.task.0 c.place (sym is ∙ told.place) where
  never : (u : ℕ) (at : Place) → Back caller ≡ life_at u at → ⊥
  never u (place.Incoming t) e = cc
  never u (place.Dispatched t) e = cc
  never u (place.Answers t) e = cc

on_its_way_is : (t : ℕ) (l : Life) → ((caller : ℕ) → l ≡ Back caller → ⊥) → IsOnItsWay t l → IsStillToBeAnswered t l
on_its_way_is t (Back u) not h = absurd (not u refl)
on_its_way_is t _ not h = h

waits_live : (b : Beginning) (h : List Entry) (now : RunState) → IsCaused b h now → AllKeepSends h now → (i : ℕ)
    (p : AsyncTask) → slice_get now.programs i ≡ Some (any.Async p) → alive_in now.kernel.tasks.alive (suc i) ≡ true
    → WaitsForLiveCalls (suc i) (past h) p.state
waits_live b h now it sends i p at alive f n blocked =
    let t : ℕ = suc i in
    let q : List Entry = newest_first h in
    let fits = (it.told.programs i (any.Async p) at).0 in
    let awaited = fits.wakes.wakes f (why.Answer n) blocked in
    let d : Waiter = record { fibril = f.0; slot = awaited.0 } in
    let past_is : past h ≡ tales q = tales_are h [] in
    let lives : is_killed t (tales q) ≡ false =
    ap (is_killed t) (sym past_is) ∙ it.told.kernel.told.ended t
    ∙ not_ended now.kernel.tasks.alive t alive in
    let made : IsMadeBy t n.0 (making n.0 q) =
    (sends t).sends n.0 d (fits.fits.answers.was_sent n.0 d awaited.1) in
    elim (own_call b t n.0 q (lives_told b h now it) it.causes.fit.had lives made) [
      | inl on ↦ on_its_way_is t (life n.0 (past h))
          (λ caller is. not_back (past h) n.0 caller (call_at now.kernel.calls n.0)
          (it.told.kernel.told.calls n.0) is)
          (subst (λ (x : List Tale). IsOnItsWay t (life n.0 x)) (sym past_is) on)
      | inr over ↦
          absurd (false≢true (sym (fits.fits.answers.not_given n.0 d awaited.1) ∙ (sends t).gives n.0 over.1))
    ]

pub waits_are_live : (plan : Plan) (events : List Event) → IsSound plan
    → MayAllCome (length plan.tasks) (length plan.templates) events → WaitsAreForLiveCalls plan events
waits_are_live plan events sound may done later is i p at alive =
    let b : Beginning = beginning plan in
    let it = caused_run_keeps plan done sound (may_part plan events done later is may) AllKeepSends
    (λ h now e so comes sends t.
    turned_sends b h now so.told t (sends t) e (turn now e) (what_happens now e)
    (lives_told b (h ++ (turn now e).entries) (turn now e).state comes) comes.causes.fit.had)
    (λ t. start_sends t) in
    waits_live b (run plan done) (state_after (start plan) done) it.0 it.1 i p at alive
