-- Each event of the kernel keeps the causes.
use Rattle.std.proofs.Common.{◌≡◌, ℕ, ◌≤◌, true, false, not, List, [], ◌∷◌, ◌++◌, Option, None, Some, Result, Ok, Err, refl, sym, subst, ◌∙◌}
use Rattle.std.specs.Prelude.{◌==◌, if◌then◌else◌}
use Rattle.std.proofs.lemmas.Bool.{eq-eqb}
use Rattle.ipc_ids.specs.declared.numbers.Code.{Code}
use Rattle.ipc_ids.specs.declared.message.Msg.{Msg}
use Rattle.ipc_ids.specs.Methods.{kind_of}
use Rattle.switchboard.specs.Areas.{done_or_refused}
use Rattle.address_space.specs.Memory as spaces
use Rattle.kernel_core.specs.Calling.{is_callable}
use Rattle.kernel_core.proofs.ByRequest as join
use Rattle.ipc_ids.specs.declared.numbers.TaskNo.{TaskNo}
use Rattle.ipc_ids.specs.declared.message.PhoneState.{PhoneState}
use Rattle.ipc_ids.specs.declared.message.PhoneState.TheVariants.{Free, Connected, Slammed}
use Rattle.ipc_ids.specs.declared.message.Request.{Request}
use Rattle.ipc_ids.specs.declared.message.Request.TheVariants as request
use Rattle.ipc_ids.specs.declared.message.Outcome.{Outcome}
use Rattle.ipc_ids.specs.declared.message.Outcome.TheVariants as outcome
use Rattle.ipc_ids.specs.declared.entry.Entry.{Entry}
use Rattle.ipc_ids.specs.declared.entry.Entry.TheVariants as entry
use Rattle.ipc_ids.specs.Tales.{past}
use Rattle.ipc_ids.specs.Life.{life}
use Rattle.ipc_ids.specs.Holdings.{on_top, newest_first, present, Making, making}
use Rattle.ipc_ids.proofs.LawfulAreas.{on_top-append, newest_first-append}
use Rattle.answerbox.specs.Calls.{CallTable}
use Rattle.switchboard.specs.State.{KernelState, phone_at, label_of, is_alive, with_task}
use Rattle.switchboard.specs.Serving.{Served}
use Rattle.ipc_ids.specs.Effects.{is_effect, AreEffects}
use Rattle.ipc_ids.proofs.Common.{is_some}
use Rattle.kernel_core.specs.HangingUp.{hangup_over}
use Rattle.kernel_core.specs.Request.{serve_request}
use Rattle.kernel_core.specs.Kernel.{serve, kill_event, next_task, named, spawning, spawn_event}
use Rattle.kernel_core.specs.History.{life_at, TellsOf, IsTold, HistoryFits, served_entries, killed_entries, gone_entries}
use Rattle.kernel_core.proofs.HonestEvents.{serve_is_honest}
use Rattle.kernel_core.proofs.SpawnedHistories.{new_free}
use Rattle.route_laws.specs.Leads.{Beginning}
use Rattle.route_laws.proofs.PhoneSteps.{state_told}
use Rattle.route_laws.proofs.PhoneEvents.{free_more, named_is, tales_are}
use Rattle.route_laws.proofs.PhoneRequests.{AreMadeSo}
use Rattle.run_determined.specs.PhoneCauses.{IsCause, HasHungUp, IsDoneAsTold, IsJustMade, TellsItsCall, HadCause, AllHaveCause, PhonesChangeForCause, IsWhole}
use Rattle.run_determined.proofs.CauseSteps.{WholeFit, same_told, whole_next, caused, ArePlain, plain_told, plains_told, phone_told}
use Rattle.run_determined.proofs.CauseRequests.{no_hangup, ArePlacedSo, served}
use Rattle.run_determined.proofs.CauseKills.{kill_kept}

-- what holds between two events: the changes so far had their causes, and the state is as the entries tell
abbrev pub CausesKept : Beginning → List Entry → KernelState → Type 0
CausesKept b h k = WholeFit b (newest_first h) k.tasks.phones k.calls

placed_so : (h : List Entry) (k : KernelState) → HistoryFits h k → ArePlacedSo (newest_first h) k.calls
placed_so h k fits n c is =
    let it : IsTold (past h) n c = subst (TellsOf (past h) n) is (fits.told.calls n) in
    subst (λ p. life n p ≡ life_at c.from.task.0 c.place) (tales_are h []) it.place

made_so : (h : List Entry) (k : KernelState) → HistoryFits h k → AreMadeSo (newest_first h) k.calls
made_so h k fits n c is = let it = fits.areas.calls n c is in (it.asked, it.made)

-- ---- a request

-- effects come within the present event
pub effects_now : (es q : List Entry) → AreEffects es → present (on_top es q) ≡ present q
effects_now [] q effects = refl
effects_now (e ∷ es) q effects = effects_now es (e ∷ q) effects.1 ∙ one e effects.0 where
  one : (e : Entry) → is_effect e ≡ true → present (e ∷ q) ≡ present q
  one (entry.Head t asked) is = absurd (cc is)
  one (entry.Kill t) is = absurd (cc is)
  one (entry.Gone t) is = absurd (cc is)
  one (entry.Spawn t) is = absurd (cc is)
  one _ is = refl

-- what is told of a hangup is so
hangup_done : (t : TaskNo) (p : ℕ) (q : List Entry) (k : KernelState) (o : Option PhoneState)
    → IsDoneAsTold (on_top (hangup_over k t p o).entries (entry.Head t (request.Hangup p) ∷ q))
    (entry.Outcome (hangup_over k t p o).outcome)
hangup_done t p q k (Some Slammed) = refl
hangup_done t p q k (Some (Connected u)) = refl
hangup_done t p q k _ = tt

-- of another request it says nothing
told_other : (r : List Entry) (o : Outcome) (head : Option Entry) → present r ≡ head → HasHungUp r head
    → IsDoneAsTold r (entry.Outcome o)
told_other r outcome.Done head now h = subst (HasHungUp r) (sym now) h
told_other r _ head now h = tt

done_told : (t : TaskNo) (q : List Entry) (k : KernelState) (asked : Request)
    → IsDoneAsTold (on_top (serve_request k t asked).entries (entry.Head t asked ∷ q))
    (entry.Outcome (serve_request k t asked).outcome)
done_told t q k (request.Hangup p) = hangup_done t p q k (phone_at k t p)
done_told t q k asked =
    told_other (on_top (serve_request k t asked).entries (entry.Head t asked ∷ q)) (serve_request k t asked).outcome
    (Some (entry.Head t asked))
    (effects_now (serve_request k t asked).entries (entry.Head t asked ∷ q) (serve_is_honest k t asked).effects) tt

-- what is told of a call

no_call_told : (r : List Entry) (o : Outcome) → join.TellsNoCall o → TellsItsCall r (entry.Outcome o)
no_call_told r (outcome.Accepted n) no_call = absurd no_call
no_call_told r _ no_call = tt

done_tells_none : {A : Type 0} (r : List Entry) (told : Result A Code)
    → TellsItsCall r (entry.Outcome (done_or_refused told))
done_tells_none r (Ok x) = tt
done_tells_none r (Err code) = tt

module _ (t : TaskNo) (asked : Request) (q : List Entry) (k : KernelState)
    (now : (asked ≡ request.Receive → ⊥) → present q ≡ Some (entry.Head t asked)) where
  -- the call with number n has just been made so
  just_made : (n p : ℕ) (msg : Msg) (before : Option Making) → asked ≡ request.Call p msg
      → not (is_callable (kind_of msg.method)) ≡ false
      → IsJustMade (present q)
      (if n == n then Some (record { caller = t.0; method = msg.method; asked = present q }) else before)
  just_made n p msg before is callable =
      let here = now (λ e. let z : request.Call p msg ≡ request.Receive = sym is ∙ e in cc) in
      rw (eq-eqb n n refl)
      (subst (λ (o : Option Entry). IsJustMade o (Some (record { caller = t.0; method = msg.method; asked = o })))
      (sym here) (refl, refl, no_hangup msg.method callable))

  call_told : (s : Served) → join.Joins t asked k s → TellsItsCall (on_top s.entries q) (entry.Outcome s.outcome)
  call_told s (join.plain o is) = no_call_told q o is.0
  call_told s (join.vanished n c o _ _ _ is) = no_call_told (on_top s.entries q) o is.0
  call_told s (join.back p msg _ code is may _ _) =
      just_made k.calls.next_number p msg (making k.calls.next_number q) is may.callable
  call_told s (join.sent p msg u is may _ _) =
      just_made k.calls.next_number p msg (making k.calls.next_number q) is may.callable
  call_told s (join.sent_keeping p msg u l is may _ _) =
      just_made k.calls.next_number p msg (making k.calls.next_number q) is may.callable
  call_told s (join.sent_carrying p msg u bytes is may _ _) =
      just_made k.calls.next_number p msg (making k.calls.next_number q) is may.callable
  call_told s (join.sent_cut p msg u is may _) =
      just_made k.calls.next_number p msg (making k.calls.next_number q) is may.callable
  call_told s (join.made base pages rights _) = done_tells_none (on_top s.entries q) (spaces.make k.memory t base pages rights).told
  call_told s (join.dropped base _) = done_tells_none (on_top s.entries q) (spaces.drop_area k.memory t base).told
  call_told s (join.poked at bytes _) = done_tells_none (on_top s.entries q) (spaces.write k.memory t at bytes).told
  call_told s _ = tt

request_told : (t : TaskNo) (q : List Entry) (k : KernelState) (asked : Request)
    → TellsItsCall (on_top (serve_request k t asked).entries (entry.Head t asked ∷ q))
    (entry.Outcome (serve_request k t asked).outcome)
request_told t q k asked =
    join.by_request (List Entry) on_top (λ _. refl) (λ xs ys p. on_top-append xs ys p) t asked
    (λ r j. (asked ≡ request.Receive → ⊥) → present r ≡ Some (entry.Head t asked))
    (λ r o j. TellsItsCall r (entry.Outcome o))
    (λ is r j n c _ _ _ other. absurd (other is)) (λ r j s now come. call_told t asked r j now s come)
    (entry.Head t asked ∷ q) k (λ _. refl)

outcome_told : (b : Beginning) (rows : List (List PhoneState)) (calls : CallTable) (q : List Entry) (o : Outcome)
    → IsDoneAsTold q (entry.Outcome o) → TellsItsCall q (entry.Outcome o) → WholeFit b q rows calls
    → WholeFit b (entry.Outcome o ∷ q) rows calls
outcome_told b rows calls q o done told f = record {
  fit = record {
    had = (f.fit.had, caused b q (entry.Outcome o) tt (whole_next q _ f.whole) done tt tt told tt);
    phones = f.fit.phones;
    kept = same_told q (entry.Outcome o ∷ q) calls (λ n. (refl, refl)) f.fit.kept;
  };
  whole = tt;
}

module _ (b : Beginning) (h : List Entry) (k : KernelState) (fits : HistoryFits h k) (f : CausesKept b h k) where
  pub causes_serve : (t : TaskNo) (asked : Request)
      → CausesKept b (h ++ served_entries t asked (serve k t asked)) (serve k t asked).state
  causes_serve t asked =
      let s : Served = serve_request k t asked in
      let q : List Entry = entry.Head t asked ∷ newest_first h in
      rw (
        newest_first-append h (served_entries t asked (serve k t asked)),
        on_top-append s.entries (entry.Outcome s.outcome ∷ []) q,
      )
      (outcome_told b s.state.tasks.phones s.state.calls (on_top s.entries q) s.outcome
      (done_told t (newest_first h) k asked) (request_told t (newest_first h) k asked)
      (served b t asked (newest_first h) k fits.sound (made_so h k fits) (placed_so h k fits)
      (plain_told b k.tasks.phones k.calls (newest_first h) (entry.Head t asked) tt f)))

  pub causes_kill : (t : TaskNo) → is_alive k t ≡ true
      → CausesKept b (h ++ killed_entries t (kill_event k t)) (kill_event k t).state
  causes_kill t alive =
      rw (newest_first-append h (killed_entries t (kill_event k t)))
      (kill_kept b t (entry.Kill t ∷ newest_first h) k fits.sound alive refl
      (plain_told b k.tasks.phones k.calls (newest_first h) (entry.Kill t) tt f))

  pub causes_gone : (t : TaskNo) → CausesKept b (h ++ gone_entries t) k
  causes_gone t =
      rw (newest_first-append h (gone_entries t))
      (plain_told b k.tasks.phones k.calls (newest_first h) (entry.Gone t) tt f)

-- entries that tell neither of phones nor of calls come behind an event
pub causes_plain : (b : Beginning) (h es : List Entry) (k : KernelState) → ArePlain es → CausesKept b h k
    → CausesKept b (h ++ es) k
causes_plain b h es k plain f =
    rw (newest_first-append h es) (plains_told b k.tasks.phones k.calls es (newest_first h) plain f)

-- ---- a task that is made

module _ (b : Beginning) (h : List Entry) (k : KernelState) (limit : ℕ) (some : 1 ≤ limit) (fits : HistoryFits h k)
    (f : CausesKept b h k) where
  -- the head, over the phones of one task more
  begun : WholeFit b (entry.Spawn (next_task k) ∷ newest_first h) (with_task k limit).tasks.phones k.calls
  begun =
      let g = plain_told b k.tasks.phones k.calls (newest_first h) (entry.Spawn (next_task k)) tt f in
      record {
        fit = record {
          had = g.fit.had;
          phones = λ t p. g.fit.phones t p ∙ sym (free_more k.tasks.phones limit t p);
          kept = g.fit.kept;
        };
        whole = tt;
      }

  made : (o : Option TaskNo) → ((u : TaskNo) → o ≡ Some u → b.names ≡ Some u)
      → WholeFit b (on_top (spawning k (next_task k) limit o).entries (newest_first h))
      (spawning k (next_task k) limit o).state.tasks.phones (spawning k (next_task k) limit o).state.calls
  made None names = begun
  made (Some u) names =
      let t : TaskNo = next_task k in
      let rows : List (List PhoneState) = (with_task k limit).tasks.phones in
      let q : List Entry = entry.Spawn t ∷ newest_first h in
      let free : phone_at (with_task k limit) t 0 ≡ Some Free =
      new_free k (with_task k limit) limit t refl refl fits.sound.tasks.paired some in
      phone_told b rows k.calls q (label_of t 0) (Connected u) (λ e. cc e)
      (is_some (phone_at (with_task k limit) t 0) Free free)
      (subst (λ (s : PhoneState). IsCause b.names (label_of t 0) q s (Connected u))
      (sym (state_told b.wires q rows begun.fit.phones t.0 0 Free free)) (refl, refl, names u refl))
      tt begun.fit

pub causes_spawn : (b : Beginning) (h : List Entry) (k : KernelState) (limit : ℕ) → 1 ≤ limit → HistoryFits h k
    → CausesKept b h k → CausesKept b (h ++ (spawn_event k limit b.names).entries) (spawn_event k limit b.names).state
causes_spawn b h k limit some fits f =
    rw (newest_first-append h (spawn_event k limit b.names).entries)
    (made b h k limit some fits f (named k b.names) (named_is k b.names))

-- ---- the law

pub had_before : (b : Beginning) (es p : List Entry) → HadCause b (on_top es p) → HadCause b p
had_before b [] p l = l
had_before b (e ∷ es) p l = let m : HadCause b (e ∷ p) = had_before b es (e ∷ p) l in m.0

all_had : (b : Beginning) (es p : List Entry) → HadCause b (on_top es p) → IsWhole (on_top es p) → AllHaveCause b p es
all_had b [] p l whole = whole
all_had b (e ∷ es) p l whole = let m : HadCause b (e ∷ p) =
    had_before b es (e ∷ p) l in (m.1, all_had b es (e ∷ p) l whole)

pub kept_are_caused : (b : Beginning) (h : List Entry) (k : KernelState) → CausesKept b h k → PhonesChangeForCause b h
kept_are_caused b h k f = all_had b h [] f.fit.had f.whole
