-- A kill keeps the causes.
use Rattle.std.proofs.Common.{◌≡◌, ℕ, ◌+◌, Bool, true, false, List, ◌∷◌, length, Option, None, Some, refl, ap, sym, subst, ◌∙◌, inr}
use Rattle.std.specs.Prelude.{⊤, ◌==◌}
use Rattle.std.specs.Option.{option_to_list}
use Rattle.std.proofs.lemmas.Bool.{eqb-true, false≢true}
use Rattle.ipc_ids.specs.declared.numbers.TaskNo.{TaskNo}
use Rattle.ipc_ids.specs.declared.numbers.Label.{Label}
use Rattle.ipc_ids.specs.declared.message.PhoneState.{PhoneState}
use Rattle.ipc_ids.specs.declared.message.PhoneState.TheVariants.{Free, Connected, Slammed}
use Rattle.ipc_ids.specs.declared.entry.Entry.{Entry}
use Rattle.ipc_ids.specs.declared.entry.Entry.TheVariants as entry
use Rattle.ipc_ids.specs.Codes.{ehangup}
use Rattle.ipc_ids.specs.Holdings.{on_top, present}
use Rattle.ipc_ids.proofs.LawfulAreas.{on_top-append}
use Rattle.ipc_ids.proofs.Common.{is_some}
use Rattle.call_slab.specs.declared.call.Call.{Call}
use Rattle.call_slab.specs.declared.call.Place.TheVariants.{Incoming, Dispatched, Answers}
use Rattle.answerbox.specs.Calls.{calls_at, calls_by, with_record}
use Rattle.address_space.specs.Memory.{first_area, count_areas}
use Rattle.switchboard.specs.State.{KernelState, Transition, then_do, drain, phone_at, label_of, is_alive, width, mark_ended}
use Rattle.switchboard.specs.Sound.{HaveKeepers, IsSound}
use Rattle.switchboard.specs.Board.{IsPendingAt}
use Rattle.switchboard.specs.Kept.{AreKept, kept_phone, lent_phone, kept_note}
use Rattle.switchboard.specs.Joins.{bare_reply, lives, settle_for, drop_answer, forget_call, hang_up, slam, slam_at}
use Rattle.switchboard.specs.Areas.{lose_first_area}
use Rattle.cleanup.specs.Kill.{task_no, hang_up_at, hang_up_own_phones, slam_phones_of, slam_other, slam_phones_to, first_at, settle_call, settle_incoming, settle_dispatched, drop_answers, first_call_of, forget_calls_elsewhere, drop_first_area, drop_areas, kill}
use Rattle.switchboard.proofs.Histories.{then_tells, each_tells, drain_tells}
use Rattle.switchboard.proofs.Repeats.{by_test}
use Rattle.switchboard.proofs.SoundJoins.{incoming_pending, held_pending}
use Rattle.cleanup.proofs.Silence.{IsEnding, IsAlone}
use Rattle.cleanup.proofs.Queues.{IsLive, IsUncalled, IsIdle, IsUnanswered, front_at, call_from, forget_step, incoming_alone, dispatched_uncalled, drop_idle, forget_unanswered}
use Rattle.kernel_core.proofs.InEvent.{same_task, same_place-true}
use Rattle.kernel_laws.proofs.KillParts.{alone_then, uncalled_then, idle_then, unanswered_then}
use Rattle.route_laws.specs.Leads.{Beginning, phone_in}
use Rattle.route_laws.specs.PhoneLaw.{HangsUp, Kills}
use Rattle.route_laws.proofs.PhoneSteps.{state_told}
use Rattle.run_determined.specs.PhoneCauses.{IsCause}
use Rattle.run_determined.proofs.CauseSteps.{whole_next, plain_told, phone_told, less_told, record_keeps}
use Rattle.run_determined.proofs.CauseCalls.{AfterStep, Fit, hung_up, hung_up_slammed, vanished, declined_told, dropped}

-- the causes fit in a kill of task t, and a fact on the state holds
record FitsWith (b : Beginning) (t : TaskNo) (F : KernelState → Type 0) (q : List Entry)
    (k : KernelState) : Type 0 where
  pub fit : Fit b q k
  pub now : present q ≡ Some (entry.Kill t)
  pub fact : F k

abbrev IsKilling : Beginning → TaskNo → List Entry → KernelState → Type 0
IsKilling b t = FitsWith b t (λ k. ⊤)

-- ---- the phones of t are hung up

hangup_kept : (b : Beginning) (t : TaskNo) (q : List Entry) (k : KernelState) (p : ℕ) (o : Option PhoneState)
    → phone_at k t p ≡ o → IsKilling b t q k
    → IsKilling b t (on_top (hang_up k t p o).entries q) (hang_up k t p o).state
hangup_kept b t q k p (Some Slammed) is h = record {
  fit = hung_up_slammed b t q k p (subst (HangsUp (label_of t p)) (sym h.now) refl) h.fit is;
  now = h.now;
  fact = tt;
}
hangup_kept b t q k p (Some (Connected u)) is h = record {
  fit = hung_up b t q k p (subst (HangsUp (label_of t p)) (sym h.now) refl) h.fit u is;
  now = h.now;
  fact = tt;
}
hangup_kept b t q k p _ is h = h

hangups_kept : (b : Beginning) (t : TaskNo) (q : List Entry) (k : KernelState) → IsKilling b t q k
    → IsKilling b t (on_top (hang_up_own_phones t k).entries q) (hang_up_own_phones t k).state
hangups_kept b t q k h =
    each_tells (List Entry) on_top (λ _. refl) (λ xs ys p. on_top-append xs ys p) (hang_up_at t) (IsKilling b t)
    (λ r j i g. hangup_kept b t r j i (phone_at j t i) refl g) (width k.tasks.phones t.0) 0 q k h

-- ---- the phones that lead to t are slammed

slam_kept : (b : Beginning) (t u : TaskNo) (n : ℕ) (q : List Entry) (k : KernelState) (o : Option PhoneState)
    → phone_at k u n ≡ o → IsKilling b t q k
    → IsKilling b t (on_top (slam t u k n o).entries q) (slam t u k n o).state
slam_kept b t u n q k (Some (Connected v)) is h =
    by_test (λ (s : Transition). IsKilling b t (on_top s.entries q) s.state) (v.0 == t.0) _ _
    (λ e.
    let led : phone_in b.wires u.0 n q ≡ Connected v =
    state_told b.wires q k.tasks.phones h.fit.fit.phones u.0 n (Connected v) is in
    record {
      fit = phone_told b k.tasks.phones k.calls q (label_of u n) Slammed (λ x. cc x)
          (is_some (phone_at k u n) (Connected v) is)
          (subst (λ (s : PhoneState). IsCause b.names (label_of u n) q s Slammed) (sym led)
          (subst (Kills v) (sym h.now) (sym (same_task v t (eqb-true v.0 t.0 e)))))
          (whole_next q (entry.PhoneIs (label_of u n) Slammed) h.fit.whole) h.fit.fit;
      now = h.now;
      fact = tt;
    })
    (λ _. h)
slam_kept b t u n q k _ is h = h

slams_of_kept : (b : Beginning) (t u : TaskNo) (q : List Entry) (k : KernelState) → IsKilling b t q k
    → IsKilling b t (on_top (slam_phones_of t u k).entries q) (slam_phones_of t u k).state
slams_of_kept b t u q k h =
    each_tells (List Entry) on_top (λ _. refl) (λ xs ys p. on_top-append xs ys p) (slam_at t u) (IsKilling b t)
    (λ r j n g. slam_kept b t u n r j (phone_at j u n) refl g) (width k.tasks.phones u.0) 0 q k h

slam_other_kept : (b : Beginning) (t : TaskNo) (n : ℕ) (q : List Entry) (k : KernelState) → IsKilling b t q k
    → IsKilling b t (on_top (slam_other t k n).entries q) (slam_other t k n).state
slam_other_kept b t n q k h =
    by_test (λ (s : Transition). IsKilling b t (on_top s.entries q) s.state) (n + 1 == t.0) _ _ (λ _. h)
    (λ _. slams_of_kept b t (task_no (n + 1)) q k h)

slams_kept : (b : Beginning) (t : TaskNo) (q : List Entry) (k : KernelState) → IsKilling b t q k
    → IsKilling b t (on_top (slam_phones_to t k).entries q) (slam_phones_to t k).state
slams_kept b t q k h =
    each_tells (List Entry) on_top (λ _. refl) (λ xs ys p. on_top-append xs ys p) (slam_other t) (IsKilling b t)
    (λ r j n g. slam_other_kept b t n r j g) (length k.tasks.phones) 0 q k h

-- ---- the calls

-- the entries of a call come within the present event

freed_now : (q : List Entry) (kept : Option Label)
    → present (on_top (option_to_list (kept_note kept Free)) q) ≡ present q
freed_now q None = refl
freed_now q (Some l) = refl

settled : (b : Beginning) (q : List Entry) (k : KernelState) (c : Call) → IsLive k c
    → AreKept k.tasks.phones k.calls → HaveKeepers k.tasks.phones k.calls → IsPendingAt c.place → Fit b q k
    → (o : Option TaskNo) (x : Bool)
    → AfterStep b q (settle_for k c (bare_reply ehangup) None o x)
    × (present (on_top (settle_for k c (bare_reply ehangup) None o x).entries q) ≡ present q)
settled b q k c live kept keepers pending f None x =
    (vanished b k c live kept q f, freed_now (entry.Vanished c.number ∷ q) (kept_phone c))
settled b q k c live kept keepers pending f (Some u) false =
    (vanished b k c live kept q f, freed_now (entry.Vanished c.number ∷ q) (kept_phone c))
settled b q k c live kept keepers pending f (Some u) true = (
  declined_told b k c live kept q f keepers pending (bare_reply ehangup) None u
      (λ e. false≢true (ap (λ code. code.0 == 6) (sym e))),
  freed_now (entry.Answered c.number (bare_reply ehangup) None ∷ q) (lent_phone c),
)

module _ (b : Beginning) (marks : List Bool) (t : TaskNo) where
  -- the causes fit after a step, which stays in the kill
  abbrev Goes : List Entry → Transition → Type 0
  Goes q s = AfterStep b q s × (present (on_top s.entries q) ≡ present q)

  settle_goes : (q : List Entry) (k : KernelState) (c : Call) → IsEnding marks k → IsLive k c → IsPendingAt c.place
      → Fit b q k → Goes q (settle_call k c)
  settle_goes q k c ending live pending f =
      settled b q k c live ending.sound.kept ending.sound.keepers pending f c.caller (lives k c.caller)

  forget_goes : (q : List Entry) (k : KernelState) (c : Call) → IsLive k c → Fit b q k → Goes q (forget_call k c)
  forget_goes q k c live f =
      let d : Call = record c { caller = None } in
      let e : Entry = entry.Forgotten c.number in
      let plain : Fit b (e ∷ q) k = plain_told b k.tasks.phones k.calls q e tt f in (
        subst (λ (j : KernelState). Fit b (e ∷ q) j) (sym (forget_step k c live))
            (record {
              fit = record {
                had = plain.fit.had;
                phones = plain.fit.phones;
                kept = less_told (e ∷ q) k.calls (with_record k.calls d)
                    (record_keeps k.calls c d live refl refl refl) plain.fit.kept;
              };
              whole = tt;
            }),
        refl,
      )

  -- as long as a search finds a call, a step on it
  part_kept : (F : KernelState → Type 0) (next : KernelState → Option Call) (step : KernelState → Call → Transition)
      → ((q : List Entry) (k : KernelState) (c : Call) → FitsWith b t F q k → next k ≡ Some c → Goes q (step k c))
      → ((k : KernelState) (c : Call) → F k → next k ≡ Some c → F (step k c).state)
      → (n : ℕ) (q : List Entry) (k : KernelState) → FitsWith b t F q k
      → FitsWith b t F (on_top (drain next step n k).entries q) (drain next step n k).state
  part_kept F next step goes keeps =
      drain_tells (List Entry) on_top (λ _. refl) (λ xs ys p. on_top-append xs ys p) next step (FitsWith b t F)
      (λ r j c h is.
      let g = goes r j c h is in
      record { fit = g.0; now = g.1 ∙ h.now; fact = keeps j c h.fact is })

  incoming_kept : (q : List Entry) (k : KernelState) → FitsWith b t (IsAlone marks t) q k
      → FitsWith b t (IsAlone marks t) (on_top (settle_incoming t k).entries q) (settle_incoming t k).state
  incoming_kept q k =
      part_kept (IsAlone marks t) (first_at (Incoming t)) settle_call
      (λ r j c h is.
      let e = h.fact.silent.ending in
      let first = front_at marks j (Incoming t) c e is in
      settle_goes r j c e first.0 (incoming_pending c.place t first.1) h.fit)
      (incoming_alone marks t) (calls_at k.calls (Incoming t)) q k

  dispatched_kept : (q : List Entry) (k : KernelState) → FitsWith b t (IsUncalled marks t) q k
      → FitsWith b t (IsUncalled marks t) (on_top (settle_dispatched t k).entries q) (settle_dispatched t k).state
  dispatched_kept q k =
      part_kept (IsUncalled marks t) (first_at (Dispatched t)) settle_call
      (λ r j c h is.
      let e = h.fact.alone.silent.ending in
      let first = front_at marks j (Dispatched t) c e is in
      settle_goes r j c e first.0 (held_pending c.place t first.1) h.fit)
      (dispatched_uncalled marks t) (calls_at k.calls (Dispatched t)) q k

  answers_kept : (q : List Entry) (k : KernelState) → FitsWith b t (IsIdle marks t) q k
      → FitsWith b t (IsIdle marks t) (on_top (drop_answers t k).entries q) (drop_answers t k).state
  answers_kept q k =
      part_kept (IsIdle marks t) (first_at (Answers t)) (drop_answer t)
      (λ r j c h is.
      let e = h.fact.uncalled.alone.silent.ending in
      let first = front_at marks j (Answers t) c e is in (
        dropped b j c first.0 e.sound.kept r h.fit t (same_place-true c.place (Answers t) first.1) (inr h.now),
        freed_now (entry.Dropped c.number t ∷ r) (kept_phone c),
      ))
      (drop_idle marks t) (calls_at k.calls (Answers t)) q k

  forgets_kept : (q : List Entry) (k : KernelState) → FitsWith b t (IsUnanswered marks t) q k
      → FitsWith b t (IsUnanswered marks t) (on_top (forget_calls_elsewhere t k).entries q)
      (forget_calls_elsewhere t k).state
  forgets_kept q k =
      part_kept (IsUnanswered marks t) (first_call_of t) forget_call
      (λ r j c h is. forget_goes r j c (call_from marks t j c h.fact.idle.uncalled.alone.silent.ending is).0 h.fit)
      (forget_unanswered marks t) (calls_by k.calls t) q k

-- ---- the areas of t are dropped

lose_kept : (b : Beginning) (t : TaskNo) (q : List Entry) (k : KernelState) (o : Option ℕ) → Fit b q k
    → AfterStep b q (lose_first_area t k o)
lose_kept b t q k None f = f
lose_kept b t q k (Some base) f = plain_told b k.tasks.phones k.calls q (entry.AreaGone t base) tt f

areas_kept : (b : Beginning) (t : TaskNo) (q : List Entry) (k : KernelState) → Fit b q k
    → AfterStep b q (drop_areas t k)
areas_kept b t q k f =
    each_tells (List Entry) on_top (λ _. refl) (λ xs ys p. on_top-append xs ys p) (drop_first_area t) (Fit b)
    (λ r j i g. lose_kept b t r j (first_area j.memory t) g) (count_areas k.memory t) 0 q k f

-- ---- all parts

-- a part that comes next, where a fact holds of the state before it
then_kept : (b : Beginning) (t : TaskNo) (F G : KernelState → Type 0) (q : List Entry) (first : Transition)
    (part : KernelState → Transition) → G first.state → FitsWith b t F (on_top first.entries q) first.state
    → ((r : List Entry) (j : KernelState) → FitsWith b t G r j
    → FitsWith b t G (on_top (part j).entries r) (part j).state)
    → FitsWith b t G (on_top (then_do first part).entries q) (then_do first part).state
then_kept b t F G q first part fact h keeps =
    then_tells (List Entry) on_top (λ _. refl) (λ xs ys p. on_top-append xs ys p) (FitsWith b t G) first part q
    (keeps (on_top first.entries q) first.state (record { fit = h.fit; now = h.now; fact = fact }))

pub kill_kept : (b : Beginning) (t : TaskNo) (q : List Entry) (k : KernelState) → IsSound k → is_alive k t ≡ true
    → present q ≡ Some (entry.Kill t) → Fit b q k → AfterStep b q (kill k t)
kill_kept b t q k sound alive now f =
    let marks : List Bool = k.tasks.alive in
    let m0 : Transition = hang_up_own_phones t (mark_ended k t) in
    let m1 : Transition = then_do m0 (slam_phones_to t) in
    let m2 : Transition = then_do m1 (settle_incoming t) in
    let m3 : Transition = then_do m2 (settle_dispatched t) in
    let m4 : Transition = then_do m3 (drop_answers t) in
    let m5 : Transition = then_do m4 (forget_calls_elsewhere t) in
    let i0 = hangups_kept b t q (mark_ended k t) (record { fit = f; now = now; fact = tt }) in
    let i1 = then_kept b t (λ j. ⊤) (λ j. ⊤) q m0 (slam_phones_to t) tt i0 (slams_kept b t) in
    let i2 = then_kept b t (λ j. ⊤) (IsAlone marks t) q m1 (settle_incoming t) (alone_then k t sound alive) i1
    (incoming_kept b marks t) in
    let i3 = then_kept b t (IsAlone marks t) (IsUncalled marks t) q m2 (settle_dispatched t)
    (uncalled_then k t sound alive) i2 (dispatched_kept b marks t) in
    let i4 = then_kept b t (IsUncalled marks t) (IsIdle marks t) q m3 (drop_answers t) (idle_then k t sound alive) i3
    (answers_kept b marks t) in
    let i5 = then_kept b t (IsIdle marks t) (IsUnanswered marks t) q m4 (forget_calls_elsewhere t)
    (unanswered_then k t sound alive) i4 (forgets_kept b marks t) in
    then_tells (List Entry) on_top (λ _. refl) (λ xs ys p. on_top-append xs ys p) (Fit b) m5 (drop_areas t) q
    (areas_kept b t (on_top m5.entries q) m5.state i5.fit)
