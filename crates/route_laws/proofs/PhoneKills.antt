-- A kill keeps what the entries tell of phones.
use Rattle.std.proofs.Common.{◌≡◌, ℕ, ◌+◌, Bool, true, List, ◌∷◌, length, Option, None, Some, refl, sym, subst, ◌∙◌}
use Rattle.std.specs.Prelude.{◌==◌}
use Rattle.std.proofs.lemmas.Bool.{eqb-true}
use Rattle.std.proofs.lemmas.Option.{same_Some}
use Rattle.ipc_ids.specs.declared.numbers.TaskNo.{TaskNo}
use Rattle.ipc_ids.specs.declared.message.PhoneState.{PhoneState}
use Rattle.ipc_ids.specs.declared.message.PhoneState.TheVariants.{Free, Connecting, Connected, HungUp, Slammed}
use Rattle.ipc_ids.specs.declared.entry.Entry.{Entry}
use Rattle.ipc_ids.specs.declared.entry.Entry.TheVariants as entry
use Rattle.ipc_ids.specs.Codes.{ehangup}
use Rattle.ipc_ids.specs.Holdings.{on_top, present}
use Rattle.ipc_ids.proofs.LawfulAreas.{on_top-append}
use Rattle.ipc_ids.proofs.Common.{is_some}
use Rattle.call_slab.specs.declared.call.Call.{Call}
use Rattle.call_slab.specs.declared.call.Place.TheVariants.{Incoming, Dispatched, Answers}
use Rattle.answerbox.specs.Calls.{calls_at, calls_by, with_record}
use Rattle.address_space.specs.Memory.{first_area, count_areas}
use Rattle.switchboard.specs.State.{KernelState, Transition, then_do, phone_at, label_of, is_alive, width, mark_ended}
use Rattle.switchboard.specs.Sound.{IsSound}
use Rattle.switchboard.specs.Kept.{AreKept}
use Rattle.switchboard.specs.Joins.{bare_reply, lives, drop_answer, forget_call, hang_up, slam, slam_at}
use Rattle.switchboard.specs.Areas.{lose_first_area}
use Rattle.cleanup.specs.Kill.{task_no, hang_up_at, hang_up_own_phones, slam_phones_of, slam_other, slam_phones_to, first_at, settle_call, settle_incoming, settle_dispatched, drop_answers, first_call_of, forget_calls_elsewhere, drop_first_area, drop_areas, kill}
use Rattle.switchboard.proofs.Histories.{then_tells, each_tells, drain_tells}
use Rattle.switchboard.proofs.Repeats.{by_test}
use Rattle.cleanup.proofs.Silence.{IsEnding, IsAlone, own_phones_hung_up, phones_slammed}
use Rattle.cleanup.proofs.Queues.{IsLive, IsUncalled, IsIdle, IsUnanswered, front_at, call_from, forget_step, incoming_alone, incoming_settled, dispatched_uncalled, dispatched_settled, drop_idle, answers_dropped, forget_unanswered}
use Rattle.cleanup.proofs.Killing.{after_hangups, after_slams, after_incoming, after_dispatched}
use Rattle.kernel_core.proofs.InEvent.{same_task}
use Rattle.route_laws.specs.Leads.{Beginning, leads}
use Rattle.route_laws.specs.PhoneLaw.{HangsUp, Kills}
use Rattle.route_laws.specs.PhoneHistory.{PhonesFit}
use Rattle.route_laws.proofs.PhoneSteps.{target_told, plain_told, phone_told, calls_follow, record_keeps, over_told}
use Rattle.route_laws.proofs.PhoneRequests.{AfterStep, hung_up, settled}

-- the entries fit, in a kill of task t
record IsKilling (b : Beginning) (t : TaskNo) (q : List Entry) (k : KernelState) : Type 0 where
  pub fits : PhonesFit b q k.tasks.phones k.calls
  pub now : present q ≡ Some (entry.Kill t)

-- the phones of t are hung up

hangup_now : (t : TaskNo) (q : List Entry) (k : KernelState) (p : ℕ) (o : Option PhoneState) → present (on_top (hang_up k t p o).entries q) ≡ present q
hangup_now t q k p None = refl
hangup_now t q k p (Some Free) = refl
hangup_now t q k p (Some Connecting) = refl
hangup_now t q k p (Some HungUp) = refl
hangup_now t q k p (Some Slammed) = refl
hangup_now t q k p (Some (Connected u)) = refl

hangups_kept : (b : Beginning) (t : TaskNo) (q : List Entry) (k : KernelState) → IsKilling b t q k → IsKilling b t (on_top (hang_up_own_phones t k).entries q) (hang_up_own_phones t k).state
hangups_kept b t q k h =
    each_tells (List Entry) on_top (λ _. refl) (λ xs ys p. on_top-append xs ys p) (hang_up_at t) (IsKilling b t)
    (λ r j i g. record {
      fits = hung_up b t r j i (phone_at j t i) refl (subst (HangsUp (label_of t i)) (sym g.now) refl) g.fits;
      now = hangup_now t r j i (phone_at j t i) ∙ g.now;
    })
    (width k.tasks.phones t.0) 0 q k h

-- the phones that lead to t are slammed

slam_kept : (b : Beginning) (t u : TaskNo) (n : ℕ) (q : List Entry) (k : KernelState) (o : Option PhoneState) → phone_at k u n ≡ o → IsKilling b t q k → IsKilling b t (on_top (slam t u k n o).entries q) (slam t u k n o).state
slam_kept b t u n q k None is h = h
slam_kept b t u n q k (Some Free) is h = h
slam_kept b t u n q k (Some Connecting) is h = h
slam_kept b t u n q k (Some HungUp) is h = h
slam_kept b t u n q k (Some Slammed) is h = h
slam_kept b t u n q k (Some (Connected v)) is h =
    by_test (λ (s : Transition). IsKilling b t (on_top s.entries q) s.state) (v.0 == t.0) _ _
    (λ e. record {
      fits = phone_told b k.tasks.phones k.calls q (label_of u n) Slammed (is_some (phone_at k u n) (Connected v) is) tt (ceases (eqb-true v.0 t.0 e)) h.fits;
      now = h.now;
    })
    (λ _. h)
  where
    ceases : v.0 ≡ t.0 → (w : TaskNo) → leads b.wires u.0 n q ≡ Some w → Kills w (present q)
    ceases e w led =
        let same : v ≡ w = same_Some v w (sym (target_told b.wires q k.tasks.phones h.fits.phones u.0 n (Connected v) is) ∙ led) in
        subst (Kills w) (sym h.now) (sym (same_task v t e) ∙ same)

slams_of_kept : (b : Beginning) (t u : TaskNo) (q : List Entry) (k : KernelState) → IsKilling b t q k → IsKilling b t (on_top (slam_phones_of t u k).entries q) (slam_phones_of t u k).state
slams_of_kept b t u q k h =
    each_tells (List Entry) on_top (λ _. refl) (λ xs ys p. on_top-append xs ys p) (slam_at t u) (IsKilling b t) (λ r j n g. slam_kept b t u n r j (phone_at j u n) refl g) (width k.tasks.phones u.0) 0 q k h

slam_other_kept : (b : Beginning) (t : TaskNo) (n : ℕ) (q : List Entry) (k : KernelState) → IsKilling b t q k → IsKilling b t (on_top (slam_other t k n).entries q) (slam_other t k n).state
slam_other_kept b t n q k h = by_test (λ (s : Transition). IsKilling b t (on_top s.entries q) s.state) (n + 1 == t.0) _ _ (λ _. h) (λ _. slams_of_kept b t (task_no (n + 1)) q k h)

slams_kept : (b : Beginning) (t : TaskNo) (q : List Entry) (k : KernelState) → IsKilling b t q k → IsKilling b t (on_top (slam_phones_to t k).entries q) (slam_phones_to t k).state
slams_kept b t q k h =
    each_tells (List Entry) on_top (λ _. refl) (λ xs ys p. on_top-append xs ys p) (slam_other t) (IsKilling b t) (λ r j n g. slam_other_kept b t n r j g) (length k.tasks.phones) 0 q k h

-- the parts on calls

-- the entries fit, and a fact on the state holds
record FitsWith (b : Beginning) (F : KernelState → Type 0) (q : List Entry) (k : KernelState) : Type 0 where
  pub fits : PhonesFit b q k.tasks.phones k.calls
  pub fact : F k

ending_kept : (marks : List Bool) (k : KernelState) → IsEnding marks k → AreKept k.tasks.phones k.calls
ending_kept marks k h = h.sound.kept

module _ (b : Beginning) (marks : List Bool) (t : TaskNo) where
  settle_fits : (q : List Entry) (k : KernelState) (c : Call) → IsEnding marks k → IsLive k c → PhonesFit b q k.tasks.phones k.calls → AfterStep b q (settle_call k c)
  settle_fits q k c ending live fits = settled b q k c live (ending_kept marks k ending) (bare_reply ehangup) None c.caller (lives k c.caller) fits

  incoming_kept : (q : List Entry) (k : KernelState) → FitsWith b (IsAlone marks t) q k → FitsWith b (IsAlone marks t) (on_top (settle_incoming t k).entries q) (settle_incoming t k).state
  incoming_kept q k h =
      drain_tells (List Entry) on_top (λ _. refl) (λ xs ys p. on_top-append xs ys p) (first_at (Incoming t)) settle_call (FitsWith b (IsAlone marks t))
      (λ r j c g is. let e = g.fact.silent.ending in record { fits = settle_fits r j c e (front_at marks j (Incoming t) c e is).0 g.fits; fact = incoming_alone marks t j c g.fact is })
      (calls_at k.calls (Incoming t)) q k h

  dispatched_kept : (q : List Entry) (k : KernelState) → FitsWith b (IsUncalled marks t) q k → FitsWith b (IsUncalled marks t) (on_top (settle_dispatched t k).entries q) (settle_dispatched t k).state
  dispatched_kept q k h =
      drain_tells (List Entry) on_top (λ _. refl) (λ xs ys p. on_top-append xs ys p) (first_at (Dispatched t)) settle_call (FitsWith b (IsUncalled marks t))
      (λ r j c g is. let e = g.fact.alone.silent.ending in record { fits = settle_fits r j c e (front_at marks j (Dispatched t) c e is).0 g.fits; fact = dispatched_uncalled marks t j c g.fact is })
      (calls_at k.calls (Dispatched t)) q k h

  answers_kept : (q : List Entry) (k : KernelState) → FitsWith b (IsIdle marks t) q k → FitsWith b (IsIdle marks t) (on_top (drop_answers t k).entries q) (drop_answers t k).state
  answers_kept q k h =
      drain_tells (List Entry) on_top (λ _. refl) (λ xs ys p. on_top-append xs ys p) (first_at (Answers t)) (drop_answer t) (FitsWith b (IsIdle marks t))
      (λ r j c g is. let e = g.fact.uncalled.alone.silent.ending in record {
        fits = over_told b j c (front_at marks j (Answers t) c e is).0 r (entry.Dropped c.number t) tt (ending_kept marks j e) g.fits;
        fact = drop_idle marks t j c g.fact is;
      })
      (calls_at k.calls (Answers t)) q k h

  forget_fits : (q : List Entry) (k : KernelState) (c : Call) → IsLive k c → PhonesFit b q k.tasks.phones k.calls → AfterStep b q (forget_call k c)
  forget_fits q k c live fits =
      let d : Call = record c { caller = None } in
      subst (λ (j : KernelState). PhonesFit b (entry.Forgotten c.number ∷ q) j.tasks.phones j.calls) (sym (forget_step k c live))
      (plain_told b k.tasks.phones (with_record k.calls d) q (entry.Forgotten c.number) tt
      (calls_follow b k.tasks.phones q k.calls (with_record k.calls d) (record_keeps k.calls c d live refl refl) fits))

  forgets_kept : (q : List Entry) (k : KernelState) → FitsWith b (IsUnanswered marks t) q k → FitsWith b (IsUnanswered marks t) (on_top (forget_calls_elsewhere t k).entries q) (forget_calls_elsewhere t k).state
  forgets_kept q k h =
      drain_tells (List Entry) on_top (λ _. refl) (λ xs ys p. on_top-append xs ys p) (first_call_of t) forget_call (FitsWith b (IsUnanswered marks t))
      (λ r j c g is. record {
        fits = forget_fits r j c (call_from marks t j c g.fact.idle.uncalled.alone.silent.ending is).0 g.fits;
        fact = forget_unanswered marks t j c g.fact is;
      })
      (calls_by k.calls t) q k h

-- the areas of t are dropped

lose_kept : (b : Beginning) (t : TaskNo) (q : List Entry) (k : KernelState) (o : Option ℕ) → PhonesFit b q k.tasks.phones k.calls → AfterStep b q (lose_first_area t k o)
lose_kept b t q k None fits = fits
lose_kept b t q k (Some base) fits = plain_told b k.tasks.phones k.calls q (entry.AreaGone t base) tt fits

-- these entries fit this state
abbrev Fit : Beginning → List Entry → KernelState → Type 0
Fit b q k = PhonesFit b q k.tasks.phones k.calls

areas_kept : (b : Beginning) (t : TaskNo) (q : List Entry) (k : KernelState) → Fit b q k → AfterStep b q (drop_areas t k)
areas_kept b t q k fits =
    each_tells (List Entry) on_top (λ _. refl) (λ xs ys p. on_top-append xs ys p) (drop_first_area t) (Fit b) (λ r j i g. lose_kept b t r j (first_area j.memory t) g) (count_areas k.memory t) 0 q k fits

-- all parts
pub kill_kept : (b : Beginning) (t : TaskNo) (q : List Entry) (k : KernelState) → IsSound k → is_alive k t ≡ true → present q ≡ Some (entry.Kill t) → PhonesFit b q k.tasks.phones k.calls → AfterStep b q (kill k t)
kill_kept b t q k sound alive now fits =
    let marks : List Bool = k.tasks.alive in
    let k0 : KernelState = mark_ended k t in
    let m0 : Transition = hang_up_own_phones t k0 in
    let m1 : Transition = then_do m0 (slam_phones_to t) in
    let m2 : Transition = then_do m1 (settle_incoming t) in
    let m3 : Transition = then_do m2 (settle_dispatched t) in
    let m4 : Transition = then_do m3 (drop_answers t) in
    let m5 : Transition = then_do m4 (forget_calls_elsewhere t) in
    let s0 : IsEnding marks k0 = record { sound = sound } in
    let s1 : IsAlone marks t m1.state = phones_slammed marks t (after_hangups t k) (own_phones_hung_up marks t k0 alive s0) in
    let s2 : IsUncalled marks t m2.state = incoming_settled marks t (after_slams t k) s1 in
    let s3 : IsIdle marks t m3.state = dispatched_settled marks t (after_incoming t k) s2 in
    let s4 : IsUnanswered marks t m4.state = answers_dropped marks t (after_dispatched t k) s3 in
    let i0 : IsKilling b t (on_top m0.entries q) m0.state = hangups_kept b t q k0 (record { fits = fits; now = now }) in
    let i1 : IsKilling b t (on_top m1.entries q) m1.state = tells (IsKilling b t) m0 (slam_phones_to t) (slams_kept b t (on_top m0.entries q) m0.state i0) in
    let i2 : FitsWith b (IsAlone marks t) (on_top m2.entries q) m2.state = tells (FitsWith b (IsAlone marks t)) m1 (settle_incoming t) (incoming_kept b marks t (on_top m1.entries q) m1.state (record { fits = i1.fits; fact = s1 })) in
    let i3 : FitsWith b (IsUncalled marks t) (on_top m3.entries q) m3.state = tells (FitsWith b (IsUncalled marks t)) m2 (settle_dispatched t) (dispatched_kept b marks t (on_top m2.entries q) m2.state (record { fits = i2.fits; fact = s2 })) in
    let i4 : FitsWith b (IsIdle marks t) (on_top m4.entries q) m4.state = tells (FitsWith b (IsIdle marks t)) m3 (drop_answers t) (answers_kept b marks t (on_top m3.entries q) m3.state (record { fits = i3.fits; fact = s3 })) in
    let i5 : FitsWith b (IsUnanswered marks t) (on_top m5.entries q) m5.state = tells (FitsWith b (IsUnanswered marks t)) m4 (forget_calls_elsewhere t) (forgets_kept b marks t (on_top m4.entries q) m4.state (record { fits = i4.fits; fact = s4 })) in
    tells (Fit b) m5 (drop_areas t) (areas_kept b t (on_top m5.entries q) m5.state i5.fits)
  where
    tells : (J : List Entry → KernelState → Type 0) (s : Transition) (f : KernelState → Transition) → J (on_top (f s.state).entries (on_top s.entries q)) (f s.state).state → J (on_top (then_do s f).entries q) (then_do s f).state
    tells J s f i = then_tells (List Entry) on_top (λ _. refl) (λ xs ys p. on_top-append xs ys p) J s f q i
