-- Each phone after a kill: those of the task are hung up, those that led to it are slammed, and of those that waited
-- for a connection some are free.
use Rattle.std.proofs.Common.{◌≡◌, ℕ, Bool, true, false, ◌⊎◌, inl, inr, Option, None, Some, List, refl, ap, sym, subst, ◌∙◌}
use Rattle.std.specs.Prelude.{◌==◌, if◌then◌else◌, IsSome, option_map}
use Rattle.std.proofs.lemmas.Bool.{cases_eq, eqb-true, eq-eqb, ne_eqb, false≢true}
use Rattle.ipc_ids.specs.declared.numbers.TaskNo.{TaskNo}
use Rattle.ipc_ids.specs.declared.numbers.Label.{Label}
use Rattle.ipc_ids.specs.declared.message.PhoneState.{PhoneState}
use Rattle.ipc_ids.specs.declared.message.PhoneState.TheVariants.{Free, Connecting, Connected, HungUp, Slammed}
use Rattle.ipc_ids.specs.Codes.{ehangup}
use Rattle.ipc_ids.proofs.Common.{is_some, free_waits}
use Rattle.call_slab.specs.declared.call.Call.{Call}
use Rattle.call_slab.specs.declared.call.Place.TheVariants.{Incoming, Dispatched, Answers}
use Rattle.answerbox.specs.Calls.{calls_at, calls_by}
use Rattle.phone_table.specs.Phones.{state_at}
use Rattle.switchboard.specs.State.{KernelState, Transition, is_alive, phone_at, with_state_at, with_phone, width, mark_ended}
use Rattle.switchboard.specs.Sound.{IsQuiet, IsSound}
use Rattle.switchboard.specs.Kept.{AreKept, WaitsIn, kept_phone, lent_phone, kept_rows}
use Rattle.switchboard.specs.Joins.{bare_reply, settle_for, lives, drop_answer, forget_call, hang_up, slam}
use Rattle.cleanup.specs.Kill.{hang_up_at, first_at, first_call_of, settle_call, kill}
use Rattle.switchboard.proofs.Rows.{state_changed_at}
use Rattle.switchboard.proofs.Soundness.{phone_kept}
use Rattle.switchboard.proofs.Repeats.{by_test, each_keeps, drain_keeps}
use Rattle.switchboard.proofs.Keepers.{state_here}
use Rattle.switchboard.proofs.Usable.{kept_waits, lent_waits}
use Rattle.cleanup.proofs.Silence.{IsEnding, IsSilent, IsAlone, own_phones_hung_up, phones_slammed, slam_silent, slams_keep}
use Rattle.cleanup.proofs.Queues.{IsLive, IsUncalled, IsIdle, IsUnanswered, front_at, call_from, incoming_alone, incoming_settled, dispatched_uncalled, dispatched_settled, drop_idle, answers_dropped, forget_unanswered}
use Rattle.switchboard.specs.Areas.{lose_area}
use Rattle.cleanup.proofs.Killing.{after_calls, areas_last, HasNothingOf, kill_leaves_nothing, after_hangups, after_slams, after_incoming, after_dispatched, after_answers}

-- what a hangup makes of a phone
abbrev pub hung : PhoneState → PhoneState
hung Free = Free
hung Connecting = Connecting
hung (Connected _) = HungUp
hung HungUp = HungUp
hung Slammed = HungUp

-- what the end of task t makes of a phone of another
abbrev pub slammed : TaskNo → PhoneState → PhoneState
slammed t Free = Free
slammed t Connecting = Connecting
slammed t (Connected v) = if v.0 == t.0 then Slammed else Connected v
slammed t HungUp = HungUp
slammed t Slammed = Slammed

-- the rows after a write

none_is : {A : Type 0} (o : Option A) → IsSome o → o ≡ None → ⊥
none_is o h e = let g = rw e at h in cc

pub written_elsewhere : (rows : List (List PhoneState)) (a b t p : ℕ) (s : PhoneState) → ((t ≡ a) × (p ≡ b) → ⊥) → state_at (with_state_at rows a b s) t p ≡ state_at rows t p
written_elsewhere rows a b t p s ne = by_state (state_at rows t p) (state_at (with_state_at rows a b s) t p) refl refl where
  by_state : (old new : Option PhoneState) → state_at rows t p ≡ old → state_at (with_state_at rows a b s) t p ≡ new → new ≡ old
  by_state None None is now = refl
  by_state (Some y) None is now = absurd (none_is (state_at (with_state_at rows a b s) t p) (phone_kept rows a b t p s (is_some (state_at rows t p) y is)) now)
  by_state old (Some x) is now = elim (state_changed_at rows a b t p s x now) [ inl e ↦ absurd (ne (e.0, e.1)) | inr e ↦ sym e.1 ∙ is ]

-- a phone is as it was, or as it will be
abbrev IsEither : (PhoneState → PhoneState) → Option PhoneState → Option PhoneState → Type 0
IsEither change before now = (now ≡ before) ⊎ (now ≡ option_map change before)

-- the phones of the task

hung_quiet : (x : PhoneState) → IsQuiet x → hung x ≡ x
hung_quiet Free h = refl
hung_quiet Connecting h = refl
hung_quiet (Connected v) h = absurd h
hung_quiet HungUp h = refl
hung_quiet Slammed h = absurd h

settled_own : (o now : Option PhoneState) → IsEither hung o now → ((x : PhoneState) → now ≡ Some x → IsQuiet x) → now ≡ option_map hung o
settled_own o now (inr e) quiet = e
settled_own None now (inl e) quiet = e
settled_own (Some x) now (inl e) quiet = e ∙ ap Some (sym (hung_quiet x (quiet x e)))

hang_up_own : (t : TaskNo) (q : ℕ) (o : Option PhoneState) (k : KernelState) (n : ℕ) → IsEither hung o (phone_at k t q) → IsEither hung o (phone_at (hang_up_at t k n).state t q)
hang_up_own t q o k n h = by_state (phone_at k t n) refl where
  open_phone : (s : PhoneState) → phone_at k t n ≡ Some s → hung s ≡ HungUp → IsEither hung o (phone_at (with_phone k t n HungUp) t q)
  open_phone s is falls = elim (cases_eq q n) [
    | inl e ↦
        let there : phone_at k t q ≡ Some s = ap (phone_at k t) e ∙ is in
        let now : phone_at (with_phone k t n HungUp) t q ≡ Some HungUp = ap (phone_at (with_phone k t n HungUp) t) e ∙ state_here k.tasks.phones t.0 n HungUp (is_some (phone_at k t n) s is) in
        elim h [
          | inl was ↦ inr (now ∙ ap Some (sym falls) ∙ ap (option_map hung) (sym there ∙ was))
          | inr was ↦ inr (now ∙ ap Some (sym falls) ∙ twice o s (sym was ∙ there) ∙ sym was ∙ was)
        ]
    | inr ne ↦ subst (IsEither hung o) (sym (written_elsewhere k.tasks.phones t.0 n t.0 q HungUp (λ z. ne z.1))) h
  ] where
    again : (x : PhoneState) → hung (hung x) ≡ hung x
    again Free = refl
    again Connecting = refl
    again (Connected v) = refl
    again HungUp = refl
    again Slammed = refl

    twice : (o : Option PhoneState) (s : PhoneState) → option_map hung o ≡ Some s → Some (hung s) ≡ option_map hung o
    twice None s e = absurd (cc e)
    twice (Some x) s e = let same : hung x ≡ s = cc in ap Some (ap hung (sym same) ∙ again x)

  by_state : (s : Option PhoneState) → phone_at k t n ≡ s → IsEither hung o (phone_at (hang_up k t n s).state t q)
  by_state None is = h
  by_state (Some Free) is = h
  by_state (Some Connecting) is = h
  by_state (Some HungUp) is = h
  by_state (Some Slammed) is = open_phone Slammed is refl
  by_state (Some (Connected u)) is = open_phone (Connected u) is refl

-- the slams leave them
slam_own : (marks : List Bool) (t u : TaskNo) (n q : ℕ) (o : Option PhoneState) (k : KernelState) (s : Option PhoneState) → phone_at k u n ≡ s → IsSilent marks t k → IsEither hung o (phone_at k t q) → IsEither hung o (phone_at (slam t u k n s).state t q)
slam_own marks t u n q o k None is silent h = h
slam_own marks t u n q o k (Some Free) is silent h = h
slam_own marks t u n q o k (Some Connecting) is silent h = h
slam_own marks t u n q o k (Some HungUp) is silent h = h
slam_own marks t u n q o k (Some Slammed) is silent h = h
slam_own marks t u n q o k (Some (Connected v)) is silent h =
    by_test (λ (d : Transition). IsEither hung o (phone_at d.state t q)) (v.0 == t.0) _ _
    (λ _. subst (IsEither hung o) (sym (written_elsewhere k.tasks.phones u.0 n t.0 q Slammed (λ z. silent.still q (Connected v) (ap (λ a. state_at k.tasks.phones a q) z.0 ∙ ap (state_at k.tasks.phones u.0) z.1 ∙ is)))) h)
    (λ _. h)

-- the phones of others

hang_up_other : (t u : TaskNo) (q : ℕ) (o : Option PhoneState) (k : KernelState) (n : ℕ) → (u.0 ≡ t.0 → ⊥) → phone_at k u q ≡ o → phone_at (hang_up_at t k n).state u q ≡ o
hang_up_other t u q o k n ne h = by_state (phone_at k t n) where
  off : phone_at (with_phone k t n HungUp) u q ≡ o
  off = written_elsewhere k.tasks.phones t.0 n u.0 q HungUp (λ z. ne z.0) ∙ h

  by_state : (s : Option PhoneState) → phone_at (hang_up k t n s).state u q ≡ o
  by_state None = h
  by_state (Some Free) = h
  by_state (Some Connecting) = h
  by_state (Some HungUp) = h
  by_state (Some Slammed) = off
  by_state (Some (Connected v)) = off

leads_on : (t v : TaskNo) (x : PhoneState) → slammed t x ≡ Connected v → v.0 ≡ t.0 → ⊥
leads_on t v Free e same = cc
leads_on t v Connecting e same = cc
leads_on t v (Connected w) e same = by_target (w.0 == t.0) refl e where
  by_target : (b : Bool) → (w.0 == t.0) ≡ b → (if b then Slammed else Connected w) ≡ Connected v → ⊥
  by_target true is g = cc
  by_target false is g = let one : w ≡ v = cc in false≢true (sym is ∙ eq-eqb w.0 t.0 (ap (λ (x : TaskNo). x.0) one ∙ same))
leads_on t v HungUp e same = cc
leads_on t v Slammed e same = cc

not_led : (t v : TaskNo) (o : Option PhoneState) → option_map (slammed t) o ≡ Some (Connected v) → v.0 ≡ t.0 → ⊥
not_led t v None e same = cc
not_led t v (Some x) e same = let one : slammed t x ≡ Connected v = cc in leads_on t v x one same

slam_either : (t u w : TaskNo) (n q : ℕ) (o : Option PhoneState) (k : KernelState) (s : Option PhoneState) → phone_at k w n ≡ s → IsEither (slammed t) o (phone_at k u q) → IsEither (slammed t) o (phone_at (slam t w k n s).state u q)
slam_either t u w n q o k None is h = h
slam_either t u w n q o k (Some Free) is h = h
slam_either t u w n q o k (Some Connecting) is h = h
slam_either t u w n q o k (Some HungUp) is h = h
slam_either t u w n q o k (Some Slammed) is h = h
slam_either t u w n q o k (Some (Connected v)) is h =
    by_test (λ (d : Transition). IsEither (slammed t) o (phone_at d.state u q)) (v.0 == t.0) _ _ (λ e. slam_it e (cases_eq u.0 w.0) (cases_eq q n)) (λ _. h)
  where
    away : ((u.0 ≡ w.0) × (q ≡ n) → ⊥) → IsEither (slammed t) o (phone_at (with_phone k w n Slammed) u q)
    away ne = subst (IsEither (slammed t) o) (sym (written_elsewhere k.tasks.phones w.0 n u.0 q Slammed ne)) h

    slam_it : (v.0 == t.0) ≡ true → (u.0 ≡ w.0) ⊎ (u.0 ≡ w.0 → ⊥) → (q ≡ n) ⊎ (q ≡ n → ⊥) → IsEither (slammed t) o (phone_at (with_phone k w n Slammed) u q)
    slam_it e (inr ne) b = away (λ z. ne z.0)
    slam_it e (inl a) (inr ne) = away (λ z. ne z.1)
    slam_it e (inl a) (inl b) =
        let there : phone_at k u q ≡ Some (Connected v) = ap (λ i. state_at k.tasks.phones i q) a ∙ ap (state_at k.tasks.phones w.0) b ∙ is in
        let now : phone_at (with_phone k w n Slammed) u q ≡ Some Slammed = ap (λ i. state_at (with_phone k w n Slammed).tasks.phones i q) a ∙ ap (state_at (with_phone k w n Slammed).tasks.phones w.0) b ∙ state_here k.tasks.phones w.0 n Slammed (is_some (phone_at k w n) (Connected v) is) in
        let falls : slammed t (Connected v) ≡ Slammed = rw e refl in
        elim h [
          | inl was ↦ inr (now ∙ ap Some (sym falls) ∙ ap (option_map (slammed t)) (sym there ∙ was))
          | inr was ↦ absurd (not_led t v o (sym was ∙ there) (eqb-true v.0 t.0 e))
        ]

slammed_away : (t : TaskNo) (x : PhoneState) → ((v : TaskNo) → x ≡ Connected v → v.0 ≡ t.0 → ⊥) → slammed t x ≡ x
slammed_away t Free h = refl
slammed_away t Connecting h = refl
slammed_away t (Connected v) h = rw (ne_eqb v.0 t.0 (h v refl)) refl
slammed_away t HungUp h = refl
slammed_away t Slammed h = refl

settled_other : (t : TaskNo) (o now : Option PhoneState) → IsEither (slammed t) o now → ((v : TaskNo) → now ≡ Some (Connected v) → v.0 ≡ t.0 → ⊥) → now ≡ option_map (slammed t) o
settled_other t o now (inr e) unled = e
settled_other t None now (inl e) unled = e
settled_other t (Some x) now (inl e) unled = e ∙ ap Some (sym (slammed_away t x (λ v is. unled v (e ∙ ap Some is))))

-- the parts on calls free phones that wait, and leave the others

-- a fact of the states, and another
record And (F I : KernelState → Type 0) (j : KernelState) : Type 0 where
  pub fact : F j
  pub kept : I j

-- what the steps on a live call keep, while the state is sound by the marks from before, the parts on calls keep
module _ (k : KernelState) (t : TaskNo) (sound : IsSound k) (alive : is_alive k t ≡ true) (I : KernelState → Type 0)
    (settled : (j : KernelState) (c : Call) → IsEnding k.tasks.alive j → IsLive j c → I j → I (settle_call j c).state)
    (dropped : (j : KernelState) (c : Call) → IsEnding k.tasks.alive j → IsLive j c → I j → I (drop_answer t j c).state)
    (forgot : (j : KernelState) (c : Call) → IsLive j c → I j → I (forget_call j c).state)
    (lost : (j : KernelState) (base : ℕ) → I j → I (lose_area t j base).state) where
  pub calls_keep : I (after_slams t k) → I (kill k t).state
  calls_keep h2 =
      let marks : List Bool = k.tasks.alive in
      let s1 = own_phones_hung_up marks t (mark_ended k t) alive (record { sound = sound }) in
      let s2 : IsAlone marks t (after_slams t k) = phones_slammed marks t (after_hangups t k) s1 in
      let h3 : And (IsAlone marks t) I (after_incoming t k) = drain_keeps (first_at (Incoming t)) settle_call (And (IsAlone marks t) I)
      (λ j c s is. let e = s.fact.silent.ending in record { fact = incoming_alone marks t j c s.fact is; kept = settled j c e (front_at marks j (Incoming t) c e is).0 s.kept })
      (calls_at (after_slams t k).calls (Incoming t)) (after_slams t k) (record { fact = s2; kept = h2 }) in
      let s3 : IsUncalled marks t (after_incoming t k) = incoming_settled marks t (after_slams t k) s2 in
      let h4 : And (IsUncalled marks t) I (after_dispatched t k) = drain_keeps (first_at (Dispatched t)) settle_call (And (IsUncalled marks t) I)
      (λ j c s is. let e = s.fact.alone.silent.ending in record { fact = dispatched_uncalled marks t j c s.fact is; kept = settled j c e (front_at marks j (Dispatched t) c e is).0 s.kept })
      (calls_at (after_incoming t k).calls (Dispatched t)) (after_incoming t k) (record { fact = s3; kept = h3.kept }) in
      let s4 : IsIdle marks t (after_dispatched t k) = dispatched_settled marks t (after_incoming t k) s3 in
      let h5 : And (IsIdle marks t) I (after_answers t k) = drain_keeps (first_at (Answers t)) (drop_answer t) (And (IsIdle marks t) I)
      (λ j c s is. let e = s.fact.uncalled.alone.silent.ending in record { fact = drop_idle marks t j c s.fact is; kept = dropped j c e (front_at marks j (Answers t) c e is).0 s.kept })
      (calls_at (after_dispatched t k).calls (Answers t)) (after_dispatched t k) (record { fact = s4; kept = h4.kept }) in
      let s5 : IsUnanswered marks t (after_answers t k) = answers_dropped marks t (after_dispatched t k) s4 in
      let h6 : And (IsUnanswered marks t) I (after_calls t k) = drain_keeps (first_call_of t) forget_call (And (IsUnanswered marks t) I)
      (λ j c s is. record { fact = forget_unanswered marks t j c s.fact is; kept = forgot j c (call_from marks t j c s.fact.idle.uncalled.alone.silent.ending is).0 s.kept })
      (calls_by (after_answers t k).calls t) (after_answers t k) (record { fact = s5; kept = h5.kept }) in
      areas_last k t I lost h6.kept

-- a phone is as it was, or waited for a connection and is free
abbrev IsFreed : Option PhoneState → Option PhoneState → Type 0
IsFreed before now = (now ≡ before) ⊎ ((before ≡ Some Connecting) × (now ≡ Some Free))

kept_freed : (rows : List (List PhoneState)) (kept : Option Label) (t p : ℕ) (o : Option PhoneState) → WaitsIn rows kept → IsFreed o (state_at rows t p) → IsFreed o (state_at (kept_rows rows kept Free) t p)
kept_freed rows None t p o w h = h
kept_freed rows (Some l) t p o w h = by_place (cases_eq t l.task.0) (cases_eq p l.phone.0) where
  away : ((t ≡ l.task.0) × (p ≡ l.phone.0) → ⊥) → IsFreed o (state_at (with_state_at rows l.task.0 l.phone.0 Free) t p)
  away ne = subst (IsFreed o) (sym (written_elsewhere rows l.task.0 l.phone.0 t p Free ne)) h

  by_place : (t ≡ l.task.0) ⊎ (t ≡ l.task.0 → ⊥) → (p ≡ l.phone.0) ⊎ (p ≡ l.phone.0 → ⊥) → IsFreed o (state_at (with_state_at rows l.task.0 l.phone.0 Free) t p)
  by_place (inr ne) b = away (λ z. ne z.0)
  by_place (inl a) (inr ne) = away (λ z. ne z.1)
  by_place (inl a) (inl b) =
      let was : state_at rows t p ≡ Some Connecting = rw (a, b) w in
      let now : state_at (with_state_at rows l.task.0 l.phone.0 Free) t p ≡ Some Free = rw (a, b) (state_here rows l.task.0 l.phone.0 Free (is_some (state_at rows l.task.0 l.phone.0) Connecting w)) in
      elim h [ inl e ↦ inr (sym e ∙ was, now) | inr e ↦ absurd (free_waits (state_at rows t p) e.1 was) ]

settle_frees : (j : KernelState) (c : Call) (t p : ℕ) (o : Option PhoneState) → AreKept j.tasks.phones j.calls → IsLive j c → IsFreed o (state_at j.tasks.phones t p) → IsFreed o (state_at (settle_call j c).state.tasks.phones t p)
settle_frees j c t p o kept is h = by_caller c.caller (lives j c.caller) where
  over : IsFreed o (state_at (kept_rows j.tasks.phones (kept_phone c) Free) t p)
  over = kept_freed j.tasks.phones (kept_phone c) t p o (kept_waits j.tasks.phones j.calls c.number.0 c kept is) h

  by_caller : (a : Option TaskNo) (b : Bool) → IsFreed o (state_at (settle_for j c (bare_reply ehangup) None a b).state.tasks.phones t p)
  by_caller None b = over
  by_caller (Some u) false = over
  by_caller (Some u) true = kept_freed j.tasks.phones (lent_phone c) t p o (lent_waits j.tasks.phones j.calls c.number.0 c kept is) h

-- a phone that did not wait is not freed
not_freed : (before now : Option PhoneState) → IsFreed before now → (before ≡ Some Connecting → ⊥) → now ≡ before
not_freed before now (inl e) other = e
not_freed before now (inr e) other = absurd (other e.0)

-- it waits only where it did
not_waiting : (change : PhoneState → PhoneState) (o s : Option PhoneState) → ((x : PhoneState) → change x ≡ Connecting → x ≡ Connecting) → IsEither change o s → (o ≡ Some Connecting → ⊥) → s ≡ Some Connecting → ⊥
not_waiting change o s back (inl e) other w = other (sym e ∙ w)
not_waiting change None s back (inr e) other w = cc
not_waiting change (Some x) s back (inr e) other w = let waits : change x ≡ Connecting = cc in other (ap Some (back x waits))

hung_waits : (x : PhoneState) → hung x ≡ Connecting → x ≡ Connecting
hung_waits Free e = absurd (cc e)
hung_waits Connecting e = refl
hung_waits (Connected v) e = absurd (cc e)
hung_waits HungUp e = absurd (cc e)
hung_waits Slammed e = absurd (cc e)

slammed_waits : (t : TaskNo) (x : PhoneState) → slammed t x ≡ Connecting → x ≡ Connecting
slammed_waits t Free e = absurd (cc e)
slammed_waits t Connecting e = refl
slammed_waits t (Connected v) e = absurd (by_target (v.0 == t.0) e) where
  by_target : (b : Bool) → (if b then Slammed else Connected v) ≡ Connecting → ⊥
  by_target true g = cc
  by_target false g = cc
slammed_waits t HungUp e = absurd (cc e)
slammed_waits t Slammed e = absurd (cc e)

-- a fact on the phones that a slam keeps, and the silence that it keeps
record AndSilent (marks : List Bool) (t : TaskNo) (I : KernelState → Type 0) (k : KernelState) : Type 0 where
  pub silent : IsSilent marks t k
  pub fact : I k

module _ (k : KernelState) (t : TaskNo) (sound : IsSound k) (alive : is_alive k t ≡ true) where
  nothing_left : HasNothingOf t (kill k t).state
  nothing_left = kill_leaves_nothing k t sound alive

  silent_first : IsSilent k.tasks.alive t (after_hangups t k)
  silent_first = let h0 : IsEnding k.tasks.alive (mark_ended k t) = record { sound = sound } in own_phones_hung_up k.tasks.alive t (mark_ended k t) alive h0

  -- a phone after the parts on calls
  freed_after : (u : TaskNo) (q : ℕ) → IsFreed (phone_at (after_slams t k) u q) (phone_at (kill k t).state u q)
  freed_after u q =
      let o : Option PhoneState = phone_at (after_slams t k) u q in
      calls_keep k t sound alive (λ j. IsFreed o (phone_at j u q))
      (λ j c e is h. settle_frees j c u.0 q o e.sound.kept is h)
      (λ j c e is h. kept_freed j.tasks.phones (kept_phone c) u.0 q o (kept_waits j.tasks.phones j.calls c.number.0 c e.sound.kept is) h)
      (λ j c is h. h) (λ j base h. h) (inl refl)

  -- a phone of the task
  pub kill_own_phone : (q : ℕ) → (phone_at k t q ≡ Some Connecting → ⊥) → phone_at (kill k t).state t q ≡ option_map hung (phone_at k t q)
  kill_own_phone q other =
      let o : Option PhoneState = phone_at k t q in
      let h1 : IsEither hung o (phone_at (after_hangups t k) t q) = each_keeps (hang_up_at t) (λ j. IsEither hung o (phone_at j t q)) (λ j n h. hang_up_own t q o j n h) (width k.tasks.phones t.0) 0 (mark_ended k t) (inl refl) in
      let h2 : AndSilent k.tasks.alive t (λ j. IsEither hung o (phone_at j t q)) (after_slams t k) =
      slams_keep t (AndSilent k.tasks.alive t (λ j. IsEither hung o (phone_at j t q)))
      (λ u n j h. record { silent = slam_silent k.tasks.alive t u n j (phone_at j u n) refl h.silent; fact = slam_own k.tasks.alive t u n q o j (phone_at j u n) refl h.silent h.fact })
      (after_hangups t k) (record { silent = silent_first; fact = h1 }) in
      let same = not_freed (phone_at (after_slams t k) t q) (phone_at (kill k t).state t q) (freed_after t q) (not_waiting hung o (phone_at (after_slams t k) t q) hung_waits h2.fact other) in
      settled_own o (phone_at (kill k t).state t q) (subst (IsEither hung o) (sym same) h2.fact) (nothing_left.quiet q)

  -- a phone of another task
  pub kill_other_phone : (u : TaskNo) (q : ℕ) → (u.0 ≡ t.0 → ⊥) → (phone_at k u q ≡ Some Connecting → ⊥) → phone_at (kill k t).state u q ≡ option_map (slammed t) (phone_at k u q)
  kill_other_phone u q ne other =
      let o : Option PhoneState = phone_at k u q in
      let h1 : phone_at (after_hangups t k) u q ≡ o = each_keeps (hang_up_at t) (λ j. phone_at j u q ≡ o) (λ j n h. hang_up_other t u q o j n ne h) (width k.tasks.phones t.0) 0 (mark_ended k t) refl in
      let h2 : IsEither (slammed t) o (phone_at (after_slams t k) u q) = slams_keep t (λ j. IsEither (slammed t) o (phone_at j u q)) (λ w n j h. slam_either t u w n q o j (phone_at j w n) refl h) (after_hangups t k) (inl h1) in
      let same = not_freed (phone_at (after_slams t k) u q) (phone_at (kill k t).state u q) (freed_after u q) (not_waiting (slammed t) o (phone_at (after_slams t k) u q) (slammed_waits t) h2 other) in
      settled_other t o (phone_at (kill k t).state u q) (subst (IsEither (slammed t) o) (sym same) h2) (λ v is. nothing_left.unled u.0 q v is)
