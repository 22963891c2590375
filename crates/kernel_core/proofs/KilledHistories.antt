-- A kill keeps what the history tells of the state.
use Rattle.std.proofs.Common.{ℕ, ◌≡◌, ◌+◌, ◌-◌, ◌⊎◌, Bool, true, false, not, Option, Some, None, List, ◌∷◌, ◌++◌, length, refl, sym, ◌∙◌, ap, subst, inl, inr, arith, set}
use Rattle.std.specs.Prelude.{◌==◌, if◌then◌else◌}
use Rattle.std.proofs.lemmas.Bool.{eqb-true, cases_eq, eq-eqb, ne_eqb, false≢true}
use Rattle.ipc_ids.specs.declared.numbers.TaskNo.{TaskNo}
use Rattle.ipc_ids.specs.declared.entry.Entry.{Entry}
use Rattle.ipc_ids.specs.declared.message.PhoneState.{PhoneState}
use Rattle.ipc_ids.specs.declared.message.PhoneState.TheVariants as phone
use Rattle.ipc_ids.specs.Codes.{ehangup}
use Rattle.ipc_ids.specs.Tales.{Kill, Forgotten, Tale, Head, On, past}
use Rattle.ipc_ids.specs.Life.{Life, Incoming, Dispatched, life, is_killed, event, Allowed}
use Rattle.ipc_ids.specs.Lawful.{StandsAt}
use Rattle.ipc_ids.specs.Origins.{Origin, origin, is_forgotten}
use Rattle.ipc_ids.specs.Holdings.{newest_first}
use Rattle.ipc_ids.proofs.LawfulAreas.{newest_first-append}
use Rattle.ipc_ids.proofs.Pasts.{head_follows, event_is_killed, past-append}
use Rattle.call_slab.specs.declared.call.Call.{Call}
use Rattle.call_slab.specs.declared.call.Place.{Place}
use Rattle.call_slab.specs.declared.call.Place.TheVariants as place
use Rattle.answerbox.specs.Calls.{call_at, calls_at, calls_by, same_place, is_caller, with_record}
use Rattle.switchboard.specs.State.{KernelState, Transition, then_do, phone_at, alive_in, is_alive, width, mark_ended}
use Rattle.switchboard.specs.Joins.{bare_reply, drop_answer, forget_call, slam, slam_at}
use Rattle.cleanup.specs.Kill.{task_no, hang_up_at, hang_up_own_phones, slam_phones_of, slam_other, slam_phones_to, first_at, settle_call, settle_incoming, settle_dispatched, drop_answers, first_call_of, forget_calls_elsewhere, drop_first_area, drop_areas, kill}
use Rattle.address_space.specs.Memory.{first_area, count_areas}
use Rattle.switchboard.specs.Areas.{lose_first_area}
use Rattle.switchboard.specs.Sound.{IsSound}
use Rattle.switchboard.proofs.Lookups.{at_insert}
use Rattle.switchboard.proofs.Histories.{then_tells, each_tells, drain_tells}
use Rattle.cleanup.proofs.Silence.{IsEnding, own_phones_hung_up, phones_slammed}
use Rattle.cleanup.proofs.Queues.{IsUnanswered, incoming_settled, dispatched_settled, answers_dropped, forget_unanswered, call_from, forget_step}
use Rattle.std.proofs.lemmas.List.{length-set}
use Rattle.kernel_core.proofs.HonestEvents.{kill_is_honest}
use Rattle.kernel_core.proofs.Marks.{known_append, effects_known, alive_known}
use Rattle.cleanup.proofs.Killing.{sound_kill, kill_marks, after_hangups, after_slams, after_incoming, after_dispatched, kill_leaves_nothing, HasNothingOf}
use Rattle.switchboard.proofs.MarkChanges.{get_set_same, get_set_other, alive_at, apart, ended_here, alive_elsewhere}
use Rattle.switchboard.proofs.Repeats.{by_test}
use Rattle.cleanup.proofs.Limits.{within_kill}
use Rattle.kernel_core.proofs.ServedLimits.{within_event}
use Rattle.kernel_core.specs.Kernel.{kill_event}
use Rattle.kernel_core.proofs.AreaKills.{areas_kill}
use Rattle.kernel_core.specs.History.{is_ended, life_at, IsGone, PastFits, HistoryFits, killed_entries}
use Rattle.kernel_core.proofs.InEvent.{same_task, and_then, and_then-append, IsTask, CallerFits, IsHome, Agrees, InEvent, noted, memory_told, is_told, front_at, phone_told, settled, dropped}
use Rattle.kernel_core.proofs.ServedHistories.{hang_up_told, alive_is, core_of, leads_to_alive, fits_of, fits_later}

-- who has ended, where the mark of task t is taken away

module _ (alive : List Bool) (t : ℕ) (lives : alive_in alive t ≡ true) where
  abbrev after : List Bool
  after = set alive (t - 1) false

  now_ended : is_ended after t ≡ true
  now_ended = let a = alive_at alive t lives in rw (ne_eqb t 0 a.0, get_set_same alive (t - 1) false true a.1)

  ended_elsewhere : (u : ℕ) → (t ≡ u → ⊥) → is_ended after u ≡ is_ended alive u
  ended_elsewhere u ne = elim (cases_eq u 0) [ inl e ↦ rw (eq-eqb u 0 e) | inr nz ↦ rw (ne_eqb u 0 nz, get_set_other alive (t - 1) (u - 1) false (apart alive t lives u (λ e. ne (sym e)) nz)) ]

  ended_is : (u : ℕ) → is_ended after u ≡ (if t == u then true else is_ended alive u)
  ended_is u = elim (cases_eq t u) [
    | inl e ↦ rw (eq-eqb t u e) (ap (is_ended after) (sym e) ∙ now_ended)
    | inr ne ↦ rw (ne_eqb t u ne) (ended_elsewhere u ne)
  ]

  ended_more : (u : ℕ) → is_ended alive u ≡ true → is_ended after u ≡ true
  ended_more u h = elim (cases_eq t u) [ inl e ↦ ap (is_ended after) (sym e) ∙ now_ended | inr ne ↦ ended_elsewhere u ne ∙ h ]

  ended_cases : (u : ℕ) → is_ended after u ≡ true → (t ≡ u) ⊎ (is_ended alive u ≡ true)
  ended_cases u h = elim (cases_eq t u) [ inl e ↦ inl e | inr ne ↦ inr (sym (ended_elsewhere u ne) ∙ h) ]

  task_kept : (u : ℕ) → IsTask alive u → IsTask after u
  task_kept u h = elim (cases_eq t u) [
    | inl e ↦ ap (alive_in after) (sym e) ∙ ended_here alive t lives ∙ sym (ap not (ap (is_ended after) (sym e) ∙ now_ended))
    | inr ne ↦ alive_elsewhere alive t lives u (λ e. ne (sym e)) ∙ h ∙ sym (ap not (ended_elsewhere u ne))
  ]

  caller_kept : (from : TaskNo) (o : Option TaskNo) → CallerFits alive from o → CallerFits after from o
  caller_kept from None h = ended_more from.0 h
  caller_kept from (Some u) h = (h.0, task_kept from.0 h.1)

  agrees_kept : (l : Life) (o : Option Origin) (lost : Bool) (n : ℕ) (c : Option Call) → Agrees alive l o lost n c → Agrees after l o lost n c
  agrees_kept l o lost n None h = h
  agrees_kept l o lost n (Some c) h = record { number = h.number; place = h.place; caller = caller_kept c.from.task c.caller h.caller; home = h.home; origin = h.origin; forgotten = h.forgotten }

-- the kill begins
kill_begun : (t : TaskNo) (p : List Tale) (k : KernelState) → PastFits p k → IsSound k → is_alive k t ≡ true → InEvent (Kill t.0) (Head (Kill t.0) ∷ p) (mark_ended k t)
kill_begun t p k fits sound alive =
    let marks : List Bool = k.tasks.alive in
    let a = alive_is marks t.0 alive in
    record {
      core = record {
        lawful = (fits.lawful, head_follows p (Kill t.0) fits.round, (fits.cleared, fits.ended t.0 ∙ a.1));
        round = tt;
        number = fits.number;
        ended = λ u. ap (λ b. if t.0 == u then true else b) (fits.ended u) ∙ sym (ended_is marks t.0 alive u);
        calls = λ n. agrees_kept marks t.0 alive (life n p) (origin n p) (is_forgotten n p) n (call_at k.calls n) ((core_of p k fits sound).calls n);
      };
      now = refl;
      task = task_kept marks t.0 alive t.0 a.0;
      acts = λ _. refl;
      stands = λ u n s d. elim (ended_cases marks t.0 alive u d) [ inl e ↦ ap Kill e | inr x ↦ absurd (fits.cleared u n (fits.ended u ∙ x) s) ];
      leads = λ s q u h d. elim (ended_cases marks t.0 alive u.0 d) [ inl e ↦ ap Kill e | inr x ↦ absurd (leads_to_alive p k fits sound u s q h x) ];
    }

abbrev InKill : TaskNo → List Tale → KernelState → Type 0
InKill t p k = InEvent (Kill t.0) p k

-- the phones of t are hung up
hangups_told : (t : TaskNo) (p : List Tale) (k : KernelState) → InKill t p k → InKill t (and_then (hang_up_own_phones t k).entries p) (hang_up_own_phones t k).state
hangups_told t p k inside =
    each_tells (List Tale) and_then (λ _. refl) and_then-append (hang_up_at t) (InKill t) (λ q j i h. hang_up_told (Kill t.0) q j h t i (phone_at j t i) refl refl) (width k.tasks.phones t.0) 0 p k inside

-- the phones that lead to t are slammed
slam_told : (t u : TaskNo) (q : ℕ) (s : Option PhoneState) (p : List Tale) (k : KernelState) → InKill t p k → InKill t (and_then (slam t u k q s).entries p) (slam t u k q s).state
slam_told t u q None p k i = i
slam_told t u q (Some phone.Free) p k i = i
slam_told t u q (Some phone.Connecting) p k i = i
slam_told t u q (Some phone.HungUp) p k i = i
slam_told t u q (Some phone.Slammed) p k i = i
slam_told t u q (Some (phone.Connected v)) p k i =
    by_test (λ (s : Transition). InKill t (and_then s.entries p) s.state) (v.0 == t.0) _ _ (λ _. phone_told (Kill t.0) p k i u q phone.Slammed (λ w x. cc)) (λ _. i)

slams_of_told : (t u : TaskNo) (p : List Tale) (k : KernelState) → InKill t p k → InKill t (and_then (slam_phones_of t u k).entries p) (slam_phones_of t u k).state
slams_of_told t u p k i =
    each_tells (List Tale) and_then (λ _. refl) and_then-append (slam_at t u) (InKill t) (λ q j n h. slam_told t u n (phone_at j u n) q j h) (width k.tasks.phones u.0) 0 p k i

slam_other_told : (t : TaskNo) (n : ℕ) (p : List Tale) (k : KernelState) → InKill t p k → InKill t (and_then (slam_other t k n).entries p) (slam_other t k n).state
slam_other_told t n p k i =
    by_test (λ (s : Transition). InKill t (and_then s.entries p) s.state) (n + 1 == t.0) _ _ (λ _. i) (λ _. slams_of_told t (task_no (n + 1)) p k i)

slams_told : (t : TaskNo) (p : List Tale) (k : KernelState) → InKill t p k → InKill t (and_then (slam_phones_to t k).entries p) (slam_phones_to t k).state
slams_told t p k i =
    each_tells (List Tale) and_then (λ _. refl) and_then-append (slam_other t) (InKill t) (λ q j n h. slam_other_told t n q j h) (length k.tasks.phones) 0 p k i

-- the calls at t are settled
incoming_told : (t : TaskNo) (p : List Tale) (k : KernelState) → InKill t p k → InKill t (and_then (settle_incoming t k).entries p) (settle_incoming t k).state
incoming_told t p k inside =
    drain_tells (List Tale) and_then (λ _. refl) and_then-append (first_at (place.Incoming t)) settle_call (InKill t)
    (λ q j c i is. let f = front_at (Kill t.0) q j i (place.Incoming t) c is in
    settled (Kill t.0) q j i c (bare_reply ehangup) None (Incoming c.from.task.0 t.0) f.0 (ap (life_at c.from.task.0) f.1) refl (λ dead. (dead, i.now)) (λ lives. (refl, i.now, lives)))
    (calls_at k.calls (place.Incoming t)) p k inside

dispatched_told : (t : TaskNo) (p : List Tale) (k : KernelState) → InKill t p k → InKill t (and_then (settle_dispatched t k).entries p) (settle_dispatched t k).state
dispatched_told t p k inside =
    drain_tells (List Tale) and_then (λ _. refl) and_then-append (first_at (place.Dispatched t)) settle_call (InKill t)
    (λ q j c i is. let f = front_at (Kill t.0) q j i (place.Dispatched t) c is in
    settled (Kill t.0) q j i c (bare_reply ehangup) None (Dispatched c.from.task.0 t.0) f.0 (ap (life_at c.from.task.0) f.1) refl (λ dead. (dead, inl i.now)) (λ lives. inl (refl, i.now, lives)))
    (calls_at k.calls (place.Dispatched t)) p k inside

-- the answers to t are dropped
answers_told : (t : TaskNo) (p : List Tale) (k : KernelState) → InKill t p k → InKill t (and_then (drop_answers t k).entries p) (drop_answers t k).state
answers_told t p k inside =
    drain_tells (List Tale) and_then (λ _. refl) and_then-append (first_at (place.Answers t)) (drop_answer t) (InKill t)
    (λ q j c i is. let f = front_at (Kill t.0) q j i (place.Answers t) c is in dropped (Kill t.0) q j i t c (inr refl) f.0 f.1)
    (calls_at k.calls (place.Answers t)) p k inside

-- the calls of t elsewhere are forgotten

forgotten_at : (t : TaskNo) (from : ℕ) (p : List Tale) (n : ℕ) (place' : Place) → event p ≡ Some (Kill t.0) → t.0 ≡ from → IsHome from place' → same_place place' (place.Incoming t) ≡ false → same_place place' (place.Dispatched t) ≡ false → same_place place' (place.Answers t) ≡ false → Allowed p n Forgotten (life_at from place')
forgotten_at t from p n (place.Incoming s) now e home i d a = (now ∙ ap (λ x. Some (Kill x)) e, λ same. false≢true (sym i ∙ eq-eqb s.0 t.0 (same ∙ sym e)))
forgotten_at t from p n (place.Dispatched s) now e home i d a = (now ∙ ap (λ x. Some (Kill x)) e, λ same. false≢true (sym d ∙ eq-eqb s.0 t.0 (same ∙ sym e)))
forgotten_at t from p n (place.Answers s) now e home i d a = absurd (false≢true (sym a ∙ eq-eqb s.0 t.0 (home ∙ sym e)))

pub caller_is : (t : TaskNo) (o : Option TaskNo) → is_caller t o ≡ true → o ≡ Some t
caller_is t None h = absurd (cc h)
caller_is t (Some u) h = ap Some (same_task u t (eqb-true u.0 t.0 h))

module _ (marks : List Bool) (t : TaskNo) where
  -- what is told, and what is left of t
  abbrev IsLate : List Tale → KernelState → Type 0
  IsLate p k = InKill t p k × IsUnanswered marks t k

  forget_told : (p : List Tale) (k : KernelState) (c : Call) → IsLate p k → first_call_of t k ≡ Some c → InKill t (and_then (forget_call k c).entries p) (forget_call k c).state
  forget_told p k c late is =
      let inside = late.0 in
      let left = late.1 in
      let live = call_from marks t k c left.idle.uncalled.alone.silent.ending is in
      let it = is_told (Kill t.0) p k inside c.number.0 c live.0 in
      let fits : (t.0 ≡ c.from.task.0) × IsTask k.tasks.alive c.from.task.0 = subst (CallerFits k.tasks.alive c.from.task) (caller_is t c.caller live.1) it.caller in
      let dead : is_ended k.tasks.alive c.from.task.0 ≡ true = sym (inside.core.ended c.from.task.0) ∙ ap (λ x. is_killed x p) (sym fits.0) ∙ event_is_killed t.0 p inside.now in
      let d : Call = record c { caller = None } in
      subst (InKill t (On c.number.0 Forgotten ∷ p)) (sym (forget_step k c live.0))
      (noted (Kill t.0) p k inside c.number.0 Forgotten (life_at c.from.task.0 c.place) (with_record k.calls d) (Some d) it.place
      (forgotten_at t c.from.task.0 p c.number.0 c.place inside.now fits.0 it.home (left.idle.uncalled.incoming c.number.0 c live.0) (left.idle.dispatched c.number.0 c live.0) (left.answers c.number.0 c live.0))
      (λ v s x. inside.stands v c.number.0 (rw it.place s) x) tt inside.core.number
      (λ m. at_insert k.calls.records c.number.0 m d)
      (record { number = refl; place = refl; caller = dead; home = it.home; origin = it.origin; forgotten = refl }))

  forgotten_told : (p : List Tale) (k : KernelState) → IsLate p k → IsLate (and_then (forget_calls_elsewhere t k).entries p) (forget_calls_elsewhere t k).state
  forgotten_told p k late =
      drain_tells (List Tale) and_then (λ _. refl) and_then-append (first_call_of t) forget_call IsLate
      (λ q j c i is. (forget_told q j c i is, forget_unanswered marks t j c i.1 is))
      (calls_by k.calls t) p k late

-- the areas of t are dropped

lose_told : (t : TaskNo) (o : Option ℕ) (p : List Tale) (k : KernelState) → InKill t p k → InKill t (and_then (lose_first_area t k o).entries p) (lose_first_area t k o).state
lose_told t None p k i = i
lose_told t (Some base) p k i = memory_told (Kill t.0) p k i _

areas_told : (t : TaskNo) (p : List Tale) (k : KernelState) → InKill t p k → InKill t (and_then (drop_areas t k).entries p) (drop_areas t k).state
areas_told t p k inside =
    each_tells (List Tale) and_then (λ _. refl) and_then-append (drop_first_area t) (InKill t) (λ q j i h. lose_told t (first_area j.memory t) q j h) (count_areas k.memory t) 0 p k inside

-- the kill is over

gone_stands : (l : Life) (v : ℕ) → IsGone l → StandsAt v l → ⊥
gone_stands l v g s = grind arith

not_here : (t : TaskNo) (from : ℕ) (place' : Place) → same_place place' (place.Incoming t) ≡ false → same_place place' (place.Dispatched t) ≡ false → same_place place' (place.Answers t) ≡ false → IsHome from place' → StandsAt t.0 (life_at from place') → ⊥
not_here t from (place.Incoming s) i d a home e = false≢true (sym i ∙ eq-eqb s.0 t.0 e)
not_here t from (place.Dispatched s) i d a home e = false≢true (sym d ∙ eq-eqb s.0 t.0 e)
not_here t from (place.Answers s) i d a home e = false≢true (sym a ∙ eq-eqb s.0 t.0 (home ∙ e))

module _ (t : TaskNo) (p : List Tale) (k : KernelState) (inside : InKill t p k) (left : HasNothingOf t k) where
  none_stands : (n : ℕ) (c : Option Call) → call_at k.calls n ≡ c → StandsAt t.0 (life n p) → ⊥
  none_stands n None h s = gone_stands (life n p) t.0 (subst (Agrees k.tasks.alive (life n p) (origin n p) (is_forgotten n p) n) h (inside.core.calls n)) s
  none_stands n (Some c) h s =
      let it = is_told (Kill t.0) p k inside n c h in
      not_here t c.from.task.0 c.place (left.incoming n c h) (left.dispatched n c h) (left.answers n c h) it.home (rw it.place at s)

  kill_finished : PastFits p k
  kill_finished = fits_of p k inside.core (λ v n d s.
      let e : Kill t.0 ≡ Kill v = inside.stands v n s (sym (inside.core.ended v) ∙ d) in
      let same : v ≡ t.0 = cc in
      none_stands n (call_at k.calls n) refl (subst (λ x. StandsAt x (life n p)) same s))

past_kills : (p : List Tale) (k : KernelState) → PastFits p k → IsSound k → (t : TaskNo) → is_alive k t ≡ true → PastFits (and_then (killed_entries t (kill k t)) p) (kill k t).state
past_kills p k fits sound t alive =
    let marks : List Bool = k.tasks.alive in
    let h : List Tale = Head (Kill t.0) ∷ p in
    let m0 : Transition = hang_up_own_phones t (mark_ended k t) in
    let m1 : Transition = then_do m0 (slam_phones_to t) in
    let m2 : Transition = then_do m1 (settle_incoming t) in
    let m3 : Transition = then_do m2 (settle_dispatched t) in
    let m4 : Transition = then_do m3 (drop_answers t) in
    let i0 : InKill t (and_then m0.entries h) m0.state = hangups_told t h (mark_ended k t) (kill_begun t p k fits sound alive) in
    let i1 : InKill t (and_then m1.entries h) m1.state = tells (InKill t) m0 (slam_phones_to t) h (slams_told t (and_then m0.entries h) m0.state i0) in
    let i2 : InKill t (and_then m2.entries h) m2.state = tells (InKill t) m1 (settle_incoming t) h (incoming_told t (and_then m1.entries h) m1.state i1) in
    let i3 : InKill t (and_then m3.entries h) m3.state = tells (InKill t) m2 (settle_dispatched t) h (dispatched_told t (and_then m2.entries h) m2.state i2) in
    let i4 : InKill t (and_then m4.entries h) m4.state = tells (InKill t) m3 (drop_answers t) h (answers_told t (and_then m3.entries h) m3.state i3) in
    let s0 : IsEnding marks (mark_ended k t) = record { sound = sound } in
    let s1 = phones_slammed marks t (after_hangups t k) (own_phones_hung_up marks t (mark_ended k t) alive s0) in
    let s2 = dispatched_settled marks t (after_incoming t k) (incoming_settled marks t (after_slams t k) s1) in
    let s3 : IsUnanswered marks t m4.state = answers_dropped marks t (after_dispatched t k) s2 in
    let m5 : Transition = then_do m4 (forget_calls_elsewhere t) in
    let i5 : IsLate marks t (and_then m5.entries h) m5.state = tells (IsLate marks t) m4 (forget_calls_elsewhere t) h (forgotten_told marks t (and_then m4.entries h) m4.state (i4, s3)) in
    let i6 : InKill t (and_then (kill k t).entries h) (kill k t).state = tells (InKill t) m5 (drop_areas t) h (areas_told t (and_then m5.entries h) m5.state i5.0) in
    kill_finished t _ _ i6 (kill_leaves_nothing k t sound alive)
  where
    tells : (J : List Tale → KernelState → Type 0) (s : Transition) (f : KernelState → Transition) (q : List Tale) → J (and_then (f s.state).entries (and_then s.entries q)) (f s.state).state → J (and_then (then_do s f).entries q) (then_do s f).state
    tells J s f q i = then_tells (List Tale) and_then (λ _. refl) and_then-append J s f q i

-- a kill keeps the history fitting
pub kill_fits : (h : List Entry) (k : KernelState) (t : TaskNo) → HistoryFits h k → is_alive k t ≡ true → HistoryFits (h ++ killed_entries t (kill_event k t)) (kill_event k t).state
kill_fits h k t fits alive =
    let after = sound_kill k t fits.sound alive in
    record {
      sound = record { calls = after.calls; tasks = after.tasks; kept = after.kept; keepers = after.keepers; memory = after.memory };
      limits = within_event (kill k t).state (within_kill k t fits.sound alive fits.limits);
      told = rw (past-append h (killed_entries t (kill_event k t))) (fits_later _ (kill k t).state (past_kills (past h) k fits.told fits.sound t alive));
      areas = rw (newest_first-append h (killed_entries t (kill_event k t))) (areas_kill t (newest_first h) k fits.areas fits.sound alive);
      known =
          let n : ℕ = length k.tasks.alive in
          rw (kill_marks k t, length-set k.tasks.alive (t.0 - 1) false)
          (known_append n h (killed_entries t (kill_event k t)) fits.known (alive_known k.tasks.alive t alive, effects_known n (kill_event k t).entries (kill_is_honest k t)));
    }
