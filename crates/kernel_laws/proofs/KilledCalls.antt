-- Each call after a kill: what became of it.
use Rattle.std.proofs.Common.{◌≡◌, ℕ, ◌<◌, Bool, true, false, ◌⊎◌, inl, inr, Option, None, Some, List, refl, ap, sym, subst, ◌∙◌, arith}
use Rattle.std.specs.Prelude.{◌==◌}
use Rattle.std.proofs.lemmas.Bool.{cases_eq, eqb-true, false≢true}
use Rattle.ipc_ids.specs.declared.numbers.TaskNo.{TaskNo}
use Rattle.ipc_ids.specs.declared.message.PhoneState.{PhoneState}
use Rattle.ipc_ids.specs.declared.message.PhoneState.TheVariants.{Connected, Slammed}
use Rattle.ipc_ids.specs.Codes.{ehangup}
use Rattle.call_slab.specs.declared.call.Call.{Call}
use Rattle.call_slab.specs.declared.call.Place.{Place}
use Rattle.call_slab.specs.declared.call.Place.TheVariants.{Incoming, Dispatched, Answers}
use Rattle.answerbox.specs.Calls.{CallTable, call_at, calls_at, calls_by, same_place, is_caller, with_record}
use Rattle.switchboard.specs.State.{Tasks, KernelState, Transition, alive_in, is_alive, phone_at, with_calls, width, mark_ended}
use Rattle.switchboard.specs.Sound.{IsPlaced, IsCaller, IsSound}
use Rattle.switchboard.specs.Joins.{bare_reply, declined_call, settle_for, lives, drop_answer, forget_call, hangup_call, hang_up, slam}
use Rattle.cleanup.specs.Kill.{hang_up_at, first_at, first_call_of, settle_call, kill}
use Rattle.switchboard.proofs.Lookups.{put_here, put_other, gone_here, gone_other}
use Rattle.switchboard.proofs.Repeats.{by_test, each_keeps, drain_keeps}
use Rattle.cleanup.proofs.Silence.{IsAlone, slams_keep}
use Rattle.cleanup.proofs.Queues.{IsLive, IsUncalled, IsIdle, IsUnanswered, stands_at, is_call_of, front_at, call_from, forget_step, forget_unanswered, incoming_alone, dispatched_uncalled, drop_idle}
use Rattle.switchboard.proofs.MarkChanges.{ended_here, alive_elsewhere}
use Rattle.cleanup.proofs.Killing.{KeepsTheRest, HasNothingOf, kill_leaves_nothing, areas_last, hang_up_steady, slam_steady, settle_steady, after_hangups, after_slams, after_incoming, after_dispatched, after_answers, after_calls}
use Rattle.std.proofs.lemmas.Option.{none-some, same_Some}
use Rattle.kernel_laws.proofs.KillParts.{alone_then, uncalled_then, idle_then, unanswered_then}

-- a call stands at a task as one that waits or is held
abbrev pub IsWith : TaskNo → Call → Type 0
IsWith t c = (same_place c.place (Incoming t) ≡ true) ⊎ (same_place c.place (Dispatched t) ≡ true)

-- the record of a call that the kernel has answered
abbrev pub answered_call : Call → TaskNo → ℕ → Call
answered_call c u stamp = record (declined_call c (bare_reply ehangup)) { place = Answers u; stamp = stamp }

-- the kernel has answered a call that waited at t or that t held
pub record IsAnswered (t : TaskNo) (c : Call) (now : Option Call) : Type 0 where
  pub with_task : IsWith t c
  pub caller : TaskNo
  pub is : c.caller ≡ Some caller
  pub other : caller.0 ≡ t.0 → ⊥
  pub stamp : ℕ
  pub answer : now ≡ Some (answered_call c caller stamp)

-- a call at t is over, since nobody else waits for its answer
pub record IsOver (t : TaskNo) (c : Call) (now : Option Call) : Type 0 where
  pub at_task : IsWith t c ⊎ (same_place c.place (Answers t) ≡ true)
  pub alone : (u : TaskNo) → c.caller ≡ Some u → u.0 ≡ t.0
  pub over : now ≡ None

-- a call of t has lost its caller
pub record IsOrphaned (t : TaskNo) (c : Call) (now : Option Call) : Type 0 where
  pub made : is_caller t c.caller ≡ true
  pub orphan : now ≡ Some (record c { caller = None })

-- what may become of a call while t ends
abbrev pub Becomes : TaskNo → Call → Option Call → Type 0
Becomes t c now = (now ≡ Some c) ⊎ (IsAnswered t c now ⊎ (IsOver t c now ⊎ IsOrphaned t c now))

its_caller : (t u : TaskNo) (o : Option TaskNo) → is_caller t o ≡ true → o ≡ Some u → u.0 ≡ t.0
its_caller t u o made from = eqb-true u.0 t.0 (sym (ap (is_caller t) from) ∙ made)

not_with : (t u : TaskNo) → (same_place (Answers u) (Incoming t) ≡ true) ⊎ (same_place (Answers u) (Dispatched t) ≡ true) → ⊥
not_with t u (inl e) = false≢true e
not_with t u (inr e) = false≢true e

at_answers : (t : TaskNo) (tasks : Tasks) (o : Option TaskNo) (place : Place) → IsPlaced tasks o place → same_place place (Answers t) ≡ true → (u : TaskNo) → o ≡ Some u → u.0 ≡ t.0
at_answers t tasks o (Incoming s) h there u from = absurd (false≢true there)
at_answers t tasks o (Dispatched s) h there u from = absurd (false≢true there)
at_answers t tasks o (Answers s) h there u from = ap (λ (x : TaskNo). x.0) (same_Some u s (sym from ∙ h)) ∙ eqb-true s.0 t.0 there

abbrev orphan : Call → Call
orphan c = record c { caller = None }

-- where the kernel ends one call, each other one stays as it is
pub leaves_other : (n : ℕ) (j : KernelState) (d : Call) (o : Option TaskNo) (b : Bool) → (d.number.0 ≡ n → ⊥)
    → call_at (settle_for j d (bare_reply ehangup) None o b).state.calls n ≡ call_at j.calls n
leaves_other n j d (Some u) true ne = put_other j.calls d.number.0 n (answered_call d u j.calls.next_stamp) ne
leaves_other n j d (Some u) false ne = gone_other j.calls d.number.0 n ne
leaves_other n j d None b ne = gone_other j.calls d.number.0 n ne

module _ (k : KernelState) (t : TaskNo) (sound : IsSound k) (alive : is_alive k t ≡ true) (n : ℕ) (c : Call) (is : call_at k.calls n ≡ Some c) where
  abbrev now_dead : KernelState
  now_dead = mark_ended k t

  abbrev Comes : KernelState → Type 0
  Comes j = Becomes t c (call_at j.calls n)

  -- of the callers that were alive, only t has ended
  caller_gone : (j : KernelState) → KeepsTheRest now_dead j → (u : TaskNo) → c.caller ≡ Some u → is_alive j u ≡ false → u.0 ≡ t.0
  caller_gone j s u from dead = elim (cases_eq u.0 t.0) [
    | inl e ↦ e
    | inr ne ↦
        let was : IsCaller k.tasks c.from (Some u) = subst (IsCaller k.tasks c.from) from (sound.calls.each n c is).caller in
        absurd (false≢true (sym dead ∙ ap (λ (m : List Bool). alive_in m u.0) s.alive ∙ alive_elsewhere k.tasks.alive t.0 alive u.0 ne ∙ was.1))
  ]

  caller_other : (j : KernelState) → KeepsTheRest now_dead j → (u : TaskNo) → is_alive j u ≡ true → u.0 ≡ t.0 → ⊥
  caller_other j s u lives e = false≢true (sym (ended_here k.tasks.alive t.0 alive) ∙ ap (alive_in now_dead.tasks.alive) (sym e) ∙ sym (ap (λ (m : List Bool). alive_in m u.0) s.alive) ∙ lives)

  -- the kernel answers a call

  settle_it : (j : KernelState) → KeepsTheRest now_dead j → c.number.0 ≡ n → IsWith t c → (o : Option TaskNo) (b : Bool) → c.caller ≡ o → lives j o ≡ b → Comes (settle_for j c (bare_reply ehangup) None o b).state
  settle_it j s e w None b from l = inr (inr (inl (record { at_task = inl w; alone = λ u f. absurd (none-some u (sym from ∙ f)); over = gone_here j.calls c.number.0 n e })))
  settle_it j s e w (Some u) false from l = inr (inr (inl (record {
    at_task = inl w;
    alone = λ v f. ap (λ (x : TaskNo). x.0) (same_Some v u (sym f ∙ from)) ∙ caller_gone j s u from l;
    over = gone_here j.calls c.number.0 n e;
  })))
  settle_it j s e w (Some u) true from l = inr (inl (record {
    with_task = w;
    caller = u;
    is = from;
    other = caller_other j s u l;
    stamp = j.calls.next_stamp;
    answer = put_here j.calls c.number.0 n (answered_call c u j.calls.next_stamp) e;
  }))

  settle_comes : (j : KernelState) (d : Call) → KeepsTheRest now_dead j → IsLive j d → IsWith t d → Comes j → Comes (settle_call j d).state
  settle_comes j d s live w h = elim (cases_eq d.number.0 n) [ inl e ↦ here e (ap (call_at j.calls) (sym e) ∙ live) h | inr ne ↦ subst (Becomes t c) (sym (leaves_other n j d d.caller (lives j d.caller) ne)) h ] where
    here : d.number.0 ≡ n → call_at j.calls n ≡ Some d → Comes j → Comes (settle_call j d).state
    here e there (inl was) =
        let same : d ≡ c = same_Some d c (sym there ∙ was) in
        subst (λ (x : Call). Comes (settle_call j x).state) (sym same) (settle_it j s (ap (λ (x : Call). x.number.0) (sym same) ∙ e) (subst (IsWith t) same w) c.caller (lives j c.caller) refl refl)
    here e there (inr (inl a)) = absurd (not_with t a.caller (subst (IsWith t) (same_Some d (answered_call c a.caller a.stamp) (sym there ∙ a.answer)) w))
    here e there (inr (inr (inl o))) = absurd (none-some d (sym o.over ∙ there))
    here e there (inr (inr (inr o))) =
        let same : d ≡ orphan c = same_Some d (orphan c) (sym there ∙ o.orphan) in
        let at_task : IsWith t (orphan c) = subst (IsWith t) same w in
        subst (λ (x : Call). Comes (settle_call j x).state) (sym same)
        (inr (inr (inl (record { at_task = inl at_task; alone = λ u f. its_caller t u c.caller o.made f; over = gone_here j.calls c.number.0 n (ap (λ (x : Call). x.number.0) (sym same) ∙ e) }))))

  -- an answer to t is dropped
  drop_comes : (j : KernelState) (d : Call) → IsLive j d → stands_at (Answers t) d ≡ true → Comes j → Comes (drop_answer t j d).state
  drop_comes j d live w h = elim (cases_eq d.number.0 n) [ inl e ↦ here e (ap (call_at j.calls) (sym e) ∙ live) h | inr ne ↦ subst (Becomes t c) (sym (gone_other j.calls d.number.0 n ne)) h ] where
    here : d.number.0 ≡ n → call_at j.calls n ≡ Some d → Comes j → Comes (drop_answer t j d).state
    here e there (inl was) =
        let same : d ≡ c = same_Some d c (sym there ∙ was) in
        let at_task : stands_at (Answers t) c ≡ true = subst (λ (x : Call). stands_at (Answers t) x ≡ true) same w in
        inr (inr (inl (record { at_task = inr at_task; alone = at_answers t k.tasks c.caller c.place (sound.calls.each n c is).place at_task; over = gone_here j.calls d.number.0 n e })))
    here e there (inr (inl a)) =
        let same : d ≡ answered_call c a.caller a.stamp = same_Some d (answered_call c a.caller a.stamp) (sym there ∙ a.answer) in
        let at_task : (a.caller.0 == t.0) ≡ true = subst (λ (x : Call). stands_at (Answers t) x ≡ true) same w in
        absurd (a.other (eqb-true a.caller.0 t.0 at_task))
    here e there (inr (inr (inl o))) = absurd (none-some d (sym o.over ∙ there))
    here e there (inr (inr (inr o))) =
        let same : d ≡ orphan c = same_Some d (orphan c) (sym there ∙ o.orphan) in
        let at_task : stands_at (Answers t) c ≡ true = subst (λ (x : Call). stands_at (Answers t) x ≡ true) same w in
        inr (inr (inl (record { at_task = inr at_task; alone = λ u f. its_caller t u c.caller o.made f; over = gone_here j.calls d.number.0 n e })))

  -- a call of t loses its caller
  forget_comes : (j : KernelState) (d : Call) → IsLive j d → is_call_of t d ≡ true → Comes j → Comes (forget_call j d).state
  forget_comes j d live made h = subst Comes (sym (forget_step j d live)) (elim (cases_eq d.number.0 n) [ inl e ↦ here e (ap (call_at j.calls) (sym e) ∙ live) h | inr ne ↦ subst (Becomes t c) (sym (put_other j.calls d.number.0 n (orphan d) ne)) h ]) where
    here : d.number.0 ≡ n → call_at j.calls n ≡ Some d → Comes j → Comes (with_calls j (with_record j.calls (orphan d)))
    here e there (inl was) =
        let same : d ≡ c = same_Some d c (sym there ∙ was) in
        inr (inr (inr (record { made = subst (λ (x : Call). is_call_of t x ≡ true) same made; orphan = put_here j.calls d.number.0 n (orphan d) e ∙ ap (λ (x : Call). Some (orphan x)) same })))
    here e there (inr (inl a)) =
        let same : d ≡ answered_call c a.caller a.stamp = same_Some d (answered_call c a.caller a.stamp) (sym there ∙ a.answer) in
        absurd (a.other (its_caller t a.caller c.caller (subst (λ (x : Call). is_call_of t x ≡ true) same made) a.is))
    here e there (inr (inr (inl o))) = absurd (none-some d (sym o.over ∙ there))
    here e there (inr (inr (inr o))) =
        let same : d ≡ orphan c = same_Some d (orphan c) (sym there ∙ o.orphan) in
        absurd (false≢true (subst (λ (x : Call). is_call_of t x ≡ true) same made))

  -- the phone parts leave it

  -- a live call below the next number
  record IsBelow (j : KernelState) : Type 0 where
    pub there : call_at j.calls n ≡ Some c
    pub below : n < j.calls.next_number

  hang_up_leaves : (j : KernelState) (p : ℕ) (o : Option PhoneState) → IsBelow j → IsBelow (hang_up j t p o).state
  hang_up_leaves j p (Some Slammed) h = record { there = h.there; below = h.below }
  hang_up_leaves j p (Some (Connected u)) h = let b = h.below in record {
    there = put_other j.calls j.calls.next_number n (record (hangup_call j t p u) { stamp = j.calls.next_stamp }) (λ e. omega arith) ∙ h.there;
    below = omega arith;
  }
  hang_up_leaves j p _ h = h

  -- a fact that a slam does not touch
  slam_calls : (q : CallTable) (u : TaskNo) (j : KernelState) (p : ℕ) (o : Option PhoneState) → j.calls ≡ q → (slam t u j p o).state.calls ≡ q
  slam_calls q u j p (Some (Connected v)) h = by_test (λ (s : Transition). s.state.calls ≡ q) (v.0 == t.0) _ _ (λ _. h) (λ _. h)
  slam_calls q u j p _ h = h

  pub after_phones : call_at (after_slams t k).calls n ≡ Some c
  after_phones =
      let h1 : IsBelow (after_hangups t k) = each_keeps (hang_up_at t) IsBelow (λ j p h. hang_up_leaves j p (phone_at j t p) h) (width k.tasks.phones t.0) 0 now_dead (record { there = is; below = (sound.calls.each n c is).below }) in
      let h2 : (after_slams t k).calls ≡ (after_hangups t k).calls = slams_keep t (λ j. j.calls ≡ (after_hangups t k).calls) (λ u p j h. slam_calls (after_hangups t k).calls u j p (phone_at j u p) h) (after_hangups t k) refl in
      ap (λ (q : CallTable). call_at q n) h2 ∙ h1.there

  steady_phones : KeepsTheRest now_dead (after_slams t k)
  steady_phones =
      let h1 : KeepsTheRest now_dead (after_hangups t k) = each_keeps (hang_up_at t) (KeepsTheRest now_dead) (λ j p s. hang_up_steady now_dead t j p (phone_at j t p) s) (width k.tasks.phones t.0) 0 now_dead (record { alive = refl; memory = refl; events = refl }) in
      slams_keep t (KeepsTheRest now_dead) (λ u p j s. slam_steady now_dead t u j p (phone_at j u p) s) (after_hangups t k) h1

  -- what holds of the calls, that the same tasks are alive, and what the call has become
  record IsOn (I : KernelState → Type 0) (j : KernelState) : Type 0 where
    pub calls : I j
    pub steady : KeepsTheRest now_dead j
    pub comes : Comes j

  settled_steady : (j : KernelState) (d : Call) → KeepsTheRest now_dead j → KeepsTheRest now_dead (settle_call j d).state
  settled_steady j d s = settle_steady now_dead j d (bare_reply ehangup) d.caller (lives j d.caller) s

  comes_incoming : IsOn (IsAlone k.tasks.alive t) (after_incoming t k)
  comes_incoming = drain_keeps (first_at (Incoming t)) settle_call (IsOn (IsAlone k.tasks.alive t))
      (λ j d h e. let f = front_at k.tasks.alive j (Incoming t) d h.calls.silent.ending e in record { calls = incoming_alone k.tasks.alive t j d h.calls e; steady = settled_steady j d h.steady; comes = settle_comes j d h.steady f.0 (inl f.1) h.comes })
      (calls_at (after_slams t k).calls (Incoming t)) (after_slams t k) (record { calls = alone_then k t sound alive; steady = steady_phones; comes = inl after_phones })

  comes_dispatched : IsOn (IsUncalled k.tasks.alive t) (after_dispatched t k)
  comes_dispatched = drain_keeps (first_at (Dispatched t)) settle_call (IsOn (IsUncalled k.tasks.alive t))
      (λ j d h e. let f = front_at k.tasks.alive j (Dispatched t) d h.calls.alone.silent.ending e in record { calls = dispatched_uncalled k.tasks.alive t j d h.calls e; steady = settled_steady j d h.steady; comes = settle_comes j d h.steady f.0 (inr f.1) h.comes })
      (calls_at (after_incoming t k).calls (Dispatched t)) (after_incoming t k) (record { calls = uncalled_then k t sound alive; steady = comes_incoming.steady; comes = comes_incoming.comes })

  comes_answers : IsOn (IsIdle k.tasks.alive t) (after_answers t k)
  comes_answers = drain_keeps (first_at (Answers t)) (drop_answer t) (IsOn (IsIdle k.tasks.alive t))
      (λ j d h e. let f = front_at k.tasks.alive j (Answers t) d h.calls.uncalled.alone.silent.ending e in record { calls = drop_idle k.tasks.alive t j d h.calls e; steady = record { alive = h.steady.alive; memory = h.steady.memory; events = h.steady.events }; comes = drop_comes j d f.0 f.1 h.comes })
      (calls_at (after_dispatched t k).calls (Answers t)) (after_dispatched t k) (record { calls = idle_then k t sound alive; steady = comes_dispatched.steady; comes = comes_dispatched.comes })

  comes_calls : IsOn (IsUnanswered k.tasks.alive t) (after_calls t k)
  comes_calls = drain_keeps (first_call_of t) forget_call (IsOn (IsUnanswered k.tasks.alive t))
      (λ j d h e. let f = call_from k.tasks.alive t j d h.calls.idle.uncalled.alone.silent.ending e in record { calls = forget_unanswered k.tasks.alive t j d h.calls e; steady = record { alive = h.steady.alive; memory = h.steady.memory; events = h.steady.events }; comes = forget_comes j d f.0 f.1 h.comes })
      (calls_by (after_answers t k).calls t) (after_answers t k) (record { calls = unanswered_then k t sound alive; steady = comes_answers.steady; comes = comes_answers.comes })

  pub kill_becomes : Becomes t c (call_at (kill k t).state.calls n)
  kill_becomes = areas_last k t Comes (λ j base h. h) comes_calls.comes

  left : HasNothingOf t (kill k t).state
  left = kill_leaves_nothing k t sound alive

  not_there : IsWith t c ⊎ (same_place c.place (Answers t) ≡ true) → (d : Call) → call_at (kill k t).state.calls n ≡ Some d → d.place ≡ c.place → ⊥
  not_there (inl (inl w)) d e p = false≢true (sym (left.incoming n d e) ∙ ap (λ (x : Place). same_place x (Incoming t)) p ∙ w)
  not_there (inl (inr w)) d e p = false≢true (sym (left.dispatched n d e) ∙ ap (λ (x : Place). same_place x (Dispatched t)) p ∙ w)
  not_there (inr w) d e p = false≢true (sym (left.answers n d e) ∙ ap (λ (x : Place). same_place x (Answers t)) p ∙ w)

  -- a call of another task that waited at t, or that t held, is answered by the kernel
  pub kill_answers : (u : TaskNo) → IsWith t c → c.caller ≡ Some u → (u.0 ≡ t.0 → ⊥) → (stamp : ℕ) × (call_at (kill k t).state.calls n ≡ Some (answered_call c u stamp))
  kill_answers u w from ne = by_fate kill_becomes where
    by_fate : Becomes t c (call_at (kill k t).state.calls n) → (stamp : ℕ) × (call_at (kill k t).state.calls n ≡ Some (answered_call c u stamp))
    by_fate (inl e) = absurd (not_there (inl w) c e refl)
    by_fate (inr (inl a)) = (a.stamp, a.answer ∙ ap (λ (v : TaskNo). Some (answered_call c v a.stamp)) (same_Some a.caller u (sym a.is ∙ from)))
    by_fate (inr (inr (inl o))) = absurd (ne (o.alone u from))
    by_fate (inr (inr (inr o))) = absurd (ne (its_caller t u c.caller o.made from))

  -- a call at t that nobody else waits for is over
  pub kill_ends : IsWith t c ⊎ (same_place c.place (Answers t) ≡ true) → ((u : TaskNo) → c.caller ≡ Some u → u.0 ≡ t.0) → call_at (kill k t).state.calls n ≡ None
  kill_ends w only = by_fate kill_becomes where
    by_fate : Becomes t c (call_at (kill k t).state.calls n) → call_at (kill k t).state.calls n ≡ None
    by_fate (inl e) = absurd (not_there w c e refl)
    by_fate (inr (inl a)) = absurd (a.other (only a.caller a.is))
    by_fate (inr (inr (inl o))) = o.over
    by_fate (inr (inr (inr o))) = absurd (not_there w (orphan c) o.orphan refl)

  -- a call of t elsewhere stays there, and has no caller any more
  pub kill_orphans : (IsWith t c ⊎ (same_place c.place (Answers t) ≡ true) → ⊥) → is_caller t c.caller ≡ true → call_at (kill k t).state.calls n ≡ Some (record c { caller = None })
  kill_orphans away made = by_fate kill_becomes where
    by_fate : Becomes t c (call_at (kill k t).state.calls n) → call_at (kill k t).state.calls n ≡ Some (record c { caller = None })
    by_fate (inl e) = absurd (false≢true (sym (left.callers n c e) ∙ made))
    by_fate (inr (inl a)) = absurd (away (inl a.with_task))
    by_fate (inr (inr (inl o))) = absurd (away o.at_task)
    by_fate (inr (inr (inr o))) = o.orphan

  -- each other call stays as it is
  pub kill_spares : (IsWith t c ⊎ (same_place c.place (Answers t) ≡ true) → ⊥) → is_caller t c.caller ≡ false → call_at (kill k t).state.calls n ≡ Some c
  kill_spares away other = by_fate kill_becomes where
    by_fate : Becomes t c (call_at (kill k t).state.calls n) → call_at (kill k t).state.calls n ≡ Some c
    by_fate (inl e) = e
    by_fate (inr (inl a)) = absurd (away (inl a.with_task))
    by_fate (inr (inr (inl o))) = absurd (away o.at_task)
    by_fate (inr (inr (inr o))) = absurd (false≢true (sym other ∙ o.made))
