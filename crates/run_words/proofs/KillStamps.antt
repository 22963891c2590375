-- Steps and a kill come to the same with other stamps of the calls.
use Rattle.std.proofs.Common.{◌≡◌, ◌≤◌, ℕ, zero, suc, ◌+◌, ◌==◌, Bool, true, false, ◌++◌, length, refl, ◌∙◌, ap, Option, None, Some, option_map, cond, arith}
use Rattle.std.specs.Option.{option_map_or}
use Rattle.ipc_ids.specs.declared.numbers.TaskNo.{TaskNo}
use Rattle.ipc_ids.specs.declared.message.Reply.{Reply}
use Rattle.ipc_ids.specs.declared.message.PhoneState.{PhoneState}
use Rattle.ipc_ids.specs.declared.message.PhoneState.TheVariants.{Free, Connecting, Connected, HungUp, Slammed}
use Rattle.call_slab.specs.declared.call.Call.{Call}
use Rattle.call_slab.specs.declared.call.Place.{Place}
use Rattle.call_slab.specs.declared.call.Place.TheVariants.{Incoming, Dispatched, Answers}
use Rattle.answerbox.specs.Calls.{CallTable, call_at, calls_at, calls_by, with_record}
use Rattle.address_space.specs.Memory.{first_area, count_areas}
use Rattle.switchboard.specs.State.{KernelState, Transition, nothing, then_do, each, drain, phone_at, width, mark_ended, with_calls}
use Rattle.switchboard.specs.Joins.{settle, settle_for, lives, declined_call, drop_answer, forget_call, hang_up, hangup_call, slam, slam_at}
use Rattle.cleanup.specs.Kill.{task_no, hang_up_at, hang_up_own_phones, slam_phones_of, slam_other, slam_phones_to, settle_call, settle_calls_at, drop_answers, forget_calls_elsewhere, drop_first_area, drop_areas, kill, first_at, first_call_of}
use Rattle.switchboard.specs.Areas.{lose_first_area}
use Rattle.run_words.specs.Stamped.{Rises, Shifts, restamp, restamped, with_stamps, step_with_stamps}
use Rattle.run_words.proofs.TableStamps.{count_at, count_by, first_made, left, forgotten, put, queued, front_at}

-- a step on a state with other stamps made what it makes without them, and its stamps are late enough
pub record Comes (f : Place → ℕ → ℕ) (d n : ℕ) (made step : Transition) : Type 0 where
  pub same : made ≡ step_with_stamps f d step
  pub late : n ≤ step.state.calls.next_stamp

-- the step, with this table of calls
abbrev pub with_table : Transition → CallTable → Transition
with_table step calls = record { state = with_calls step.state calls; entries = step.entries }

module _ (f : Place → ℕ → ℕ) (d n : ℕ) where
  -- ---- steps in a row
  pub later : (m : ℕ) → n ≤ m → n ≤ m + 1
  later m h = omega arith

  pub from_same : (x y s : Transition) → x ≡ y → Comes f d n y s → Comes f d n x s
  from_same x y s e c = record { same = e ∙ c.same; late = c.late }

  -- a step that changes the table of calls
  pub by_table : (s : Transition) (calls : CallTable) → calls ≡ restamped f d s.state.calls
      → n ≤ s.state.calls.next_stamp → Comes f d n (with_table s calls) s
  by_table s calls e h = record { same = ap (with_table s) e; late = h }

  pub then_at : (s' s : Transition) (g : KernelState → Transition) → Comes f d n s' s
      → ((k : KernelState) → n ≤ k.calls.next_stamp → Comes f d n (g (with_stamps f d k)) (g k))
      → Comes f d n (then_do s' g) (then_do s g)
  then_at s' s g e h =
      let c : Comes f d n (g (with_stamps f d s.state)) (g s.state) = h s.state e.late in
      record {
        same = ap (λ (z : Transition). then_do z g) e.same
            ∙ ap (λ (z : Transition). record { state = z.state; entries = s.entries ++ z.entries }) c.same;
        late = c.late;
      }

  each_at : (step : KernelState → ℕ → Transition)
      → ((k : KernelState) (i : ℕ) → n ≤ k.calls.next_stamp → Comes f d n (step (with_stamps f d k) i) (step k i))
      → (m i : ℕ) (k : KernelState) → n ≤ k.calls.next_stamp
      → Comes f d n (each step m i (with_stamps f d k)) (each step m i k)
  each_at step h zero i k l = record { same = refl; late = l }
  each_at step h (suc m) i k l =
      then_at (step (with_stamps f d k) i) (step k i) (each step m (i + 1)) (h k i l) (each_at step h m (i + 1))

  drained : (next : KernelState → Option Call) (step : KernelState → Call → Transition)
      → ((k : KernelState) (c : Call) → n ≤ k.calls.next_stamp
      → Comes f d n (step (with_stamps f d k) (restamp f c)) (step k c))
      → (m : ℕ)
      → ((j : KernelState) → n ≤ j.calls.next_stamp
      → Comes f d n (drain next step m (with_stamps f d j)) (drain next step m j))
      → (k : KernelState) → n ≤ k.calls.next_stamp → (o : Option Call)
      → Comes f d n
      (option_map_or (λ c. then_do (step (with_stamps f d k) c) (drain next step m)) (option_map (restamp f) o)
      (nothing (with_stamps f d k)))
      (option_map_or (λ c. then_do (step k c) (drain next step m)) o (nothing k))
  drained next step h m rest k l None = record { same = refl; late = l }
  drained next step h m rest k l (Some c) =
      then_at (step (with_stamps f d k) (restamp f c)) (step k c) (drain next step m) (h k c l) rest

  pub drain_at : (next : KernelState → Option Call) (step : KernelState → Call → Transition)
      → ((k : KernelState) → next (with_stamps f d k) ≡ option_map (restamp f) (next k))
      → ((k : KernelState) (c : Call) → n ≤ k.calls.next_stamp
      → Comes f d n (step (with_stamps f d k) (restamp f c)) (step k c))
      → (m : ℕ) (k : KernelState) → n ≤ k.calls.next_stamp
      → Comes f d n (drain next step m (with_stamps f d k)) (drain next step m k)
  drain_at next step e h zero k l = record { same = refl; late = l }
  drain_at next step e h (suc m) k l =
      from_same _ _ _
      (ap
      (λ (o : Option Call). option_map_or (λ c. then_do (step (with_stamps f d k) c) (drain next step m)) o
      (nothing (with_stamps f d k)))
      (e k))
      (drained next step h m (drain_at next step e h m) k l (next k))

  pub if_at : (b : Bool) (x y x' y' : Transition) → Comes f d n x' x → Comes f d n y' y
      → Comes f d n (cond b x' y') (cond b x y)
  if_at true x y x' y' e g = e
  if_at false x y x' y' e g = g

  -- ---- the joins that move no call
  slammed_at : (t u : TaskNo) (k : KernelState) (p : ℕ) (o : Option PhoneState) → n ≤ k.calls.next_stamp
      → Comes f d n (slam t u (with_stamps f d k) p o) (slam t u k p o)
  slammed_at t u k p None l = record { same = refl; late = l }
  slammed_at t u k p (Some Free) l = record { same = refl; late = l }
  slammed_at t u k p (Some Connecting) l = record { same = refl; late = l }
  slammed_at t u k p (Some HungUp) l = record { same = refl; late = l }
  slammed_at t u k p (Some Slammed) l = record { same = refl; late = l }
  slammed_at t u k p (Some (Connected v)) l =
      if_at (v.0 == t.0) _ _ _ _ (record { same = refl; late = l }) (record { same = refl; late = l })

  lost_at : (t : TaskNo) (k : KernelState) (o : Option ℕ) → n ≤ k.calls.next_stamp
      → Comes f d n (lose_first_area t (with_stamps f d k) o) (lose_first_area t k o)
  lost_at t k None l = record { same = refl; late = l }
  lost_at t k (Some base) l = record { same = refl; late = l }

  pub dropped_at : (t : TaskNo) (k : KernelState) (c : Call) → n ≤ k.calls.next_stamp
      → Comes f d n (drop_answer t (with_stamps f d k) (restamp f c)) (drop_answer t k c)
  dropped_at t k c l = by_table (drop_answer t k c) _ (left f d k.calls c.number.0) l

  -- what is forgotten changes no stamp
  forgot_at : (k : KernelState) (c : Call) (o : Option Call) → n ≤ k.calls.next_stamp
      → n ≤ (option_map_or (λ x. with_record k.calls (record x { caller = None })) o k.calls).next_stamp
  forgot_at k c None l = l
  forgot_at k c (Some x) l = l

  forget_at : (k : KernelState) (c : Call) → n ≤ k.calls.next_stamp
      → Comes f d n (forget_call (with_stamps f d k) (restamp f c)) (forget_call k c)
  forget_at k c l =
      by_table (forget_call k c) _ (forgotten f d k.calls c.number.0)
      (forgot_at k c (call_at k.calls c.number.0) l)

  module _ (shifts : Shifts n d f) where
    pub hung_up_at : (k : KernelState) (t : TaskNo) (p : ℕ) (o : Option PhoneState) → n ≤ k.calls.next_stamp
        → Comes f d n (hang_up (with_stamps f d k) t p o) (hang_up k t p o)
    hung_up_at k t p None l = record { same = refl; late = l }
    hung_up_at k t p (Some Free) l = record { same = refl; late = l }
    hung_up_at k t p (Some Connecting) l = record { same = refl; late = l }
    hung_up_at k t p (Some (Connected u)) l =
        by_table (hang_up k t p (Some (Connected u))) _
        (queued f d n shifts k.calls (hangup_call k t p u) l) (later k.calls.next_stamp l)
    hung_up_at k t p (Some HungUp) l = record { same = refl; late = l }
    hung_up_at k t p (Some Slammed) l = record { same = refl; late = l }

    settled_at : (k : KernelState) (c : Call) (reply : Reply) (by o : Option TaskNo) (b : Bool)
        → n ≤ k.calls.next_stamp
        → Comes f d n (settle_for (with_stamps f d k) (restamp f c) reply by o b) (settle_for k c reply by o b)
    settled_at k c reply by None b l = by_table (settle_for k c reply by None b) _ (left f d k.calls c.number.0) l
    settled_at k c reply by (Some u) false l =
        by_table (settle_for k c reply by (Some u) false) _ (left f d k.calls c.number.0) l
    settled_at k c reply by (Some u) true l =
        by_table (settle_for k c reply by (Some u) true) _
        (put f d n shifts k.calls (declined_call c reply) (Answers u) l) (later k.calls.next_stamp l)

    pub settle_at : (reply : Reply) (by : Option TaskNo) (k : KernelState) (c : Call) → n ≤ k.calls.next_stamp
        → Comes f d n (settle (with_stamps f d k) (restamp f c) reply by) (settle k c reply by)
    settle_at reply by k c l = settled_at k c reply by c.caller (lives k c.caller) l

    -- ---- a kill
    own_phones_at : (t : TaskNo) (k : KernelState) → n ≤ k.calls.next_stamp
        → Comes f d n (hang_up_own_phones t (with_stamps f d k)) (hang_up_own_phones t k)
    own_phones_at t k l =
        each_at (hang_up_at t) (λ j p h. hung_up_at j t p (phone_at j t p) h) (width k.tasks.phones t.0) 0 k l

    phones_of_at : (t u : TaskNo) (k : KernelState) → n ≤ k.calls.next_stamp
        → Comes f d n (slam_phones_of t u (with_stamps f d k)) (slam_phones_of t u k)
    phones_of_at t u k l =
        each_at (slam_at t u) (λ j p h. slammed_at t u j p (phone_at j u p) h) (width k.tasks.phones u.0) 0 k l

    other_at : (t : TaskNo) (k : KernelState) (i : ℕ) → n ≤ k.calls.next_stamp
        → Comes f d n (slam_other t (with_stamps f d k) i) (slam_other t k i)
    other_at t k i l =
        if_at (i + 1 == t.0) _ _ _ _ (record { same = refl; late = l }) (phones_of_at t (task_no (i + 1)) k l)

    phones_to_at : (t : TaskNo) (k : KernelState) → n ≤ k.calls.next_stamp
        → Comes f d n (slam_phones_to t (with_stamps f d k)) (slam_phones_to t k)
    phones_to_at t k l = each_at (slam_other t) (other_at t) (length k.tasks.phones) 0 k l

    forgotten_at : (t : TaskNo) (k : KernelState) → n ≤ k.calls.next_stamp
        → Comes f d n (forget_calls_elsewhere t (with_stamps f d k)) (forget_calls_elsewhere t k)
    forgotten_at t k l =
        from_same _ _ _
        (ap (λ (m : ℕ). drain (first_call_of t) forget_call m (with_stamps f d k)) (count_by f d k.calls t))
        (drain_at (first_call_of t) forget_call (λ j. first_made f d j.calls t) forget_at (calls_by k.calls t) k l)

    areas_dropped_at : (t : TaskNo) (k : KernelState) → n ≤ k.calls.next_stamp
        → Comes f d n (drop_areas t (with_stamps f d k)) (drop_areas t k)
    areas_dropped_at t k l =
        each_at (drop_first_area t) (λ j i h. lost_at t j (first_area j.memory t) h) (count_areas k.memory t) 0 k l

    module _ (rises : Rises f) where
      calls_settled_at : (place : Place) (k : KernelState) → n ≤ k.calls.next_stamp
          → Comes f d n (settle_calls_at place (with_stamps f d k)) (settle_calls_at place k)
      calls_settled_at place k l =
          from_same _ _ _
          (ap (λ (m : ℕ). drain (first_at place) settle_call m (with_stamps f d k)) (count_at f d k.calls place))
          (drain_at (first_at place) settle_call (λ j. front_at f d rises j.calls place)
          (λ j c h. settle_at _ None j c h) (calls_at k.calls place) k l)

      answers_dropped_at : (t : TaskNo) (k : KernelState) → n ≤ k.calls.next_stamp
          → Comes f d n (drop_answers t (with_stamps f d k)) (drop_answers t k)
      answers_dropped_at t k l =
          from_same _ _ _
          (ap (λ (m : ℕ). drain (first_at (Answers t)) (drop_answer t) m (with_stamps f d k))
          (count_at f d k.calls (Answers t)))
          (drain_at (first_at (Answers t)) (drop_answer t) (λ j. front_at f d rises j.calls (Answers t))
          (dropped_at t) (calls_at k.calls (Answers t)) k l)

      pub kill_at : (k : KernelState) (t : TaskNo) → n ≤ k.calls.next_stamp
          → Comes f d n (kill (with_stamps f d k) t) (kill k t)
      kill_at k t l =
          let j : KernelState = mark_ended k t in
          then_at _ _ (drop_areas t)
          (then_at _ _ (forget_calls_elsewhere t)
          (then_at _ _ (drop_answers t)
          (then_at _ _ (settle_calls_at (Dispatched t))
          (then_at _ _ (settle_calls_at (Incoming t))
          (then_at _ _ (slam_phones_to t) (own_phones_at t j l)
          (phones_to_at t))
          (calls_settled_at (Incoming t)))
          (calls_settled_at (Dispatched t)))
          (answers_dropped_at t))
          (forgotten_at t))
          (areas_dropped_at t)
