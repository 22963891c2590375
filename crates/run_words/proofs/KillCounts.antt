-- Steps and a kill come to the same after however many events.
use Rattle.std.proofs.Common.{◌≡◌, ℕ, zero, suc, ◌+◌, ◌==◌, Bool, true, false, ◌++◌, length, refl, ◌∙◌, ap, Option, None, Some, cond}
use Rattle.std.specs.Option.{option_map_or}
use Rattle.ipc_ids.specs.declared.numbers.TaskNo.{TaskNo}
use Rattle.ipc_ids.specs.declared.message.Reply.{Reply}
use Rattle.ipc_ids.specs.declared.message.PhoneState.{PhoneState}
use Rattle.ipc_ids.specs.declared.message.PhoneState.TheVariants.{Free, Connecting, Connected, HungUp, Slammed}
use Rattle.call_slab.specs.declared.call.Call.{Call}
use Rattle.call_slab.specs.declared.call.Place.{Place}
use Rattle.call_slab.specs.declared.call.Place.TheVariants.{Incoming, Dispatched, Answers}
use Rattle.answerbox.specs.Calls.{calls_at, calls_by}
use Rattle.address_space.specs.Memory.{first_area, count_areas}
use Rattle.switchboard.specs.State.{KernelState, Transition, nothing, then_do, each, drain, phone_at, width, mark_ended}
use Rattle.switchboard.specs.Joins.{settle, settle_for, lives, drop_answer, forget_call, hang_up, slam, slam_at}
use Rattle.cleanup.specs.Kill.{task_no, hang_up_at, hang_up_own_phones, slam_phones_of, slam_other, slam_phones_to, settle_call, settle_calls_at, drop_answers, forget_calls_elsewhere, drop_first_area, drop_areas, kill, first_at, first_call_of}
use Rattle.switchboard.specs.Areas.{lose_first_area}
use Rattle.run_words.specs.Counted.{with_count, step_with_count}

module _ (n : ℕ) where
  -- ---- steps in a row
  pub then_at : (s : Transition) (f : KernelState → Transition)
      → ((k : KernelState) → f (with_count n k) ≡ step_with_count n (f k))
      → then_do (step_with_count n s) f ≡ step_with_count n (then_do s f)
  then_at s f h = ap (λ (z : Transition). record { state = z.state; entries = s.entries ++ z.entries }) (h s.state)

  each_at : (step : KernelState → ℕ → Transition)
      → ((k : KernelState) (i : ℕ) → step (with_count n k) i ≡ step_with_count n (step k i))
      → (m i : ℕ) (k : KernelState) → each step m i (with_count n k) ≡ step_with_count n (each step m i k)
  each_at step h zero i k = refl
  each_at step h (suc m) i k =
      ap (λ (z : Transition). then_do z (each step m (i + 1))) (h k i)
      ∙ then_at (step k i) (each step m (i + 1)) (each_at step h m (i + 1))

  drained : (next : KernelState → Option Call) (step : KernelState → Call → Transition)
      → ((k : KernelState) (c : Call) → step (with_count n k) c ≡ step_with_count n (step k c))
      → (m : ℕ) (k : KernelState)
      → ((j : KernelState) → drain next step m (with_count n j) ≡ step_with_count n (drain next step m j))
      → (o : Option Call)
      → option_map_or (λ c. then_do (step (with_count n k) c) (drain next step m)) o (nothing (with_count n k))
      ≡ step_with_count n (option_map_or (λ c. then_do (step k c) (drain next step m)) o (nothing k))
  drained next step h m k later None = refl
  drained next step h m k later (Some c) =
      ap (λ (z : Transition). then_do z (drain next step m)) (h k c) ∙ then_at (step k c) (drain next step m) later

  pub drain_at : (next : KernelState → Option Call) (step : KernelState → Call → Transition)
      → ((k : KernelState) → next (with_count n k) ≡ next k)
      → ((k : KernelState) (c : Call) → step (with_count n k) c ≡ step_with_count n (step k c))
      → (m : ℕ) (k : KernelState) → drain next step m (with_count n k) ≡ step_with_count n (drain next step m k)
  drain_at next step e h zero k = refl
  drain_at next step e h (suc m) k =
      ap
      (λ (o : Option Call). option_map_or (λ c. then_do (step (with_count n k) c) (drain next step m)) o
      (nothing (with_count n k)))
      (e k)
      ∙ drained next step h m k (drain_at next step e h m) (next k)

  -- ---- the joins
  hung_up_at : (k : KernelState) (t : TaskNo) (p : ℕ) (o : Option PhoneState)
      → hang_up (with_count n k) t p o ≡ step_with_count n (hang_up k t p o)
  hung_up_at k t p None = refl
  hung_up_at k t p (Some Free) = refl
  hung_up_at k t p (Some Connecting) = refl
  hung_up_at k t p (Some (Connected u)) = refl
  hung_up_at k t p (Some HungUp) = refl
  hung_up_at k t p (Some Slammed) = refl

  pub if_at : (b : Bool) (x y : Transition) (x' y' : Transition) → x' ≡ step_with_count n x → y' ≡ step_with_count n y
      → cond b x' y' ≡ step_with_count n (cond b x y)
  if_at true x y x' y' e f = e
  if_at false x y x' y' e f = f

  slammed_at : (t u : TaskNo) (k : KernelState) (p : ℕ) (o : Option PhoneState)
      → slam t u (with_count n k) p o ≡ step_with_count n (slam t u k p o)
  slammed_at t u k p None = refl
  slammed_at t u k p (Some Free) = refl
  slammed_at t u k p (Some Connecting) = refl
  slammed_at t u k p (Some HungUp) = refl
  slammed_at t u k p (Some Slammed) = refl
  slammed_at t u k p (Some (Connected v)) = if_at (v.0 == t.0) _ _ _ _ refl refl

  settled_at : (k : KernelState) (c : Call) (reply : Reply) (by o : Option TaskNo) (b : Bool)
      → settle_for (with_count n k) c reply by o b ≡ step_with_count n (settle_for k c reply by o b)
  settled_at k c reply by None b = refl
  settled_at k c reply by (Some u) false = refl
  settled_at k c reply by (Some u) true = refl

  pub settle_at : (reply : Reply) (by : Option TaskNo) (k : KernelState) (c : Call)
      → settle (with_count n k) c reply by ≡ step_with_count n (settle k c reply by)
  settle_at reply by k c = settled_at k c reply by c.caller (lives k c.caller)

  lost_at : (t : TaskNo) (k : KernelState) (o : Option ℕ)
      → lose_first_area t (with_count n k) o ≡ step_with_count n (lose_first_area t k o)
  lost_at t k None = refl
  lost_at t k (Some base) = refl

  -- ---- a kill
  own_phones_at : (t : TaskNo) (k : KernelState)
      → hang_up_own_phones t (with_count n k) ≡ step_with_count n (hang_up_own_phones t k)
  own_phones_at t k = each_at (hang_up_at t) (λ j p. hung_up_at j t p (phone_at j t p)) (width k.tasks.phones t.0) 0 k

  phones_of_at : (t u : TaskNo) (k : KernelState)
      → slam_phones_of t u (with_count n k) ≡ step_with_count n (slam_phones_of t u k)
  phones_of_at t u k = each_at (slam_at t u) (λ j p. slammed_at t u j p (phone_at j u p)) (width k.tasks.phones u.0) 0 k

  other_at : (t : TaskNo) (k : KernelState) (i : ℕ)
      → slam_other t (with_count n k) i ≡ step_with_count n (slam_other t k i)
  other_at t k i = if_at (i + 1 == t.0) _ _ _ _ refl (phones_of_at t (task_no (i + 1)) k)

  phones_to_at : (t : TaskNo) (k : KernelState)
      → slam_phones_to t (with_count n k) ≡ step_with_count n (slam_phones_to t k)
  phones_to_at t k = each_at (slam_other t) (other_at t) (length k.tasks.phones) 0 k

  calls_settled_at : (place : Place) (k : KernelState)
      → settle_calls_at place (with_count n k) ≡ step_with_count n (settle_calls_at place k)
  calls_settled_at place k =
      drain_at (first_at place) settle_call (λ j. refl) (λ j c. settle_at _ None j c) (calls_at k.calls place) k

  answers_dropped_at : (t : TaskNo) (k : KernelState)
      → drop_answers t (with_count n k) ≡ step_with_count n (drop_answers t k)
  answers_dropped_at t k =
      drain_at (first_at (Answers t)) (drop_answer t) (λ j. refl) (λ j c. refl) (calls_at k.calls (Answers t)) k

  forgotten_at : (t : TaskNo) (k : KernelState)
      → forget_calls_elsewhere t (with_count n k) ≡ step_with_count n (forget_calls_elsewhere t k)
  forgotten_at t k = drain_at (first_call_of t) forget_call (λ j. refl) (λ j c. refl) (calls_by k.calls t) k

  areas_dropped_at : (t : TaskNo) (k : KernelState) → drop_areas t (with_count n k) ≡ step_with_count n (drop_areas t k)
  areas_dropped_at t k =
      each_at (drop_first_area t) (λ j i. lost_at t j (first_area j.memory t)) (count_areas k.memory t) 0 k

  both_at : (s' s : Transition) (f : KernelState → Transition) → s' ≡ step_with_count n s
      → ((k : KernelState) → f (with_count n k) ≡ step_with_count n (f k))
      → then_do s' f ≡ step_with_count n (then_do s f)
  both_at s' s f e h = ap (λ (z : Transition). then_do z f) e ∙ then_at s f h

  pub kill_at : (k : KernelState) (t : TaskNo) → kill (with_count n k) t ≡ step_with_count n (kill k t)
  kill_at k t =
      let j : KernelState = mark_ended k t in
      both_at _ _ (drop_areas t)
      (both_at _ _ (forget_calls_elsewhere t)
      (both_at _ _ (drop_answers t)
      (both_at _ _ (settle_calls_at (Dispatched t))
      (both_at _ _ (settle_calls_at (Incoming t))
      (both_at _ _ (slam_phones_to t) (own_phones_at t j)
      (phones_to_at t))
      (calls_settled_at (Incoming t)))
      (calls_settled_at (Dispatched t)))
      (answers_dropped_at t))
      (forgotten_at t))
      (areas_dropped_at t)
