-- The parts of an end of a task read the marks only for the callers of live calls: marks that agree on these, and on
-- the task, give the same.
use Rattle.std.proofs.Common.{◌≡◌, ℕ, zero, suc, ◌+◌, Bool, true, false, Option, None, Some, List, ◌++◌, [], ◌∷◌, length, refl, ap, sym, ◌∙◌}
use Rattle.std.specs.Prelude.{◌==◌, ⊤, if◌then◌else◌}
use Rattle.std.specs.Option.{option_map_or}
use Rattle.ipc_ids.specs.declared.numbers.TaskNo.{TaskNo}
use Rattle.ipc_ids.specs.declared.message.PhoneState.{PhoneState}
use Rattle.ipc_ids.specs.declared.message.PhoneState.TheVariants.{Free, Connecting, Connected, HungUp, Slammed}
use Rattle.ipc_ids.specs.declared.entry.Entry.TheVariants.{PhoneIs}
use Rattle.ipc_ids.specs.Codes.{ehangup}
use Rattle.call_slab.specs.declared.call.Call.{Call}
use Rattle.call_slab.specs.declared.call.Place.{Place}
use Rattle.call_slab.specs.declared.call.Place.TheVariants.{Incoming, Dispatched, Answers}
use Rattle.answerbox.specs.Calls.{CallTable, call_at, calls_at, calls_by, enqueue, put_at, without_call, with_record}
use Rattle.answerbox.proofs.Fronts.{front_live}
use Rattle.switchboard.specs.State.{KernelState, Transition, alive_in, phone_at, with_phone, label_of, nothing, then_do, drain, each, width}
use Rattle.switchboard.specs.Joins.{bare_reply, declined_call, lives, settle_for, drop_answer, forget_call, hang_up, hangup_call, slam, slam_at}
use Rattle.cleanup.specs.Kill.{task_no, hang_up_at, hang_up_own_phones, slam_phones_of, slam_other, slam_phones_to, first_at, settle_call, settle_calls_at, settle_incoming, settle_dispatched, drop_answers, first_call_of, forget_calls_elsewhere, end_phones_and_calls, drop_first_area, drop_areas, end_parts}
use Rattle.address_space.specs.Memory.{first_area, count_areas}
use Rattle.switchboard.specs.Areas.{lose_first_area}
use Rattle.switchboard.proofs.Lookups.{at_insert}
use Rattle.switchboard.proofs.Keeping.{each_with, each_without}
use Rattle.cleanup.proofs.Silence.{with_marks}

-- this caller has the same mark in both
abbrev pub SameMark : List Bool → List Bool → Option TaskNo → Type 0
SameMark a b None = ⊤
SameMark a b (Some u) = alive_in a u.0 ≡ alive_in b u.0

-- the marks agree with those of the state on task t, and on each caller of a live call
pub record Agree (marks : List Bool) (t : TaskNo) (k : KernelState) : Type 0 where
  pub task : alive_in k.tasks.alive t.0 ≡ alive_in marks t.0
  pub callers : (n : ℕ) (c : Call) → call_at k.calls n ≡ Some c → SameMark k.tasks.alive marks c.caller

-- the same transition of a state with these marks
abbrev pub remarked : List Bool → Transition → Transition
remarked marks s = record { state = with_marks marks s.state; entries = s.entries }

-- a step does the same with these marks, and leaves them agreeing
abbrev IsBlind : List Bool → TaskNo → (KernelState → Transition) → Type 0
IsBlind marks t step = (k : KernelState) → Agree marks t k → (step (with_marks marks k) ≡ remarked marks (step k)) × Agree marks t (step k).state

module _ (marks : List Bool) (t : TaskNo) where
  blind_then : (first next : KernelState → Transition) → IsBlind marks t first → IsBlind marks t next → IsBlind marks t (λ k. then_do (first k) next)
  blind_then first next f g k a =
      let one = f k a in
      let two = g (first k).state one.1 in
      (ap (λ (s : Transition). then_do s next) one.0 ∙ ap (λ (s : Transition). record { state = s.state; entries = (first k).entries ++ s.entries }) two.0, two.1)

  blind_if : (b : Bool) (one other : KernelState → Transition) → IsBlind marks t one → IsBlind marks t other → IsBlind marks t (λ k. if b then one k else other k)
  blind_if true one other f g k a = f k a
  blind_if false one other f g k a = g k a

  blind_each : (step : KernelState → ℕ → Transition) → ((i : ℕ) → IsBlind marks t (λ k. step k i)) → (n i : ℕ) → IsBlind marks t (each step n i)
  blind_each step h zero i k a = (refl, a)
  blind_each step h (suc n) i k a = blind_then (λ j. step j i) (each step n (i + 1)) (h i) (blind_each step h n (i + 1)) k a

  module _ (next : KernelState → Option Call) (step : KernelState → Call → Transition) (same : (k : KernelState) → next (with_marks marks k) ≡ next k) (h : (c : Call) (k : KernelState) → next k ≡ Some c → Agree marks t k → (step (with_marks marks k) c ≡ remarked marks (step k c)) × Agree marks t (step k c).state) where
    blind_drain : (n : ℕ) → IsBlind marks t (drain next step n)
    blind_drain zero k a = (refl, a)
    blind_drain (suc n) k a = rw (same k) (by_next (next k) refl (blind_drain n)) where
      by_next : (o : Option Call) → next k ≡ o → IsBlind marks t (drain next step n) → (option_map_or (λ c. then_do (step (with_marks marks k) c) (drain next step n)) o (nothing (with_marks marks k)) ≡ remarked marks (option_map_or (λ c. then_do (step k c) (drain next step n)) o (nothing k))) × Agree marks t (option_map_or (λ c. then_do (step k c) (drain next step n)) o (nothing k)).state
      by_next None is later = (refl, a)
      by_next (Some c) is later =
          let one = h c k is a in
          let two = later (step k c).state one.1 in
          (ap (λ (s : Transition). then_do s (drain next step n)) one.0 ∙ ap (λ (s : Transition). record { state = s.state; entries = (step k c).entries ++ s.entries }) two.0, two.1)

  -- a record comes whose caller has the same mark
  agree_insert : (k : KernelState) (n : ℕ) (d : Call) (q : CallTable) → Agree marks t k → ((m : ℕ) → call_at q m ≡ (if n == m then Some d else call_at k.calls m)) → SameMark k.tasks.alive marks d.caller → (m : ℕ) (c : Call) → call_at q m ≡ Some c → SameMark k.tasks.alive marks c.caller
  agree_insert k n d q a at new = each_with (λ m c. SameMark k.tasks.alive marks c.caller) k.calls q n d a.callers at new

  agree_remove : (k : KernelState) (n : ℕ) → Agree marks t k → (m : ℕ) (c : Call) → call_at (without_call k.calls n) m ≡ Some c → SameMark k.tasks.alive marks c.caller
  agree_remove k n a = each_without (λ m c. SameMark k.tasks.alive marks c.caller) k.calls n a.callers

  blind_hang_up : (p : ℕ) (k : KernelState) (o : Option PhoneState) → Agree marks t k → (hang_up (with_marks marks k) t p o ≡ remarked marks (hang_up k t p o)) × Agree marks t (hang_up k t p o).state
  blind_hang_up p k None a = (refl, a)
  blind_hang_up p k (Some Free) a = (refl, a)
  blind_hang_up p k (Some Connecting) a = (refl, a)
  blind_hang_up p k (Some HungUp) a = (refl, a)
  blind_hang_up p k (Some Slammed) a = (refl, record { task = a.task; callers = a.callers })
  blind_hang_up p k (Some (Connected u)) a =
      let c : Call = record (hangup_call k t p u) { stamp = k.calls.next_stamp } in
      (refl, record { task = a.task; callers = agree_insert k c.number.0 c (enqueue k.calls (hangup_call k t p u)) a (λ m. at_insert k.calls.records c.number.0 m c) a.task })

  blind_slam : (u : TaskNo) (p : ℕ) (k : KernelState) (o : Option PhoneState) → Agree marks t k → (slam t u (with_marks marks k) p o ≡ remarked marks (slam t u k p o)) × Agree marks t (slam t u k p o).state
  blind_slam u p k None a = (refl, a)
  blind_slam u p k (Some Free) a = (refl, a)
  blind_slam u p k (Some Connecting) a = (refl, a)
  blind_slam u p k (Some HungUp) a = (refl, a)
  blind_slam u p k (Some Slammed) a = (refl, a)
  blind_slam u p k (Some (Connected v)) a =
      blind_if (v.0 == t.0) (λ j. record { state = with_phone j u p Slammed; entries = PhoneIs (label_of u p) Slammed ∷ [] }) nothing
      (λ j b. (refl, record { task = b.task; callers = b.callers })) (λ j b. (refl, b)) k a

  blind_slams_of : (u : TaskNo) → IsBlind marks t (slam_phones_of t u)
  blind_slams_of u k a = blind_each (slam_at t u) (λ p j b. blind_slam u p j (phone_at j u p) b) (width k.tasks.phones u.0) 0 k a

  blind_other : (i : ℕ) → IsBlind marks t (λ k. slam_other t k i)
  blind_other i = blind_if (i + 1 == t.0) nothing (slam_phones_of t (task_no (i + 1))) (λ j b. (refl, b)) (blind_slams_of (task_no (i + 1)))

  same_lives : (k : KernelState) (o : Option TaskNo) → SameMark k.tasks.alive marks o → lives (with_marks marks k) o ≡ lives k o
  same_lives k None h = refl
  same_lives k (Some u) h = sym h

  blind_settle : (c : Call) (k : KernelState) (n : ℕ) → call_at k.calls n ≡ Some c → Agree marks t k → (settle_call (with_marks marks k) c ≡ remarked marks (settle_call k c)) × Agree marks t (settle_call k c).state
  blind_settle c k n is a = rw (same_lives k c.caller (a.callers n c is)) (by_caller c.caller (lives k c.caller)) where
    by_caller : (o : Option TaskNo) (b : Bool) → (settle_for (with_marks marks k) c (bare_reply ehangup) None o b ≡ remarked marks (settle_for k c (bare_reply ehangup) None o b)) × Agree marks t (settle_for k c (bare_reply ehangup) None o b).state
    by_caller None b = (refl, record { task = a.task; callers = agree_remove k c.number.0 a })
    by_caller (Some u) false = (refl, record { task = a.task; callers = agree_remove k c.number.0 a })
    by_caller (Some u) true =
        let d : Call = declined_call c (bare_reply ehangup) in
        let e : Call = record d { place = Answers u; stamp = k.calls.next_stamp } in
        (refl, record { task = a.task; callers = agree_insert k c.number.0 e (put_at k.calls d (Answers u)) a (λ m. at_insert k.calls.records c.number.0 m e) (a.callers n c is) })

  blind_settles : (place : Place) → IsBlind marks t (settle_calls_at place)
  blind_settles place k a =
      blind_drain (first_at place) settle_call (λ j. refl) (λ c j is b. let f = front_live j.calls place c is in blind_settle c j f.0 f.1 b) (calls_at k.calls place) k a

  blind_drops : IsBlind marks t (drop_answers t)
  blind_drops k a =
      blind_drain (first_at (Answers t)) (drop_answer t) (λ j. refl) (λ c j is b. (refl, record { task = b.task; callers = agree_remove j c.number.0 b })) (calls_at k.calls (Answers t)) k a

  blind_forget : (c : Call) (k : KernelState) → Agree marks t k → (forget_call (with_marks marks k) c ≡ remarked marks (forget_call k c)) × Agree marks t (forget_call k c).state
  blind_forget c k a = (refl, record { task = a.task; callers = by_call (call_at k.calls c.number.0) }) where
    by_call : (o : Option Call) (m : ℕ) (d : Call) → call_at (option_map_or (λ x. with_record k.calls (record x { caller = None })) o k.calls) m ≡ Some d → SameMark k.tasks.alive marks d.caller
    by_call None = a.callers
    by_call (Some x) =
        let e : Call = record x { caller = None } in
        agree_insert k e.number.0 e (with_record k.calls e) a (λ m. at_insert k.calls.records e.number.0 m e) tt

  blind_forgets : IsBlind marks t (forget_calls_elsewhere t)
  blind_forgets k a = blind_drain (first_call_of t) forget_call (λ j. refl) (λ c j is b. blind_forget c j b) (calls_by k.calls t) k a

  blind_hangups : IsBlind marks t (hang_up_own_phones t)
  blind_hangups k a = blind_each (hang_up_at t) (λ p j b. blind_hang_up p j (phone_at j t p) b) (width k.tasks.phones t.0) 0 k a

  blind_slams : IsBlind marks t (slam_phones_to t)
  blind_slams k a = blind_each (slam_other t) blind_other (length k.tasks.phones) 0 k a

  -- all parts do the same
  blind_calls : IsBlind marks t (end_phones_and_calls t)
  blind_calls =
      blind_then (λ k. then_do (then_do (then_do (then_do (hang_up_own_phones t k) (slam_phones_to t)) (settle_incoming t)) (settle_dispatched t)) (drop_answers t)) (forget_calls_elsewhere t)
      (blind_then (λ k. then_do (then_do (then_do (hang_up_own_phones t k) (slam_phones_to t)) (settle_incoming t)) (settle_dispatched t)) (drop_answers t)
      (blind_then (λ k. then_do (then_do (hang_up_own_phones t k) (slam_phones_to t)) (settle_incoming t)) (settle_dispatched t)
      (blind_then (λ k. then_do (hang_up_own_phones t k) (slam_phones_to t)) (settle_incoming t)
      (blind_then (hang_up_own_phones t) (slam_phones_to t) blind_hangups blind_slams)
      (blind_settles (Incoming t)))
      (blind_settles (Dispatched t)))
      blind_drops)
      blind_forgets

  blind_lose : (k : KernelState) (o : Option ℕ) → Agree marks t k → (lose_first_area t (with_marks marks k) o ≡ remarked marks (lose_first_area t k o)) × Agree marks t (lose_first_area t k o).state
  blind_lose k None a = (refl, a)
  blind_lose k (Some base) a = (refl, record { task = a.task; callers = a.callers })

  blind_areas : IsBlind marks t (drop_areas t)
  blind_areas k a = blind_each (drop_first_area t) (λ i j b. blind_lose j (first_area j.memory t) b) (count_areas k.memory t) 0 k a

  pub blind_parts : IsBlind marks t (end_parts t)
  blind_parts = blind_then (end_phones_and_calls t) (drop_areas t) blind_calls blind_areas
