-- The definition of a kill does what is said of it.
use Rattle.std.proofs.Common.{◌≡◌, ℕ, zero, suc, ◌+◌, ◌-◌, ◌<◌, ◌≤◌, Bool, true, false, ◌⊎◌, inl, inr, List, [], ◌∷◌, length, Option, None, Some, refl, sym, ap, subst, ◌∙◌, arith}
use Rattle.std.specs.Prelude.{⊤, Ok, slice_get, ◌==◌}
use Rattle.std.specs.Option.{option_map_or}
use Rattle.std.specs.FinMap.{entries}
use Rattle.std.proofs.Math.ListN.{length-set}
use Rattle.std.proofs.lemmas.Bool.{cases_eq, cases_lt, false≢true, ne_eqb, eq-eqb, eqb-true}
use Rattle.ipc_ids.specs.declared.numbers.TaskNo.{TaskNo}
use Rattle.ipc_ids.specs.declared.message.PhoneState.{PhoneState}
use Rattle.ipc_ids.specs.declared.message.PhoneState.TheVariants.{Free, Connected, HungUp, Slammed}
use Rattle.ipc_ids.specs.declared.entry.Entry.TheVariants as entry
use Rattle.ipc_ids.specs.Codes.{ehangup}
use Rattle.ipc_ids.proofs.Common.{is_some}
use Rattle.call_slab.specs.declared.call.Call.{Call}
use Rattle.call_slab.specs.declared.call.Place.{Place}
use Rattle.call_slab.specs.declared.call.Place.TheVariants.{Incoming, Dispatched, Answers}
use Rattle.answerbox.specs.Calls.{CallTable, call_at, calls_at, calls_by, calls_of, front, same_place, is_caller, count_of, without_call, with_record}
use Rattle.answerbox.proofs.Fronts.{front-is_front, no_front-has_no_calls}
use Rattle.answerbox.proofs.Callers.{calls_of_none}
use Rattle.address_space.specs.Areas.{Area}
use Rattle.address_space.specs.Memory.{Step, areas_of, count_areas, first_area, drop_area}
use Rattle.address_space.specs.Sound as spaces
use Rattle.address_space.proofs.Ending.{no_first, first_goes, first_is_dropped}
use Rattle.address_space.proofs.Soundness.{sound_drop}
use Rattle.phone_table.specs.Phones.{row_at}
use Rattle.switchboard.specs.Board.{IsPendingAt}
use Rattle.switchboard.specs.State.{KernelState, Transition, is_alive, phone_at, label_of, with_phone, nothing, then_do, each, width, mark_ended}
use Rattle.switchboard.specs.Sound.{IsSound}
use Rattle.switchboard.specs.Kept.{kept_phone, lent_phone}
use Rattle.switchboard.specs.Joins.{bare_reply, lives, settle_for, hang_up, drop_answer, forget_call, slam, slam_at}
use Rattle.switchboard.specs.Areas.{lose_area, lose_first_area}
use Rattle.cleanup.specs.Kill.{task_no, hang_up_at, hang_up_own_phones, slam_phones_of, slam_other, slam_phones_to, first_at, settle_call, settle_calls_at, settle_incoming, settle_dispatched, drop_answers, first_call_of, forget_calls_elsewhere, drop_first_area, drop_areas, end_phones_and_calls, kill}
use Rattle.switchboard.proofs.Keepers.{state_here}
use Rattle.cleanup.proofs.KilledPhones.{written_elsewhere}
use Rattle.cleanup.proofs.Killing.{after_hangups, after_slams, after_incoming, after_dispatched, after_answers, after_calls, calls_steady}
use Rattle.switchboard.proofs.Lookups.{put_here, put_other, gone_here, gone_other}
use Rattle.switchboard.proofs.MarkChanges.{ended_here, alive_elsewhere}
use Rattle.cleanup.proofs.Queues.{IsLive, stands_at, is_call_of, front_at, answered, IsUncalled, IsIdle, IsUnanswered, incoming_alone, dispatched_uncalled, drop_idle, forget_step, forget_unanswered, call_from, over_less, put_less, settle_less}
use Rattle.switchboard.proofs.Repeats as repeats
use Rattle.cleanup.proofs.Silence.{with_marks, IsEnding, past_width, IsAlone}
use Rattle.switchboard.proofs.SoundJoins.{incoming_pending, held_pending}
use Rattle.switchboard.proofs.SoundMemory.{from_one}
use Rattle.switchboard.proofs.Soundness.{length_rows}
use Rattle.kernel_core.specs.Kernel.{kill_event}
use Rattle.kernel_core.proofs.InEvent.{same_place-true, same_task}
use Rattle.kernel_laws.specs.MemoryLaws.{Has, HasAt, Drops}
use Rattle.kernel_laws.specs.Routes.{Leads, Stands}
use Rattle.kernel_laws.proofs.LawfulAreas.{drop_is_lawful, one_base}
use Rattle.kernel_determined.specs.Frames.{IsStep, CameBefore}
use Rattle.kernel_determined.specs.SettleLaw.{DropsAnswer}
use Rattle.kernel_determined.specs.Turns.{EachInTurn}
use Rattle.kernel_determined.specs.KillLaw.{IsToHangUp, HangsUpPhone, HangsUpOwn, SlamsPhone, SlamsOf, IsOther, IsOlder, SlamsOthers, SettlesCall, SettlesAll, DropsAnswers, IsOwn, ForgetsCall, ForgetsCalls, HasBase, LosesArea, LosesAreas, EndsCalls, EndsParts, IsKill}
use Rattle.kernel_determined.proofs.TurnsKept.{no_turns, same_turns, one_turn, IsNextTurn, IsTurn, IsOwnTurn, all_drained, all_done}
use Rattle.kernel_determined.proofs.HangupDetermined.{tells, tells_nobody}
use Rattle.kernel_determined.proofs.SettleSo.{as_many, settled_is, drops}
use Rattle.kernel_determined.proofs.DropDetermined.{drop_is_whole, one_place}
use Rattle.kernel_determined.proofs.LeastSo.{least_number, least_area}
use Rattle.kernel_determined.proofs.KillDetermined.{kill_is_determined}
use Rattle.kernel_laws.proofs.Places.{stands_true}
use Rattle.std.proofs.lemmas.Option.{none-some, slice_get_past, same_Some}
use Rattle.std.proofs.lemmas.List.{nil_from_length}
use Rattle.kernel_laws.proofs.KilledCalls.{leaves_other}
use Rattle.kernel_laws.proofs.KillParts.{alone_then, uncalled_then, idle_then, unanswered_then}

-- ---- the phones of the task

module _ (t : TaskNo) where
  hung_turn : (k : KernelState) (p : ℕ) (s : PhoneState) → phone_at k t p ≡ Some s
      → (q : ℕ) → (q ≡ p → ⊥) → phone_at (with_phone k t p HungUp) t q ≡ phone_at k t q
  hung_turn k p s is q ne = written_elsewhere k.tasks.phones t.0 p t.0 q HungUp (λ e. ne e.1)

  to_hang_up : (k j : KernelState) (q : ℕ) → phone_at j t q ≡ phone_at k t q → IsToHangUp t k q → IsToHangUp t j q
  to_hang_up k j q same (inl x) = inl (x.0, same ∙ x.1)
  to_hang_up k j q same (inr x) = inr (same ∙ x)

  abbrev Hangs : KernelState → ℕ → Transition → Type 0
  Hangs k p step = IsOwnTurn (IsToHangUp t) (HangsUpPhone t) k p step ⊎ ((IsToHangUp t k p → ⊥) × (step ≡ nothing k))

  quiet : (k : KernelState) (p : ℕ) (o : Option PhoneState) → phone_at k t p ≡ o
      → ((u : TaskNo) → o ≡ Some (Connected u) → ⊥) → (o ≡ Some Slammed → ⊥) → IsToHangUp t k p → ⊥
  quiet k p o is leads led (inl x) = leads x.0 (sym is ∙ x.1)
  quiet k p o is leads led (inr x) = led (sym is ∙ x)

  hangs : (k : KernelState) (p : ℕ) (o : Option PhoneState) → phone_at k t p ≡ o → Hangs k p (hang_up k t p o)
  hangs k p (Some (Connected u)) is = inl (record {
    so = inl (u, is);
    back = λ q ne x. to_hang_up (hang_up k t p (Some (Connected u))).state k q
        (sym (hung_turn k p (Connected u) is q ne)) x;
    forth = λ q ne x. to_hang_up k (hang_up k t p (Some (Connected u))).state q (hung_turn k p (Connected u) is q ne) x;
    turn = record {
      step = record { alive = refl; tasks = length_rows k.tasks.phones t.0 p HungUp; memory = refl; counted = refl };
      hangs_up = inl (u, is, tells k t p _ refl u is refl);
    };
  })
  hangs k p (Some Slammed) is = inl (record {
    so = inr is;
    back = λ q ne x. to_hang_up (hang_up k t p (Some Slammed)).state k q (sym (hung_turn k p Slammed is q ne)) x;
    forth = λ q ne x. to_hang_up k (hang_up k t p (Some Slammed)).state q (hung_turn k p Slammed is q ne) x;
    turn = record {
      step = record { alive = refl; tasks = length_rows k.tasks.phones t.0 p HungUp; memory = refl; counted = refl };
      hangs_up = inr (is, tells_nobody k t p _ refl is refl);
    };
  })
  hangs k p o is = inr (quiet k p o is (λ u e. cc e) (λ e. cc e), refl)

  pub hangs_up_own : (k : KernelState) → HangsUpOwn t k (hang_up_own_phones t k).state (hang_up_own_phones t k).entries
  hangs_up_own k = same_turns _ (IsToHangUp t k) ◌<◌ (HangsUpPhone t) k _ _ (λ p f. f.3)
      (λ p so. (p, omega arith, refl, so))
      (all_done (IsToHangUp t) ◌<◌ (HangsUpPhone t) (hang_up_at t) (λ p. p) (λ i j less. less)
      (λ i j less e. omega (arith, less, e))
      (λ j. ⊤) (λ j i h. h) (λ j p h. hangs j p (phone_at j t p) refl) (width k.tasks.phones t.0) 0 k tt
      (λ p far so. quiet k p None (past_width k.tasks.phones t.0 p (omega (arith, far))) (λ u e. cc e) (λ e. cc e) so))

-- ---- the phones of others

module _ (t : TaskNo) where
  abbrev Slams : TaskNo → KernelState → ℕ → Transition → Type 0
  Slams u k p step = IsOwnTurn (λ j q. Leads j u q t) (SlamsPhone u) k p step
      ⊎ ((Leads k u p t → ⊥) × (step ≡ nothing k))

  slams : (u : TaskNo) (k : KernelState) (p : ℕ) (o : Option PhoneState) → phone_at k u p ≡ o
      → Slams u k p (slam t u k p o)
  slams u k p (Some (Connected v)) is = repeats.by_test (Slams u k p) (v.0 == t.0) _ _ it other where
    elsewhere : (q : ℕ) → (q ≡ p → ⊥) → phone_at (with_phone k u p Slammed) u q ≡ phone_at k u q
    elsewhere q ne = written_elsewhere k.tasks.phones u.0 p u.0 q Slammed (λ e. ne e.1)

    it : (v.0 == t.0) ≡ true
        → Slams u k p (record { state = with_phone k u p Slammed; entries = entry.PhoneIs (label_of u p) Slammed ∷ [] })
    it e = inl (record {
      so = is ∙ ap (λ (w : TaskNo). Some (Connected w)) (same_task v t (eqb-true v.0 t.0 e));
      back = λ q ne x. sym (elsewhere q ne) ∙ x;
      forth = λ q ne x. elsewhere q ne ∙ x;
      turn = record {
        step = record { alive = refl; tasks = length_rows k.tasks.phones u.0 p Slammed; memory = refl; counted = refl };
        phone = record {
          this = state_here k.tasks.phones u.0 p Slammed (is_some (phone_at k u p) (Connected v) is);
          others = λ w q ne. written_elsewhere k.tasks.phones u.0 p w.0 q Slammed ne;
        };
        calls = record { each = λ n. refl; numbers = refl; arrivals = refl };
        entries = refl;
      };
    })

    other : (v.0 == t.0) ≡ false → Slams u k p (nothing k)
    other ne = inr (
      λ x. let same : Some (Connected v) ≡ Some (Connected t) = sym is ∙ x in
          let one : v ≡ t = cc in
          false≢true (sym ne ∙ eq-eqb v.0 t.0 (ap (λ (w : TaskNo). w.0) one)),
      refl,
    )
  slams u k p o is = inr (λ x. let e = sym is ∙ x in cc, refl)

  slams_of : (u : TaskNo) (k : KernelState) → SlamsOf t k u (slam_phones_of t u k).state (slam_phones_of t u k).entries
  slams_of u k = same_turns _ (λ p. Leads k u p t) ◌<◌ (SlamsPhone u) k _ _ (λ p f. f.3)
      (λ p so. (p, omega arith, refl, so))
      (all_done (λ j p. Leads j u p t) ◌<◌ (SlamsPhone u) (slam_at t u) (λ p. p) (λ i j less. less)
      (λ i j less e. omega (arith, less, e))
      (λ j. ⊤) (λ j i h. h) (λ j p h. slams u j p (phone_at j u p) refl) (width k.tasks.phones u.0) 0 k tt
      (λ p far so. none-some (Connected t) (sym (past_width k.tasks.phones u.0 p (omega (arith, far))) ∙ so)))

  -- there are as many tasks
  slam_many : (n : ℕ) (u : TaskNo) (k : KernelState) (p : ℕ) (o : Option PhoneState) → length k.tasks.phones ≡ n
      → length (slam t u k p o).state.tasks.phones ≡ n
  slam_many n u k p (Some (Connected v)) h =
      repeats.by_test (λ (s : Transition). length s.state.tasks.phones ≡ n) (v.0 == t.0) _ _
      (λ _. length_rows k.tasks.phones u.0 p Slammed ∙ h) (λ _. h)
  slam_many n u k p _ h = h

  of_many : (u : TaskNo) (k : KernelState) → length (slam_phones_of t u k).state.tasks.phones ≡ length k.tasks.phones
  of_many u k = repeats.each_keeps (slam_at t u) (λ j. length j.tasks.phones ≡ length k.tasks.phones)
      (λ j p h. slam_many (length k.tasks.phones) u j p (phone_at j u p) h) (width k.tasks.phones u.0) 0 k refl

  -- past the last task there is no phone
  no_width : (rows : List (List PhoneState)) (i : ℕ) → length rows ≤ i → width rows (i + 1) ≡ 0
  no_width rows i far = by (row_at rows (i + 1)) none where
    none : row_at rows (i + 1) ≡ None
    none = let last : i + 1 - 1 ≡ i = omega arith in rw (ne_eqb (i + 1) 0 (λ e. omega arith), last) (slice_get_past rows i far)

    by : (o : Option (List PhoneState)) → o ≡ None → option_map_or (λ row. length row) o 0 ≡ 0
    by None e = refl
    by (Some row) e = absurd (cc e)

  abbrev Others : KernelState → ℕ → Transition → Type 0
  Others k i step =
      IsOwnTurn (IsOther t) (SlamsOf t) k (task_no (i + 1)) step
      ⊎ ((IsOther t k (task_no (i + 1)) → ⊥) × (step ≡ nothing k))

  as_other : (k j : KernelState) (u : TaskNo) → length j.tasks.phones ≡ length k.tasks.phones → IsOther t j u
      → IsOther t k u
  as_other k j u many x = let known = x.known in record
      { from_one = x.from_one; known = omega (arith, known, many); other = x.other }

  others : (k : KernelState) (i : ℕ) → Others k i (slam_other t k i)
  others k i = repeats.by_test (Others k i) (i + 1 == t.0) _ _
      (λ own. inr (λ x. x.other (eqb-true (i + 1) t.0 own), refl))
      (λ not. elim (cases_lt i (length k.tasks.phones)) [
        | inl few ↦ (let u : TaskNo = task_no (i + 1) in inl (record {
          so = record {
            from_one = omega arith;
            known = omega (arith, few);
            other = λ e. false≢true (sym not ∙ eq-eqb (i + 1) t.0 e);
          };
          back = λ w ne x. as_other k _ w (of_many u k) x;
          forth = λ w ne x. as_other _ k w (sym (of_many u k)) x;
          turn = slams_of u k;
        }))
        | inr far ↦ inr (
          λ x. let known = x.known in omega (arith, far, known),
          ap (λ n. each (slam_at t (task_no (i + 1))) n 0 k) (no_width k.tasks.phones i far),
        )
      ])

  pub slams_others : (k : KernelState) → SlamsOthers t k (slam_phones_to t k).state (slam_phones_to t k).entries
  slams_others k = same_turns _ (IsOther t k) IsOlder (SlamsOf t) k _ _ (λ u f. f.3)
      (λ u so. let some = so.from_one in
      (u.0 - 1, omega arith, same_task u (task_no (u.0 - 1 + 1)) (omega (arith, some)), so))
      (all_done (IsOther t) IsOlder (SlamsOf t) (slam_other t) (λ i. task_no (i + 1)) (λ i j less. omega (arith, less))
      (λ i j less e. let f : j + 1 ≡ i + 1 = ap (λ (u : TaskNo). u.0) e in omega (arith, less, f))
      (λ j. ⊤) (λ j i h. h) (λ j i h. others j i) (length k.tasks.phones) 0 k tt
      (λ i far so. let known = so.known in omega (arith, far, known)))

-- ---- calls leave a place

-- the first call of a place leaves it
module _ (marks : List Bool) (k : KernelState) (ending : IsEnding marks k) (place : Place) (c : Call)
    (is : front k.calls place ≡ Some c) (after : CallTable)
    (others : (m : ℕ) → (m ≡ c.number.0 → ⊥) → call_at after m ≡ call_at k.calls m)
    (away : (d : Call) → call_at after c.number.0 ≡ Some d → d.place ≡ place → ⊥) where
  live : call_at k.calls c.number.0 ≡ Some c
  live = (front_at marks k place c ending is).0

  at : c.place ≡ place
  at = same_place-true c.place place (front_at marks k place c ending is).1

  not_it : (m : ℕ) → Stands after m place → m ≡ c.number.0 → ⊥
  not_it m s e = away s.0 (ap (call_at after) (sym e) ∙ s.1) s.2

  was : (m : ℕ) (s : Stands after m place) → call_at k.calls m ≡ Some s.0
  was m s = sym (others m (not_it m s)) ∙ s.1

  came_first : (m : ℕ) (d : Call) → call_at k.calls m ≡ Some d → d.place ≡ place → (m ≡ c.number.0 → ⊥)
      → c.stamp < d.stamp
  came_first m d there e ne =
      let least = (front-is_front k.calls place c.number.0 c is live).least c m d live there
      (stands_true place d.place e) in
      elim (cases_eq c.stamp d.stamp) [
        | inl same ↦ absurd (ne (sym (ending.sound.calls.stamps_differ c.number.0 m c d live there same)))
        | inr other ↦ omega (arith, least, other)
      ]

  pub leaves : IsNextTurn (λ n. Stands k.calls n place) (λ n. Stands after n place) (CameBefore k.calls)
      (CameBefore after) c.number.0
  leaves = record {
    so = (c, live, at);
    first = λ m s. (c, s.0, live, was m s, came_first m s.0 (was m s) s.2 (not_it m s));
    back = λ m s. (s.0, was m s, s.2);
    forth = λ m s. elim (cases_eq m c.number.0) [ inl e ↦ inl e | inr ne ↦ inr (s.0, others m ne ∙ s.1, s.2) ];
    order = λ m n s r b.
        (b.0, b.1, sym (others m (not_it m s)) ∙ b.2, sym (others n (not_it n r)) ∙ b.3, b.4);
  }

-- ---- calls at the task are settled

module _ (marks : List Bool) (place : Place) (pending : (c : Call) → stands_at place c ≡ true → IsPendingAt c.place)
    (moved : (u : TaskNo) → same_place (Answers u) place ≡ false) (I : KernelState → Type 0)
    (ending : (k : KernelState) → I k → IsEnding marks k)
    (keeps : (k : KernelState) (c : Call) → I k → front k.calls place ≡ Some c → I (settle_call k c).state) where
  settle_step : (k : KernelState) (c : Call) → IsStep k (settle_call k c).state
  settle_step k c = by_caller c.caller (lives k c.caller) where
    by_caller : (o : Option TaskNo) (b : Bool) → IsStep k (settle_for k c (bare_reply ehangup) None o b).state
    by_caller None b = record {
      alive = refl;
      tasks = as_many k.tasks.phones (kept_phone c) Free;
      memory = refl;
      counted = refl;
    }
    by_caller (Some u) false = record {
      alive = refl;
      tasks = as_many k.tasks.phones (kept_phone c) Free;
      memory = refl;
      counted = refl;
    }
    by_caller (Some u) true = record {
      alive = refl;
      tasks = as_many k.tasks.phones (lent_phone c) Free;
      memory = refl;
      counted = refl;
    }

  settle_others : (k : KernelState) (c : Call) (m : ℕ) → (m ≡ c.number.0 → ⊥)
      → call_at (settle_call k c).state.calls m ≡ call_at k.calls m
  settle_others k c m ne = leaves_other m k c c.caller (lives k c.caller) (λ e. ne (sym e))

  settle_away : (k : KernelState) (c d : Call) → call_at (settle_call k c).state.calls c.number.0 ≡ Some d
      → d.place ≡ place → ⊥
  settle_away k c d = by_caller c.caller (lives k c.caller) where
    by_caller : (o : Option TaskNo) (b : Bool)
        → call_at (settle_for k c (bare_reply ehangup) None o b).state.calls c.number.0 ≡ Some d → d.place ≡ place → ⊥
    by_caller None b is here = none-some d (sym (gone_here k.calls c.number.0 c.number.0 refl) ∙ is)
    by_caller (Some u) false is here = none-some d (sym (gone_here k.calls c.number.0 c.number.0 refl) ∙ is)
    by_caller (Some u) true is here =
        let now = put_here k.calls c.number.0 c.number.0 (answered k c u) refl in
        let same : answered k c u ≡ d = same_Some (answered k c u) d (sym now ∙ is) in
        let there : Answers u ≡ place = ap (λ (x : Call). x.place) same ∙ here in
        false≢true (sym (moved u) ∙ stands_true place (Answers u) there)

  settles_turn : (k : KernelState) (c : Call) → I k → front k.calls place ≡ Some c
      → IsTurn (λ j n. Stands j.calls n place) (λ j. CameBefore j.calls) SettlesCall k c.number.0 (settle_call k c)
  settles_turn k c i is =
      let e = ending k i in
      let f = front_at marks k place c e is in
      record {
        next = leaves marks k e place c is (settle_call k c).state.calls (settle_others k c) (settle_away k c);
        turn = record {
          call = c;
          live = f.0;
          step = settle_step k c;
          settled = settled_is k (with_marks marks k).tasks refl c.number.0 c (e.sound.calls.each c.number.0 c f.0)
              (pending c f.1) _ (bare_reply ehangup) None (record { phones = refl; calls = refl });
        };
      }

  none_stands : (k : KernelState) → I k → front k.calls place ≡ None → (n : ℕ) → Stands k.calls n place → ⊥
  none_stands k i e n s =
      false≢true (sym (no_front-has_no_calls k.calls place e n s.0 s.1) ∙ stands_true place s.0.place s.2)

  pub settles_all : (k : KernelState) → I k
      → SettlesAll place k (settle_calls_at place k).state (settle_calls_at place k).entries
  settles_all k i = all_drained (λ j n. Stands j.calls n place) (λ j. CameBefore j.calls) SettlesCall (first_at place)
      settle_call
      (λ c. c.number.0) I (stands_at place) keeps
      (λ j c h is. let f = front_at marks j place c (ending j h) is in settle_less (stands_at place) j c f.0 f.1 moved)
      none_stands settles_turn (calls_at k.calls place) k i (omega arith)

-- ---- answers are dropped

module _ (marks : List Bool) (t : TaskNo) where
  ending_of : (k : KernelState) → IsIdle marks t k → IsEnding marks k
  ending_of k i = i.uncalled.alone.silent.ending

  drops_turn : (k : KernelState) (c : Call) → IsIdle marks t k → front k.calls (Answers t) ≡ Some c
      → IsTurn (λ j n. Stands j.calls n (Answers t)) (λ j. CameBefore j.calls)
      (DropsAnswer t) k c.number.0 (drop_answer t k c)
  drops_turn k c i is =
      let f = front_at marks k (Answers t) c (ending_of k i) is in
      record {
        next = leaves marks k (ending_of k i) (Answers t) c is (without_call k.calls c.number.0)
            (λ m ne. gone_other k.calls c.number.0 m (λ e. ne (sym e)))
            (λ d there stands. none-some d (sym (gone_here k.calls c.number.0 c.number.0 refl) ∙ there));
        turn = drops marks t k (ending_of k i) c f.0 (same_place-true c.place (Answers t) f.1);
      }

  pub drops_answers : (k : KernelState) → IsIdle marks t k
      → DropsAnswers t k (drop_answers t k).state (drop_answers t k).entries
  drops_answers k i = all_drained (λ j n. Stands j.calls n (Answers t)) (λ j. CameBefore j.calls) (DropsAnswer t)
      (first_at (Answers t)) (drop_answer t) (λ c. c.number.0) (IsIdle marks t) (stands_at (Answers t))
      (drop_idle marks t)
      (λ j c h is. let f = front_at marks j (Answers t) c (ending_of j h) is in
      over_less (stands_at (Answers t)) j c f.0 f.1)
      (λ j h e n s. false≢true (sym (no_front-has_no_calls j.calls (Answers t) e n s.0 s.1)
      ∙ stands_true (Answers t) s.0.place s.2))
      drops_turn (calls_at k.calls (Answers t)) k i (omega arith)

  -- ---- calls elsewhere are forgotten

  ending_now : (k : KernelState) → IsUnanswered marks t k → IsEnding marks k
  ending_now k i = i.idle.uncalled.alone.silent.ending

  made_by : (o : Option TaskNo) → is_caller t o ≡ true → o ≡ Some t
  made_by None h = absurd (cc h)
  made_by (Some u) h = ap Some (same_task u t (eqb-true u.0 t.0 h))

  is_made : (o : Option TaskNo) → o ≡ Some t → is_caller t o ≡ true
  is_made o e = ap (is_caller t) e ∙ eq-eqb t.0 t.0 refl

  abbrev alone : Call → Call
  alone c = record c { caller = None }

  module _ (k : KernelState) (c : Call) (i : IsUnanswered marks t k) (is : calls_of k.calls t ≡ Some c) where
    its_own : IsLive k c × (is_call_of t c ≡ true)
    its_own = call_from marks t k c (ending_now k i) is

    after : (forget_call k c).state.calls ≡ with_record k.calls (alone c)
    after = ap (λ (j : KernelState). j.calls) (forget_step k c its_own.0)

    now : call_at (forget_call k c).state.calls c.number.0 ≡ Some (alone c)
    now = ap (λ (q : CallTable). call_at q c.number.0) after ∙ put_here k.calls c.number.0 c.number.0 (alone c) refl

    elsewhere : (m : ℕ) → (m ≡ c.number.0 → ⊥) → call_at (forget_call k c).state.calls m ≡ call_at k.calls m
    elsewhere m ne = ap (λ (q : CallTable). call_at q m) after
        ∙ put_other k.calls c.number.0 m (alone c) (λ e. ne (sym e))

    not_own : (m : ℕ) → IsOwn t (forget_call k c).state m → m ≡ c.number.0 → ⊥
    not_own m s e =
        let same : alone c ≡ s.0 = same_Some (alone c) s.0
        (sym now ∙ ap (call_at (forget_call k c).state.calls) (sym e) ∙ s.1) in
        let none : None ≡ Some t = ap (λ (x : Call). x.caller) same ∙ s.2 in
        cc

    forgets_turn : IsTurn (IsOwn t) (λ j. ◌<◌) ForgetsCall k c.number.0 (forget_call k c)
    forgets_turn =
        let l = least_number t k.calls c is in
        let number : c.number.0 ≡ l.number = ((ending_now k i).sound.calls.each l.number c l.is).number in
        record {
          next = record {
            so = (c, its_own.0, made_by c.caller its_own.1);
            first = λ m s.
                let ne = not_own m s in
                let le = l.least m s.0 (sym (elsewhere m ne) ∙ s.1) (is_made s.0.caller s.2) in
                let no : m ≡ l.number → ⊥ = λ e. ne (e ∙ sym number) in
                subst (λ n. n < m) (sym number) (omega (arith, le, no));
            back = λ m s. (s.0, sym (elsewhere m (not_own m s)) ∙ s.1, s.2);
            forth = λ m s. elim (cases_eq m c.number.0)
                [ inl e ↦ inl e | inr ne ↦ inr (s.0, elsewhere m ne ∙ s.1, s.2) ];
            order = λ m n s r b. b;
          };
          turn = record {
            call = c;
            live = its_own.0;
            step = record { alive = refl; tasks = refl; memory = refl; counted = refl };
            phones = λ u q. refl;
            calls = record {
              now = now;
              others = elsewhere;
              numbers = ap (λ (q : CallTable). q.next_number) after;
              arrivals = ap (λ (q : CallTable). q.next_stamp) after;
            };
            entries = refl;
          };
        }

    fewer : suc (count_of (is_call_of t) (entries (forget_call k c).state.calls.records))
        ≡ count_of (is_call_of t) (entries k.calls.records)
    fewer = subst (λ (q : CallTable). suc (count_of (is_call_of t) (entries q.records)) ≡ count_of (is_call_of t)
        (entries k.calls.records))
        (sym after) (put_less (is_call_of t) k c (alone c) its_own.0 its_own.1 refl)

  pub forgets_calls : (k : KernelState) → IsUnanswered marks t k
      → ForgetsCalls t k (forget_calls_elsewhere t k).state (forget_calls_elsewhere t k).entries
  forgets_calls k i = all_drained (IsOwn t) (λ j. ◌<◌) ForgetsCall (first_call_of t) forget_call (λ c. c.number.0)
      (IsUnanswered marks t) (is_call_of t) (forget_unanswered marks t) (λ j c h is. fewer j c h is)
      (λ j h e n s. false≢true (sym (calls_of_none j.calls t n s.0 e s.1) ∙ is_made s.0.caller s.2))
      (λ j c h is. forgets_turn j c h is) (calls_by k.calls t) k i (omega arith)

-- ---- areas are dropped

module _ (t : TaskNo) (some : 1 ≤ t.0) where
  no_areas : (k : KernelState) → areas_of k.memory t ≡ [] → (base : ℕ) → HasBase t k base → ⊥
  no_areas k none base h = none-some h.0 (sym (ap (λ areas. slice_get areas h.1.has.0) none) ∙ h.1.has.1)

  module _ (k : KernelState) (sound : spaces.IsSound k.memory) (base : ℕ) (is : first_area k.memory t ≡ Some base) where
    abbrev step : Step Unit
    step = drop_area k.memory t base

    told : step.told ≡ Ok tt
    told = first_is_dropped k.memory t base is

    gone : (a : Area) × HasAt k.memory t base a × Drops k.memory t a step.memory
    gone = (drop_is_lawful k.memory t base).goes some told

    -- where an area stood that is left
    stood : (i : ℕ) (b : Area) → slice_get (areas_of step.memory t) i ≡ Some b
        → (j : ℕ) × (slice_get (areas_of k.memory t) j ≡ Some b) × (j ≡ gone.2.place → ⊥)
    stood i b h = elim (cases_lt i gone.2.place) [
      | inl less ↦ (i, sym (gone.2.before i less) ∙ h, (λ e. omega (arith, less, e)))
      | inr from ↦ (i + 1, sym (gone.2.behind i from) ∙ h, (λ e. omega (arith, from, e)))
    ]

    -- an area that is not the one that goes is left
    left : (j : ℕ) (b : Area) → slice_get (areas_of k.memory t) j ≡ Some b → (b.base ≡ base → ⊥) → Has step.memory t b
    left j b h other = elim (cases_lt j gone.2.place) [
      | inl less ↦ (j, gone.2.before j less ∙ h)
      | inr from ↦ elim (cases_eq j gone.2.place) [
        | inl e ↦ (let same : b ≡ gone.0 = let f : Some b ≡ Some gone.0 = sym h
            ∙ ap (slice_get (areas_of k.memory t)) e ∙ gone.2.there in cc in
            absurd (other (ap (λ (x : Area). x.base) same ∙ gone.1.begins)))
        | inr ne ↦ (
          j - 1,
          gone.2.behind (j - 1) (omega (arith, from, ne))
              ∙ ap (slice_get (areas_of k.memory t)) (omega (arith, from, ne)) ∙ h,
        )
      ]
    ]

    -- no area with this base is left
    not_gone : (b : Area) → HasAt step.memory t base b → ⊥
    not_gone b h =
        let w = stood h.has.0 b h.has.1 in
        let same : b ≡ gone.0 = one_base k.memory t base b gone.0 sound
        (record { has = (w.0, w.1); begins = h.begins }) gone.1 in
        w.2 (one_place k.memory t sound gone.0 w.0 gone.2.place (w.1 ∙ ap Some same) gone.2.there)

    loses_turn : IsTurn (HasBase t) (λ j. ◌<◌) (LosesArea t) k base (lose_area t k base)
    loses_turn = record {
      next = record {
        so = (gone.0, gone.1);
        first = λ other h.
            let w = stood h.1.has.0 h.0 h.1.has.1 in
            let le = least_area k.memory t base is w.0 h.0 w.1 in
            let begins = h.1.begins in
            let ne : other ≡ base → ⊥ = λ e. not_gone h.0 (record { has = h.1.has; begins = begins ∙ e }) in
            omega (arith, le, begins, ne);
        back = λ other h. let w = stood h.1.has.0 h.0 h.1.has.1 in
            (h.0, record { has = (w.0, w.1); begins = h.1.begins });
        forth = λ other h. elim (cases_eq other base) [
          | inl e ↦ inl e
          | inr ne ↦ inr (
            h.0,
            record { has = left h.1.has.0 h.0 h.1.has.1 (λ e. ne (sym h.1.begins ∙ e)); begins = h.1.begins },
          )
        ];
        order = λ x y a b less. less;
      };
      turn = record {
        step = step;
        drop = drop_is_whole k.memory t base;
        done = told;
        memory = refl;
        tasks = refl;
        calls = refl;
        events = refl;
        entries = refl;
      };
    }

  abbrev Lost : KernelState → Transition → Type 0
  Lost k done = EachInTurn (HasBase t k) ◌<◌ (LosesArea t) k done.state done.entries

  all_lost : (most i : ℕ) (k : KernelState) → spaces.IsSound k.memory → count_areas k.memory t ≡ most
      → Lost k (each (drop_first_area t) most i k)
  all_lost zero i k sound many = no_turns (HasBase t k) ◌<◌ (LosesArea t) k
      (no_areas k (nil_from_length (areas_of k.memory t) many))
  all_lost (suc most) i k sound many = by_first (first_area k.memory t) refl (all_lost most (i + 1)) where
    by_first : (o : Option ℕ) → first_area k.memory t ≡ o
        → ((j : KernelState) → spaces.IsSound j.memory → count_areas j.memory t ≡ most
        → Lost j (each (drop_first_area t) most (i + 1) j))
        → Lost k (then_do (lose_first_area t k o) (each (drop_first_area t) most (i + 1)))
    by_first None none later =
        let zero_areas : count_areas k.memory t ≡ 0 = ap (λ (areas : List Area). length areas)
        (no_first k.memory t none) in
        absurd (omega (arith, many, zero_areas))
    by_first (Some base) is later =
        let fewer = first_goes k.memory t base is in
        let j : KernelState = (lose_area t k base).state in
        let turn = loses_turn k sound base is in
        one_turn (HasBase t k) (HasBase t j) ◌<◌ ◌<◌ base turn.next (LosesArea t) k j _ _ _ turn.turn
        (later j (sound_drop k.memory t base sound) (omega (arith, many, fewer)))

  loses_areas : (k : KernelState) → spaces.IsSound k.memory
      → LosesAreas t k (drop_areas t k).state (drop_areas t k).entries
  loses_areas k sound = all_lost (count_areas k.memory t) 0 k sound refl

-- ---- a kill

module _ (k : KernelState) (t : TaskNo) (sound : IsSound k) (alive : is_alive k t ≡ true) where
  abbrev marks : List Bool
  marks = k.tasks.alive

  abbrev dead : KernelState
  dead = mark_ended k t

  incoming_is : SettlesAll (Incoming t) (after_slams t k) (after_incoming t k)
      (settle_incoming t (after_slams t k)).entries
  incoming_is = settles_all marks (Incoming t) (λ c at. incoming_pending c.place t at) (λ u. refl) (IsAlone marks t)
      (λ j i. i.silent.ending) (incoming_alone marks t) (after_slams t k) (alone_then k t sound alive)

  dispatched_is : SettlesAll (Dispatched t) (after_incoming t k) (after_dispatched t k)
      (settle_dispatched t (after_incoming t k)).entries
  dispatched_is = settles_all marks (Dispatched t) (λ c at. held_pending c.place t at) (λ u. refl) (IsUncalled marks t)
      (λ j i. i.alone.silent.ending) (dispatched_uncalled marks t) (after_incoming t k) (uncalled_then k t sound alive)

  ends_calls : EndsCalls t dead (after_calls t k) (end_phones_and_calls t dead).entries
  ends_calls = (
    after_answers t k,
    _,
    _,
    (
      after_dispatched t k,
      _,
      _,
      (
        after_incoming t k,
        _,
        _,
        (
          after_slams t k,
          _,
          _,
          (after_hangups t k, _, _, hangs_up_own t dead, slams_others t (after_hangups t k), refl),
          incoming_is,
          refl,
        ),
        dispatched_is,
        refl,
      ),
      drops_answers marks t (after_dispatched t k) (idle_then k t sound alive),
      refl,
    ),
    forgets_calls marks t (after_answers t k) (unanswered_then k t sound alive),
    refl,
  )

  ends_parts : EndsParts t dead (kill k t).state (kill k t).entries
  ends_parts = (
    after_calls t k,
    _,
    _,
    ends_calls,
    loses_areas t (from_one marks t alive) (after_calls t k)
        (subst spaces.IsSound (sym (calls_steady t dead).memory) sound.memory.spaces),
    refl,
  )

  pub kill_is_so : IsKill t k (kill_event k t)
  kill_is_so = record {
    marked = dead;
    ended = record {
      ends = record { ended = ended_here marks t.0 alive; others = λ u ne. alive_elsewhere marks t.0 alive u.0 ne };
      many = length-set marks (t.0 - 1) false;
      phones = refl;
      calls = refl;
      memory = refl;
      events = refl;
    };
    last = (kill k t).state;
    parts = ends_parts;
    counted = record { tasks = refl; calls = refl; memory = refl; events = refl };
  }

pub kill_is_killed : (k : KernelState) (t : TaskNo) (done : Transition) → IsSound k → is_alive k t ≡ true
    → IsKill t k done
    → done ≡ kill_event k t
kill_is_killed k t done sound alive is =
    kill_is_determined t k done (kill_event k t) (from_one k.tasks.alive t alive) sound.memory.spaces is
    (kill_is_so k t sound alive)
