-- The definition of a receive does what is said of it.
use Rattle.std.proofs.Common.{◌≡◌, ℕ, ◌<◌, Bool, true, false, ◌⊎◌, inl, inr, Option, None, Some, refl, sym, ap, ◌∙◌, arith}
use Rattle.std.specs.Prelude.{if◌then◌else◌}
use Rattle.std.proofs.lemmas.Bool.{cases_eq, false≢true}
use Rattle.ipc_ids.specs.declared.numbers.TaskNo.{TaskNo}
use Rattle.ipc_ids.specs.Methods.{phone_hungup}
use Rattle.call_slab.specs.declared.call.Call.{Call}
use Rattle.call_slab.specs.declared.call.Place.TheVariants.{Answers}
use Rattle.answerbox.specs.Calls.{call_at, calls_at, front}
use Rattle.answerbox.proofs.Fronts.{front_live, front-is_front, no_front-has_no_calls}
use Rattle.switchboard.specs.State.{KernelState}
use Rattle.switchboard.specs.Sound.{IsSound}
use Rattle.switchboard.specs.Joins.{drop_answer}
use Rattle.switchboard.proofs.Lookups.{gone_here, gone_other}
use Rattle.cleanup.proofs.Queues.{sound_drop, stands_at, over_less}
use Rattle.kernel_core.specs.Receiving.{unawaited, next_unawaited, drop_unawaited}
use Rattle.kernel_laws.specs.ReceiveLaws.{IsAwaited}
use Rattle.kernel_laws.proofs.ReceiveLaws.{IsNext, next_is, is_hangup, no_hangup}
use Rattle.kernel_determined.specs.Frames.{CameBefore}
use Rattle.kernel_determined.specs.SettleLaw.{DropsAnswer}
use Rattle.kernel_determined.specs.ReceiveLaw.{IsDropped, DropsHangups}
use Rattle.kernel_determined.proofs.TurnsKept.{IsNextTurn, IsTurn, all_drained}
use Rattle.kernel_determined.proofs.SettleSo.{drops}
use Rattle.switchboard.proofs.Repeats.{drain_keeps}
use Rattle.kernel_laws.proofs.Places.{stands_true}
use Rattle.kernel_core.proofs.InEvent.{same_place-true}
use Rattle.kernel_core.proofs.ByRequest.{unawaited_is}
use Rattle.std.proofs.lemmas.Option.{none-some, same_Some}

-- ---- what is dropped

-- an answer that stands first, and is awaited
first_awaited : (x : Call) → unawaited (Some x) ≡ None → x.discard ≡ false
first_awaited x e = by_mark x.discard e where
  by_mark : (b : Bool) → (if b then Some x else None) ≡ None → b ≡ false
  by_mark true g = absurd (cc g)
  by_mark false g = refl

module _ (t : TaskNo) where
  -- where none is next, none is to be dropped
  none_left : (j : KernelState) → IsSound j → next_unawaited t j ≡ None → (n : ℕ) → IsDropped t j.calls n → ⊥
  none_left j sound stop n d = by_front (front j.calls (Answers t)) refl where
    by_front : (o : Option Call) → front j.calls (Answers t) ≡ o → ⊥
    by_front None is = false≢true (sym (no_front-has_no_calls j.calls (Answers t) is n d.call d.live)
        ∙ stands_true (Answers t) d.call.place d.answer.place)
    by_front (Some x) is =
        let f = front_live j.calls (Answers t) x is in
        let mark : x.discard ≡ false = first_awaited x (ap unawaited (sym is) ∙ stop) in
        let awaited : IsAwaited t x = record {
          place = same_place-true x.place (Answers t) f.2;
          wanted = no_hangup j t sound f.0 x f.1 mark;
        } in
        let less = d.early f.0 x f.1 awaited in
        let least = (front-is_front j.calls (Answers t) f.0 x is f.1).least x n d.call f.1 d.live
        (stands_true (Answers t) d.call.place d.answer.place) in
        omega (arith, less, least)

  -- one is dropped, and then the others
  module _ (j : KernelState) (sound : IsSound j) (x : Call) (is : next_unawaited t j ≡ Some x) where
    it : IsNext j t sound j x
    it = next_is j t sound j x sound is

    hangup : x.request.method ≡ phone_hungup
    hangup = is_hangup j t sound x.number.0 x it.live it.mark

    first_is : front j.calls (Answers t) ≡ Some x
    first_is = (unawaited_is (front j.calls (Answers t)) x is).0

    abbrev next_state : KernelState
    next_state = (drop_answer t j x).state

    -- every other answer came later
    later : (n : ℕ) (d : Call) → call_at j.calls n ≡ Some d → d.place ≡ Answers t → (n ≡ x.number.0 → ⊥)
        → x.stamp < d.stamp
    later n d live at ne =
        let least = (front-is_front j.calls (Answers t) x.number.0 x first_is it.live).least x n d it.live live
        (stands_true (Answers t) d.place at) in
        elim (cases_eq x.stamp d.stamp) [
          | inl e ↦ absurd (ne (sym (sound.calls.stamps_differ x.number.0 n x d it.live live e)))
          | inr other ↦ omega (arith, least, other)
        ]

    not_it : (n : ℕ) (d : Call) → call_at j.calls n ≡ Some d → IsAwaited t d → n ≡ x.number.0 → ⊥
    not_it n d live a e =
        let same : x ≡ d = same_Some x d (sym it.live ∙ ap (call_at j.calls) (sym e) ∙ live) in
        a.wanted (ap (λ (c : Call). c.request.method) (sym same) ∙ hangup)

    it_is_dropped : IsDropped t j.calls x.number.0
    it_is_dropped = record {
      call = x;
      live = it.live;
      answer = record { place = same_place-true x.place (Answers t) it.at; hangup = hangup };
      early = λ m d live a. later m d live a.place (not_it m d live a);
    }

    was : (n : ℕ) (d : Call) → call_at next_state.calls n ≡ Some d → (n ≡ x.number.0 → ⊥) × (call_at j.calls n ≡ Some d)
    was n d live = by (cases_eq x.number.0 n) where
      by : (x.number.0 ≡ n) ⊎ (x.number.0 ≡ n → ⊥) → (n ≡ x.number.0 → ⊥) × (call_at j.calls n ≡ Some d)
      by (inl e) = absurd (none-some d (sym (gone_here j.calls x.number.0 n e) ∙ live))
      by (inr ne) = (λ e. ne (sym e), sym (gone_other j.calls x.number.0 n ne) ∙ live)

    is_still : (n : ℕ) (d : Call) → call_at j.calls n ≡ Some d → (n ≡ x.number.0 → ⊥)
        → call_at next_state.calls n ≡ Some d
    is_still n d live ne = gone_other j.calls x.number.0 n (λ e. ne (sym e)) ∙ live

    back : (n : ℕ) → IsDropped t next_state.calls n → IsDropped t j.calls n
    back n d = record {
      call = d.call;
      live = (was n d.call d.live).1;
      answer = d.answer;
      early = λ m e live a. d.early m e (is_still m e live (not_it m e live a)) a;
    }

    forth : (n : ℕ) → (n ≡ x.number.0 → ⊥) → IsDropped t j.calls n → IsDropped t next_state.calls n
    forth n ne d = record {
      call = d.call;
      live = is_still n d.call d.live ne;
      answer = d.answer;
      early = λ m e live a. d.early m e (was m e live).1 a;
    }

    came_back : (m n : ℕ) → CameBefore next_state.calls m n → CameBefore j.calls m n
    came_back m n h = (h.0, h.1, (was m h.0 h.2).1, (was n h.1 h.3).1, h.4)

    next_turn : IsNextTurn (IsDropped t j.calls) (IsDropped t next_state.calls) (CameBefore j.calls)
        (CameBefore next_state.calls)
        x.number.0
    next_turn = record {
      so = it_is_dropped;
      first = λ n d. let w = was n d.call d.live in (x, d.call, it.live, w.1, later n d.call w.1 d.answer.place w.0);
      back = back;
      forth = λ n d. elim (cases_eq n x.number.0) [ inl e ↦ inl e | inr ne ↦ inr (forth n ne d) ];
      order = λ m n a b h. came_back m n h;
    }

    turn : IsTurn (λ i n. IsDropped t i.calls n) (λ i. CameBefore i.calls) (DropsAnswer t) j x.number.0
        (drop_answer t j x)
    turn = record {
      next = next_turn;
      turn = drops j.tasks.alive t j (record { sound = sound }) x it.live (same_place-true x.place (Answers t) it.at);
    }

  keeps : (j : KernelState) (x : Call) → IsSound j → next_unawaited t j ≡ Some x → IsSound (drop_answer t j x).state
  keeps j x s is = sound_drop j t x s (next_is j t s j x s is).live

  pub unawaited_dropped : (k : KernelState) → IsSound k
      → DropsHangups t k (drop_unawaited t k).state (drop_unawaited t k).entries
  unawaited_dropped k sound = all_drained (λ j n. IsDropped t j.calls n) (λ j. CameBefore j.calls) (DropsAnswer t)
      (next_unawaited t) (drop_answer t) (λ c. c.number.0) IsSound (stands_at (Answers t)) keeps
      (λ j x s is. let n = next_is j t s j x s is in over_less (stands_at (Answers t)) j x n.live n.at)
      none_left (λ j x s is. turn j s x is) (calls_at k.calls (Answers t)) k sound (omega arith)

  pub unawaited_sound : (k : KernelState) → IsSound k → IsSound (drop_unawaited t k).state
  unawaited_sound k sound =
      drain_keeps (next_unawaited t) (drop_answer t) IsSound keeps (calls_at k.calls (Answers t)) k sound
