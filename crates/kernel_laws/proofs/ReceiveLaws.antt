-- Where answers and calls stand, and which answer is dropped next.
use Rattle.std.proofs.Common.{◌≡◌, ℕ, zero, suc, ◌≤◌, Bool, true, false, Option, None, Some, refl, ap, sym, ◌∙◌, arith}
use Rattle.std.specs.Option.{option_map_or}
use Rattle.std.proofs.lemmas.Bool.{eqb-true, eq-eqb, false≢true}
use Rattle.std.specs.FinMap.{entries}
use Rattle.ipc_ids.specs.declared.numbers.TaskNo.{TaskNo}
use Rattle.ipc_ids.specs.Methods.{phone_hungup}
use Rattle.call_slab.specs.declared.call.Call.{Call}
use Rattle.call_slab.specs.declared.call.Place.TheVariants.{Answers}
use Rattle.answerbox.specs.Calls.{call_at, same_place, front, count_of}
use Rattle.answerbox.proofs.Fronts.{front_live}
use Rattle.switchboard.specs.State.{KernelState, Transition, nothing, then_do, drain}
use Rattle.switchboard.specs.Sound.{IsSound}
use Rattle.kernel_core.specs.Receiving.{next_unawaited}
use Rattle.kernel_core.proofs.ByRequest.{unawaited_is}

-- the steps of a repetition come to an end: where each takes one call out of those that pass a test, and there are no
-- more of them than steps, there is no next one
module _ (next : KernelState → Option Call) (step : KernelState → Call → Transition) (I : KernelState → Type 0) (test : Call → Bool)
    (keeps : (k : KernelState) (c : Call) → I k → next k ≡ Some c → I (step k c).state)
    (less : (k : KernelState) (c : Call) → I k → next k ≡ Some c → suc (count_of test (entries (step k c).state.calls.records)) ≡ count_of test (entries k.calls.records)) where
  pub drain_stops : (n : ℕ) (k : KernelState) → I k → count_of test (entries k.calls.records) ≤ n → next (drain next step n k).state ≡ None
  drain_stops zero k h few = by_next (next k) refl where
    by_next : (o : Option Call) → next k ≡ o → o ≡ None
    by_next None is = refl
    by_next (Some c) is = absurd (let l = less k c h is in omega arith)
  drain_stops (suc n) k h few = by_next n k h few (next k) refl (drain_stops n) where
    by_next : (n : ℕ) (k : KernelState) → I k → count_of test (entries k.calls.records) ≤ suc n → (o : Option Call) → next k ≡ o → ((j : KernelState) → I j → count_of test (entries j.calls.records) ≤ n → next (drain next step n j).state ≡ None) → next (option_map_or (λ c. then_do (step k c) (drain next step n)) o (nothing k)).state ≡ None
    by_next n k h few None is later = is
    by_next n k h few (Some c) is later = later (step k c).state (keeps k c h is) (let l = less k c h is in omega arith)

-- tests

module _ (k : KernelState) (t : TaskNo) (sound : IsSound k) where
  -- the mark on an answer, and its method
  pub is_hangup : (n : ℕ) (c : Call) → call_at k.calls n ≡ Some c → c.discard ≡ true → c.request.method ≡ phone_hungup
  is_hangup n c is mark = eqb-true c.request.method 0 (sym (sound.calls.each n c is).discard ∙ mark)

  pub no_hangup : (n : ℕ) (c : Call) → call_at k.calls n ≡ Some c → c.discard ≡ false → c.request.method ≡ phone_hungup → ⊥
  no_hangup n c is mark e = false≢true (sym mark ∙ (sound.calls.each n c is).discard ∙ eq-eqb c.request.method 0 e)

  -- the answer that is dropped next
  pub record IsNext (j : KernelState) (x : Call) : Type 0 where
    pub live : call_at j.calls x.number.0 ≡ Some x
    pub at : same_place x.place (Answers t) ≡ true
    pub mark : x.discard ≡ true

  pub next_is : (j : KernelState) (x : Call) → IsSound j → next_unawaited t j ≡ Some x → IsNext j x
  next_is j x s is =
      let u = unawaited_is (front j.calls (Answers t)) x is in
      let f = front_live j.calls (Answers t) x u.0 in
      record { live = ap (call_at j.calls) (s.calls.each f.0 x f.1).number ∙ f.1; at = f.2; mark = u.1 }
