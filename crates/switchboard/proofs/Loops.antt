-- A step of a loop, and what is left of it.
use Rattle.std.proofs.Common.{◌≡◌, ℕ, suc, ◌+◌, ◌-◌, ◌<◌, Option, Some, List, ◌++◌, refl, ap, ◌∙◌, sym, append_assoc, arith}
use Rattle.ipc_ids.specs.declared.entry.Entry.{Entry}
use Rattle.call_slab.specs.declared.call.Call.{Call}
use Rattle.switchboard.specs.State.{KernelState, Transition, then_do, drain, each}

drain_step : (next : KernelState → Option Call) (step : KernelState → Call → Transition) (n : ℕ) (k : KernelState) (c : Call) → next k ≡ Some c → drain next step (suc n) k ≡ then_do (step k c) (drain next step n)
drain_step next step n k c is = rw is

module _ (next : KernelState → Option Call) (step : KernelState → Call → Transition) (most counter : ℕ) (k k' : KernelState) (c : Call) (whole : Transition) (before now after : List Entry) (lt : counter < most) (is : next k ≡ Some c) (to : k' ≡ (step k c).state) (tell : after ≡ now ++ (step k c).entries) where
  one : drain next step (most - counter) k ≡ then_do (step k c) (drain next step (most - (counter + 1)))
  one = let e : most - counter ≡ suc (most - (counter + 1)) = omega arith in rw e (drain_step next step (most - (counter + 1)) k c is)

  pub drained_state : (drain next step (most - counter) k).state ≡ whole.state → (drain next step (most - (counter + 1)) k').state ≡ whole.state
  drained_state h = rw to (sym (ap (λ (s : Transition). s.state) one) ∙ h)

  pub drained_entries : now ++ (drain next step (most - counter) k).entries ≡ before ++ whole.entries → after ++ (drain next step (most - (counter + 1)) k').entries ≡ before ++ whole.entries
  drained_entries h = rw (to, tell, append_assoc) (ap (λ (s : Transition). now ++ s.entries) (sym one) ∙ h)

module _ (step : KernelState → ℕ → Transition) (most i : ℕ) (k k' : KernelState) (whole : Transition) (before now after : List Entry) (lt : i < most) (to : k' ≡ (step k i).state) (tell : after ≡ now ++ (step k i).entries) where
  one_each : each step (most - i) i k ≡ then_do (step k i) (each step (most - (i + 1)) (i + 1))
  one_each = let e : most - i ≡ suc (most - (i + 1)) = omega arith in rw e refl

  pub each_state : (each step (most - i) i k).state ≡ whole.state → (each step (most - (i + 1)) (i + 1) k').state ≡ whole.state
  each_state h = rw to (sym (ap (λ (s : Transition). s.state) one_each) ∙ h)

  pub each_entries : now ++ (each step (most - i) i k).entries ≡ before ++ whole.entries → after ++ (each step (most - (i + 1)) (i + 1) k').entries ≡ before ++ whole.entries
  each_entries h = rw (to, tell, append_assoc) (ap (λ (s : Transition). now ++ s.entries) (sym one_each) ∙ h)
