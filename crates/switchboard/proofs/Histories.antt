-- What each step keeps of a history and the state that it fits, where a history takes the entries of a step.
use Rattle.std.proofs.Common.{◌≡◌, ℕ, zero, suc, ◌+◌, Option, None, Some, List, [], ◌++◌, refl, sym, subst, ◌∷◌, ap, append_assoc}
use Rattle.std.specs.Option.{option_map_or}
use Rattle.ipc_ids.specs.declared.entry.Entry.{Entry}
use Rattle.call_slab.specs.declared.call.Call.{Call}
use Rattle.switchboard.specs.State.{KernelState, Transition, nothing, then_do, drain, each}

-- entries as a history of their own: those before, and then these
abbrev pub told_after : List Entry → List Entry → List Entry
told_after es p = p ++ es

pub none_after : (p : List Entry) → told_after [] p ≡ p
none_after [] = refl
none_after (e ∷ p) = ap (λ x. e ∷ x) (none_after p)

pub both_after : (es fs : List Entry) (p : List Entry) → told_after (es ++ fs) p ≡ told_after fs (told_after es p)
both_after es fs p = sym (append_assoc p es fs)

module _ (H : Type 0) (tell : List Entry → H → H) (tell_none : (p : H) → tell [] p ≡ p) (tell_both : (es fs : List Entry) (p : H) → tell (es ++ fs) p ≡ tell fs (tell es p)) where
  -- a step, and then another
  pub then_tells : (J : H → KernelState → Type 0) (s : Transition) (f : KernelState → Transition) (p : H) → J (tell (f s.state).entries (tell s.entries p)) (f s.state).state → J (tell (then_do s f).entries p) (then_do s f).state
  then_tells J s f p h = subst (λ (q : H). J q (f s.state).state) (sym (tell_both s.entries (f s.state).entries p)) h

  nothing_tells : (J : H → KernelState → Type 0) (k : KernelState) (p : H) → J p k → J (tell (nothing k).entries p) (nothing k).state
  nothing_tells J k p h = subst (λ (q : H). J q k) (sym (tell_none p)) h

  module _ (step : KernelState → ℕ → Transition) (I : H → KernelState → Type 0) (keeps : (p : H) (k : KernelState) (i : ℕ) → I p k → I (tell (step k i).entries p) (step k i).state) where
    pub each_tells : (n i : ℕ) (p : H) (k : KernelState) → I p k → I (tell (each step n i k).entries p) (each step n i k).state
    each_tells zero i p k h = nothing_tells I k p h
    each_tells (suc n) i p k h = then_tells I (step k i) (each step n (i + 1)) p (each_tells n (i + 1) (tell (step k i).entries p) (step k i).state (keeps p k i h))

  module _ (next : KernelState → Option Call) (step : KernelState → Call → Transition) (I : H → KernelState → Type 0) (keeps : (p : H) (k : KernelState) (c : Call) → I p k → next k ≡ Some c → I (tell (step k c).entries p) (step k c).state) where
    pub drain_tells : (n : ℕ) (p : H) (k : KernelState) → I p k → I (tell (drain next step n k).entries p) (drain next step n k).state
    drain_tells zero p k h = nothing_tells I k p h
    drain_tells (suc n) p k h = by_next n p k h (next k) refl (drain_tells n) where
      by_next : (n : ℕ) (p : H) (k : KernelState) → I p k → (o : Option Call) → next k ≡ o → ((q : H) (j : KernelState) → I q j → I (tell (drain next step n j).entries q) (drain next step n j).state) → I (tell (option_map_or (λ c. then_do (step k c) (drain next step n)) o (nothing k)).entries p) (option_map_or (λ c. then_do (step k c) (drain next step n)) o (nothing k)).state
      by_next n p k h None is later = nothing_tells I k p h
      by_next n p k h (Some c) is later = then_tells I (step k c) (drain next step n) p (later (tell (step k c).entries p) (step k c).state (keeps p k c h is))
