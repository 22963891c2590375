-- What each step of a repetition keeps, and what the steps bring about together.
use Rattle.std.proofs.Common.{◌≡◌, ℕ, zero, suc, ◌+◌, ◌<◌, ◌≤◌, Bool, true, false, ◌⊎◌, inl, inr, Option, None, Some, refl, arith}
use Rattle.std.specs.Prelude.{if◌then◌else◌}
use Rattle.std.specs.Option.{option_map_or}
use Rattle.std.proofs.lemmas.Bool.{cases_eq}
use Rattle.std.specs.FinMap.{entries}
use Rattle.call_slab.specs.declared.call.Call.{Call}
use Rattle.answerbox.specs.Calls.{call_at, count_of}
use Rattle.answerbox.proofs.Counts.{none_counts}
use Rattle.switchboard.specs.State.{KernelState, Transition, nothing, then_do, drain, each}

-- what holds of both choices holds of the one that is made
pub by_test : {A : Type 0} (P : A → Type 0) (b : Bool) (x y : A) → (b ≡ true → P x) → (b ≡ false → P y) → P (if b then x else y)
by_test P true x y h g = h refl
by_test P false x y h g = g refl

-- what a step keeps for each number, all steps keep
module _ (step : KernelState → ℕ → Transition) (I : KernelState → Type 0) (keeps : (k : KernelState) (i : ℕ) → I k → I (step k i).state) where
  pub each_keeps : (n i : ℕ) (k : KernelState) → I k → I (each step n i k).state
  each_keeps zero i k h = h
  each_keeps (suc n) i k h = each_keeps n (i + 1) (step k i).state (keeps k i h)

-- what a step does for its number and no later step undoes
module _ (step : KernelState → ℕ → Transition) (Good : KernelState → ℕ → Type 0) (does : (k : KernelState) (i m : ℕ) → (m ≡ i) ⊎ Good k m → Good (step k i).state m) where
  pub each_does : (n i : ℕ) (k : KernelState) (m : ℕ) → ((i ≤ m) × (m < i + n)) ⊎ Good k m → Good (each step n i k).state m
  each_does zero i k m (inl h) = absurd (let a = h.0 in let b = h.1 in omega arith)
  each_does zero i k m (inr h) = h
  each_does (suc n) i k m (inr h) = each_does n (i + 1) (step k i).state m (inr (does k i m (inr h)))
  each_does (suc n) i k m (inl h) = elim (cases_eq m i) [
    | inl e ↦ each_does n (i + 1) (step k i).state m (inr (does k i m (inl e)))
    | inr ne ↦ each_does n (i + 1) (step k i).state m (inl (let a = h.0 in let b = h.1 in (omega arith, omega arith)))
  ]

-- no live call passes the test
abbrev pub NoneIs : (Call → Bool) → KernelState → Type 0
NoneIs test k = (n : ℕ) (c : Call) → call_at k.calls n ≡ Some c → test c ≡ false

-- what a step for the next call keeps, all steps keep
module _ (next : KernelState → Option Call) (step : KernelState → Call → Transition) (I : KernelState → Type 0) (keeps : (k : KernelState) (c : Call) → I k → next k ≡ Some c → I (step k c).state) where
  pub drain_keeps : (n : ℕ) (k : KernelState) → I k → I (drain next step n k).state
  drain_keeps zero k h = h
  drain_keeps (suc n) k h = by_next n k h (next k) refl (drain_keeps n) where
    by_next : (n : ℕ) (k : KernelState) → I k → (o : Option Call) → next k ≡ o → ((j : KernelState) → I j → I (drain next step n j).state) → I (option_map_or (λ c. then_do (step k c) (drain next step n)) o (nothing k)).state
    by_next n k h None is later = h
    by_next n k h (Some c) is later = later (step k c).state (keeps k c h is)

  -- where each step takes one call out of those that pass a test, in the end none is left
  module _ (test : Call → Bool) (empty : (k : KernelState) → next k ≡ None → NoneIs test k) (less : (k : KernelState) (c : Call) → I k → next k ≡ Some c → suc (count_of test (entries (step k c).state.calls.records)) ≡ count_of test (entries k.calls.records)) where
    pub drain_empties : (n : ℕ) (k : KernelState) → I k → count_of test (entries k.calls.records) ≤ n → NoneIs test (drain next step n k).state
    drain_empties zero k h few = λ m c is. none_counts test k.calls.records m c (omega arith) is
    drain_empties (suc n) k h few = by_next n k h few (next k) refl (drain_empties n) where
      by_next : (n : ℕ) (k : KernelState) → I k → count_of test (entries k.calls.records) ≤ suc n → (o : Option Call) → next k ≡ o → ((j : KernelState) → I j → count_of test (entries j.calls.records) ≤ n → NoneIs test (drain next step n j).state) → NoneIs test (option_map_or (λ c. then_do (step k c) (drain next step n)) o (nothing k)).state
      by_next n k h few None is later = empty k is
      by_next n k h few (Some c) is later = later (step k c).state (keeps k c h is) (let l = less k c h is in omega arith)
