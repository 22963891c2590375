-- The phone that is kept for a connect call is the usable one with the least number.
use Rattle.std.proofs.Common.{◌≡◌, ℕ, ◌<◌, Bool, true, false, inl, inr, None, Some, refl, ap, sym, ◌∙◌}
use Rattle.std.proofs.lemmas.Bool.{eq-eqb, eqb-true, false≢true}
use Rattle.ipc_ids.specs.declared.numbers.Label.{Label}
use Rattle.ipc_ids.specs.declared.numbers.TaskNo.{TaskNo}
use Rattle.ipc_ids.specs.declared.message.PhoneState.{PhoneState}
use Rattle.ipc_ids.specs.declared.message.PhoneState.TheVariants.{Free, HungUp}
use Rattle.call_slab.specs.declared.call.Call.{Call}
use Rattle.answerbox.specs.Calls.{CallTable, call_at, is_active_on, active_calls}
use Rattle.answerbox.proofs.Counts.{count-none, none_counts}
use Rattle.phone_table.specs.Phones.{is_usable}
use Rattle.switchboard.specs.State.{KernelState, phone_at, label_of}
use Rattle.switchboard.specs.Kept.{first_usable_of}
use Rattle.switchboard.proofs.Keepers.{same_phone}
use Rattle.switchboard.proofs.Usable.{usable_is}
use Rattle.kernel_laws.specs.UsablePhones.{HasNoActive, IsUsable}
use Rattle.kernel_laws.proofs.ActiveCalls.{active_is, is_active}
use Rattle.kernel_laws.proofs.LawfulCalls.{none_usable, unusable, found_usable}

-- ---- no active call, and a count of 0

no_count : (q : CallTable) (t : TaskNo) (p : ℕ) → HasNoActive q t p → active_calls q (label_of t p) ≡ 0
no_count q t p none = count-none (is_active_on (label_of t p)) q.records (λ n c is. by n c is (is_active_on (label_of t p) c) refl) where
  by : (n : ℕ) (c : Call) → call_at q n ≡ Some c → (b : Bool) → is_active_on (label_of t p) c ≡ b → b ≡ false
  by n c is true e = let two = active_is t p c e in absurd (none n (c, is, two.0, two.1))
  by n c is false e = refl

count_none : (q : CallTable) (t : TaskNo) (p : ℕ) → active_calls q (label_of t p) ≡ 0 → HasNoActive q t p
count_none q t p zero_is n h = false≢true (sym (none_counts (is_active_on (label_of t p)) q.records n h.0 zero_is h.1) ∙ is_active t p h.0 h.2 h.3)

-- ---- the first usable phone

module _ (k : KernelState) (t : TaskNo) where
  -- a usable phone in the words of the test
  tested : (p : ℕ) → IsUsable k k.calls t p → (s : PhoneState) × (phone_at k t p ≡ Some s) × (is_usable s (active_calls k.calls (label_of t p)) ≡ true)
  tested p (inl free) = (Free, free, refl)
  tested p (inr hung) = (HungUp, hung.0, eq-eqb (active_calls k.calls (label_of t p)) 0 (no_count k.calls t p hung.1))

  usable_by : (p : ℕ) (s : PhoneState) → phone_at k t p ≡ Some s → is_usable s (active_calls k.calls (label_of t p)) ≡ true → IsUsable k k.calls t p
  usable_by p Free at can = inl at
  usable_by p HungUp at can = inr (at, count_none k.calls t p (eqb-true (active_calls k.calls (label_of t p)) 0 can))
  usable_by p _ at can = absurd (cc can)

  -- where the search finds none, none is usable
  pub none_is : first_usable_of k t ≡ None → (p : ℕ) → IsUsable k k.calls t p → ⊥
  none_is e p (inl free) = none_usable k t e (p, inl free)
  none_is e p (inr hung) = none_usable k t e (p, inr (hung.0, no_count k.calls t p hung.1))

  module _ (l : Label) (e : first_usable_of k t ≡ Some l) where
    pub own : l ≡ label_of t l.phone.0
    own = same_phone l (label_of t l.phone.0) (ap (λ (u : TaskNo). u.0) (usable_is k t l e).own) refl

    -- what it finds is usable
    pub usable_one : IsUsable k k.calls t l.phone.0
    usable_one = let u = found_usable k t l e in usable_by l.phone.0 u.0 u.1 u.2

    -- and none before it
    pub least_one : (p : ℕ) → p < l.phone.0 → IsUsable k k.calls t p → ⊥
    least_one p less h = let s = tested p h in unusable k t p s.0 (Some l) e less s.1 s.2
