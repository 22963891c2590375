-- The rows of phones after a phone of one of them was kept, connected or freed.
use Rattle.std.proofs.Common.{◌≡◌, ℕ, ◌+◌, ◌-◌, Bool, true, false, Option, None, Some, List, [], ◌∷◌, refl, ap, sym, subst, ◌∙◌, arith, set, suc}
use Rattle.std.specs.Prelude.{if◌then◌else◌, IsSome, slice_get, option_and_then, Result, Ok, Err}
use Rattle.std.specs.Option.{IsSomeAnd, MatchOption}
use Rattle.std.specs.Result.{IsOkAnd, MatchResult}
use Rattle.std.proofs.lemmas.Option.{same_Some}
use Rattle.ipc_ids.specs.declared.numbers.TaskNo.{TaskNo}
use Rattle.ipc_ids.specs.declared.numbers.Label.{Label}
use Rattle.ipc_ids.specs.declared.numbers.Code.{Code}
use Rattle.ipc_ids.specs.declared.numbers.PhoneNo.{PhoneNo}
use Rattle.ipc_ids.specs.declared.message.PhoneState.{PhoneState}
use Rattle.ipc_ids.specs.declared.message.PhoneState.TheVariants.{Free, Connecting, Connected, HungUp, Slammed}
use Rattle.ipc_ids.proofs.Common.{is_some}
use Rattle.answerbox.specs.Calls.{CallTable, active_calls}
use Rattle.phone_table.specs.Phones.{Row, row_at, state_at, count_at, is_usable, first_usable, first_usable_from as first_in}
use Rattle.phone_table.proofs.Lookups.{same_row}
use Rattle.connect_hooks.specs.Connecting.{IsKept, send_over, receive_over, before_send, on_receive, accept_to_me}
use Rattle.switchboard.specs.State.{KernelState, label_of, phone_at}
use Rattle.switchboard.specs.Counts.{HasCounts}
use Rattle.switchboard.specs.Kept.{AreKept, IsLoose, first_usable_from, first_usable_of, kept_rows, or_refused, with_kept, label_in, phone_in, IsOf, WaitsIn}
use Rattle.switchboard.proofs.Endings.{slammed_states}
use Rattle.switchboard.proofs.Keepers.{AreUnkept, IsThere, not_waiting, state_here}
use Rattle.switchboard.proofs.Usable.{usable_is}

-- by the counts of the phones the first usable one is that of the definition
module _ (calls : CallTable) (t : TaskNo) where
  first_from : (p : ℕ) (states : List PhoneState) (counts : List ℕ) → ((q : ℕ) → IsSome (slice_get states q) → IsSome (slice_get counts q)) → ((q n : ℕ) → slice_get counts q ≡ Some n → n ≡ active_calls calls (label_of t (p + q))) → label_in t (first_in p states counts) ≡ first_usable_from calls t p states
  first_from p [] counts shaped counted = refl
  first_from p (state ∷ states) [] shaped counted = absurd (cc (shaped 0 refl))
  first_from p (state ∷ states) (count ∷ counts) shaped counted =
      let here : count ≡ active_calls calls (label_of t (p + 0)) = counted 0 count refl in
      let zero_is : p + 0 ≡ p = omega arith in
      let now : count ≡ active_calls calls (label_of t p) = here ∙ ap (λ i. active_calls calls (label_of t i)) zero_is in
      by_test (is_usable state (active_calls calls (label_of t p))) (ap (is_usable state) now)
      (first_from (p + 1) states counts (λ q h. shaped (suc q) h) (λ q n h. let one : p + suc q ≡ p + 1 + q = omega arith in counted (suc q) n h ∙ ap (λ i. active_calls calls (label_of t i)) one)) where
        by_test : (b : Bool) → is_usable state count ≡ b → label_in t (first_in (p + 1) states counts) ≡ first_usable_from calls t (p + 1) states → label_in t (if is_usable state count then Some p else first_in (p + 1) states counts) ≡ (if b then Some (label_of t p) else first_usable_from calls t (p + 1) states)
        by_test true is rest = rw is refl
        by_test false is rest = rw is rest

-- a task's first usable phone was kept before a call was sent, or as it was received
module _ (k : KernelState) (counts : List (List ℕ)) (t : TaskNo) (row : Row) (s : HasCounts k.tasks.phones counts k.calls) (states : row_at k.tasks.phones t.0 ≡ Some row.states) (counted : row_at counts t.0 ≡ Some row.counts) where
  first_is : label_in t (first_usable row) ≡ first_usable_of k t
  first_is =
      first_from k.calls t 0 row.states row.counts
      (λ q h. let there : IsSome (count_at counts t.0 q) = s.shaped t.0 q (rw states h) in rw counted at there)
      (λ q n h. let z : 0 + q ≡ q = omega arith in s.counted t.0 q n (rw counted h) ∙ ap (λ i. active_calls k.calls (label_of t i)) (sym z))
      ∙ sym (ap (option_and_then (first_usable_from k.calls t 0)) states)

  sent_over : (o : Option ℕ) → set k.tasks.phones (t.0 - 1) (send_over row o).phones.states ≡ kept_rows k.tasks.phones (label_in t o) Connecting
  sent_over None = same_row k.tasks.phones t.0 row.states states
  sent_over (Some p) = slammed_states k.tasks.phones t.0 p row.states Connecting states

  pub sent_states : set k.tasks.phones (t.0 - 1) (before_send row).phones.states ≡ kept_rows k.tasks.phones (first_usable_of k t) Connecting
  sent_states = sent_over (first_usable row) ∙ ap (λ o. kept_rows k.tasks.phones o Connecting) first_is

  sent_over_counts : (o : Option ℕ) → set counts (t.0 - 1) (send_over row o).phones.counts ≡ counts
  sent_over_counts None = same_row counts t.0 row.counts counted
  sent_over_counts (Some p) = same_row counts t.0 row.counts counted

  pub sent_counts : set counts (t.0 - 1) (before_send row).phones.counts ≡ counts
  sent_counts = sent_over_counts (first_usable row)

  sent_over_told : (o : Option ℕ) (now : Result Label Code) (P : PhoneNo → Label → Type 0) → ((x : PhoneNo) (l : Label) → P x l → l ≡ record { task = t; phone = x }) → MatchResult (send_over row o).told (λ x. IsOkAnd now (P x)) (λ e. now ≡ Err e) → now ≡ or_refused (label_in t o)
  sent_over_told None now P h cases = cases
  sent_over_told (Some p) (Ok l) P h cases = ap Ok (h (record { 0 = p }) l cases)
  sent_over_told (Some p) (Err e) P h cases = absurd cases

  pub sent_told : (was : Result PhoneNo Code) (now : Result Label Code) (P : PhoneNo → Label → Type 0) → ((x : PhoneNo) (l : Label) → P x l → l ≡ record { task = t; phone = x }) → was ≡ (before_send row).told → MatchResult was (λ x. IsOkAnd now (P x)) (λ e. now ≡ Err e) → now ≡ or_refused (first_usable_of k t)
  sent_told was now P h is cases = sent_over_told (first_usable row) now P h (rw is at cases) ∙ ap or_refused first_is

  received_over : (o : Option ℕ) → set k.tasks.phones (t.0 - 1) (receive_over row o).phones.states ≡ kept_rows k.tasks.phones (label_in t o) Connecting
  received_over None = same_row k.tasks.phones t.0 row.states states
  received_over (Some p) = slammed_states k.tasks.phones t.0 p row.states Connecting states

  pub received_states : set k.tasks.phones (t.0 - 1) (on_receive row).phones.states ≡ kept_rows k.tasks.phones (first_usable_of k t) Connecting
  received_states = received_over (first_usable row) ∙ ap (λ o. kept_rows k.tasks.phones o Connecting) first_is

  received_over_counts : (o : Option ℕ) → set counts (t.0 - 1) (receive_over row o).phones.counts ≡ counts
  received_over_counts None = same_row counts t.0 row.counts counted
  received_over_counts (Some p) = same_row counts t.0 row.counts counted

  pub received_counts : set counts (t.0 - 1) (on_receive row).phones.counts ≡ counts
  received_counts = received_over_counts (first_usable row)

  received_over_told : (o : Option ℕ) (now : Option Label) (P : PhoneNo → Label → Type 0) → ((x : PhoneNo) (l : Label) → P x l → l ≡ record { task = t; phone = x }) → MatchOption (receive_over row o).told (now ≡ None) (λ x. IsSomeAnd now (P x)) → now ≡ label_in t o
  received_over_told None now P h cases = cases
  received_over_told (Some p) (Some l) P h cases = ap Some (h (record { 0 = p }) l cases)
  received_over_told (Some p) None P h cases = absurd cases

  pub received_told : (was : Option PhoneNo) (now : Option Label) (P : PhoneNo → Label → Type 0) → ((x : PhoneNo) (l : Label) → P x l → l ≡ record { task = t; phone = x }) → was ≡ (on_receive row).told → MatchOption was (now ≡ None) (λ x. IsSomeAnd now (P x)) → now ≡ first_usable_of k t
  received_told was now P h is cases = received_over_told (first_usable row) now P h (rw is at cases) ∙ first_is

-- the first usable phone of a task does not wait, so that no call keeps it, and it may be kept
pub first_unkept : (k : KernelState) (t : TaskNo) → AreKept k.tasks.phones k.calls → AreUnkept k.calls (first_usable_of k t)
first_unkept k t s = by_first (first_usable_of k t) refl where
  not_usable : (state : PhoneState) (n : ℕ) → is_usable state n ≡ true → state ≡ Connecting → ⊥
  not_usable Free n h e = cc e
  not_usable Connecting n h e = absurd (cc h)
  not_usable (Connected u) n h e = absurd (cc h)
  not_usable HungUp n h e = cc e
  not_usable Slammed n h e = absurd (cc h)

  by_first : (o : Option Label) → first_usable_of k t ≡ o → AreUnkept k.calls o
  by_first None is = tt
  by_first (Some l) is =
      let f = usable_is k t l is in
      not_waiting l.task.0 l.phone.0 s (λ waits. not_usable f.state (active_calls k.calls l) f.usable (same_Some f.state Connecting (sym f.is ∙ waits)))

pub first_there : (k : KernelState) (t : TaskNo) → IsThere k.tasks.phones (first_usable_of k t)
first_there k t = by_first (first_usable_of k t) refl where
  by_first : (o : Option Label) → first_usable_of k t ≡ o → IsThere k.tasks.phones o
  by_first None is = tt
  by_first (Some l) is = let f = usable_is k t l is in is_some (phone_at k l.task l.phone.0) f.state f.is

pub first_loose : (k : KernelState) (t : TaskNo) → AreKept k.tasks.phones k.calls → IsLoose (with_kept k (first_usable_of k t) Connecting) (first_usable_of k t)
first_loose k t s = by_first (first_usable_of k t) (first_unkept k t s) (first_there k t) where
  by_first : (o : Option Label) → AreUnkept k.calls o → IsThere k.tasks.phones o → IsLoose (with_kept k o Connecting) o
  by_first None unkept there = tt
  by_first (Some l) unkept there = record {
    waits = state_here k.tasks.phones l.task.0 l.phone.0 Connecting there;
    unkept = λ n is. unkept n l is (refl, refl);
  }

-- a kept phone of task t leads to the caller
pub to_me_states : (rows : List (List PhoneState)) (t caller : TaskNo) (row : Row) (kept : Option Label) → row_at rows t.0 ≡ Some row.states → IsOf t kept → set rows (t.0 - 1) (accept_to_me row (phone_in kept) caller).phones.states ≡ kept_rows rows kept (Connected caller)
to_me_states rows t caller row None is own = same_row rows t.0 row.states is
to_me_states rows t caller row (Some l) is own = slammed_states rows t.0 l.phone.0 row.states (Connected caller) is ∙ ap (λ (u : TaskNo). kept_rows rows (Some (record { task = u; phone = l.phone })) (Connected caller)) (sym own)

pub to_me_counts : (counts : List (List ℕ)) (t caller : TaskNo) (row : Row) (kept : Option Label) → row_at counts t.0 ≡ Some row.counts → set counts (t.0 - 1) (accept_to_me row (phone_in kept) caller).phones.counts ≡ counts
to_me_counts counts t caller row None is = same_row counts t.0 row.counts is
to_me_counts counts t caller row (Some l) is = same_row counts t.0 row.counts is

pub to_me_waits : (rows : List (List PhoneState)) (t : TaskNo) (row : Row) (kept : Option Label) → row_at rows t.0 ≡ Some row.states → IsOf t kept → WaitsIn rows kept → IsKept row (phone_in kept)
to_me_waits rows t row None is own waits = tt
to_me_waits rows t row (Some l) is own waits = let here : state_at rows t.0 l.phone.0 ≡ Some Connecting = subst (λ (u : TaskNo). state_at rows u.0 l.phone.0 ≡ Some Connecting) own waits in rw is at here
