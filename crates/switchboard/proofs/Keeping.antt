-- Each step keeps what the counts of calls need.
use Rattle.std.proofs.Common.{◌≡◌, ℕ, ◌+◌, ◌-◌, ◌<◌, Bool, true, false, cond, ◌&&◌, inl, inr, Option, None, Some, List, refl, ap, sym, subst, ◌∙◌, arith, set, Result, Ok, Err, length, ◌≤◌}
use Rattle.std.specs.Prelude.{IsSome, slice_get, option_and_then, ◌==◌, if◌then◌else◌}
use Rattle.std.specs.Option.{option_map_or, IsSomeAnd}
use Rattle.std.specs.Cmp.{nat_cmp_total}
use Rattle.std.specs.FinMap.{len, len-insert}
use Rattle.std.proofs.lemmas.Option.{same_Some}
use Rattle.ipc_ids.specs.declared.numbers.TaskNo.{TaskNo}
use Rattle.ipc_ids.specs.declared.numbers.Label.{Label}
use Rattle.ipc_ids.specs.declared.numbers.Code.{Code}
use Rattle.ipc_ids.specs.declared.message.PhoneState.{PhoneState}
use Rattle.call_slab.specs.declared.call.Call.{Call}
use Rattle.call_slab.specs.declared.call.Place.{Place}
use Rattle.answerbox.specs.Calls.{CallTable, call_at, enqueue, put_at, with_record, without_call, without_caller, is_caller, is_active_on, active_calls, used}
use Rattle.ipc_ids.specs.Labels.{same_label}
use Rattle.answerbox.proofs.Used.{few_enqueue, few_put, few_record, same_room, used-less}
use Rattle.ipc_ids.specs.Tables.{most_buffered}
use Rattle.ipc_ids.proofs.Common.{and_false, is_some}
use Rattle.answerbox.proofs.Counts.{active-without_call, count-with_record}
use Rattle.phone_table.specs.Phones.{Row, row_at, state_at, count_at, after_hangup}
use Rattle.phone_table.specs.declared.hung.Hung.{Hung}
use Rattle.phone_table.proofs.Lookups.{same_row}
use Rattle.switchboard.specs.State.{with_state_at}
use Rattle.switchboard.specs.Counts.{label_at, recount, count_changed, counts_without, IsCounted, HasCounts}
use Rattle.switchboard.specs.Board.{hung_rows}
use Rattle.switchboard.proofs.Lookups.{at_insert, at_remove, chosen, fewer_calls}
use Rattle.switchboard.proofs.Rows.{some_of, state_changed_at}
use Rattle.switchboard.proofs.Soundness.{some_set, value_of, row_after, phone_kept}
use Rattle.switchboard.proofs.Recounting.{some_and}
use Rattle.switchboard.proofs.Counting.{counted_enqueue, counted_put, counted_without, count_positive}

-- how many calls are live

len_enqueue : (q : CallTable) (c : Call) → call_at q c.number.0 ≡ None → len (enqueue q c).records ≡ len q.records + 1
len_enqueue q c free = rw (len-insert nat_cmp_total q.records c.number.0 (record c { stamp = q.next_stamp }), free) (omega arith)

len_record : (q : CallTable) (c d : Call) → call_at q d.number.0 ≡ Some c → len (with_record q d).records ≡ len q.records
len_record q c d is = rw (len-insert nat_cmp_total q.records d.number.0 d, is) (omega arith)

len_put : (q : CallTable) (c d : Call) (place : Place) → call_at q d.number.0 ≡ Some c → len (put_at q d place).records ≡ len q.records
len_put q c d place is = rw (len-insert nat_cmp_total q.records d.number.0 (record d { place = place; stamp = q.next_stamp }), is) (omega arith)

-- each phone has a count

some_changed : (f : ℕ → ℕ) (row : List ℕ) (b p : ℕ) → IsSome (slice_get row p) → IsSome (slice_get (count_changed f row b) p)
some_changed f row b p h = by_count (slice_get row b) where
  by_count : (o : Option ℕ) → IsSome (slice_get (option_map_or (λ m. set row b (f m)) o row) p)
  by_count None = h
  by_count (Some m) = some_set row b p (f m) h

shaped_recount : (f : ℕ → ℕ) (counts : List (List ℕ)) (a b t p : ℕ) → IsSome (count_at counts t p) → IsSome (count_at (recount f counts a b) t p)
shaped_recount f counts a b t p h = by_row (row_at counts a) refl where
  by_row : (o : Option (List ℕ)) → row_at counts a ≡ o → IsSome (count_at (option_map_or (λ row. set counts (a - 1) (count_changed f row b)) o counts) t p)
  by_row None is = h
  by_row (Some old) is =
      let found = value_of (count_at counts t p) h in
      let row = some_of (row_at counts t) (λ r. slice_get r p) found.0 found.1 in
      elim (row_after counts a t old (count_changed f old b) row.0 is row.1) [
        | inl e ↦ let same : row.0 ≡ old = same_Some row.0 old (sym row.1 ∙ ap (row_at counts) e.0 ∙ is) in rw (e.1) (some_changed f old b p (rw (← same, row.2) refl))
        | inr e ↦ rw (e.1, row.2) refl
      ]

shaped_without : (counts : List (List ℕ)) (caller : Option TaskNo) (from : Label) (t p : ℕ) → IsSome (count_at counts t p) → IsSome (count_at (counts_without counts caller from) t p)
shaped_without counts caller from t p h = by_caller (is_caller from.task caller) where
  by_caller : (b : Bool) → IsSome (count_at (cond b (recount (λ n. n - 1) counts from.task.0 from.phone.0) counts) t p)
  by_caller true = shaped_recount (λ n. n - 1) counts from.task.0 from.phone.0 t p h
  by_caller false = h

-- a phone that is there after a change of one was there before
pub phone_was : (rows : List (List PhoneState)) (a b t p : ℕ) (s : PhoneState) → IsSome (state_at rows a b) → IsSome (state_at (with_state_at rows a b s) t p) → IsSome (state_at rows t p)
phone_was rows a b t p s there h =
    let found = value_of (state_at (with_state_at rows a b s) t p) h in
    elim (state_changed_at rows a b t p s found.0 found.1) [
      | inl e ↦ subst (λ (i : ℕ). IsSome (state_at rows i p)) (sym e.0) (subst (λ (i : ℕ). IsSome (state_at rows a i)) (sym e.1) there)
      | inr e ↦ is_some (state_at rows t p) found.0 e.1
    ]

-- what holds of each record holds after one came, or another took its place
pub each_with : (P : ℕ → Call → Type 0) (q r : CallTable) (n : ℕ) (d : Call) → ((m : ℕ) (c : Call) → call_at q m ≡ Some c → P m c) → ((m : ℕ) → call_at r m ≡ (if n == m then Some d else call_at q m)) → P n d → (m : ℕ) (c : Call) → call_at r m ≡ Some c → P m c
each_with P q r n d s at new m c is =
    elim (chosen n m (Some d) (call_at q m) (Some c) (sym (at m) ∙ is)) [
      | inl e ↦ subst (P m) (same_Some d c e.1) (subst (λ (i : ℕ). P i d) e.0 new)
      | inr e ↦ s m c e.1
    ]

pub each_without : (P : ℕ → Call → Type 0) (q : CallTable) (n : ℕ) → ((m : ℕ) (c : Call) → call_at q m ≡ Some c → P m c) → (m : ℕ) (c : Call) → call_at (without_call q n) m ≡ Some c → P m c
each_without P q n s m c is =
    elim (chosen n m None (call_at q m) (Some c) (sym (at_remove q.records n m) ∙ is)) [
      | inl e ↦ absurd (cc e.1)
      | inr e ↦ s m c e.1
    ]

-- a call without a caller is active nowhere
idle : (from l : Label) → (same_label from l && false) ≡ false
idle from l = and_false (same_label from l)

without_or_forgotten : (b : Bool) (x y z w : ℕ) → w ≡ cond b 1 0 + x → cond b 1 0 + y ≡ cond false 1 0 + w → y ≡ x
without_or_forgotten true x y z w h g = omega arith
without_or_forgotten false x y z w h g = omega arith

-- a call that is forgotten is counted as one that is over
counted_forgotten : (counts : List (List ℕ)) (q : CallTable) (n : ℕ) (c : Call) → IsCounted counts q → call_at q n ≡ Some c → c.number.0 ≡ n → IsCounted (counts_without counts c.caller c.from) (with_record q (record c { caller = None }))
counted_forgotten counts q n c s is own t p m h =
    let l = label_at t p in
    let over = counted_without counts q n c s is t p m h in
    let less = active-without_call q n c l is in
    let more : cond (is_active_on l c) 1 0 + active_calls (with_record q (record c { caller = None })) l ≡ cond false 1 0 + active_calls q l =
    count-with_record (is_active_on l) q c (record c { caller = None }) (ap (call_at q) own ∙ is) ∙ ap (λ (b : Bool). cond b 1 0 + active_calls q l) (idle c.from l) in
    over ∙ sym (without_or_forgotten (is_active_on l c) (active_calls (without_call q n) l) (active_calls (with_record q (record c { caller = None })) l) 0 (active_calls q l) less more)

-- the steps

pub counts_enqueue : (phones : List (List PhoneState)) (counts : List (List ℕ)) (q : CallTable) (c : Call) → HasCounts phones counts q → call_at q c.number.0 ≡ None → c.caller ≡ Some c.from.task → IsSome (state_at phones c.from.task.0 c.from.phone.0) → used q + length c.buffer ≤ most_buffered → HasCounts phones (recount (λ n. n + 1) counts c.from.task.0 c.from.phone.0) (enqueue q c)
counts_enqueue phones counts q c s free caller there room = record {
  numbered = each_with (λ m d. d.number.0 ≡ m) q (enqueue q c) c.number.0 (record c { stamp = q.next_stamp }) s.numbered (λ m. at_insert q.records c.number.0 m (record c { stamp = q.next_stamp })) refl;
  over_phone = each_with (λ m d. IsSome (state_at phones d.from.task.0 d.from.phone.0)) q (enqueue q c) c.number.0 (record c { stamp = q.next_stamp }) s.over_phone (λ m. at_insert q.records c.number.0 m (record c { stamp = q.next_stamp })) there;
  shaped = λ t p h. shaped_recount (λ n. n + 1) counts c.from.task.0 c.from.phone.0 t p (s.shaped t p h);
  counted = counted_enqueue counts q c s.counted free caller;
  few = let l = len_enqueue q c free in let f = s.few in omega arith;
  bytes = few_enqueue q c most_buffered free room;
}

pub counts_leave : (phones : List (List PhoneState)) (counts : List (List ℕ)) (q : CallTable) (n : ℕ) (c : Call) → HasCounts phones counts q → call_at q n ≡ Some c → HasCounts phones (counts_without counts c.caller c.from) (without_call q n)
counts_leave phones counts q n c s is = record {
  numbered = each_without (λ m d. d.number.0 ≡ m) q n s.numbered;
  over_phone = each_without (λ m d. IsSome (state_at phones d.from.task.0 d.from.phone.0)) q n s.over_phone;
  shaped = λ t p h. shaped_without counts c.caller c.from t p (s.shaped t p h);
  counted = counted_without counts q n c s.counted is;
  few = let l = fewer_calls q n c is in let f = s.few in omega arith;
  bytes = let l = used-less q n in let b = s.bytes in omega arith;
}

pub counts_forget : (phones : List (List PhoneState)) (counts : List (List ℕ)) (q : CallTable) (n : ℕ) (c : Call) → HasCounts phones counts q → call_at q n ≡ Some c → HasCounts phones (counts_without counts c.caller c.from) (without_caller q n)
counts_forget phones counts q n c s is =
    let own = s.numbered n c is in
    let live : call_at q c.number.0 ≡ Some c = ap (call_at q) own ∙ is in
    let d : Call = record c { caller = None } in
    rw is (record {
      numbered = each_with (λ m e. e.number.0 ≡ m) q (with_record q d) c.number.0 d s.numbered (λ m. at_insert q.records c.number.0 m d) refl;
      over_phone = each_with (λ m e. IsSome (state_at phones e.from.task.0 e.from.phone.0)) q (with_record q d) c.number.0 d s.over_phone (λ m. at_insert q.records c.number.0 m d) (s.over_phone n c is);
      shaped = λ t p h. shaped_without counts c.caller c.from t p (s.shaped t p h);
      counted = counted_forgotten counts q n c s.counted is own;
      few = let l = len_record q c d live in let f = s.few in omega arith;
      bytes = few_record q c d most_buffered live (same_room q c d most_buffered s.bytes refl);
    })

pub counts_put : (phones : List (List PhoneState)) (counts : List (List ℕ)) (q : CallTable) (n : ℕ) (c d : Call) (place : Place) → HasCounts phones counts q → call_at q n ≡ Some c → d.number ≡ c.number → d.caller ≡ c.caller → d.from ≡ c.from → length d.buffer + used q ≤ length c.buffer + most_buffered → HasCounts phones counts (put_at q d place)
counts_put phones counts q n c d place s is number caller from room =
    let own : d.number.0 ≡ n = ap (λ (x : Rattle.ipc_ids.specs.declared.numbers.CallNo.CallNo). x.0) number ∙ s.numbered n c is in
    let live : call_at q d.number.0 ≡ Some c = ap (call_at q) own ∙ is in
    let e : Call = record d { place = place; stamp = q.next_stamp } in
    record {
      numbered = each_with (λ m x. x.number.0 ≡ m) q (put_at q d place) d.number.0 e s.numbered (λ m. at_insert q.records d.number.0 m e) refl;
      over_phone = each_with (λ m x. IsSome (state_at phones x.from.task.0 x.from.phone.0)) q (put_at q d place) d.number.0 e s.over_phone (λ m. at_insert q.records d.number.0 m e) (rw from (s.over_phone n c is));
      shaped = s.shaped;
      counted = counted_put counts q c d place s.counted live (λ l. rw (from, caller) refl);
      few = let l = len_put q c d place live in let f = s.few in omega arith;
      bytes = few_put q c d place most_buffered live room;
    }

-- a phone that is there gets another state
pub counts_phone : (phones : List (List PhoneState)) (counts : List (List ℕ)) (q : CallTable) (a b : ℕ) (state : PhoneState) → HasCounts phones counts q → IsSome (state_at phones a b) → HasCounts (with_state_at phones a b state) counts q
counts_phone phones counts q a b state s there = record {
  numbered = s.numbered;
  over_phone = λ n c is. phone_kept phones a b c.from.task.0 c.from.phone.0 state (s.over_phone n c is);
  shaped = λ t p h. s.shaped t p (phone_was phones a b t p state there h);
  counted = s.counted;
  few = s.few;
  bytes = s.bytes;
}

-- a live call was counted
pub was_counted : (phones : List (List PhoneState)) (counts : List (List ℕ)) (q : CallTable) (n : ℕ) (c : Call) → HasCounts phones counts q → call_at q n ≡ Some c → IsSomeAnd (count_at counts c.from.task.0 c.from.phone.0) (λ m. is_caller c.from.task c.caller ≡ true → 0 < m)
was_counted phones counts q n c s is =
    some_and (count_at counts c.from.task.0 c.from.phone.0) (λ m. is_caller c.from.task c.caller ≡ true → 0 < m)
    (s.shaped c.from.task.0 c.from.phone.0 (s.over_phone n c is))
    (λ m count own. let l = count_positive counts q n m c s.counted is count own in omega arith)

-- the phone of a row that was looked up
pub phone_of : (rows : List (List PhoneState)) (t p : ℕ) (row : List PhoneState) (o : Option PhoneState) → row_at rows t ≡ Some row → o ≡ slice_get row p → o ≡ state_at rows t p
phone_of rows t p row o is e = e ∙ sym (ap (option_and_then (λ r. slice_get r p)) is)

-- a row after a hangup of one phone
pub hung_states : (rows : List (List PhoneState)) (t p : ℕ) (row : Row) (answer : Result Hung Code) → row_at rows t ≡ Some row.states → set rows (t - 1) (after_hangup row p answer).states ≡ hung_rows rows t p answer
hung_states rows t p row (Ok h) is = rw is refl
hung_states rows t p row (Err e) is = same_row rows t row.states is

pub hung_counts : (counts : List (List ℕ)) (t p : ℕ) (row : Row) (answer : Result Hung Code) → row_at counts t ≡ Some row.counts → set counts (t - 1) (after_hangup row p answer).counts ≡ counts
hung_counts counts t p row (Ok h) is = same_row counts t row.counts is
hung_counts counts t p row (Err e) is = same_row counts t row.counts is
