-- Each step keeps what a switchboard keeps.
use Rattle.std.proofs.Common.{◌≡◌, ℕ, zero, suc, ◌≤◌, ◌<◌, ◌+◌, ◌-◌, ◌^◌, Bool, true, false, Option, None, Some, List, [], ◌∷◌, ◌++◌, replicate, length, length-append, refl, ap, sym, subst, ◌∙◌, arith, inl, inr}
use Rattle.std.specs.Prelude.{IsSome, IfSome, slice_get, option_and_then, ◌==◌, OnOk, Result, Ok, Err}
use Rattle.std.specs.Option.{IsSomeAnd}
use Rattle.ipc_ids.specs.declared.numbers.TaskNo.{TaskNo}
use Rattle.ipc_ids.specs.declared.numbers.Label.{Label}
use Rattle.ipc_ids.specs.declared.message.PhoneState.{PhoneState}
use Rattle.ipc_ids.specs.declared.message.PhoneState.TheVariants.{Free, Connecting, Connected, HungUp, Slammed}
use Rattle.call_slab.specs.declared.call.Place.{Place}
use Rattle.call_slab.specs.declared.call.Call.{Call}
use Rattle.answerbox.specs.Calls.{CallTable, call_at, put_at, no_calls, is_active_on, active_calls, used, bytes_in}
use Rattle.ipc_ids.specs.Labels.{same_label}
use Rattle.answerbox.proofs.Used.{same_room, sum-none}
use Rattle.ipc_ids.specs.Tables.{most_buffered}
use Rattle.answerbox.proofs.Counts.{active-enqueue, count-none}
use Rattle.switchboard.specs.Joins.{hang_up, hangup_call}
use Rattle.answerbox.proofs.Steps.{call_at-no_calls}
use Rattle.std.proofs.lemmas.Bool.{cases_eq, eq-eqb, ne_eqb}
use Rattle.std.specs.Ordering.{nat_cmp}
use Rattle.std.specs.FinMap.{len-empty}
use Rattle.std.proofs.lemmas.Option.{slice_get_within}
use Rattle.ipc_ids.specs.declared.numbers.Code.{Code}
use Rattle.ipc_ids.proofs.Common.{and_false, same_end}
use Rattle.phone_table.specs.Phones.{row_at, state_at, count_at, hangup_answer}
use Rattle.phone_table.specs.Usable.{IsConnected}
use Rattle.phone_table.specs.declared.hung.Hung.{Hung}
use Rattle.phone_table.specs.declared.hung.Hung.TheVariants.{Sent, Silent}
use Rattle.switchboard.specs.Board.{hung_rows, IsSwitched, TellsAdded, LeadsToAdded}
use Rattle.switchboard.specs.State.{KernelState, label_of, with_state_at}
use Rattle.switchboard.proofs.Soundness.{phone_kept, value_of, get_last, row_append, row_before, length_rows, phone_before}
use Rattle.switchboard.specs.Counts.{label_at, IsCounted, HasCounts}
use Rattle.switchboard.specs.Kept.{AreKept, kept_by, kept_phone, kept_rows}
use Rattle.switchboard.proofs.Keepers.{IsUnkept, AreUnkept, IsThere, kept_phone_changed, not_waiting}
use Rattle.switchboard.proofs.Rows.{state_changed_at, some_of}
use Rattle.switchboard.proofs.Recounting.{some_and}
use Rattle.switchboard.proofs.Counting.{counted_none, elsewhere, zeros}
use Rattle.switchboard.proofs.Keeping.{counts_put, counts_phone}
use Rattle.switchboard.proofs.Endings.{sent_to}

-- calls and counts change
pub switched_calls : {alive : List Bool} {phones : List (List PhoneState)} {counts : List (List ℕ)} {calls : CallTable} {tasks : ℕ} (counts' : List (List ℕ)) (calls' : CallTable) → IsSwitched alive phones counts calls tasks → HasCounts phones counts' calls' → AreKept phones calls' → IsSwitched alive phones counts' calls' tasks
switched_calls counts' calls' s h kept = record { paired = s.paired; places = s.places; leads = s.leads; has_counts = h; kept = kept }

-- a phone that is there and that no call keeps gets a state in which it leads to no task
pub switched_phone : {alive : List Bool} {phones : List (List PhoneState)} {counts : List (List ℕ)} {calls : CallTable} {tasks : ℕ} (a b : ℕ) (state : PhoneState) → IsSwitched alive phones counts calls tasks → IsSome (state_at phones a b) → ((u : TaskNo) → state ≡ Connected u → ⊥) → IsUnkept calls a b → IsSwitched alive (with_state_at phones a b state) counts calls tasks
switched_phone {alive} {phones} {counts} {calls} a b state s there quiet unkept = record {
  paired = length_rows phones a b state ∙ s.paired;
  places = s.places;
  leads = λ t p u is. elim (state_changed_at phones a b t p state (Connected u) is) [ inl e ↦ absurd (quiet u e.2) | inr e ↦ s.leads t p u e.1 ];
  has_counts = counts_phone phones counts calls a b state s.has_counts there;
  kept = kept_phone_changed a b state s.kept unkept;
}

-- the record of a live call changes, but for its number and its caller, and goes to a place
pub switched_put : {alive : List Bool} {phones : List (List PhoneState)} {counts : List (List ℕ)} {calls : CallTable} {tasks : ℕ} (n : ℕ) (c d : Call) (place : Place) → IsSwitched alive phones counts calls tasks → call_at calls n ≡ Some c → d.number ≡ c.number → d.caller ≡ c.caller → d.from ≡ c.from → d.buffer ≡ c.buffer → AreKept phones (put_at calls d place) → IsSwitched alive phones counts (put_at calls d place) tasks
switched_put {alive} {phones} {counts} {calls} n c d place s is number caller from bytes kept = switched_calls counts (put_at calls d place) s (counts_put phones counts calls n c d place s.has_counts is number caller from (same_room calls c d most_buffered s.has_counts.bytes bytes)) kept

-- likewise, with bytes for which there is room
pub switched_bytes : {alive : List Bool} {phones : List (List PhoneState)} {counts : List (List ℕ)} {calls : CallTable} {tasks : ℕ} (n : ℕ) (c d : Call) (place : Place) → IsSwitched alive phones counts calls tasks → call_at calls n ≡ Some c → d.number ≡ c.number → d.caller ≡ c.caller → d.from ≡ c.from → used calls + length d.buffer ≤ most_buffered → AreKept phones (put_at calls d place) → IsSwitched alive phones counts (put_at calls d place) tasks
switched_bytes {alive} {phones} {counts} {calls} n c d place s is number caller from room kept = switched_calls counts (put_at calls d place) s (counts_put phones counts calls n c d place s.has_counts is number caller from (omega (arith, room))) kept

-- there is room to count one call more
pub may_count : (phones : List (List PhoneState)) (counts : List (List ℕ)) (calls : CallTable) (from : Label) → HasCounts phones counts calls → IsSome (state_at phones from.task.0 from.phone.0) → active_calls calls from < 2 ^ 31 → IsSomeAnd (count_at counts from.task.0 from.phone.0) (λ n. n < 2 ^ 31)
may_count phones counts calls from s there few =
    some_and (count_at counts from.task.0 from.phone.0) (λ n. n < 2 ^ 31) (s.shaped from.task.0 from.phone.0 there)
    (λ n is. let same : n ≡ active_calls calls from = s.counted from.task.0 from.phone.0 n is in rw same few)

-- a hangup of one phone leaves the calls of the next ones
other_label : (t : TaskNo) (p q : ℕ) → p < q → same_label (label_of t p) (label_of t q) ≡ false
other_label t p q lt = let ne : p ≡ q → ⊥ = λ e. omega arith in rw (ne_eqb p q ne) (and_false (t.0 == t.0))

pub later_same : (k : KernelState) (t : TaskNo) (p q : ℕ) (o : Option PhoneState) → call_at k.calls k.calls.next_number ≡ None → p < q → active_calls (hang_up k t p o).state.calls (label_of t q) ≡ active_calls k.calls (label_of t q)
later_same k t p q None free lt = refl
later_same k t p q (Some Free) free lt = refl
later_same k t p q (Some Connecting) free lt = refl
later_same k t p q (Some (Connected u)) free lt = active-enqueue k.calls (hangup_call k t p u) (label_of t q) free ∙ rw (other_label t p q lt) (omega arith)
later_same k t p q (Some HungUp) free lt = refl
later_same k t p q (Some Slammed) free lt = refl

-- a phone that leads to a task is there
pub connected_there : (o : Option PhoneState) → IsConnected o → IsSome o
connected_there None h = absurd h
connected_there (Some s) h = refl

not_hung : (o : Option PhoneState) (h : Hung) → Ok h ≡ hangup_answer o → o ≡ Some Connecting → ⊥
not_hung None h e f = cc
not_hung (Some Free) h e f = cc
not_hung (Some Connecting) h e f = absurd (cc e)
not_hung (Some (Connected u)) h e f = absurd (cc f)
not_hung (Some HungUp) h e f = cc
not_hung (Some Slammed) h e f = absurd (cc f)

pub not_slammed : (o : Option PhoneState) → IsConnected o → o ≡ Some Connecting → ⊥
not_slammed None h f = h
not_slammed (Some Free) h f = h
not_slammed (Some Connecting) h f = h
not_slammed (Some (Connected u)) h f = absurd (cc f)
not_slammed (Some HungUp) h f = h
not_slammed (Some Slammed) h f = h

hung_there : (o : Option PhoneState) (h : Hung) → Ok h ≡ hangup_answer o → IsSome o
hung_there None h e = absurd (cc e)
hung_there (Some s) h e = refl

-- a phone is hung up, where it can be
pub switched_hung : {alive : List Bool} {phones : List (List PhoneState)} {counts : List (List ℕ)} {calls : CallTable} {tasks : ℕ} (t p : ℕ) (answer : Result Hung Code) → IsSwitched alive phones counts calls tasks → answer ≡ hangup_answer (state_at phones t p) → IsSwitched alive (hung_rows phones t p answer) counts calls tasks
switched_hung t p (Err e) s is = s
switched_hung {phones} t p (Ok h) s is = switched_phone t p HungUp s (hung_there (state_at phones t p) h is) (λ u e. absurd (cc e)) (not_waiting t p s.kept (λ e. not_hung (state_at phones t p) h is e))

pub tells_added : (k : KernelState) (t p : ℕ) (answer : Result Hung Code) → ((a b : ℕ) (u : TaskNo) → state_at k.tasks.phones a b ≡ Some (Connected u) → u.0 ≤ length k.tasks.alive) → answer ≡ hangup_answer (state_at k.tasks.phones t p) → TellsAdded k answer
tells_added k t p (Err e) leads is = tt
tells_added k t p (Ok Silent) leads is = tt
tells_added k t p (Ok (Sent u)) leads is = leads t p u (sent_to (state_at k.tasks.phones t p) u is)

pub hung_there_after : (rows : List (List PhoneState)) (t p : ℕ) (answer : Result Hung Code) → answer ≡ hangup_answer (state_at rows t p) → OnOk answer (IsSome (state_at (hung_rows rows t p answer) t p))
hung_there_after rows t p (Err e) is = tt
hung_there_after rows t p (Ok h) is = phone_kept rows t p t p HungUp (hung_there (state_at rows t p) h is)

-- a phone that was read leads to a task that was added
pub leads_of : (k : KernelState) (t p : ℕ) (o : Option PhoneState) → ((a b : ℕ) (u : TaskNo) → state_at k.tasks.phones a b ≡ Some (Connected u) → u.0 ≤ length k.tasks.alive) → o ≡ state_at k.tasks.phones t p → IfSome o (LeadsToAdded k)
leads_of k t p None s e = tt
leads_of k t p (Some Free) s e = tt
leads_of k t p (Some Connecting) s e = tt
leads_of k t p (Some (Connected u)) s e = s t p u (sym e)
leads_of k t p (Some HungUp) s e = tt
leads_of k t p (Some Slammed) s e = tt

pub switched_wired : {alive : List Bool} {phones : List (List PhoneState)} {counts : List (List ℕ)} {calls : CallTable} {tasks : ℕ} (a b : ℕ) (to : TaskNo) → IsSwitched alive phones counts calls tasks → IsSome (state_at phones a b) → to.0 ≤ length alive → IsUnkept calls a b → IsSwitched alive (with_state_at phones a b (Connected to)) counts calls tasks
switched_wired {alive} {phones} {counts} {calls} a b to s there added unkept = record {
  paired = length_rows phones a b (Connected to) ∙ s.paired;
  places = s.places;
  leads = λ t p u is. elim (state_changed_at phones a b t p (Connected to) (Connected u) is) [ inl e ↦ subst (λ (v : TaskNo). v.0 ≤ length alive) (same_end to u e.2) added | inr e ↦ s.leads t p u e.1 ];
  has_counts = counts_phone phones counts calls a b (Connected to) s.has_counts there;
  kept = kept_phone_changed a b (Connected to) s.kept unkept;
}

-- whom a connection leads to was added
pub leads_here : (u : TaskNo) (n : ℕ) → u.0 ≤ n → (v : TaskNo) → Connected u ≡ Connected v → v.0 ≤ n
leads_here u n le v e = subst (λ (x : TaskNo). x.0 ≤ n) (same_end u v e) le

-- the same of a kept phone, where there is one
pub switched_kept : {alive : List Bool} {phones : List (List PhoneState)} {counts : List (List ℕ)} {calls : CallTable} {tasks : ℕ} (kept : Option Label) (state : PhoneState) → IsSwitched alive phones counts calls tasks → IsThere phones kept → ((u : TaskNo) → state ≡ Connected u → u.0 ≤ length alive) → AreUnkept calls kept → IsSwitched alive (kept_rows phones kept state) counts calls tasks
switched_kept None state s there leads unkept = s
switched_kept {alive} {phones} {counts} {calls} (Some l) state s there leads unkept = record {
  paired = length_rows phones l.task.0 l.phone.0 state ∙ s.paired;
  places = s.places;
  leads = λ t p u is. elim (state_changed_at phones l.task.0 l.phone.0 t p state (Connected u) is) [ inl e ↦ leads u e.2 | inr e ↦ s.leads t p u e.1 ];
  has_counts = counts_phone phones counts calls l.task.0 l.phone.0 state s.has_counts there;
  kept = kept_phone_changed l.task.0 l.phone.0 state s.kept unkept;
}

-- no tasks and no calls
nowhere : {A : Type 0} (t p : ℕ) (x : A) → option_and_then (λ row. slice_get row p) (row_at {A = List A} [] t) ≡ Some x → ⊥
nowhere t p x h = elim (cases_eq t 0) [ inl e ↦ let g = rw (eq-eqb t 0 e) at h in cc | inr ne ↦ let g = rw (ne_eqb t 0 ne) at h in cc ]

pub switched_start : IsSwitched [] [] [] no_calls 0
switched_start = record {
  paired = refl;
  places = omega arith;
  leads = λ t p u is. absurd (nowhere t p (Connected u) is);
  has_counts = record {
    numbered = λ n c is. absurd (let g = sym (call_at-no_calls n) ∙ is in cc);
    over_phone = λ n c is. absurd (let g = sym (call_at-no_calls n) ∙ is in cc);
    shaped = λ t p h. let f = value_of (state_at [] t p) h in absurd (nowhere t p f.0 f.1);
    counted = counted_none;
    few = rw (len-empty nat_cmp) (omega arith);
    bytes = let none = sum-none bytes_in no_calls.records (len-empty nat_cmp Call) in omega (arith, none);
  };
  kept = record {
    waits = λ n l is. absurd (let g : kept_by no_calls n ≡ None = ap (option_and_then kept_phone) (call_at-no_calls n) in let h : ◌≡◌ {A = Option Label} None (Some l) = sym g ∙ is in cc h);
    alone = λ m n l a b. absurd (let g : kept_by no_calls n ≡ None = ap (option_and_then kept_phone) (call_at-no_calls n) in let h : ◌≡◌ {A = Option Label} None (Some l) = sym g ∙ b in cc h);
  };
}

-- one task more
get_all : {A B : Type 0} (k p : ℕ) (x : A) (y : B) → IsSome (slice_get (replicate k x) p) → slice_get (replicate k y) p ≡ Some y
get_all zero p x y h = absurd (cc h)
get_all (suc k) zero x y h = refl
get_all (suc k) (suc p) x y h = get_all k p x y h

last_row : {A : Type 0} (rows : List A) (row : A) (t : ℕ) → t ≡ length rows + 1 → row_at (rows ++ row ∷ []) t ≡ Some row
last_row rows row t e = let ne : t ≡ 0 → ⊥ = λ z. omega arith in rw (ne_eqb t 0 ne) (get_last rows row (t - 1) (omega arith))

shaped_task : (phones : List (List PhoneState)) (counts : List (List ℕ)) (limit t p : ℕ) → length counts ≡ length phones → ((u q : ℕ) → IsSome (state_at phones u q) → IsSome (count_at counts u q)) → IsSome (state_at (phones ++ replicate limit Free ∷ []) t p) → IsSome (count_at (counts ++ replicate limit 0 ∷ []) t p)
shaped_task phones counts limit t p paired s h =
    let found = value_of (state_at (phones ++ replicate limit Free ∷ []) t p) h in
    let row = some_of (row_at (phones ++ replicate limit Free ∷ []) t) (λ r. slice_get r p) found.0 found.1 in
    elim (row_append phones (replicate limit Free) t row.0 row.1) [
      | inl e ↦
          let was : IsSome (state_at phones t p) = rw (e, row.2) refl in
          let count = value_of (count_at counts t p) (s t p was) in
          let counted = some_of (row_at counts t) (λ r. slice_get r p) count.0 count.1 in
          rw (row_before counts (replicate limit 0) t counted.0 counted.1, counted.2) refl
      | inr e ↦
          let there : IsSome (slice_get (replicate limit Free) p) = rw (e.1, row.2) refl in
          rw (last_row counts (replicate limit 0) t (omega arith), get_all {B = ℕ} limit p Free 0 there) refl
    ]

free_leads_nowhere : (k p : ℕ) (u : TaskNo) → slice_get (replicate k Free) p ≡ Some (Connected u) → ⊥
free_leads_nowhere zero p u h = cc
free_leads_nowhere (suc k) zero u h = cc
free_leads_nowhere (suc k) (suc p) u h = free_leads_nowhere k p u h

pub same_before : (rows : List (List PhoneState)) (row : List PhoneState) (t p : ℕ) (x : PhoneState) → state_at rows t p ≡ Some x → state_at (rows ++ row ∷ []) t p ≡ Some x
same_before rows row t p x h =
    let r = some_of (row_at rows t) (λ y. slice_get y p) x h in
    rw (row_before rows row t r.0 r.1) r.2

row_few : {A : Type 0} (rows : List A) (t : ℕ) (row : A) → row_at rows t ≡ Some row → t ≤ length rows
row_few rows t row h = elim (cases_eq t 0) [
  | inl e ↦ omega arith
  | inr ne ↦ let f = slice_get_within rows (t - 1) row (rw (ne_eqb t 0 ne) at h) in omega arith
]

-- no live call goes over a phone of a task that is not there yet
none_over_new : (phones : List (List PhoneState)) (counts : List (List ℕ)) (calls : CallTable) → HasCounts phones counts calls → length counts ≡ length phones → (p : ℕ) → active_calls calls (label_at (length counts + 1) p) ≡ 0
none_over_new phones counts calls s paired p = count-none (is_active_on (label_at (length counts + 1) p)) calls.records (λ n c is. elsewhere c (length counts + 1) p (λ same.
    let there = value_of (state_at phones c.from.task.0 c.from.phone.0) (s.over_phone n c is) in
    let row = some_of (row_at phones c.from.task.0) (λ r. slice_get r c.from.phone.0) there.0 there.1 in
    let few = row_few phones c.from.task.0 row.0 row.1 in
    let task = same.0 in
    omega arith))

-- so the counts of its phones are 0
counted_more : (counts : List (List ℕ)) (q : CallTable) (limit : ℕ) → IsCounted counts q → ((p : ℕ) → active_calls q (label_at (length counts + 1) p) ≡ 0) → IsCounted (counts ++ replicate limit 0 ∷ []) q
counted_more counts q limit s unused t p n h =
    let found = some_of (row_at (counts ++ replicate limit 0 ∷ []) t) (λ r. slice_get r p) n h in
    elim (row_append counts (replicate limit 0) t found.0 found.1) [
      | inl e ↦ s t p n (rw e found.2)
      | inr e ↦
          let zero_there : n ≡ 0 = zeros limit p n (rw (e.1) found.2) in
          let none : active_calls q (label_at t p) ≡ 0 = rw (e.0) (unused p) in
          zero_there ∙ sym none
    ]

pub switched_task : {alive : List Bool} {phones : List (List PhoneState)} {counts : List (List ℕ)} {calls : CallTable} {tasks : ℕ} (limit tasks' : ℕ) → IsSwitched alive phones counts calls tasks → length counts ≡ length phones → length alive + 1 ≤ tasks' → IsSwitched (alive ++ true ∷ []) (phones ++ replicate limit Free ∷ []) (counts ++ replicate limit 0 ∷ []) calls tasks'
switched_task {alive} {phones} {counts} {calls} limit tasks' s paired enough = record {
  paired = rw (length-append, length-append) (let e = s.paired in omega arith);
  places = rw length-append (omega (arith, enough));
  leads = λ t p u is.
      let row = some_of (row_at (phones ++ replicate limit Free ∷ []) t) (λ r. slice_get r p) (Connected u) is in
      elim (row_append phones (replicate limit Free) t row.0 row.1) [
        | inl e ↦ let l = s.leads t p u (rw e row.2) in rw length-append (omega (arith, l))
        | inr e ↦ absurd (free_leads_nowhere limit p u (rw (e.1) row.2))
      ];
  has_counts = record {
    numbered = s.has_counts.numbered;
    over_phone = λ n c is. phone_before phones (replicate limit Free) c.from.task.0 c.from.phone.0 (s.has_counts.over_phone n c is);
    shaped = λ t p h. shaped_task phones counts limit t p paired s.has_counts.shaped h;
    counted = counted_more counts calls limit s.has_counts.counted (none_over_new phones counts calls s.has_counts paired);
    few = s.has_counts.few;
    bytes = s.has_counts.bytes;
  };
  kept = record {
    waits = λ n l is. same_before phones (replicate limit Free) l.task.0 l.phone.0 Connecting (s.kept.waits n l is);
    alone = s.kept.alone;
  };
}
