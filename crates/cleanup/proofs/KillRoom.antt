-- The room of a kill: what a part adds to, and what a later part finds.
use Rattle.std.proofs.Common.{◌≡◌, ℕ, zero, suc, ◌+◌, ◌*◌, ◌-◌, ◌<◌, ◌≤◌, Bool, true, false, cond, inl, inr, Option, None, Some, List, [], ◌∷◌, length, refl, ap, sym, subst, ◌∙◌, arith, set}
use Rattle.std.specs.Prelude.{◌==◌, ◌&&◌, ◌||◌, if◌then◌else◌}
use Rattle.std.specs.Option.{option_map_or}
use Rattle.std.proofs.lemmas.Option.{slice_get_past}
use Rattle.std.proofs.lemmas.Bool.{cases_eq, cases_lt, eq-eqb, ne_eqb, false≢true, or_right, and_right}
use Rattle.std.specs.FinMap.{FinMap, find, get, insert, len, entries, get-entries}
use Rattle.std.specs.Ordering.{nat_cmp}
use Rattle.ipc_ids.specs.declared.numbers.TaskNo.{TaskNo}
use Rattle.ipc_ids.specs.declared.numbers.Label.{Label}
use Rattle.ipc_ids.specs.declared.message.PhoneState.{PhoneState}
use Rattle.ipc_ids.specs.declared.message.PhoneState.TheVariants.{Free, Connecting, Connected, HungUp, Slammed}
use Rattle.ipc_ids.specs.Codes.{ehangup}
use Rattle.call_slab.specs.declared.call.Call.{Call}
use Rattle.call_slab.specs.declared.call.Place.{Place}
use Rattle.call_slab.specs.declared.call.Place.TheVariants.{Incoming, Dispatched, Answers}
use Rattle.call_slab.proofs.Live.{tie}
use Rattle.answerbox.specs.Calls.{CallTable, call_at, front, same_place, is_caller, enqueue, put_at, without_call, count_of, calls_at, calls_by}
use Rattle.answerbox.proofs.Counts.{count-len, count-insert, count-replace, count-without_call}
use Rattle.answerbox.proofs.Fronts.{front_live, no_front-has_no_calls}
use Rattle.phone_table.specs.Phones.{row_at, state_at}
use Rattle.switchboard.specs.State.{KernelState, Transition, alive_in, is_alive, phone_at, with_state_at, with_calls, live_calls, each, width}
use Rattle.switchboard.specs.Counts.{AreNumbered}
use Rattle.switchboard.specs.Joins.{bare_reply, hangup_call, hang_up, declined_call, settle_for, lives, drop_answer, slam, slam_at}
use Rattle.switchboard.specs.Kept.{kept_phone, with_kept}
use Rattle.cleanup.specs.Kill.{task_no, hang_up_at, hang_up_own_phones, slam_other, slam_phones_to, first_at, settle_call, settle_calls_at, drop_answers}
use Rattle.switchboard.specs.Rooms.{calls_of_hangup, has_phone, tells_two, settle_entries, settle_moves}
use Rattle.switchboard.specs.Board.{IsPendingAt}
use Rattle.cleanup.specs.KillRoom.{total, own_calls, leading_at, leading, kill_calls, kill_moves, moves_at, entries_at}
use Rattle.switchboard.proofs.Lookups.{at_insert, row_at_set, fewer_calls}
use Rattle.switchboard.proofs.Keeping.{each_with, each_without}
use Rattle.switchboard.proofs.Repeats.{NoneIs, by_test, each_keeps, drain_keeps, drain_empties}
use Rattle.switchboard.proofs.Soundness.{length_rows}
use Rattle.cleanup.proofs.Silence.{slams_keep}
use Rattle.cleanup.proofs.Queues.{IsLive, answered, over_less, put_less, settle_less, over_none}
use Rattle.cleanup.proofs.KilledPhones.{written_elsewhere}

-- sums

one_or_none : (b : Bool) → (if b then 1 else 0) ≤ 1
one_or_none true = omega arith
one_or_none false = omega arith

-- one number more
total_more : (f : ℕ → ℕ) (n i : ℕ) → total f (suc n) i ≡ total f n i + f (i + n)
total_more f zero i = let e : f i ≡ f (i + 0) = ap f (omega arith) in omega (arith, e)
total_more f (suc n) i =
    let h = total_more f n (i + 1) in
    let e : f (i + 1 + n) ≡ f (i + suc n) = ap f (omega arith) in
    omega (arith, h, e)

pub total_next : (f : ℕ → ℕ) (n : ℕ) → total f (n + 1) 0 ≡ total f n 0 + f n
total_next f n = let one : n + 1 ≡ suc n = omega arith in let none : f (0 + n) ≡ f n = ap f (omega arith) in ap (λ m. total f m 0) one ∙ total_more f n 0 ∙ ap (λ x. total f n 0 + x) none

-- more numbers make no less
pub total_less : (f : ℕ → ℕ) (n m : ℕ) → n ≤ m → total f n 0 ≤ total f m 0
total_less f zero zero le = omega arith
total_less f (suc n) zero le = absurd (omega (arith, le))
total_less f n (suc m) le = elim (cases_lt n (suc m)) [
  | inl l ↦
      let h = total_less f n m (omega (arith, l)) in
      let one : total f (suc m) 0 ≡ total f m 0 + f (0 + m) = total_more f m 0 in
      omega (arith, h, one)
  | inr g ↦ let same : n ≡ suc m = omega (arith, le, g) in subst (λ x. total f x 0 ≤ total f (suc m) 0) (sym same) (omega arith)
]

-- there is room for the next one
pub total_room : (f : ℕ → ℕ) (n m : ℕ) → n < m → total f n 0 + f n ≤ total f m 0
total_room f n m lt = let h = total_less f (n + 1) m (omega (arith, lt)) in let e = total_next f n in omega (arith, h, e)

pub total_same : (f g : ℕ → ℕ) (n i : ℕ) → ((q : ℕ) → i ≤ q → f q ≡ g q) → total f n i ≡ total g n i
total_same f g zero i same = refl
total_same f g (suc n) i same = let here = same i (omega arith) in let rest = total_same f g n (i + 1) (λ q le. same q (omega (arith, le))) in omega (arith, here, rest)

-- the phones that a step leaves as they were

-- a phone that changes leaves the rows of other tasks
row_elsewhere : (rows : List (List PhoneState)) (a b u : ℕ) (s : PhoneState) → (u ≡ a → ⊥) → row_at (with_state_at rows a b s) u ≡ row_at rows u
row_elsewhere rows a b u s ne = by_row (row_at rows a) refl where
  some : (row : List PhoneState) → row_at rows a ≡ Some row → (a ≡ 0 → ⊥)
  some row is e = absurd (let g = rw (eq-eqb a 0 e) at is in cc)

  there : (row : List PhoneState) → row_at rows a ≡ Some row → a ≤ length rows
  there row is = elim (cases_lt (a - 1) (length rows)) [
    | inl l ↦ omega (arith, l)
    | inr past ↦ absurd (let g = rw (ne_eqb a 0 (some row is), slice_get_past rows (a - 1) past) at is in cc)
  ]

  by_row : (o : Option (List PhoneState)) → row_at rows a ≡ o → row_at (option_map_or (λ row. set rows (a - 1) (set row b s)) o rows) u ≡ row_at rows u
  by_row None is = refl
  by_row (Some row) is = let not = some row is in row_at_set rows a u (set row b s) (omega (arith, not)) (there row is) ∙ rw (ne_eqb u a ne) refl

-- a hangup of phone p of task t leaves the others
pub hung_elsewhere : (k : KernelState) (t : TaskNo) (p : ℕ) (o : Option PhoneState) (s q : ℕ) → ((s ≡ t.0) × (q ≡ p) → ⊥) → state_at (hang_up k t p o).state.tasks.phones s q ≡ state_at k.tasks.phones s q
hung_elsewhere k t p None s q ne = refl
hung_elsewhere k t p (Some Free) s q ne = refl
hung_elsewhere k t p (Some Connecting) s q ne = refl
hung_elsewhere k t p (Some (Connected u)) s q ne = written_elsewhere k.tasks.phones t.0 p s q HungUp ne
hung_elsewhere k t p (Some HungUp) s q ne = refl
hung_elsewhere k t p (Some Slammed) s q ne = written_elsewhere k.tasks.phones t.0 p s q HungUp ne

hung_others : (k : KernelState) (t : TaskNo) (p : ℕ) (o : Option PhoneState) (s : ℕ) → (s ≡ t.0 → ⊥) → row_at (hang_up k t p o).state.tasks.phones s ≡ row_at k.tasks.phones s
hung_others k t p None s ne = refl
hung_others k t p (Some Free) s ne = refl
hung_others k t p (Some Connecting) s ne = refl
hung_others k t p (Some (Connected u)) s ne = row_elsewhere k.tasks.phones t.0 p s HungUp ne
hung_others k t p (Some HungUp) s ne = refl
hung_others k t p (Some Slammed) s ne = row_elsewhere k.tasks.phones t.0 p s HungUp ne

hung_length : (k : KernelState) (t : TaskNo) (p : ℕ) (o : Option PhoneState) → length (hang_up k t p o).state.tasks.phones ≡ length k.tasks.phones
hung_length k t p None = refl
hung_length k t p (Some Free) = refl
hung_length k t p (Some Connecting) = refl
hung_length k t p (Some (Connected u)) = length_rows k.tasks.phones t.0 p HungUp
hung_length k t p (Some HungUp) = refl
hung_length k t p (Some Slammed) = length_rows k.tasks.phones t.0 p HungUp

-- the phones of other tasks, and how many tasks have phones
pub record KeepsOthers (t : TaskNo) (k j : KernelState) : Type 0 where
  pub others : (s : ℕ) → (s ≡ t.0 → ⊥) → row_at j.tasks.phones s ≡ row_at k.tasks.phones s
  pub rows : length j.tasks.phones ≡ length k.tasks.phones

pub hangups_keep_others : (t : TaskNo) (k : KernelState) → KeepsOthers t k (hang_up_own_phones t k).state
hangups_keep_others t k = each_keeps (hang_up_at t) (KeepsOthers t k)
    (λ j p s. record {
      others = λ u ne. hung_others j t p (phone_at j t p) u ne ∙ s.others u ne;
      rows = hung_length j t p (phone_at j t p) ∙ s.rows;
    })
    (width k.tasks.phones t.0) 0 k (record { others = λ u ne. refl; rows = refl })

-- a slam of phone p of task u leaves the others
pub slammed_elsewhere : (t u : TaskNo) (k : KernelState) (p : ℕ) (o : Option PhoneState) (s q : ℕ) → ((s ≡ u.0) × (q ≡ p) → ⊥) → state_at (slam t u k p o).state.tasks.phones s q ≡ state_at k.tasks.phones s q
slammed_elsewhere t u k p None s q ne = refl
slammed_elsewhere t u k p (Some Free) s q ne = refl
slammed_elsewhere t u k p (Some Connecting) s q ne = refl
slammed_elsewhere t u k p (Some (Connected v)) s q ne =
    by_test (λ (x : Transition). state_at x.state.tasks.phones s q ≡ state_at k.tasks.phones s q) (v.0 == t.0) _ _ (λ _. written_elsewhere k.tasks.phones u.0 p s q Slammed ne) (λ _. refl)
slammed_elsewhere t u k p (Some HungUp) s q ne = refl
slammed_elsewhere t u k p (Some Slammed) s q ne = refl

slammed_others : (t u : TaskNo) (k : KernelState) (p : ℕ) (o : Option PhoneState) (s : ℕ) → (s ≡ u.0 → ⊥) → row_at (slam t u k p o).state.tasks.phones s ≡ row_at k.tasks.phones s
slammed_others t u k p None s ne = refl
slammed_others t u k p (Some Free) s ne = refl
slammed_others t u k p (Some Connecting) s ne = refl
slammed_others t u k p (Some (Connected v)) s ne =
    by_test (λ (x : Transition). row_at x.state.tasks.phones s ≡ row_at k.tasks.phones s) (v.0 == t.0) _ _ (λ _. row_elsewhere k.tasks.phones u.0 p s Slammed ne) (λ _. refl)
slammed_others t u k p (Some HungUp) s ne = refl
slammed_others t u k p (Some Slammed) s ne = refl

-- the slams of one task leave the phones of the others
pub slams_elsewhere : (t : TaskNo) (k : KernelState) (i s : ℕ) → (s ≡ i + 1 → ⊥) → row_at (slam_other t k i).state.tasks.phones s ≡ row_at k.tasks.phones s
slams_elsewhere t k i s ne =
    by_test (λ (x : Transition). row_at x.state.tasks.phones s ≡ row_at k.tasks.phones s) (i + 1 == t.0) _ _ (λ _. refl)
    (λ _. each_keeps (slam_at t (task_no (i + 1))) (λ j. row_at j.tasks.phones s ≡ row_at k.tasks.phones s)
    (λ j p h. slammed_others t (task_no (i + 1)) j p (phone_at j (task_no (i + 1)) p) s ne ∙ h)
    (width k.tasks.phones (i + 1)) 0 k refl)

-- as many phones lead to t where those of the other tasks are the same
pub same_leading_at : (t : TaskNo) (rows rows' : List (List PhoneState)) (i : ℕ) → ((i + 1 ≡ t.0 → ⊥) → row_at rows' (i + 1) ≡ row_at rows (i + 1)) → leading_at t rows' i ≡ leading_at t rows i
same_leading_at t rows rows' i same = elim (cases_eq (i + 1) t.0) [
  | inl e ↦ rw (eq-eqb (i + 1) t.0 e) refl
  | inr ne ↦ rw (ne_eqb (i + 1) t.0 ne, same ne) refl
]

pub same_leading : (t : TaskNo) (k j : KernelState) → KeepsOthers t k j → leading t j.tasks.phones ≡ leading t k.tasks.phones
same_leading t k j s =
    ap (λ n. total (leading_at t j.tasks.phones) n 0) s.rows
    ∙ total_same (leading_at t j.tasks.phones) (leading_at t k.tasks.phones) (length k.tasks.phones) 0 (λ i le. same_leading_at t k.tasks.phones j.tasks.phones i (λ ne. s.others (i + 1) ne))

-- the calls that a step adds to those that pass a test

-- a record that is put in is one more at most
put_most : (test : Call → Bool) (m : FinMap nat_cmp Call) (n : ℕ) (d : Call) → count_of test (entries (insert m n d)) ≤ cond (test d) 1 0 + count_of test (entries m)
put_most test m n d = by_old (get m n) refl where
  by_old : (o : Option Call) → get m n ≡ o → count_of test (entries (insert m n d)) ≤ cond (test d) 1 0 + count_of test (entries m)
  by_old None is = let e = count-insert test m n d is in omega (arith, e)
  by_old (Some c) is = let e = count-replace test m n c d is in omega (arith, e)

-- a hangup is one call more at most
hang_adds : (test : Call → Bool) (k : KernelState) (t : TaskNo) (p : ℕ) (o : Option PhoneState) → count_of test (entries (hang_up k t p o).state.calls.records) ≤ count_of test (entries k.calls.records) + calls_of_hangup o
hang_adds test k t p None = omega arith
hang_adds test k t p (Some Free) = omega arith
hang_adds test k t p (Some Connecting) = omega arith
hang_adds test k t p (Some (Connected u)) =
    let c : Call = record (hangup_call k t p u) { stamp = k.calls.next_stamp } in
    let one = one_or_none (test c) in
    let h = put_most test k.calls.records k.calls.next_number c in
    omega (arith, one, h)
hang_adds test k t p (Some HungUp) = omega arith
hang_adds test k t p (Some Slammed) = omega arith

hangups_add : (test : Call → Bool) (t : TaskNo) (n i : ℕ) (k : KernelState) → count_of test (entries (each (hang_up_at t) n i k).state.calls.records) ≤ count_of test (entries k.calls.records) + total (λ p. calls_of_hangup (phone_at k t p)) n i
hangups_add test t zero i k = omega arith
hangups_add test t (suc n) i k =
    let j : KernelState = (hang_up_at t k i).state in
    let one = hang_adds test k t i (phone_at k t i) in
    let rest = hangups_add test t n (i + 1) j in
    let same = total_same (λ p. calls_of_hangup (phone_at j t p)) (λ p. calls_of_hangup (phone_at k t p)) n (i + 1) (λ q le. ap calls_of_hangup (hung_elsewhere k t i (phone_at k t i) t.0 q (λ e. omega (arith, e.1, le)))) in
    omega (arith, one, rest, same)

-- a hangup that fails the test is none more
hang_none : (test : Call → Bool) (k : KernelState) (t : TaskNo) (p : ℕ) (o : Option PhoneState) → ((c : Call) (u : TaskNo) → c.place ≡ Incoming u → c.caller ≡ Some t → kept_phone c ≡ None → test c ≡ false) → count_of test (entries (hang_up k t p o).state.calls.records) ≤ count_of test (entries k.calls.records)
hang_none test k t p None fails = omega arith
hang_none test k t p (Some Free) fails = omega arith
hang_none test k t p (Some Connecting) fails = omega arith
hang_none test k t p (Some (Connected u)) fails =
    let c : Call = record (hangup_call k t p u) { stamp = k.calls.next_stamp } in
    let h = put_most test k.calls.records k.calls.next_number c in
    let g = rw (fails c u refl refl refl) at h in
    omega (arith, g)
hang_none test k t p (Some HungUp) fails = omega arith
hang_none test k t p (Some Slammed) fails = omega arith

hangups_none : (test : Call → Bool) (t : TaskNo) (k : KernelState) → ((c : Call) (u : TaskNo) → c.place ≡ Incoming u → c.caller ≡ Some t → kept_phone c ≡ None → test c ≡ false) → count_of test (entries (hang_up_own_phones t k).state.calls.records) ≤ count_of test (entries k.calls.records)
hangups_none test t k fails = each_keeps (hang_up_at t) (λ j. count_of test (entries j.calls.records) ≤ count_of test (entries k.calls.records))
    (λ j p h. let one = hang_none test j t p (phone_at j t p) fails in omega (arith, one, h)) (width k.tasks.phones t.0) 0 k (omega arith)

-- counts of calls

count_weaker : (a b : Call → Bool) → ((c : Call) → a c ≡ true → b c ≡ true) → (es : List (ℕ × Call)) → count_of a es ≤ count_of b es
count_weaker a b h [] = omega arith
count_weaker a b h (e ∷ es) = step (a e.1) (b e.1) (count_of a es) (count_of b es) (h e.1) (count_weaker a b h es) where
  step : (x y : Bool) (m n : ℕ) → (x ≡ true → y ≡ true) → m ≤ n → cond x 1 0 + m ≤ cond y 1 0 + n
  step true true m n h le = omega (arith, le)
  step true false m n h le = absurd (false≢true (h refl))
  step false true m n h le = omega (arith, le)
  step false false m n h le = omega (arith, le)

count_either : (a b : Call → Bool) (es : List (ℕ × Call)) → count_of (λ c. a c || b c) es ≤ count_of a es + count_of b es
count_either a b [] = omega arith
count_either a b (e ∷ es) = step (a e.1) (b e.1) (count_of (λ c. a c || b c) es) (count_of a es) (count_of b es) (count_either a b es) where
  step : (x y : Bool) (l m n : ℕ) → l ≤ m + n → cond (x || y) 1 0 + l ≤ cond x 1 0 + m + (cond y 1 0 + n)
  step true true l m n le = omega (arith, le)
  step true false l m n le = omega (arith, le)
  step false true l m n le = omega (arith, le)
  step false false l m n le = omega (arith, le)

-- where no call passes, none is counted
count_none : (test : Call → Bool) (n : ℕ) (k : KernelState) → len k.calls.records ≤ n → NoneIs test k → count_of test (entries k.calls.records) ≡ 0
count_none test zero k few h = let most = count-len test k.calls.records in omega (arith, most, few)
count_none test (suc n) k few h = by_list (entries k.calls.records) refl (count_none test n) where
  by_list : (es : List (ℕ × Call)) → entries k.calls.records ≡ es → ((j : KernelState) → len j.calls.records ≤ n → NoneIs test j → count_of test (entries j.calls.records) ≡ 0) → count_of test (entries k.calls.records) ≡ 0
  by_list [] is fewer = ap (count_of test) is
  by_list (e ∷ es) is fewer =
      let there : call_at k.calls e.0 ≡ Some e.1 = get-entries k.calls.records e.0 ∙ ap (find nat_cmp e.0) is ∙ rw (tie e.0) refl in
      let sum = rw (h e.0 e.1 there) at (count-without_call test k.calls e.0 e.1 there) in
      let less = fewer_calls k.calls e.0 e.1 there in
      let rest = fewer (with_calls k (without_call k.calls e.0)) (omega (arith, few, less)) (over_none test k e.0 h) in
      omega (arith, sum, rest)

-- the calls that wait at t, and those of t
abbrev waits_or_made : TaskNo → Call → Bool
waits_or_made t c = same_place c.place (Incoming t) || is_caller t c.caller

made_after_hangups : (t : TaskNo) (k j : KernelState) → j ≡ (hang_up_own_phones t k).state → count_of (waits_or_made t) (entries j.calls.records) ≤ calls_at k.calls (Incoming t) + calls_by k.calls t + own_calls k.tasks.phones t
made_after_hangups t k j is =
    let added = hangups_add (waits_or_made t) t (width k.tasks.phones t.0) 0 k in
    let either = count_either (λ c. same_place c.place (Incoming t)) (λ c. is_caller t c.caller) (entries k.calls.records) in
    rw is (omega (arith, added, either))

first_of : (a b : Bool) → (a && b) ≡ true → a ≡ true
first_of true b e = refl
first_of false b e = absurd (false≢true e)

-- the calls at a place that pass a test are some of those at the place
pub some_at : (test : Call → Bool) (k : KernelState) (place : Place) → count_of (λ c. same_place c.place place && test c) (entries k.calls.records) ≤ calls_at k.calls place
some_at test k place = count_weaker (λ c. same_place c.place place && test c) (λ c. same_place c.place place) (λ c e. first_of (same_place c.place place) (test c) e) (entries k.calls.records)

lives_same : (k j : KernelState) → j.tasks.alive ≡ k.tasks.alive → (o : Option TaskNo) → lives j o ≡ lives k o
lives_same k j same None = refl
lives_same k j same (Some u) = ap (λ (alive : List Bool). alive_in alive u.0) same

-- where a call of a hangup of t fails the test, t has no more such calls after its hangups than wait there
waiting_pass : (test : Call → Bool) (t : TaskNo) (k j : KernelState) → j ≡ (hang_up_own_phones t k).state → ((c : Call) → c.caller ≡ Some t → kept_phone c ≡ None → test c ≡ false) → count_of (λ c. same_place c.place (Incoming t) && test c) (entries j.calls.records) ≤ calls_at k.calls (Incoming t)
waiting_pass test t k j is fails =
    let none = hangups_none (λ c. same_place c.place (Incoming t) && test c) t k (λ c u e from kept. and_right (same_place c.place (Incoming t)) (test c) (fails c from kept)) in
    let some = some_at test k (Incoming t) in
    rw is (omega (arith, none, some))

-- a slam leaves the calls
slam_calls : (t u : TaskNo) (k : KernelState) (p : ℕ) (o : Option PhoneState) → (slam t u k p o).state.calls ≡ k.calls
slam_calls t u k p None = refl
slam_calls t u k p (Some Free) = refl
slam_calls t u k p (Some Connecting) = refl
slam_calls t u k p (Some (Connected v)) = by_test (λ (x : Transition). x.state.calls ≡ k.calls) (v.0 == t.0) _ _ (λ _. refl) (λ _. refl)
slam_calls t u k p (Some HungUp) = refl
slam_calls t u k p (Some Slammed) = refl

slams_calls : (t : TaskNo) (k j : KernelState) → j ≡ (slam_phones_to t k).state → j.calls ≡ k.calls
slams_calls t k j is = ap (λ (i : KernelState). i.calls) is ∙ slams_keep t (λ i. i.calls ≡ k.calls) (λ u p i g. slam_calls t u i p (phone_at i u p) ∙ g) k refl

-- the parts

-- the calls have their numbers, t has ended, and at most so many calls are held by it, are answers for it and are its own
pub record Finds (t : TaskNo) (held told own : ℕ) (k : KernelState) : Type 0 where
  pub numbered : AreNumbered k.calls
  pub ended : is_alive k t ≡ false
  pub holds : calls_at k.calls (Dispatched t) ≤ held
  pub answers : calls_at k.calls (Answers t) ≤ told
  pub made : calls_by k.calls t ≤ own

-- after the first part
record AreMarked (t : TaskNo) (k : KernelState) : Type 0 where
  pub numbered : AreNumbered k.calls
  pub ended : is_alive k t ≡ false

hang_marked : (t : TaskNo) (k : KernelState) (p : ℕ) (o : Option PhoneState) → AreMarked t k → AreMarked t (hang_up k t p o).state
hang_marked t k p None h = h
hang_marked t k p (Some Free) h = h
hang_marked t k p (Some Connecting) h = h
hang_marked t k p (Some HungUp) h = h
hang_marked t k p (Some Slammed) h = record { numbered = h.numbered; ended = h.ended }
hang_marked t k p (Some (Connected u)) h =
    let c : Call = record (hangup_call k t p u) { stamp = k.calls.next_stamp } in
    record {
      numbered = each_with (λ n d. d.number.0 ≡ n) k.calls (enqueue k.calls (hangup_call k t p u)) c.number.0 c h.numbered (λ m. at_insert k.calls.records c.number.0 m c) refl;
      ended = h.ended;
    }

pub finds_after_hangups : (t : TaskNo) (k j : KernelState) → j ≡ (hang_up_own_phones t k).state → AreNumbered k.calls → is_alive k t ≡ false → Finds t (calls_at k.calls (Dispatched t)) (calls_at k.calls (Answers t)) (calls_by k.calls t + own_calls k.tasks.phones t) j
finds_after_hangups t k j is numbered ended =
    let marked = each_keeps (hang_up_at t) (AreMarked t) (λ i p h. hang_marked t i p (phone_at i t p) h) (width k.tasks.phones t.0) 0 k (record { numbered = numbered; ended = ended }) in
    let mine = hangups_add (λ c. is_caller t c.caller) t (width k.tasks.phones t.0) 0 k in
    subst (Finds t (calls_at k.calls (Dispatched t)) (calls_at k.calls (Answers t)) (calls_by k.calls t + own_calls k.tasks.phones t)) (sym is) (record {
      numbered = marked.numbered;
      ended = marked.ended;
      holds = hangups_none (λ c. same_place c.place (Dispatched t)) t k (λ c u e _ _. ap (λ (x : Place). same_place x (Dispatched t)) e);
      answers = hangups_none (λ c. same_place c.place (Answers t)) t k (λ c u e _ _. ap (λ (x : Place). same_place x (Answers t)) e);
      made = omega (arith, mine);
    })

module _ (t : TaskNo) (held told own : ℕ) where
  abbrev F : KernelState → Type 0
  F = Finds t held told own

  -- the second part changes phones alone
  slam_finds : (u : TaskNo) (p : ℕ) (k : KernelState) (o : Option PhoneState) → F k → F (slam t u k p o).state
  slam_finds u p k None h = h
  slam_finds u p k (Some Free) h = h
  slam_finds u p k (Some Connecting) h = h
  slam_finds u p k (Some HungUp) h = h
  slam_finds u p k (Some Slammed) h = h
  slam_finds u p k (Some (Connected v)) h =
      by_test (λ (x : Transition). F x.state) (v.0 == t.0) _ _ (λ _. record { numbered = h.numbered; ended = h.ended; holds = h.holds; answers = h.answers; made = h.made }) (λ _. h)

  pub finds_after_slams : (k j : KernelState) → j ≡ (slam_phones_to t k).state → F k → F j
  finds_after_slams k j is h = subst F (sym is) (slams_keep t F (λ u p i g. slam_finds u p i (phone_at i u p) g) k h)

  -- a call that is over
  over_most : (test : Call → Bool) (k : KernelState) (c : Call) (n : ℕ) → IsLive k c → count_of test (entries k.calls.records) ≤ n → count_of test (entries (without_call k.calls c.number.0).records) ≤ n
  over_most test k c n is few = let e = count-without_call test k.calls c.number.0 c is in omega (arith, e, few)

  over_finds : (k : KernelState) (c : Call) (kept : Option Label) → IsLive k c → F k → F (with_calls (with_kept k kept Free) (without_call k.calls c.number.0))
  over_finds k c kept is h = record {
    numbered = each_without (λ n d. d.number.0 ≡ n) k.calls c.number.0 h.numbered;
    ended = h.ended;
    holds = over_most (λ d. same_place d.place (Dispatched t)) k c held is h.holds;
    answers = over_most (λ d. same_place d.place (Answers t)) k c told is h.answers;
    made = over_most (λ d. is_caller t d.caller) k c own is h.made;
  }

  -- a call that fails a test, in the place of one
  failed_most : (test : Call → Bool) (k : KernelState) (c d : Call) (n : ℕ) → IsLive k c → test d ≡ false → count_of test (entries k.calls.records) ≤ n → count_of test (entries (insert k.calls.records c.number.0 d)) ≤ n
  failed_most test k c d n is fails few = let e = rw fails at (count-replace test k.calls.records c.number.0 c d is) in omega (arith, e, few)

  same_most : (test : Call → Bool) (k : KernelState) (c d : Call) (n : ℕ) → IsLive k c → test d ≡ test c → count_of test (entries k.calls.records) ≤ n → count_of test (entries (insert k.calls.records c.number.0 d)) ≤ n
  same_most test k c d n is same few = let e = rw same at (count-replace test k.calls.records c.number.0 c d is) in omega (arith, e, few)

  settle_finds : (k : KernelState) (c : Call) → IsLive k c → F k → F (settle_call k c).state
  settle_finds k c is h = by_caller c.caller (lives k c.caller) refl where
    by_caller : (o : Option TaskNo) (b : Bool) → lives k o ≡ b → F (settle_for k c (bare_reply ehangup) None o b).state
    by_caller None b alive = over_finds k c (kept_phone c) is h
    by_caller (Some u) false alive = over_finds k c (kept_phone c) is h
    by_caller (Some u) true alive =
        let d : Call = answered k c u in
        record {
          numbered = each_with (λ n x. x.number.0 ≡ n) k.calls (put_at k.calls (declined_call c (bare_reply ehangup)) (Answers u)) c.number.0 d h.numbered (λ m. at_insert k.calls.records c.number.0 m d) refl;
          ended = h.ended;
          holds = failed_most (λ x. same_place x.place (Dispatched t)) k c d held is refl h.holds;
          answers = failed_most (λ x. same_place x.place (Answers t)) k c d told is (ne_eqb u.0 t.0 (λ e. false≢true (sym h.ended ∙ ap (alive_in k.tasks.alive) (sym e) ∙ alive))) h.answers;
          made = same_most (λ x. is_caller t x.caller) k c d own is refl h.made;
        }

  live_front : (k : KernelState) (place : Place) (c : Call) → F k → front k.calls place ≡ Some c → IsLive k c
  live_front k place c h is = let f = front_live k.calls place c is in ap (call_at k.calls) (h.numbered f.0 c f.1) ∙ f.1

  pub finds_after_settles : (place : Place) (k j : KernelState) → j ≡ (settle_calls_at place k).state → F k → F j
  finds_after_settles place k j is h = subst F (sym is) (drain_keeps (first_at place) settle_call F (λ i c g e. settle_finds i c (live_front i place c g e) g) (calls_at k.calls place) k h)

  -- a call that waits at t is settled, and is one of t no more
  made_less : (k : KernelState) (c : Call) → IsLive k c → same_place c.place (Incoming t) ≡ true → F k → suc (count_of (waits_or_made t) (entries (settle_call k c).state.calls.records)) ≡ count_of (waits_or_made t) (entries k.calls.records)
  made_less k c is stands h = by_caller c.caller (lives k c.caller) refl refl where
    passes : waits_or_made t c ≡ true
    passes = rw stands refl

    by_caller : (o : Option TaskNo) (b : Bool) → c.caller ≡ o → lives k o ≡ b → suc (count_of (waits_or_made t) (entries (settle_for k c (bare_reply ehangup) None o b).state.calls.records)) ≡ count_of (waits_or_made t) (entries k.calls.records)
    by_caller None b from alive = over_less (waits_or_made t) k c is passes
    by_caller (Some u) false from alive = over_less (waits_or_made t) k c is passes
    by_caller (Some u) true from alive =
        put_less (waits_or_made t) k c (answered k c u) is passes
        (ap (is_caller t) from ∙ ne_eqb u.0 t.0 (λ e. false≢true (sym h.ended ∙ ap (alive_in k.tasks.alive) (sym e) ∙ alive)))

  record IsLess (start k : KernelState) : Type 0 where
    pub finds : F k
    pub less : count_of (waits_or_made t) (entries k.calls.records) + calls_at start.calls (Incoming t) ≤ count_of (waits_or_made t) (entries start.calls.records) + calls_at k.calls (Incoming t)

  -- the calls of t that waited at t are over then
  settled_made : (k j : KernelState) → j ≡ (settle_calls_at (Incoming t) k).state → F k → calls_by j.calls t + calls_at k.calls (Incoming t) ≤ count_of (waits_or_made t) (entries k.calls.records)
  settled_made k j is h =
      let step : (i : KernelState) (c : Call) → IsLess k i → front i.calls (Incoming t) ≡ Some c → IsLess k (settle_call i c).state =
      λ i c g e.
      let live = live_front i (Incoming t) c g.finds e in
      let stands = (front_live i.calls (Incoming t) c e).2 in
      let mine = made_less i c live stands g.finds in
      let one = settle_less (λ x. same_place x.place (Incoming t)) i c live stands (λ u. refl) in
      record { finds = settle_finds i c live g.finds; less = omega (arith, mine, one, g.less) } in
      let all = drain_keeps (first_at (Incoming t)) settle_call (IsLess k) step (calls_at k.calls (Incoming t)) k (record { finds = h; less = omega arith }) in
      let none = drain_empties (first_at (Incoming t)) settle_call F (λ i c g e. settle_finds i c (live_front i (Incoming t) c g e) g) (λ c. same_place c.place (Incoming t)) (λ i e. no_front-has_no_calls i.calls (Incoming t) e)
      (λ i c g e. settle_less (λ x. same_place x.place (Incoming t)) i c (live_front i (Incoming t) c g e) (front_live i.calls (Incoming t) c e).2 (λ u. refl))
      (calls_at k.calls (Incoming t)) k h (omega arith) in
      let after : KernelState = (settle_calls_at (Incoming t) k).state in
      let empty = count_none (λ c. same_place c.place (Incoming t)) (len after.calls.records) after (omega arith) none in
      let most = count_weaker (λ c. is_caller t c.caller) (waits_or_made t) (λ c e. or_right (same_place c.place (Incoming t)) (is_caller t c.caller) e) (entries after.calls.records) in
      let less = all.less in
      rw is (omega (arith, less, empty, most))

  pub finds_after_drops : (k j : KernelState) → j ≡ (drop_answers t k).state → F k → F j
  finds_after_drops k j is h = subst F (sym is) (drain_keeps (first_at (Answers t)) (drop_answer t) F (λ i c g e. over_finds i c (kept_phone c) (live_front i (Answers t) c g e) g) (calls_at k.calls (Answers t)) k h)

-- at most so many as the phones and calls of k tell
abbrev pub FindsFrom : TaskNo → KernelState → KernelState → Type 0
FindsFrom t k = Finds t (calls_at k.calls (Dispatched t)) (calls_at k.calls (Answers t)) (calls_by k.calls t + own_calls k.tasks.phones t)

module _ (t : TaskNo) (k k1 k2 : KernelState) (is1 : k1 ≡ (hang_up_own_phones t k).state) (is2 : k2 ≡ (slam_phones_to t k1).state) (numbered : AreNumbered k.calls) (ended : is_alive k t ≡ false) where
  pub finds_second : FindsFrom t k k2
  finds_second = finds_after_slams t _ _ _ k1 k2 is2 (finds_after_hangups t k k1 is1 numbered ended)

  module _ (alive : k2.tasks.alive ≡ k.tasks.alive) where
    same_calls : k2.calls ≡ k1.calls
    same_calls = slams_calls t k1 k2 is2

    -- the calls that wait after the hangups and have a caller who is alive, or make two entries
    pub second_moves : moves_at k2 (Incoming t) ≤ calls_at k.calls (Incoming t)
    second_moves =
        let few = waiting_pass (λ c. lives k c.caller) t k k1 is1 (λ c from kept. ap (lives k) from ∙ ended) in
        let here = ap (λ (q : CallTable). count_of (λ c. same_place c.place (Incoming t) && lives k c.caller) (entries q.records)) same_calls in
        let marks = count_weaker (λ c. same_place c.place (Incoming t) && lives k2 c.caller) (λ c. same_place c.place (Incoming t) && lives k c.caller) (λ c e. ap (λ b. same_place c.place (Incoming t) && b) (sym (lives_same k k2 alive c.caller)) ∙ e) (entries k2.calls.records) in
        omega (arith, few, here, marks)

    pub second_entries : entries_at k2 (Incoming t) ≤ calls_at k2.calls (Incoming t) + calls_at k.calls (Incoming t)
    second_entries =
        let few = waiting_pass (tells_two k) t k k1 is1 (λ c from kept. ap (λ b. b || has_phone (kept_phone c)) (ap (lives k) from ∙ ended) ∙ ap has_phone kept) in
        let here = ap (λ (q : CallTable). count_of (λ c. same_place c.place (Incoming t) && tells_two k c) (entries q.records)) same_calls in
        let marks = count_weaker (λ c. same_place c.place (Incoming t) && tells_two k2 c) (λ c. same_place c.place (Incoming t) && tells_two k c) (λ c e. ap (λ b. same_place c.place (Incoming t) && (b || has_phone (kept_phone c))) (sym (lives_same k k2 alive c.caller)) ∙ e) (entries k2.calls.records) in
        omega (arith, few, here, marks)

  -- the calls that wait after the hangups are some of those that waited, of those of t, and of the hangups
  pub second_made : calls_at k2.calls (Incoming t) ≤ calls_at k.calls (Incoming t) + calls_by k.calls t + own_calls k.tasks.phones t
  second_made =
      let most = count_weaker (λ c. same_place c.place (Incoming t)) (waits_or_made t) (λ c e. ap (λ b. b || is_caller t c.caller) e) (entries k2.calls.records) in
      let same = ap (λ (q : CallTable). count_of (waits_or_made t) (entries q.records)) (slams_calls t k1 k2 is2) in
      let few = made_after_hangups t k k1 is1 in
      omega (arith, most, same, few)

  module _ (k3 : KernelState) (is3 : k3 ≡ (settle_calls_at (Incoming t) k2).state) where
    -- a call of a hangup that came to t itself is over, and is one of t no more
    pub third_made : calls_by k3.calls t + calls_at k2.calls (Incoming t) ≤ calls_at k.calls (Incoming t) + calls_by k.calls t + own_calls k.tasks.phones t
    third_made =
        let settled = settled_made t _ _ _ k2 k3 is3 finds_second in
        let same = ap (λ (q : CallTable). count_of (waits_or_made t) (entries q.records)) (slams_calls t k1 k2 is2) in
        let few = made_after_hangups t k k1 is1 in
        omega (arith, settled, same, few)

    abbrev FindsLeft : KernelState → Type 0
    FindsLeft = Finds t (calls_at k.calls (Dispatched t)) (calls_at k.calls (Answers t)) (calls_by k3.calls t)

    pub finds_third : FindsLeft k3
    finds_third =
        let h = finds_after_settles t _ _ _ (Incoming t) k2 k3 is3 finds_second in
        record { numbered = h.numbered; ended = h.ended; holds = h.holds; answers = h.answers; made = omega arith }

    module _ (k4 : KernelState) (is4 : k4 ≡ (settle_calls_at (Dispatched t) k3).state) where
      pub finds_fourth : FindsLeft k4
      finds_fourth = finds_after_settles t _ _ _ (Dispatched t) k3 k4 is4 finds_third

      pub finds_fifth : (k5 : KernelState) → k5 ≡ (drop_answers t k4).state → FindsLeft k5
      finds_fifth k5 is5 = finds_after_drops t _ _ _ k4 k5 is5 finds_fourth

-- a call that is settled is at its place no more
settle_sum : (test : Call → Bool) (k : KernelState) (c : Call) → IsLive k c → ((u : TaskNo) → test (answered k c u) ≡ false) → count_of test (entries (settle_call k c).state.calls.records) + (if test c then 1 else 0) ≤ count_of test (entries k.calls.records)
settle_sum test k c is fails = by_caller c.caller (lives k c.caller) where
  over : count_of test (entries (without_call k.calls c.number.0).records) + cond (test c) 1 0 ≤ count_of test (entries k.calls.records)
  over = let sum = count-without_call test k.calls c.number.0 c is in omega (arith, sum)

  by_caller : (o : Option TaskNo) (b : Bool) → count_of test (entries (settle_for k c (bare_reply ehangup) None o b).state.calls.records) + cond (test c) 1 0 ≤ count_of test (entries k.calls.records)
  by_caller None b = over
  by_caller (Some u) false = over
  by_caller (Some u) true = let sum = rw (fails u) at (count-replace test k.calls.records c.number.0 c (answered k c u) is) in omega (arith, sum)

not_answers : (place : Place) → IsPendingAt place → (u : TaskNo) (b : Bool) → (same_place (Answers u) place && b) ≡ false
not_answers (Incoming t) p u b = refl
not_answers (Dispatched t) p u b = refl
not_answers (Answers t) p u b = absurd p

settle_alive : (k : KernelState) (c : Call) → (settle_call k c).state.tasks.alive ≡ k.tasks.alive
settle_alive k c = by_caller c.caller (lives k c.caller) where
  by_caller : (o : Option TaskNo) (b : Bool) → (settle_for k c (bare_reply ehangup) None o b).state.tasks.alive ≡ k.tasks.alive
  by_caller None b = refl
  by_caller (Some u) false = refl
  by_caller (Some u) true = refl

module _ (k : KernelState) (place : Place) (c : Call) (pending : IsPendingAt place) (numbered : AreNumbered k.calls) (front_is : front k.calls place ≡ Some c) where
  front_stands : IsLive k c × (same_place c.place place ≡ true)
  front_stands = let f = front_live k.calls place c front_is in (ap (call_at k.calls) (numbered f.0 c f.1) ∙ f.1, f.2)

  -- what is settled at a place needs no room there any more
  settled : (test after : Call → Bool) → ((d : Call) → after d ≡ test d) → count_of (λ d. same_place d.place place && after d) (entries (settle_call k c).state.calls.records) + (if test c then 1 else 0) ≤ count_of (λ d. same_place d.place place && test d) (entries k.calls.records)
  settled test after same =
      let f = front_stands in
      let sum = rw f.1 at (settle_sum (λ d. same_place d.place place && test d) k c f.0 (λ u. not_answers place pending u (test (answered k c u)))) in
      let marks = count_weaker (λ d. same_place d.place place && after d) (λ d. same_place d.place place && test d) (λ d e. ap (λ b. same_place d.place place && b) (sym (same d)) ∙ e) (entries (settle_call k c).state.calls.records) in
      omega (arith, sum, marks)

  pub settled_moves : moves_at (settle_call k c).state place + settle_moves k (Some c) ≤ moves_at k place
  settled_moves = settled (λ d. lives k d.caller) (λ d. lives (settle_call k c).state d.caller) (λ d. lives_same k (settle_call k c).state (settle_alive k c) d.caller)

  pub settled_entries : entries_at (settle_call k c).state place + settle_entries k (Some c) ≤ entries_at k place
  settled_entries =
      let f = front_stands in
      let two = settled (tells_two k) (tells_two (settle_call k c).state) (λ d. ap (λ b. b || has_phone (kept_phone d)) (lives_same k (settle_call k c).state (settle_alive k c) d.caller)) in
      let one = settle_sum (λ d. same_place d.place place) k c f.0 (λ u. at_no_answers place pending u) in
      let sum = rw f.1 at one in
      omega (arith, two, sum)
    where
      at_no_answers : (place : Place) → IsPendingAt place → (u : TaskNo) → same_place (Answers u) place ≡ false
      at_no_answers (Incoming t) p u = refl
      at_no_answers (Dispatched t) p u = refl
      at_no_answers (Answers t) p u = absurd p

-- as many phones of other tasks lead to t after the hangups
pub same_slams : (t : TaskNo) (k j : KernelState) → j ≡ (hang_up_own_phones t k).state → leading t j.tasks.phones ≡ leading t k.tasks.phones
same_slams t k j is = ap (λ (i : KernelState). leading t i.tasks.phones) is ∙ same_leading t k (hang_up_own_phones t k).state (hangups_keep_others t k)

-- a kill puts a call at a place at most twice for each call that is live, and once for each hangup
pub few_moves : (k : KernelState) (t : TaskNo) → kill_moves k t ≤ kill_calls k t + 2 * live_calls k
few_moves k t =
    let waiting = count-len (λ c. same_place c.place (Incoming t)) k.calls.records in
    let held = count-len (λ c. same_place c.place (Dispatched t)) k.calls.records in
    omega (arith, waiting, held)
