-- A task that was just marked as ended, in what was sound before: with all marks set it is a switchboard's, and the
-- parts of its end do the same.
use Rattle.std.proofs.Common.{◌≡◌, ℕ, zero, suc, ◌-◌, ◌^◌, ◌<◌, ◌≤◌, T, Bool, true, false, inl, inr, Option, None, Some, List, [], ◌∷◌, length, replicate, refl, ap, sym, ◌∙◌, arith, set}
use Rattle.std.proofs.Math.ListN.{length-set}
use Rattle.std.proofs.lemmas.List.{length-replicate}
use Rattle.std.specs.Prelude.{◌==◌, IsSome, if◌then◌else◌, slice_get, unwrap_or}
use Rattle.std.specs.Ordering.{nat_cmp}
use Rattle.std.specs.FinMap.{len, find, is_sorted, entries, entries_sorted, get-entries}
use Rattle.std.proofs.lemmas.Bool.{cases_eq, eq-eqb, ne_eqb}
use Rattle.ipc_ids.specs.declared.numbers.TaskNo.{TaskNo}
use Rattle.ipc_ids.specs.declared.numbers.Label.{Label}
use Rattle.ipc_ids.specs.declared.message.PhoneState.{PhoneState}
use Rattle.call_slab.specs.declared.call.Call.{Call}
use Rattle.call_slab.proofs.Live.{tie, past_tie}
use Rattle.answerbox.specs.Calls.{CallTable, call_at, count_of, active_calls, is_active_on}
use Rattle.answerbox.proofs.Fronts.{first, second, greater}
use Rattle.phone_table.specs.Phones.{AreCounted, row_at, state_at, count_at}
use Rattle.switchboard.proofs.Lookups.{row_at_set}
use Rattle.address_space.specs.Memory.{Memory}
use Rattle.switchboard.specs.State.{KernelState, alive_in, state_from, label_of, mark_ended}
use Rattle.switchboard.specs.Sound.{IsCaller, IsSound}
use Rattle.switchboard.specs.Counts.{IsCounted}
use Rattle.switchboard.specs.Board.{IsSwitched, IsAdded, FewFrom}
use Rattle.cleanup.specs.Ending.{IsJustEnded, HasFewActive, all_alive}
use Rattle.cleanup.specs.Kill.{end_parts, kill}
use Rattle.switchboard.proofs.Soundness.{value_of}
use Rattle.switchboard.proofs.SoundMemory.{mark_within, positive}
use Rattle.cleanup.proofs.Marks.{SameMark, Agree, remarked, blind_parts}

-- the marks, where one was set

by_row : (marks : List Bool) (u : ℕ) → alive_in marks u ≡ unwrap_or (row_at marks u) false
by_row marks u = by_test (u == 0) where
  by_test : (b : Bool) → (if b then false else unwrap_or (slice_get marks (u - 1)) false) ≡ unwrap_or (if b then None else slice_get marks (u - 1)) false
  by_test true = refl
  by_test false = refl

-- the mark of a task after that of one was set
mark_set : (marks : List Bool) (t u : ℕ) (v : Bool) → 1 ≤ t → t ≤ length marks → alive_in (set marks (t - 1) v) u ≡ (if u == t then v else alive_in marks u)
mark_set marks t u v some there = by_row (set marks (t - 1) v) u ∙ ap (λ (o : Option Bool). unwrap_or o false) (row_at_set marks t u v some there) ∙ by_test (u == t) where
  by_test : (b : Bool) → unwrap_or (if b then Some v else row_at marks u) false ≡ (if b then v else alive_in marks u)
  by_test true = refl
  by_test false = sym (by_row marks u)

all_there : (n i : ℕ) → i < n → slice_get (replicate n true) i ≡ Some true
all_there zero i l = absurd (omega (arith, l))
all_there (suc n) zero l = refl
all_there (suc n) (suc i) l = all_there n i (omega (arith, l))

alive_all : (n u : ℕ) → 1 ≤ u → u ≤ n → alive_in (all_alive n) u ≡ true
alive_all n u some there = rw (ne_eqb u 0 (λ e. omega arith), all_there n (u - 1) (omega (arith, some, there))) refl

-- a count is 0 where no call passes
none_in : (p : Call → Bool) (es : List (ℕ × Call)) → T (is_sorted nat_cmp es) → ((k : ℕ) (c : Call) → find nat_cmp k es ≡ Some c → p c ≡ false) → count_of p es ≡ 0
none_in p [] s h = refl
none_in p (e ∷ es) s h = rw (h e.0 e.1 (rw (tie e.0) refl)) (let rest : count_of p es ≡ 0 = none_in p es (second _ _ s) (λ k c f. h k c (rw (past_tie k e.0 (greater e.0 es k c (first _ _ s) f)) f)) in omega arith)

none_pass : (p : Call → Bool) (q : CallTable) → ((k : ℕ) (c : Call) → call_at q k ≡ Some c → p c ≡ false) → count_of p (entries q.records) ≡ 0
none_pass p q h = none_in p (entries q.records) (entries_sorted q.records) (λ k c f. h k c (get-entries q.records k ∙ f))

-- a call over another phone is not active on this one
other_phone : (c : Call) (l : Label) → ((c.from.task.0 ≡ l.task.0) × (c.from.phone.0 ≡ l.phone.0) → ⊥) → is_active_on l c ≡ false
other_phone c l ne = elim (cases_eq c.from.task.0 l.task.0) [
  | inl e ↦ elim (cases_eq c.from.phone.0 l.phone.0) [ inl f ↦ absurd (ne (e, f)) | inr nf ↦ rw (eq-eqb c.from.task.0 l.task.0 e, ne_eqb c.from.phone.0 l.phone.0 nf) refl ]
  | inr nt ↦ rw (ne_eqb c.from.task.0 l.task.0 nt) refl
]

module _ (alive : List Bool) (who : TaskNo) (phones : List (List PhoneState)) (calls : CallTable) (memory : Memory) (ended : IsJustEnded alive who) (sound : IsSound (state_from (set alive (who.0 - 1) true) phones calls memory 0)) where
  abbrev before : List Bool
  before = set alive (who.0 - 1) true

  pub paired : length phones ≡ length alive
  paired = sound.tasks.paired ∙ length-set alive (who.0 - 1) true

  pub areas_paired : length memory.areas ≡ length phones
  areas_paired = sound.memory.paired ∙ sym sound.tasks.paired

  abbrev pub whole : KernelState
  whole = state_from (all_alive (length phones)) phones calls memory 0

  all_long : length (all_alive (length phones)) ≡ length phones
  all_long = length-replicate (length phones) true

  pub is_added : IsAdded whole who
  is_added = let a = ended.task in record { from_one = ended.from_one; task = omega (arith, a, paired, all_long) }

  -- a task that was alive before the mark has one mark in both
  one_mark : (u : ℕ) → alive_in before u ≡ true → alive_in (set (all_alive (length phones)) (who.0 - 1) false) u ≡ alive_in alive u
  one_mark u was = mark_set (all_alive (length phones)) who.0 u false ended.from_one is_added.task ∙ elim (cases_eq u who.0) [
    | inl e ↦ rw (eq-eqb u who.0 e) (sym (ap (alive_in alive) e ∙ ended.marked))
    | inr ne ↦
        let here : alive_in before u ≡ alive_in alive u = mark_set alive who.0 u true ended.from_one ended.task ∙ rw (ne_eqb u who.0 ne) refl in
        let lived : alive_in alive u ≡ true = sym here ∙ was in
        let l = mark_within alive u lived in
        rw (ne_eqb u who.0 ne) (alive_all (length phones) u (positive alive u lived) (omega (arith, l, paired)) ∙ sym lived)
  ]

  agree : Agree alive who (mark_ended whole who)
  agree = record {
    task = one_mark who.0 (mark_set alive who.0 who.0 true ended.from_one ended.task ∙ rw (eq-eqb who.0 who.0 refl) refl);
    callers = λ n c is. by_caller c.from c.caller (sound.calls.each n c is).caller;
  } where
    by_caller : (from : Label) (o : Option TaskNo) → IsCaller (record { alive = before; phones = phones }) from o → SameMark (set (all_alive (length phones)) (who.0 - 1) false) alive o
    by_caller from None h = tt
    by_caller from (Some u) h = one_mark u.0 h.1

  -- the parts of the end do the same by the caller's marks
  pub same_end : (k : KernelState) → k ≡ whole → remarked alive (kill k who) ≡ end_parts who (state_from alive phones calls memory 0)
  same_end k is = ap (λ (j : KernelState). remarked alive (kill j who)) is ∙ sym (blind_parts alive who (mark_ended whole who) agree).0

  -- all that there is makes a switchboard
  pub switched : (counts : List (List ℕ)) (tasks : ℕ) → IsCounted counts calls → AreCounted (record { states = phones; counts = counts }) → len calls.records < calls.next_number → length alive ≤ tasks → IsSwitched (all_alive (length phones)) phones counts calls tasks
  switched counts tasks counted shaped few places = record {
    paired = sym all_long;
    places = omega (arith, all_long, paired, places);
    leads = λ t p u is. let l = mark_within before u.0 (sound.tasks.leads t p u is) in let same = length-set alive (who.0 - 1) true in omega (arith, all_long, paired, same, l);
    has_counts = record {
      numbered = λ n c is. (sound.calls.each n c is).number;
      over_phone = λ n c is. (sound.calls.each n c is).phone;
      shaped = shaped;
      counted = counted;
      few = few;
      bytes = sound.calls.bytes;
    };
    kept = sound.kept;
  }

  -- no phone of the task has more active calls than can be counted
  pub few_from : (counts : List (List ℕ)) → HasFewActive counts calls → AreCounted (record { states = phones; counts = counts }) → FewFrom whole who 0
  few_from counts active shaped q le = by_phone (state_at phones who.0 q) refl where
    absent : (o : Option PhoneState) → IsSome o → o ≡ None → ⊥
    absent None h e = absurd (cc h)
    absent (Some s) h e = cc e

    by_phone : (o : Option PhoneState) → state_at phones who.0 q ≡ o → active_calls calls (label_of who q) < 2 ^ 31
    by_phone None is =
        let none = none_pass (is_active_on (label_of who q)) calls (λ n c live. other_phone c (label_of who q) (λ e. absent (state_at phones c.from.task.0 c.from.phone.0) (sound.calls.each n c live).phone (ap (λ t. state_at phones t c.from.phone.0) e.0 ∙ ap (state_at phones who.0) e.1 ∙ is))) in
        omega (arith, none)
    by_phone (Some s) is =
        let count = value_of (count_at counts who.0 q) (shaped who.0 q (rw is refl)) in
        let right : count.0 ≡ active_calls calls (label_of who q) = active.counted who.0 q count.0 count.1 in
        let few = active.few who.0 q count.0 count.1 in
        omega (arith, right, few)
