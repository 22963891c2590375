-- Each step leaves few active calls on each phone.
use Rattle.std.proofs.Common.{◌≡◌, ℕ, zero, suc, ◌+◌, ◌-◌, ◌<◌, ◌≤◌, Bool, true, false, cond, not, ◌&&◌, ◌⊎◌, inl, inr, Option, None, Some, List, [], ◌∷◌, ◌++◌, replicate, refl, ap, sym, subst, ◌∙◌, arith}
use Rattle.std.specs.Prelude.{◌==◌, if◌then◌else◌, IsSome, slice_get}
use Rattle.std.specs.Ordering.{nat_cmp}
use Rattle.std.proofs.lemmas.Bool.{cases_eq, eqb-true, and_parts}
use Rattle.std.specs.FinMap.{len-empty, entries}
use Rattle.std.proofs.lemmas.Option.{same_Some}
use Rattle.ipc_ids.specs.declared.numbers.TaskNo.{TaskNo}
use Rattle.ipc_ids.specs.declared.numbers.Label.{Label}
use Rattle.ipc_ids.specs.declared.message.PhoneState.{PhoneState}
use Rattle.ipc_ids.specs.declared.message.PhoneState.TheVariants.{Free, Connecting, Connected, HungUp, Slammed}
use Rattle.ipc_ids.specs.declared.message.Reply.{Reply}
use Rattle.ipc_ids.specs.Codes.{ehangup}
use Rattle.call_slab.specs.declared.call.Call.{Call}
use Rattle.call_slab.specs.declared.call.Place.{Place}
use Rattle.call_slab.specs.declared.call.Place.TheVariants.{Answers}
use Rattle.answerbox.specs.Calls.{is_hangup, CallTable, no_calls, call_at, enqueue, put_at, without_call, with_record, count_of, is_caller, is_active_on, active_calls}
use Rattle.ipc_ids.specs.Labels.{same_label}
use Rattle.ipc_ids.proofs.Common.{and_false, is_some}
use Rattle.answerbox.proofs.Counts.{count-len, count-enqueue, count-without_call, count-with_record, count-put_at}
use Rattle.phone_table.specs.Phones.{Row, state_at, is_usable, first_usable, first_usable_from}
use Rattle.switchboard.specs.State.{KernelState, Transition, start, is_alive, phone_at, label_of, with_state_at, with_phone, with_calls, with_task, width, mark_ended}
use Rattle.switchboard.specs.Counts.{label_at}
use Rattle.switchboard.specs.Sound.{IsSound}
use Rattle.switchboard.specs.Kept.{AreKept, WaitsIn, with_kept, kept_phone, lent_phone, first_usable_of}
use Rattle.switchboard.specs.Joins.{bare_reply, declined_call, vanishing, settle, settle_for, lives, drop_answer, forget_call, hangup_call, hang_up, slam}
use Rattle.cleanup.specs.Kill.{hang_up_at, kill}
use Rattle.cleanup.specs.Limits.{awaited_calls, hangup_calls, IsIdle, IsWithinLimits, IsRowOf}
use Rattle.switchboard.proofs.Rows.{some_of}
use Rattle.switchboard.proofs.Keepers.{state_here}
use Rattle.switchboard.proofs.Usable.{IsUsable, usable_is, kept_waits, lent_waits}
use Rattle.switchboard.proofs.Repeats.{by_test, each_keeps}
use Rattle.switchboard.proofs.Soundness.{next_free}
use Rattle.cleanup.proofs.Silence.{with_marks, hang_up_ends, IsEnding, slams_keep}
use Rattle.cleanup.proofs.Queues.{IsLive, forget_step}
use Rattle.cleanup.proofs.Killing.{after_hangups, after_slams}
use Rattle.cleanup.proofs.KilledPhones.{written_elsewhere, calls_keep}

-- active calls are those that wait and those that tell of a hangup

split_one : (a b : Bool) (x y z : ℕ) → x ≡ y + z → cond a 1 0 + x ≡ (cond (a && not b) 1 0 + y) + (cond (a && b) 1 0 + z)
split_one true true x y z h = omega arith
split_one true false x y z h = omega arith
split_one false true x y z h = omega arith
split_one false false x y z h = omega arith

split_in : (p q : Call → Bool) (es : List (ℕ × Call)) → count_of p es ≡ count_of (λ c. p c && not (q c)) es + count_of (λ c. p c && q c) es
split_in p q [] = refl
split_in p q (e ∷ es) = split_one (p e.1) (q e.1) (count_of p es) (count_of (λ c. p c && not (q c)) es) (count_of (λ c. p c && q c) es) (split_in p q es)

pub active_split : (q : CallTable) (l : Label) → active_calls q l ≡ awaited_calls q l + hangup_calls q l
active_split q l = split_in (is_active_on l) is_hangup (entries q.records)

-- no phone ever has more than 65
pub active_within : (k : KernelState) → IsWithinLimits k → (t p : ℕ) → active_calls k.calls (label_at t p) ≤ 65
active_within k h t p = let and_parts = active_split k.calls (label_at t p) in let a = h.awaited t p in let b = h.hangups t p in omega arith

-- steps that make no call

-- no phone has more active calls than before
record NoMore (q r : CallTable) : Type 0 where
  pub awaited : (l : Label) → awaited_calls r l ≤ awaited_calls q l
  pub hangups : (l : Label) → hangup_calls r l ≤ hangup_calls q l
  pub active : (l : Label) → active_calls r l ≤ active_calls q l

within_calls : (k : KernelState) (q : CallTable) → IsWithinLimits k → NoMore k.calls q → IsWithinLimits (with_calls k q)
within_calls k q h less = record {
  awaited = λ t p. let a = less.awaited (label_at t p) in let b = h.awaited t p in omega arith;
  hangups = λ t p. let a = less.hangups (label_at t p) in let b = h.hangups t p in omega arith;
  hung_up = λ t p some. h.hung_up t p (let a = less.hangups (label_at t p) in omega arith);
  idle = λ t p idle. let a = less.active (label_at t p) in let b = h.idle t p idle in omega arith;
}

at_most : (b : Bool) (x y : ℕ) → x ≡ cond b 1 0 + y → y ≤ x
at_most true x y h = omega arith
at_most false x y h = omega arith

over_counts : (test : Call → Bool) (q : CallTable) (n : ℕ) (c : Call) → call_at q n ≡ Some c → count_of test (entries (without_call q n).records) ≤ count_of test (entries q.records)
over_counts test q n c is = at_most (test c) _ _ (count-without_call test q n c is)

over_no_more : (q : CallTable) (n : ℕ) (c : Call) → call_at q n ≡ Some c → NoMore q (without_call q n)
over_no_more q n c is = record {
  awaited = λ l. over_counts (λ d. is_active_on l d && not (is_hangup d)) q n c is;
  hangups = λ l. over_counts (λ d. is_active_on l d && is_hangup d) q n c is;
  active = λ l. over_counts (is_active_on l) q n c is;
}

as_many : (a b : Bool) (x y : ℕ) → cond a 1 0 + x ≡ cond b 1 0 + y → b ≡ a → x ≤ y
as_many true true x y h e = omega arith
as_many true false x y h e = absurd (cc e)
as_many false true x y h e = absurd (cc e)
as_many false false x y h e = omega arith

put_counts : (test : Call → Bool) (q : CallTable) (c d : Call) (place : Place) → call_at q d.number.0 ≡ Some c → test (record d { place = place; stamp = q.next_stamp }) ≡ test c → count_of test (entries (put_at q d place).records) ≤ count_of test (entries q.records)
put_counts test q c d place is same = as_many (test c) (test (record d { place = place; stamp = q.next_stamp })) _ _ (count-put_at test q c d place is) same

put_no_more : (q : CallTable) (c d : Call) (place : Place) → call_at q d.number.0 ≡ Some c → d.caller ≡ c.caller → d.from ≡ c.from → d.request ≡ c.request → NoMore q (put_at q d place)
put_no_more q c d place is caller from request = record {
  awaited = λ l. put_counts (λ x. is_active_on l x && not (is_hangup x)) q c d place is (rw (from, caller, request) refl);
  hangups = λ l. put_counts (λ x. is_active_on l x && is_hangup x) q c d place is (rw (from, caller, request) refl);
  active = λ l. put_counts (is_active_on l) q c d place is (rw (from, caller) refl);
}

none_more : (a b : Bool) (x y : ℕ) → cond a 1 0 + x ≡ cond b 1 0 + y → b ≡ false → x ≤ y
none_more true b x y h e = let g = rw e at h in omega arith
none_more false b x y h e = let g = rw e at h in omega arith

abbrev orphan : Call → Call
orphan c = record c { caller = None }

forget_counts : (test : Call → Bool) (q : CallTable) (c : Call) → call_at q c.number.0 ≡ Some c → test (orphan c) ≡ false → count_of test (entries (with_record q (orphan c)).records) ≤ count_of test (entries q.records)
forget_counts test q c is fails = none_more (test c) (test (orphan c)) _ _ (count-with_record test q c (orphan c) is) fails

forget_no_more : (q : CallTable) (c : Call) → call_at q c.number.0 ≡ Some c → NoMore q (with_record q (orphan c))
forget_no_more q c is = record {
  awaited = λ l. forget_counts (λ x. is_active_on l x && not (is_hangup x)) q c is (rw (and_false (same_label c.from l)) refl);
  hangups = λ l. forget_counts (λ x. is_active_on l x && is_hangup x) q c is (rw (and_false (same_label c.from l)) refl);
  active = λ l. forget_counts (is_active_on l) q c is (and_false (same_label c.from l));
}

pub within_over : (k : KernelState) (c : Call) → IsWithinLimits k → IsLive k c → IsWithinLimits (with_calls k (without_call k.calls c.number.0))
within_over k c h is = within_calls k (without_call k.calls c.number.0) h (over_no_more k.calls c.number.0 c is)

pub within_put : (k : KernelState) (c d : Call) (place : Place) → IsWithinLimits k → call_at k.calls d.number.0 ≡ Some c → d.caller ≡ c.caller → d.from ≡ c.from → d.request ≡ c.request → IsWithinLimits (with_calls k (put_at k.calls d place))
within_put k c d place h is caller from request = within_calls k (put_at k.calls d place) h (put_no_more k.calls c d place is caller from request)

within_forget : (k : KernelState) (c : Call) → IsWithinLimits k → IsLive k c → IsWithinLimits (forget_call k c).state
within_forget k c h is = subst IsWithinLimits (sym (forget_step k c is)) (within_calls k (with_record k.calls (orphan c)) h (forget_no_more k.calls c is))

-- a phone changes

-- where no call goes out over the phone if it is idle from now on, and where it is hung up if a hangup is active on it
within_state : (k : KernelState) (t : TaskNo) (p : ℕ) (new : PhoneState) → IsWithinLimits k → IsSome (phone_at k t p) → (IsIdle (Some new) → active_calls k.calls (label_of t p) ≡ 0) → (1 ≤ hangup_calls k.calls (label_of t p) → new ≡ HungUp) → IsWithinLimits (with_phone k t p new)
within_state k t p new h there unused hung = record {
  awaited = h.awaited;
  hangups = h.hangups;
  hung_up = λ a b some. at_hung a b (cases_eq a t.0) (cases_eq b p) some;
  idle = λ a b idle. at_idle a b (cases_eq a t.0) (cases_eq b p) idle;
} where
  here : (a b : ℕ) → a ≡ t.0 → b ≡ p → state_at (with_state_at k.tasks.phones t.0 p new) a b ≡ Some new
  here a b i j = rw (i, j) (state_here k.tasks.phones t.0 p new there)

  at_hung : (a b : ℕ) → (a ≡ t.0) ⊎ (a ≡ t.0 → ⊥) → (b ≡ p) ⊎ (b ≡ p → ⊥) → 1 ≤ hangup_calls k.calls (label_at a b) → state_at (with_state_at k.tasks.phones t.0 p new) a b ≡ Some HungUp
  at_hung a b (inl i) (inl j) some = here a b i j ∙ ap Some (hung (subst (λ x. 1 ≤ hangup_calls k.calls (label_at x p)) i (subst (λ x. 1 ≤ hangup_calls k.calls (label_at a x)) j some)))
  at_hung a b (inl i) (inr ne) some = written_elsewhere k.tasks.phones t.0 p a b new (λ z. ne z.1) ∙ h.hung_up a b some
  at_hung a b (inr ne) j some = written_elsewhere k.tasks.phones t.0 p a b new (λ z. ne z.0) ∙ h.hung_up a b some

  at_idle : (a b : ℕ) → (a ≡ t.0) ⊎ (a ≡ t.0 → ⊥) → (b ≡ p) ⊎ (b ≡ p → ⊥) → IsIdle (state_at (with_state_at k.tasks.phones t.0 p new) a b) → active_calls k.calls (label_at a b) ≡ 0
  at_idle a b (inl i) (inl j) idle = subst (λ x. active_calls k.calls (label_at x b) ≡ 0) (sym i) (subst (λ x. active_calls k.calls (label_at t.0 x) ≡ 0) (sym j) (unused (subst IsIdle (here a b i j) idle)))
  at_idle a b (inl i) (inr ne) idle = h.idle a b (subst IsIdle (written_elsewhere k.tasks.phones t.0 p a b new (λ z. ne z.1)) idle)
  at_idle a b (inr ne) j idle = h.idle a b (subst IsIdle (written_elsewhere k.tasks.phones t.0 p a b new (λ z. ne z.0)) idle)

-- a phone over which calls may go out from now on, and that stays hung up if it was
pub within_phone : (k : KernelState) (t : TaskNo) (p : ℕ) (old new : PhoneState) → IsWithinLimits k → phone_at k t p ≡ Some old → (IsIdle (Some new) → ⊥) → (old ≡ HungUp → new ≡ HungUp) → IsWithinLimits (with_phone k t p new)
within_phone k t p old new h is busy stays =
    within_state k t p new h (is_some (phone_at k t p) old is) (λ idle. absurd (busy idle)) (λ some. stays (same_Some old HungUp (sym is ∙ h.hung_up t.0 p some)))

-- a phone that no call is active on
pub within_unused : (k : KernelState) (l : Label) (old new : PhoneState) → IsWithinLimits k → phone_at k l.task l.phone.0 ≡ Some old → active_calls k.calls l ≡ 0 → IsWithinLimits (with_kept k (Some l) new)
within_unused k l old new h is unused = within_state k l.task l.phone.0 new h (is_some (phone_at k l.task l.phone.0) old is) (λ _. unused) (λ some. absurd (let and_parts = active_split k.calls l in omega arith))

-- a phone that waits is freed, or connected
pub within_kept : (k : KernelState) (kept : Option Label) (new : PhoneState) → IsWithinLimits k → WaitsIn k.tasks.phones kept → IsWithinLimits (with_kept k kept new)
within_kept k None new h waits = record { awaited = h.awaited; hangups = h.hangups; hung_up = h.hung_up; idle = h.idle }
within_kept k (Some l) new h waits = within_unused k l Connecting new h waits (h.idle l.task.0 l.phone.0 (subst IsIdle (sym waits) tt))

-- no call is active on a phone that is usable
pub usable_unused : (k : KernelState) (t : TaskNo) (l : Label) → IsWithinLimits k → IsUsable k t l → active_calls k.calls l ≡ 0
usable_unused k t l h u = by_state u.state u.is u.usable where
  by_state : (s : PhoneState) → phone_at k l.task l.phone.0 ≡ Some s → is_usable s (active_calls k.calls l) ≡ true → active_calls k.calls l ≡ 0
  by_state Free is it = h.idle l.task.0 l.phone.0 (subst IsIdle (sym is) tt)
  by_state Connecting is it = absurd (cc it)
  by_state (Connected u) is it = absurd (cc it)
  by_state HungUp is it = eqb-true (active_calls k.calls l) 0 it
  by_state Slammed is it = absurd (cc it)

-- the first usable phone is kept
pub within_taken : (k : KernelState) (t : TaskNo) (kept : Option Label) → IsWithinLimits k → first_usable_of k t ≡ kept → IsWithinLimits (with_kept k kept Connecting)
within_taken k t None h is = record { awaited = h.awaited; hangups = h.hangups; hung_up = h.hung_up; idle = h.idle }
within_taken k t (Some l) h is = let u = usable_is k t l is in within_unused k l u.state Connecting h u.is (usable_unused k t l h u)

-- a call ends or goes on, and a phone that it keeps is freed

pub within_settle : (k : KernelState) (c : Call) (reply : Reply) (by : Option TaskNo) → IsWithinLimits k → AreKept k.tasks.phones k.calls → IsLive k c → IsWithinLimits (settle k c reply by).state
within_settle k c reply by h kept is = by_caller c.caller (lives k c.caller) where
  over : IsWithinLimits (vanishing k c).state
  over = within_over (with_kept k (kept_phone c) Free) c (within_kept k (kept_phone c) Free h (kept_waits k.tasks.phones k.calls c.number.0 c kept is)) is

  by_caller : (o : Option TaskNo) (b : Bool) → IsWithinLimits (settle_for k c reply by o b).state
  by_caller None b = over
  by_caller (Some u) false = over
  by_caller (Some u) true =
      within_put (with_kept k (lent_phone c) Free) c (declined_call c reply) (Answers u) (within_kept k (lent_phone c) Free h (lent_waits k.tasks.phones k.calls c.number.0 c kept is)) is refl refl refl

pub within_drop : (t : TaskNo) (k : KernelState) (c : Call) → IsWithinLimits k → AreKept k.tasks.phones k.calls → IsLive k c → IsWithinLimits (drop_answer t k c).state
within_drop t k c h kept is = within_over (with_kept k (kept_phone c) Free) c (within_kept k (kept_phone c) Free h (kept_waits k.tasks.phones k.calls c.number.0 c kept is)) is

-- a call comes

-- a call is active on its own phone alone
own_label : (a b : ℕ) (c : Call) → is_active_on (label_at a b) c ≡ true → (a ≡ c.from.task.0) × (b ≡ c.from.phone.0)
own_label a b c h =
    let same = and_parts (same_label c.from (label_at a b)) (is_caller (label_at a b).task c.caller) h in
    let parts = and_parts (c.from.task.0 == a) (c.from.phone.0 == b) same.0 in
    (sym (eqb-true c.from.task.0 a parts.0), sym (eqb-true c.from.phone.0 b parts.1))

rises : (b : Bool) (x y most : ℕ) → y ≡ cond b 1 0 + x → (b ≡ true → x < most) → x ≤ most → y ≤ most
rises true x y most h less le = let l = less refl in omega arith
rises false x y most h less le = omega arith

same_count : (b : Bool) (x y : ℕ) → y ≡ cond b 1 0 + x → b ≡ false → y ≡ x
same_count true x y h e = absurd (cc e)
same_count false x y h e = omega arith

module _ (k : KernelState) (c : Call) (h : IsWithinLimits k) (free : call_at k.calls c.number.0 ≡ None) (busy : IsIdle (state_at k.tasks.phones c.from.task.0 c.from.phone.0) → ⊥) where
  abbrev more : CallTable
  more = enqueue k.calls c

  still_idle : (a b : ℕ) → IsIdle (state_at k.tasks.phones a b) → active_calls more (label_at a b) ≡ 0
  still_idle a b idle = same_count (is_active_on (label_at a b) c) (active_calls k.calls (label_at a b)) (active_calls more (label_at a b)) (count-enqueue (is_active_on (label_at a b)) k.calls c free) (by_mark (is_active_on (label_at a b) c) refl) ∙ h.idle a b idle where
    by_mark : (x : Bool) → is_active_on (label_at a b) c ≡ x → x ≡ false
    by_mark false e = refl
    by_mark true e = let own = own_label a b c e in absurd (busy (subst (λ i. IsIdle (state_at k.tasks.phones i c.from.phone.0)) own.0 (subst (λ i. IsIdle (state_at k.tasks.phones a i)) own.1 idle)))

  -- one that waits for its answer, where fewer than 64 did
  pub within_call : is_hangup c ≡ false → active_calls k.calls c.from < 64 → IsWithinLimits (with_calls k more)
  within_call other few = record {
    awaited = λ a b. rises (is_active_on (label_at a b) c && not (is_hangup c)) (awaited_calls k.calls (label_at a b)) (awaited_calls more (label_at a b)) 64
        (count-enqueue (λ d. is_active_on (label_at a b) d && not (is_hangup d)) k.calls c free)
        (λ e. let own = own_label a b c (and_parts (is_active_on (label_at a b) c) (not (is_hangup c)) e).0 in let parts = active_split k.calls (label_at a b) in subst (λ i. awaited_calls k.calls (label_at i b) < 64) (sym own.0) (subst (λ i. awaited_calls k.calls (label_at c.from.task.0 i) < 64) (sym own.1) (let whole = active_split k.calls c.from in omega arith)))
        (h.awaited a b);
    hangups = λ a b. let same = hangups_stay a b in let was = h.hangups a b in omega arith;
    hung_up = λ a b some. h.hung_up a b (let same = hangups_stay a b in omega arith);
    idle = still_idle;
  } where
    hangups_stay : (a b : ℕ) → hangup_calls more (label_at a b) ≡ hangup_calls k.calls (label_at a b)
    hangups_stay a b = same_count (is_active_on (label_at a b) c && is_hangup c) (hangup_calls k.calls (label_at a b)) (hangup_calls more (label_at a b)) (count-enqueue (λ d. is_active_on (label_at a b) d && is_hangup d) k.calls c free) (rw other (and_false (is_active_on (label_at a b) c)))

  -- one that tells of a hangup, the first of its phone
  within_hangup : is_hangup c ≡ true → state_at k.tasks.phones c.from.task.0 c.from.phone.0 ≡ Some HungUp → hangup_calls k.calls c.from ≡ 0 → IsWithinLimits (with_calls k more)
  within_hangup tells hung first = record {
    awaited = λ a b. let same = awaited_stay a b in let was = h.awaited a b in omega arith;
    hangups = λ a b. rises (is_active_on (label_at a b) c && is_hangup c) (hangup_calls k.calls (label_at a b)) (hangup_calls more (label_at a b)) 1
        (count-enqueue (λ d. is_active_on (label_at a b) d && is_hangup d) k.calls c free)
        (λ e. let own = own_label a b c (and_parts (is_active_on (label_at a b) c) (is_hangup c) e).0 in subst (λ i. hangup_calls k.calls (label_at i b) < 1) (sym own.0) (subst (λ i. hangup_calls k.calls (label_at c.from.task.0 i) < 1) (sym own.1) (omega arith)))
        (h.hangups a b);
    hung_up = λ a b some. by_mark a b some (is_active_on (label_at a b) c) refl;
    idle = still_idle;
  } where
    awaited_stay : (a b : ℕ) → awaited_calls more (label_at a b) ≡ awaited_calls k.calls (label_at a b)
    awaited_stay a b = same_count (is_active_on (label_at a b) c && not (is_hangup c)) (awaited_calls k.calls (label_at a b)) (awaited_calls more (label_at a b)) (count-enqueue (λ d. is_active_on (label_at a b) d && not (is_hangup d)) k.calls c free) (rw tells (and_false (is_active_on (label_at a b) c)))

    by_mark : (a b : ℕ) → 1 ≤ hangup_calls more (label_at a b) → (x : Bool) → is_active_on (label_at a b) c ≡ x → state_at k.tasks.phones a b ≡ Some HungUp
    by_mark a b some true e = let own = own_label a b c e in rw (own.0, own.1) hung
    by_mark a b some false e = h.hung_up a b (let same = same_count (is_active_on (label_at a b) c && is_hangup c) (hangup_calls k.calls (label_at a b)) (hangup_calls more (label_at a b)) (count-enqueue (λ d. is_active_on (label_at a b) d && is_hangup d) k.calls c free) (rw e refl) in omega arith)

-- a phone is hung up

not_hung : (o : Option PhoneState) (u : TaskNo) → o ≡ Some (Connected u) → o ≡ Some HungUp → ⊥
not_hung o u a b = cc

zero_of : (n : ℕ) → (1 ≤ n → ⊥) → n ≡ 0
zero_of zero h = refl
zero_of (suc n) h = absurd (h (omega arith))

pub within_hang_up : (k : KernelState) (t : TaskNo) (p : ℕ) (o : Option PhoneState) → phone_at k t p ≡ o → IsWithinLimits k → call_at k.calls k.calls.next_number ≡ None → IsWithinLimits (hang_up k t p o).state
within_hang_up k t p None is h free = h
within_hang_up k t p (Some Free) is h free = h
within_hang_up k t p (Some Connecting) is h free = h
within_hang_up k t p (Some HungUp) is h free = h
within_hang_up k t p (Some Slammed) is h free = within_phone k t p Slammed HungUp h is (λ x. x) (λ _. refl)
within_hang_up k t p (Some (Connected u)) is h free =
    let hung : KernelState = with_phone k t p HungUp in
    let now : phone_at hung t p ≡ Some HungUp = state_here k.tasks.phones t.0 p HungUp (is_some (phone_at k t p) (Connected u) is) in
    within_hangup hung (hangup_call k t p u) (within_phone k t p (Connected u) HungUp h is (λ x. x) (λ _. refl)) free (λ idle. subst IsIdle now idle) refl now
    (zero_of (hangup_calls k.calls (label_of t p)) (λ some. not_hung (phone_at k t p) u is (h.hung_up t.0 p some)))

-- a phone is slammed
within_slam : (t u : TaskNo) (k : KernelState) (p : ℕ) (o : Option PhoneState) → phone_at k u p ≡ o → IsWithinLimits k → IsWithinLimits (slam t u k p o).state
within_slam t u k p None is h = h
within_slam t u k p (Some Free) is h = h
within_slam t u k p (Some Connecting) is h = h
within_slam t u k p (Some HungUp) is h = h
within_slam t u k p (Some Slammed) is h = h
within_slam t u k p (Some (Connected v)) is h = by_test (λ (d : Transition). IsWithinLimits d.state) (v.0 == t.0) _ _ (λ _. within_phone k u p (Connected v) Slammed h is (λ x. x) (λ e. absurd (cc e))) (λ _. h)

-- a free phone is wired
pub within_wire : (k : KernelState) (t : TaskNo) (p : ℕ) (u : TaskNo) → IsWithinLimits k → phone_at k t p ≡ Some Free → IsWithinLimits (with_phone k t p (Connected u))
within_wire k t p u h is = within_phone k t p Free (Connected u) h is (λ x. x) (λ e. absurd (cc e))

-- no calls and no phones
pub none_counted : (test : Call → Bool) → count_of test (entries no_calls.records) ≡ 0
none_counted test = let most = count-len test no_calls.records in let none = len-empty nat_cmp in omega arith

pub within_start : IsWithinLimits start
within_start = record {
  awaited = λ t p. let none = none_counted (λ c. is_active_on (label_at t p) c && not (is_hangup c)) in omega arith;
  hangups = λ t p. let none = none_counted (λ c. is_active_on (label_at t p) c && is_hangup c) in omega arith;
  hung_up = λ t p some. absurd (let none = none_counted (λ c. is_active_on (label_at t p) c && is_hangup c) in omega arith);
  idle = λ t p i. none_counted (is_active_on (label_at t p));
}

-- one task more, with free phones

idle_before : (rows : List (List PhoneState)) (limit t p : ℕ) → IsIdle (state_at (rows ++ replicate limit Free ∷ []) t p) → IsIdle (state_at rows t p)
idle_before rows limit t p idle = by_state (state_at rows t p) refl where
  by_state : (o : Option PhoneState) → state_at rows t p ≡ o → IsIdle o
  by_state None is = tt
  by_state (Some s) is = subst IsIdle (later s is) idle where
    later : (s : PhoneState) → state_at rows t p ≡ Some s → state_at (rows ++ replicate limit Free ∷ []) t p ≡ Some s
    later s is =
        let row = some_of (Rattle.phone_table.specs.Phones.row_at rows t) (λ r. slice_get r p) s is in
        rw (Rattle.switchboard.proofs.Soundness.row_before rows (replicate limit Free) t row.0 row.1, row.2) refl

pub within_task : (k : KernelState) (limit : ℕ) → IsWithinLimits k → IsWithinLimits (with_task k limit)
within_task k limit h = record {
  awaited = h.awaited;
  hangups = h.hangups;
  hung_up = λ t p some. later t p (h.hung_up t p some);
  idle = λ t p idle. h.idle t p (idle_before k.tasks.phones limit t p idle);
} where
  later : (t p : ℕ) → state_at k.tasks.phones t p ≡ Some HungUp → state_at (k.tasks.phones ++ replicate limit Free ∷ []) t p ≡ Some HungUp
  later t p is =
      let row = some_of (Rattle.phone_table.specs.Phones.row_at k.tasks.phones t) (λ r. slice_get r p) HungUp is in
      rw (Rattle.switchboard.proofs.Soundness.row_before k.tasks.phones (replicate limit Free) t row.0 row.1, row.2) refl

-- a kill

-- what stays, and that the limits do
record AndWithin (I : KernelState → Type 0) (j : KernelState) : Type 0 where
  pub fact : I j
  pub within : IsWithinLimits j

pub within_kill : (k : KernelState) (t : TaskNo) → IsSound k → is_alive k t ≡ true → IsWithinLimits k → IsWithinLimits (kill k t).state
within_kill k t sound alive h =
    let marks : List Bool = k.tasks.alive in
    let first : KernelState = mark_ended k t in
    let h0 : AndWithin (IsEnding marks) first = record { fact = record { sound = sound }; within = record { awaited = h.awaited; hangups = h.hangups; hung_up = h.hung_up; idle = h.idle } } in
    let h1 : AndWithin (IsEnding marks) (after_hangups t k) = each_keeps (hang_up_at t) (AndWithin (IsEnding marks))
    (λ j p s. record { fact = hang_up_ends marks t j p alive s.fact; within = within_hang_up j t p (phone_at j t p) refl s.within (next_free (with_marks marks j).tasks j.calls s.fact.sound.calls) })
    (width k.tasks.phones t.0) 0 first h0 in
    let h2 : IsWithinLimits (after_slams t k) = slams_keep t IsWithinLimits (λ u p j s. within_slam t u j p (phone_at j u p) refl s) (after_hangups t k) h1.within in
    calls_keep k t sound alive IsWithinLimits
    (λ j c e is s. within_settle j c (bare_reply ehangup) None s e.sound.kept is)
    (λ j c e is s. within_drop t j c s e.sound.kept is)
    (λ j c is s. within_forget j c s is)
    (λ j base s. record { awaited = s.awaited; hangups = s.hangups; hung_up = s.hung_up; idle = s.idle })
    h2

-- a phone that is handed out

-- the phone at p has this state and this count, and is usable
record IsFound (states : List PhoneState) (counts : List ℕ) (p : ℕ) : Type 0 where
  pub state : PhoneState
  pub count : ℕ
  pub has_state : slice_get states p ≡ Some state
  pub has_count : slice_get counts p ≡ Some count
  pub usable : is_usable state count ≡ true

found_from : (i : ℕ) (states : List PhoneState) (counts : List ℕ) (p : ℕ) → first_usable_from i states counts ≡ Some p → (i ≤ p) × IsFound states counts (p - i)
found_from i [] counts p h = absurd (cc h)
found_from i (s ∷ states) [] p h = absurd (cc h)
found_from i (s ∷ states) (n ∷ counts) p h = by_use (is_usable s n) refl h (found_from (i + 1) states counts p) where
  by_use : (b : Bool) → is_usable s n ≡ b → (if b then Some i else first_usable_from (i + 1) states counts) ≡ Some p → (first_usable_from (i + 1) states counts ≡ Some p → (i + 1 ≤ p) × IsFound states counts (p - (i + 1))) → (i ≤ p) × IsFound (s ∷ states) (n ∷ counts) (p - i)
  by_use true it g later =
      let same : i ≡ p = cc in
      let none : p - i ≡ 0 = omega arith in
      (omega arith, rw none (record { state = s; count = n; has_state = refl; has_count = refl; usable = it }))
  by_use false it g later =
      let rest = later g in
      let f = rest.1 in
      let next : p - i ≡ suc (p - (i + 1)) = let le = rest.0 in omega arith in
      (let le = rest.0 in omega arith, rw next (record { state = f.state; count = f.count; has_state = f.has_state; has_count = f.has_count; usable = f.usable }))

-- it has no active call
pub handed_out_idle : (k : KernelState) (t : TaskNo) (row : Row) (p : ℕ) → IsWithinLimits k → IsRowOf k t row → first_usable row ≡ Some p → active_calls k.calls (label_of t p) ≡ 0
handed_out_idle k t row p h row_of first =
    let f = (found_from 0 row.states row.counts p first).1 in
    let same : p - 0 ≡ p = omega arith in
    by_state f.state f.count (sym (row_of.states p) ∙ ap (slice_get row.states) (sym same) ∙ f.has_state) (row_of.counts p f.count (ap (slice_get row.counts) (sym same) ∙ f.has_count)) f.usable
  where
    by_state : (s : PhoneState) (n : ℕ) → phone_at k t p ≡ Some s → n ≡ active_calls k.calls (label_of t p) → is_usable s n ≡ true → active_calls k.calls (label_of t p) ≡ 0
    by_state Free n is counted it = h.idle t.0 p (subst IsIdle (sym is) tt)
    by_state Connecting n is counted it = absurd (cc it)
    by_state (Connected u) n is counted it = absurd (cc it)
    by_state HungUp n is counted it = sym counted ∙ eqb-true n 0 it
    by_state Slammed n is counted it = absurd (cc it)
