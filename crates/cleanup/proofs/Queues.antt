-- The call parts of a kill: no call waits at the task, is held by it or answers it, and none is its own.
use Rattle.std.proofs.Common.{◌≡◌, ℕ, suc, Bool, true, false, ◌⊎◌, inl, inr, Option, None, Some, List, refl, ap, sym, subst, ◌∙◌, arith}
use Rattle.std.specs.Prelude.{◌==◌, if◌then◌else◌}
use Rattle.std.proofs.lemmas.Bool.{false≢true}
use Rattle.std.specs.FinMap.{get, insert, entries}
use Rattle.std.proofs.lemmas.Option.{same_Some}
use Rattle.ipc_ids.specs.declared.numbers.TaskNo.{TaskNo}
use Rattle.ipc_ids.specs.declared.message.Reply.{Reply}
use Rattle.ipc_ids.specs.declared.numbers.Label.{Label}
use Rattle.ipc_ids.specs.declared.message.PhoneState.{PhoneState}
use Rattle.ipc_ids.specs.declared.message.PhoneState.TheVariants.{Free, Connected}
use Rattle.ipc_ids.specs.Codes.{ehangup}
use Rattle.call_slab.specs.declared.call.Call.{Call}
use Rattle.call_slab.specs.declared.call.Place.{Place}
use Rattle.call_slab.specs.declared.call.Place.TheVariants.{Incoming, Dispatched, Answers}
use Rattle.answerbox.specs.Calls.{CallTable, call_at, front, calls_of, same_place, is_caller, put_at, without_call, with_record, count_of, calls_at, calls_by}
use Rattle.answerbox.proofs.Used.{few_record, same_room}
use Rattle.ipc_ids.specs.Tables.{most_buffered}
use Rattle.answerbox.proofs.Counts.{count-without_call, count-replace}
use Rattle.answerbox.proofs.Fronts.{front_live, no_front-has_no_calls}
use Rattle.answerbox.proofs.Steps.{with_change-record}
use Rattle.answerbox.proofs.Callers.{calls_of_live, calls_of_none}
use Rattle.phone_table.specs.Phones.{state_at}
use Rattle.switchboard.specs.State.{Tasks, KernelState, with_calls}
use Rattle.switchboard.specs.Sound.{IsPlaced, IsSoundCall, AreSoundCalls, IsQuiet, IsSound}
use Rattle.switchboard.specs.Kept.{accepts, kept_phone, lent_phone, kept_rows, with_kept, kept_by}
use Rattle.switchboard.specs.Joins.{bare_reply, declined_call, vanishing, settle_for, lives, drop_answer, forget_call}
use Rattle.switchboard.specs.Board.{IsPendingAt}
use Rattle.cleanup.specs.Kill.{first_at, first_call_of, settle_call, settle_incoming, settle_dispatched, drop_answers, forget_calls_elsewhere}
use Rattle.switchboard.proofs.Lookups.{at_insert, at_remove, chosen}
use Rattle.switchboard.proofs.Rows.{state_changed_at}
use Rattle.switchboard.proofs.Keepers.{kept_here, kept_other, kept_of_call, all_same}
use Rattle.switchboard.proofs.SoundStates.{kept_calls}
use Rattle.switchboard.proofs.SoundJoins.{incoming_pending, held_pending, sound_gone, sound_declined}
use Rattle.switchboard.proofs.Repeats.{NoneIs, drain_keeps, drain_empties}
use Rattle.cleanup.proofs.Silence.{with_marks, IsEnding, IsAlone}

-- soundness

-- a record changes where it stands
pub sound_record : (tasks : Tasks) (q : CallTable) (n : ℕ) (c d : Call) → AreSoundCalls tasks q → call_at q n ≡ Some c → d.number.0 ≡ n → d.stamp ≡ c.stamp → d.buffer ≡ c.buffer → IsSoundCall tasks q.next_number q.next_stamp n d → AreSoundCalls tasks (with_record q d)
sound_record tasks q n c d s is number stamp bytes sound = record {
  bytes = few_record q c d most_buffered (ap (call_at q) number ∙ is) (same_room q c d most_buffered s.bytes bytes);
  each = λ m x has. elim (look m x has) [
    | inl e ↦ subst (λ (y : Call). IsSoundCall tasks q.next_number q.next_stamp m y) e.1 (subst (λ (i : ℕ). IsSoundCall tasks q.next_number q.next_stamp i d) e.0 sound)
    | inr e ↦ s.each m x e.1
  ];
  stamps_differ = λ m i x y has too same. elim (look m x has) [
    | inl e ↦ elim (look i y too) [
      | inl f ↦ sym e.0 ∙ f.0
      | inr f ↦ sym e.0 ∙ s.stamps_differ n i c y is f.1 (sym stamp ∙ ap (λ (z : Call). z.stamp) e.1 ∙ same)
    ]
    | inr e ↦ elim (look i y too) [
      | inl f ↦ s.stamps_differ m n x c e.1 is (same ∙ ap (λ (z : Call). z.stamp) (sym f.1) ∙ stamp) ∙ f.0
      | inr f ↦ s.stamps_differ m i x y e.1 f.1 same
    ]
  ];
} where
  look : (m : ℕ) (x : Call) → call_at (with_record q d) m ≡ Some x → ((n ≡ m) × (d ≡ x)) ⊎ ((n ≡ m → ⊥) × (call_at q m ≡ Some x))
  look m x has = elim (chosen d.number.0 m (Some d) (call_at q m) (Some x) (sym (at_insert q.records d.number.0 m d) ∙ has)) [
    | inl e ↦ inl (sym number ∙ e.0, same_Some d x e.1)
    | inr e ↦ inr (λ z. e.0 (number ∙ z), e.1)
  ]

-- a call that does not accept gets its answer, or is over where its caller has ended
pub sound_settle_for : (k : KernelState) (c : Call) (reply : Reply) (by o : Option TaskNo) (lives : Bool) → IsSound k → call_at k.calls c.number.0 ≡ Some c → IsPendingAt c.place → accepts reply.code ≡ false → c.caller ≡ o → IsSound (settle_for k c reply by o lives).state
sound_settle_for k c reply by None b s is pending declines from = sound_gone k c s is
sound_settle_for k c reply by (Some u) false s is pending declines from = sound_gone k c s is
sound_settle_for k c reply by (Some u) true s is pending declines from = sound_declined k c reply by u s is pending declines from

-- an answer is dropped
pub sound_drop : (k : KernelState) (t : TaskNo) (c : Call) → IsSound k → call_at k.calls c.number.0 ≡ Some c → IsSound (drop_answer t k c).state
sound_drop k t c s is = sound_gone k c s is

-- the steps on one call while a task ends

-- the record is that of a live call, under its own number
abbrev pub IsLive : KernelState → Call → Type 0
IsLive k c = call_at k.calls c.number.0 ≡ Some c

own : (marks : List Bool) (k : KernelState) (n : ℕ) (c : Call) → IsEnding marks k → call_at k.calls n ≡ Some c → IsLive k c
own marks k n c h is = ap (call_at k.calls) (h.sound.calls.each n c is).number ∙ is

abbrev pub stands_at : Place → Call → Bool
stands_at place c = same_place c.place place

abbrev pub is_call_of : TaskNo → Call → Bool
is_call_of t c = is_caller t c.caller

-- the front of a place is live, and stands there
pub front_at : (marks : List Bool) (k : KernelState) (place : Place) (c : Call) → IsEnding marks k → front k.calls place ≡ Some c → IsLive k c × (stands_at place c ≡ true)
front_at marks k place c h is = let f = front_live k.calls place c is in (own marks k f.0 c h f.1, f.2)

-- the calls change, and the phones stay
alone_with : (marks : List Bool) (t : TaskNo) (k : KernelState) (q : CallTable) → IsAlone marks t k → IsSound (with_marks marks (with_calls k q)) → IsAlone marks t (with_calls k q)
alone_with marks t k q h sound = record { silent = record { ending = record { sound = sound }; still = h.silent.still }; unled = h.unled }

-- the calls change, and a phone, where there is one, is free
alone_freed : (marks : List Bool) (t : TaskNo) (k : KernelState) (kept : Option Label) (q : CallTable) → IsAlone marks t k → IsSound (with_marks marks (with_calls (with_kept k kept Free) q)) → IsAlone marks t (with_calls (with_kept k kept Free) q)
alone_freed marks t k kept q h sound = record { silent = record { ending = record { sound = sound }; still = still kept }; unled = unled kept } where
  still : (kept : Option Label) (p : ℕ) (x : PhoneState) → state_at (kept_rows k.tasks.phones kept Free) t.0 p ≡ Some x → IsQuiet x
  still None p x is = h.silent.still p x is
  still (Some l) p x is = elim (state_changed_at k.tasks.phones l.task.0 l.phone.0 t.0 p Free x is) [ inl e ↦ subst IsQuiet e.2 tt | inr old ↦ h.silent.still p x old.1 ]

  unled : (kept : Option Label) (a p : ℕ) (v : TaskNo) → state_at (kept_rows k.tasks.phones kept Free) a p ≡ Some (Connected v) → v.0 ≡ t.0 → ⊥
  unled None a p v is = h.unled a p v is
  unled (Some l) a p v is = elim (state_changed_at k.tasks.phones l.task.0 l.phone.0 a p Free (Connected v) is) [ inl e ↦ absurd (cc e.2) | inr old ↦ h.unled a p v old.1 ]

-- the record of a call that the kernel has answered, and of one whose caller has ended
abbrev pub answered : KernelState → Call → TaskNo → Call
answered k c u = record (declined_call c (bare_reply ehangup)) { place = Answers u; stamp = k.calls.next_stamp }

abbrev forgotten : Call → Call
forgotten c = record c { caller = None }

over_alone : (marks : List Bool) (t : TaskNo) (k : KernelState) (c : Call) → IsAlone marks t k → IsLive k c → IsAlone marks t (vanishing k c).state
over_alone marks t k c h is = alone_freed marks t k (kept_phone c) (without_call k.calls c.number.0) h (sound_gone (with_marks marks k) c h.silent.ending.sound is)

settle_alone : (marks : List Bool) (t : TaskNo) (k : KernelState) (c : Call) → IsAlone marks t k → IsLive k c → IsPendingAt c.place → IsAlone marks t (settle_call k c).state
settle_alone marks t k c h is pending = by_caller c.caller (lives k c.caller) refl where
  by_caller : (o : Option TaskNo) (b : Bool) → c.caller ≡ o → IsAlone marks t (settle_for k c (bare_reply ehangup) None o b).state
  by_caller None b from = over_alone marks t k c h is
  by_caller (Some u) false from = over_alone marks t k c h is
  by_caller (Some u) true from =
      alone_freed marks t k (lent_phone c) (put_at k.calls (declined_call c (bare_reply ehangup)) (Answers u)) h
      (sound_declined (with_marks marks k) c (bare_reply ehangup) None u h.silent.ending.sound is pending refl from)

forgotten_place : (tasks : Tasks) (t : TaskNo) (o : Option TaskNo) (place : Place) → IsPlaced tasks o place → is_caller t o ≡ true → same_place place (Answers t) ≡ false → IsPlaced tasks None place
forgotten_place tasks t o (Incoming s) h made none = h
forgotten_place tasks t o (Dispatched s) h made none = h
forgotten_place tasks t o (Answers s) h made none = absurd (false≢true (sym none ∙ sym (ap (is_caller t) h) ∙ made))

pub forget_step : (k : KernelState) (c : Call) → IsLive k c → (forget_call k c).state ≡ with_calls k (with_record k.calls (forgotten c))
forget_step k c is = ap (with_calls k) (with_change-record k.calls c.number.0 c forgotten is)

-- a call whose caller has ended keeps what it kept
forgotten_keeps : (k : KernelState) (c : Call) → IsLive k c → (n : ℕ) → kept_by (with_record k.calls (forgotten c)) n ≡ kept_by k.calls n
forgotten_keeps k c is = all_same k.calls (with_record k.calls (forgotten c)) c.number.0
    (kept_here k.calls (with_record k.calls (forgotten c)) c.number.0 (Some (forgotten c)) at ∙ sym (kept_of_call k.calls c.number.0 c is))
    (kept_other k.calls (with_record k.calls (forgotten c)) c.number.0 (Some (forgotten c)) at) where
      at : (m : ℕ) → call_at (with_record k.calls (forgotten c)) m ≡ (if c.number.0 == m then Some (forgotten c) else call_at k.calls m)
      at m = at_insert k.calls.records c.number.0 m (forgotten c)

forget_alone : (marks : List Bool) (t : TaskNo) (k : KernelState) (c : Call) → IsAlone marks t k → IsLive k c → is_call_of t c ≡ true → stands_at (Answers t) c ≡ false → IsAlone marks t (forget_call k c).state
forget_alone marks t k c h is made none =
    let e = h.silent.ending in
    let was = e.sound.calls.each c.number.0 c is in
    let here : IsSoundCall (with_marks marks k).tasks k.calls.next_number k.calls.next_stamp c.number.0 (forgotten c) = record {
      number = refl;
      below = was.below;
      stamp = was.stamp;
      place = forgotten_place (with_marks marks k).tasks t c.caller c.place was.place made none;
      caller = tt;
      phone = was.phone;
      discard = was.discard;
      reserved = record { there = was.reserved.there; owner = was.reserved.owner; needed = was.reserved.needed };
      carries = was.carries;
    } in
    subst (IsAlone marks t) (sym (forget_step k c is))
    (alone_with marks t k (with_record k.calls (forgotten c)) h
    (kept_calls (with_marks marks k) (with_record k.calls (forgotten c)) e.sound (sound_record (with_marks marks k).tasks k.calls c.number.0 c (forgotten c) e.sound.calls is refl refl refl here) (forgotten_keeps k c is)))

-- one call fewer passes

pub over_less : (test : Call → Bool) (k : KernelState) (c : Call) → IsLive k c → test c ≡ true → suc (count_of test (entries (without_call k.calls c.number.0).records)) ≡ count_of test (entries k.calls.records)
over_less test k c is passes = let sum = rw passes at (count-without_call test k.calls c.number.0 c is) in omega arith

pub put_less : (test : Call → Bool) (k : KernelState) (c d : Call) → IsLive k c → test c ≡ true → test d ≡ false → suc (count_of test (entries (insert k.calls.records c.number.0 d))) ≡ count_of test (entries k.calls.records)
put_less test k c d is passes fails = let sum = rw (passes, fails) at (count-replace test k.calls.records c.number.0 c d is) in omega arith

pub settle_less : (test : Call → Bool) (k : KernelState) (c : Call) → IsLive k c → test c ≡ true → ((u : TaskNo) → test (answered k c u) ≡ false) → suc (count_of test (entries (settle_call k c).state.calls.records)) ≡ count_of test (entries k.calls.records)
settle_less test k c is passes fails = by_caller c.caller (lives k c.caller) where
  by_caller : (o : Option TaskNo) (b : Bool) → suc (count_of test (entries (settle_for k c (bare_reply ehangup) None o b).state.calls.records)) ≡ count_of test (entries k.calls.records)
  by_caller None b = over_less test k c is passes
  by_caller (Some u) false = over_less test k c is passes
  by_caller (Some u) true = put_less test k c (answered k c u) is passes (fails u)

forget_less : (test : Call → Bool) (k : KernelState) (c : Call) → IsLive k c → test c ≡ true → test (forgotten c) ≡ false → suc (count_of test (entries (forget_call k c).state.calls.records)) ≡ count_of test (entries k.calls.records)
forget_less test k c is passes fails =
    subst (λ (j : KernelState). suc (count_of test (entries j.calls.records)) ≡ count_of test (entries k.calls.records)) (sym (forget_step k c is)) (put_less test k c (forgotten c) is passes fails)

-- where no call passes, none does after a step to one that fails

pub over_none : (test : Call → Bool) (k : KernelState) (m : ℕ) → NoneIs test k → NoneIs test (with_calls k (without_call k.calls m))
over_none test k m h n c is = elim (chosen m n None (call_at k.calls n) (Some c) (sym (at_remove k.calls.records m n) ∙ is)) [ inl e ↦ absurd (cc e.1) | inr e ↦ h n c e.1 ]

insert_none : (test : Call → Bool) (k : KernelState) (m : ℕ) (d : Call) → NoneIs test k → test d ≡ false → (n : ℕ) (c : Call) → get (insert k.calls.records m d) n ≡ Some c → test c ≡ false
insert_none test k m d h fails n c is = elim (chosen m n (Some d) (call_at k.calls n) (Some c) (sym (at_insert k.calls.records m n d) ∙ is)) [ inl e ↦ ap test (sym (same_Some d c e.1)) ∙ fails | inr e ↦ h n c e.1 ]

settle_none : (test : Call → Bool) (k : KernelState) (c : Call) → NoneIs test k → ((u : TaskNo) → test (answered k c u) ≡ false) → NoneIs test (settle_call k c).state
settle_none test k c h fails = by_caller c.caller (lives k c.caller) where
  by_caller : (o : Option TaskNo) (b : Bool) → NoneIs test (settle_for k c (bare_reply ehangup) None o b).state
  by_caller None b = over_none test k c.number.0 h
  by_caller (Some u) false = over_none test k c.number.0 h
  by_caller (Some u) true = insert_none test k c.number.0 (answered k c u) h (fails u)

forget_none : (test : Call → Bool) (k : KernelState) (c : Call) → IsLive k c → NoneIs test k → test (forgotten c) ≡ false → NoneIs test (forget_call k c).state
forget_none test k c is h fails = subst (NoneIs test) (sym (forget_step k c is)) (insert_none test k c.number.0 (forgotten c) h fails)

-- the parts

-- no call waits at t
pub record IsUncalled (marks : List Bool) (t : TaskNo) (k : KernelState) : Type 0 where
  pub alone : IsAlone marks t k
  pub incoming : NoneIs (stands_at (Incoming t)) k

pub incoming_alone : (marks : List Bool) (t : TaskNo) (k : KernelState) (c : Call) → IsAlone marks t k → front k.calls (Incoming t) ≡ Some c → IsAlone marks t (settle_call k c).state
incoming_alone marks t k c h is = let f = front_at marks k (Incoming t) c h.silent.ending is in settle_alone marks t k c h f.0 (incoming_pending c.place t f.1)

pub incoming_settled : (marks : List Bool) (t : TaskNo) (k : KernelState) → IsAlone marks t k → IsUncalled marks t (settle_incoming t k).state
incoming_settled marks t k h = record {
  alone = drain_keeps (first_at (Incoming t)) settle_call (IsAlone marks t) (incoming_alone marks t) (calls_at k.calls (Incoming t)) k h;
  incoming = drain_empties (first_at (Incoming t)) settle_call (IsAlone marks t) (incoming_alone marks t) (stands_at (Incoming t)) (λ j e. no_front-has_no_calls j.calls (Incoming t) e)
      (λ j c i is. let f = front_at marks j (Incoming t) c i.silent.ending is in settle_less (stands_at (Incoming t)) j c f.0 f.1 (λ u. refl))
      (calls_at k.calls (Incoming t)) k h (omega arith);
}

-- no call is held by t
pub record IsIdle (marks : List Bool) (t : TaskNo) (k : KernelState) : Type 0 where
  pub uncalled : IsUncalled marks t k
  pub dispatched : NoneIs (stands_at (Dispatched t)) k

pub dispatched_uncalled : (marks : List Bool) (t : TaskNo) (k : KernelState) (c : Call) → IsUncalled marks t k → front k.calls (Dispatched t) ≡ Some c → IsUncalled marks t (settle_call k c).state
dispatched_uncalled marks t k c h is = let f = front_at marks k (Dispatched t) c h.alone.silent.ending is in record {
  alone = settle_alone marks t k c h.alone f.0 (held_pending c.place t f.1);
  incoming = settle_none (stands_at (Incoming t)) k c h.incoming (λ u. refl);
}

pub dispatched_settled : (marks : List Bool) (t : TaskNo) (k : KernelState) → IsUncalled marks t k → IsIdle marks t (settle_dispatched t k).state
dispatched_settled marks t k h = record {
  uncalled = drain_keeps (first_at (Dispatched t)) settle_call (IsUncalled marks t) (dispatched_uncalled marks t) (calls_at k.calls (Dispatched t)) k h;
  dispatched = drain_empties (first_at (Dispatched t)) settle_call (IsUncalled marks t) (dispatched_uncalled marks t) (stands_at (Dispatched t)) (λ j e. no_front-has_no_calls j.calls (Dispatched t) e)
      (λ j c i is. let f = front_at marks j (Dispatched t) c i.alone.silent.ending is in settle_less (stands_at (Dispatched t)) j c f.0 f.1 (λ u. refl))
      (calls_at k.calls (Dispatched t)) k h (omega arith);
}

-- no answer stands at t
pub record IsUnanswered (marks : List Bool) (t : TaskNo) (k : KernelState) : Type 0 where
  pub idle : IsIdle marks t k
  pub answers : NoneIs (stands_at (Answers t)) k

pub drop_idle : (marks : List Bool) (t : TaskNo) (k : KernelState) (c : Call) → IsIdle marks t k → front k.calls (Answers t) ≡ Some c → IsIdle marks t (drop_answer t k c).state
drop_idle marks t k c h is = record {
  uncalled = record {
    alone = over_alone marks t k c h.uncalled.alone (front_at marks k (Answers t) c h.uncalled.alone.silent.ending is).0;
    incoming = over_none (stands_at (Incoming t)) k c.number.0 h.uncalled.incoming;
  };
  dispatched = over_none (stands_at (Dispatched t)) k c.number.0 h.dispatched;
}

pub answers_dropped : (marks : List Bool) (t : TaskNo) (k : KernelState) → IsIdle marks t k → IsUnanswered marks t (drop_answers t k).state
answers_dropped marks t k h = record {
  idle = drain_keeps (first_at (Answers t)) (drop_answer t) (IsIdle marks t) (drop_idle marks t) (calls_at k.calls (Answers t)) k h;
  answers = drain_empties (first_at (Answers t)) (drop_answer t) (IsIdle marks t) (drop_idle marks t) (stands_at (Answers t)) (λ j e. no_front-has_no_calls j.calls (Answers t) e)
      (λ j c i is. let f = front_at marks j (Answers t) c i.uncalled.alone.silent.ending is in over_less (stands_at (Answers t)) j c f.0 f.1)
      (calls_at k.calls (Answers t)) k h (omega arith);
}

-- no call is one of t
pub record IsForgotten (marks : List Bool) (t : TaskNo) (k : KernelState) : Type 0 where
  pub unanswered : IsUnanswered marks t k
  pub callers : NoneIs (is_call_of t) k

-- the first call of t is live, and is one of t
pub call_from : (marks : List Bool) (t : TaskNo) (k : KernelState) (c : Call) → IsEnding marks k → calls_of k.calls t ≡ Some c → IsLive k c × (is_call_of t c ≡ true)
call_from marks t k c h is = let f = calls_of_live k.calls t c is in (own marks k f.number c h f.is, f.made)

pub forget_unanswered : (marks : List Bool) (t : TaskNo) (k : KernelState) (c : Call) → IsUnanswered marks t k → calls_of k.calls t ≡ Some c → IsUnanswered marks t (forget_call k c).state
forget_unanswered marks t k c h is =
    let f = call_from marks t k c h.idle.uncalled.alone.silent.ending is in
    record {
      idle = record {
        uncalled = record {
          alone = forget_alone marks t k c h.idle.uncalled.alone f.0 f.1 (h.answers c.number.0 c f.0);
          incoming = forget_none (stands_at (Incoming t)) k c f.0 h.idle.uncalled.incoming (h.idle.uncalled.incoming c.number.0 c f.0);
        };
        dispatched = forget_none (stands_at (Dispatched t)) k c f.0 h.idle.dispatched (h.idle.dispatched c.number.0 c f.0);
      };
      answers = forget_none (stands_at (Answers t)) k c f.0 h.answers (h.answers c.number.0 c f.0);
    }

pub calls_forgotten : (marks : List Bool) (t : TaskNo) (k : KernelState) → IsUnanswered marks t k → IsForgotten marks t (forget_calls_elsewhere t k).state
calls_forgotten marks t k h = record {
  unanswered = drain_keeps (first_call_of t) forget_call (IsUnanswered marks t) (forget_unanswered marks t) (calls_by k.calls t) k h;
  callers = drain_empties (first_call_of t) forget_call (IsUnanswered marks t) (forget_unanswered marks t) (is_call_of t) (λ j e n c is. calls_of_none j.calls t n c e is)
      (λ j c i is. let f = call_from marks t j c i.idle.uncalled.alone.silent.ending is in forget_less (is_call_of t) j c f.0 f.1 refl)
      (calls_by k.calls t) k h (omega arith);
}
