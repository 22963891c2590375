-- A sound state stays sound with a new task, a wire or a call, and where a phone changes that no call keeps.
use Rattle.std.proofs.Common.{◌+◌, ◌≤◌, length, arith, ◌≡◌, ℕ, Bool, true, false, inl, inr, Option, None, Some, List, [], ◌∷◌, ◌++◌, replicate, refl, ap, sym, ◌∙◌}
use Rattle.std.specs.Prelude.{◌==◌, IsSome, slice_get, slice_index, if◌then◌else◌}
use Rattle.std.proofs.lemmas.Bool.{cases_eq, eq-eqb, ne_eqb}
use Rattle.std.specs.Ordering.{nat_cmp}
use Rattle.std.specs.FinMap.{get-empty, len-empty}
use Rattle.ipc_ids.specs.declared.numbers.TaskNo.{TaskNo}
use Rattle.ipc_ids.specs.declared.numbers.Label.{Label}
use Rattle.ipc_ids.specs.declared.message.PhoneState.{PhoneState}
use Rattle.ipc_ids.specs.declared.message.PhoneState.TheVariants.{Free, Connecting, Connected, HungUp}
use Rattle.ipc_ids.specs.Methods.{kind_of}
use Rattle.call_slab.specs.declared.call.Call.{Call}
use Rattle.call_slab.specs.declared.call.Place.{Place}
use Rattle.call_slab.specs.declared.call.Place.TheVariants.{Incoming, Dispatched, Answers}
use Rattle.answerbox.specs.Calls.{CallTable, call_at, enqueue, put_at, no_calls, used, bytes_in}
use Rattle.answerbox.proofs.Used.{sum-none}
use Rattle.ipc_ids.specs.Tables.{most_buffered}
use Rattle.ipc_ids.proofs.Common.{none_some, free_waits}
use Rattle.phone_table.specs.Phones.{row_at, state_at}
use Rattle.switchboard.specs.declared.kept.Keeper.{Keeper}
use Rattle.switchboard.specs.declared.kept.Keeper.TheVariants.{Nobody, Receiver, Caller}
use Rattle.switchboard.specs.State.{KernelState, alive_in, phone_at, with_calls, with_phone, with_task, start}
use Rattle.switchboard.specs.Kept.{AreKept, who_keeps, phone_of, is_accepted, held_phone, kept_of, kept_phone, kept_by}
use Rattle.switchboard.specs.Sound.{IsPlaced, IsCaller, NeedsPhone, HasSoundPhone, Carries, AreSoundCalls, AreSoundTasks, IsSound}
use Rattle.switchboard.proofs.Lookups.{at_insert}
use Rattle.switchboard.proofs.Rows.{some_of}
use Rattle.switchboard.proofs.Soundness.{next_free, sound_enqueue, sound_put, sound_under, phone_kept, sound_quieted, sound_wired, sound_task, row_append, alive_before, phone_before, all_same}
use Rattle.switchboard.proofs.SoundMemory.{memory_start, memory_task}
use Rattle.switchboard.proofs.Keepers.{kept_here, kept_other, kept_of_call, kept_same, keepers_same, all_same as same_of_all, not_waiting, kept_phone_changed, keepers_phone_changed}
use Rattle.switchboard.proofs.Switched.{same_before}

-- calls

-- the calls change, and each keeps what it kept
pub kept_calls : (k : KernelState) (calls : CallTable) → IsSound k → AreSoundCalls k.tasks calls → ((n : ℕ) → kept_by calls n ≡ kept_by k.calls n) → IsSound (with_calls k calls)
kept_calls k calls s sound same = record { calls = sound; tasks = s.tasks; kept = kept_same calls same s.kept; keepers = keepers_same calls same s.keepers; memory = s.memory }

-- a call that has no phone reserved keeps none
pub keeps_none : (c : Call) → c.reserved ≡ None → kept_phone c ≡ None
keeps_none c none = by_keeper (who_keeps c) where
  held : (place : Place) → held_phone place None ≡ None
  held (Incoming t) = refl
  held (Dispatched t) = refl
  held (Answers t) = refl

  asked : (b : Bool) (o : Option Label) → o ≡ None → (if b then None else o) ≡ None
  asked true o e = refl
  asked false o e = e

  by_keeper : (keeper : Keeper) → kept_of keeper c.from.task c.place c.reply.code c.reserved ≡ None
  by_keeper Nobody = refl
  by_keeper Receiver = rw none (held c.place)
  by_keeper Caller = asked (is_accepted c.place c.reply.code) (phone_of c.from.task c.reserved) (rw none refl)

-- a call for which no phone is reserved, and none needs to be
pub no_phone : (phones : List (List PhoneState)) (c : Call) → c.reserved ≡ None → (NeedsPhone (who_keeps c) c.place c.reply.code → ⊥) → HasSoundPhone phones c
no_phone phones c none needless = record {
  there = λ l is. absurd (none_some c.reserved l none is);
  owner = λ l is. absurd (none_some c.reserved l none is);
  needed = λ n. absurd (needless n);
}

-- a new call, which keeps no phone
pub sound_enqueued : (k : KernelState) (c : Call) → IsSound k → c.number.0 ≡ k.calls.next_number → IsPlaced k.tasks c.caller c.place → IsCaller k.tasks c.from c.caller → IsSome (state_at k.tasks.phones c.from.task.0 c.from.phone.0) → c.discard ≡ (c.request.method == 0) → HasSoundPhone k.tasks.phones c → Carries (kind_of c.request.method) c.place c.buffer (slice_index c.request.args 1) → kept_phone c ≡ None → used k.calls + length c.buffer ≤ most_buffered → IsSound (with_calls k (enqueue k.calls c))
sound_enqueued k c s number place caller phone discard reserved carries none room =
    let d : Call = record c { stamp = k.calls.next_stamp } in
    let at : (m : ℕ) → call_at (enqueue k.calls c) m ≡ (if c.number.0 == m then Some d else call_at k.calls m) = λ m. at_insert k.calls.records c.number.0 m d in
    let free : call_at k.calls c.number.0 ≡ None = ap (call_at k.calls) number ∙ next_free k.tasks k.calls s.calls in
    let before : kept_by k.calls c.number.0 ≡ None = rw free refl in
    let after : kept_by (enqueue k.calls c) c.number.0 ≡ None = kept_here k.calls (enqueue k.calls c) c.number.0 (Some d) at ∙ none in
    kept_calls k (enqueue k.calls c) s (sound_enqueue k.tasks k.calls c s.calls number place caller phone discard reserved carries room)
    (same_of_all k.calls (enqueue k.calls c) c.number.0 (after ∙ sym before) (kept_other k.calls (enqueue k.calls c) c.number.0 (Some d) at))

-- a live call goes to a place, and keeps what it kept
pub sound_moved : (k : KernelState) (c d : Call) (place : Place) → IsSound k → call_at k.calls c.number.0 ≡ Some c → d.number ≡ c.number → d.caller ≡ c.caller → d.from ≡ c.from → d.request ≡ c.request → d.discard ≡ c.discard → IsPlaced k.tasks d.caller place → HasSoundPhone k.tasks.phones (record d { place = place }) → Carries (kind_of d.request.method) place d.buffer (slice_index d.request.args 1) → kept_phone (record d { place = place }) ≡ kept_phone c → length d.buffer + used k.calls ≤ length c.buffer + most_buffered → IsSound (with_calls k (put_at k.calls d place))
sound_moved k c d place s live number caller from request discard placed reserved carries same room = by_number number where
  after : Call
  after = record d { place = place; stamp = k.calls.next_stamp }

  by_number : d.number ≡ c.number → IsSound (with_calls k (put_at k.calls d place))
  by_number e =
      let at : (m : ℕ) → call_at (put_at k.calls d place) m ≡ (if d.number.0 == m then Some after else call_at k.calls m) = λ m. at_insert k.calls.records d.number.0 m after in
      let was : call_at k.calls d.number.0 ≡ Some c = ap (λ (n : Rattle.ipc_ids.specs.declared.numbers.CallNo.CallNo). call_at k.calls n.0) e ∙ live in
      let here : kept_by (put_at k.calls d place) d.number.0 ≡ kept_by k.calls d.number.0 =
      kept_here k.calls (put_at k.calls d place) d.number.0 (Some after) at ∙ same ∙ sym (kept_of_call k.calls d.number.0 c was) in
      kept_calls k (put_at k.calls d place) s (sound_put k.tasks k.calls c.number.0 c d place s.calls live number caller from request discard placed reserved carries room)
      (same_of_all k.calls (put_at k.calls d place) d.number.0 here (kept_other k.calls (put_at k.calls d place) d.number.0 (Some after) at))

-- phones

-- a phone that waits for no connection changes, and waits for none after
pub kept_state : (k : KernelState) (t : TaskNo) (p : ℕ) (x : PhoneState) → IsSound k → (phone_at k t p ≡ Some Connecting → ⊥) → (x ≡ Connecting → ⊥) → AreSoundTasks (with_phone k t p x).tasks → IsSound (with_phone k t p x)
kept_state k t p x s before after tasks = record {
  calls = sound_under k.tasks (with_phone k t p x).tasks k.calls s.calls (λ a h. h) (λ a b h. phone_kept k.tasks.phones t.0 p a b x h);
  tasks = tasks;
  kept = kept_phone_changed t.0 p x s.kept (not_waiting t.0 p s.kept before);
  keepers = keepers_phone_changed t.0 p x s.keepers after;
  memory = s.memory;
}

pub kept_hung_up : (k : KernelState) (t : TaskNo) (p : ℕ) → IsSound k → (phone_at k t p ≡ Some Connecting → ⊥) → IsSound (with_phone k t p HungUp)
kept_hung_up k t p s before = kept_state k t p HungUp s before (λ e. cc e) (sound_quieted k.tasks t.0 p HungUp tt s.tasks)

pub kept_wired : (k : KernelState) (t : TaskNo) (p : ℕ) (u : TaskNo) → IsSound k → alive_in k.tasks.alive t.0 ≡ true → alive_in k.tasks.alive u.0 ≡ true → phone_at k t p ≡ Some Free → IsSound (with_phone k t p (Connected u))
kept_wired k t p u s from to free = kept_state k t p (Connected u) s (λ e. free_waits (phone_at k t p) free e) (λ e. cc e) (sound_wired k.tasks t.0 p u s.tasks from to)

pub state_of_old : (rows : List (List PhoneState)) (limit t p : ℕ) (x : PhoneState) → (Free ≡ x → ⊥) → state_at (rows ++ replicate limit Free ∷ []) t p ≡ Some x → state_at rows t p ≡ Some x
state_of_old rows limit t p x not is =
    let row = some_of (row_at (rows ++ replicate limit Free ∷ []) t) (λ r. slice_get r p) x is in
    elim (row_append rows (replicate limit Free) t row.0 row.1) [
      | inl e ↦ rw e row.2
      | inr e ↦ absurd (let g : slice_get (replicate limit Free) p ≡ Some x = rw (e.1) row.2 in not (all_same limit p Free x g))
    ]

pub kept_added : {rows : List (List PhoneState)} {q : CallTable} (limit : ℕ) → AreKept rows q → AreKept (rows ++ replicate limit Free ∷ []) q
kept_added {rows} limit s = record { waits = λ n l is. same_before rows (replicate limit Free) l.task.0 l.phone.0 Connecting (s.waits n l is); alone = s.alone }

pub kept_task : (k : KernelState) (limit : ℕ) → IsSound k → IsSound (with_task k limit)
kept_task k limit s = record {
  calls = sound_under k.tasks (with_task k limit).tasks k.calls s.calls (λ t h. alive_before k.tasks.alive t h) (λ t p h. phone_before k.tasks.phones (replicate limit Free) t p h);
  tasks = sound_task k.tasks limit s.tasks;
  kept = kept_added limit s.kept;
  keepers = record { each = λ t p is. s.keepers.each t p (state_of_old k.tasks.phones limit t p Connecting (λ e. cc e) is) };
  memory = memory_task s.memory;
}

none_at : (t p : ℕ) (x : PhoneState) → state_at [] t p ≡ Some x → ⊥
none_at t p x h = elim (cases_eq t 0) [ inl e ↦ let g = rw (eq-eqb t 0 e) at h in cc | inr ne ↦ let g = rw (ne_eqb t 0 ne) at h in cc ]

pub sound_start : IsSound start
sound_start = record {
  calls = record {
    each = λ n c is. absurd (let g = rw (get-empty nat_cmp n) at is in cc);
    bytes = let none = sum-none bytes_in no_calls.records (len-empty nat_cmp Call) in omega (arith, none);
    stamps_differ = λ m n c d is has same. absurd (let g = rw (get-empty nat_cmp m) at is in cc);
  };
  tasks = record {
    paired = refl;
    leads = λ t p u is. absurd (none_at t p (Connected u) is);
    quiet = λ t p s is ended. absurd (none_at t p s is);
  };
  kept = record {
    waits = λ n l is. absurd (let g = rw (get-empty nat_cmp n) at is in cc);
    alone = λ m n l is has. absurd (let g = rw (get-empty nat_cmp m) at is in cc);
  };
  keepers = record { each = λ t p is. absurd (none_at t p Connecting is) };
  memory = memory_start;
}
