-- A sound state stays sound with each join of a call for which a phone is reserved.
use Rattle.std.proofs.Common.{◌≡◌, ℕ, Bool, true, false, ◌⊎◌, inl, inr, Option, None, Some, List, refl, ap, sym, subst, ◌∙◌, length, ◌+◌, ◌≤◌}
use Rattle.std.specs.Prelude.{◌==◌, ⊤, if◌then◌else◌, IsSome, slice_index}
use Rattle.std.proofs.lemmas.Bool.{eq-eqb, eqb-true, false≢true}
use Rattle.std.proofs.lemmas.Option.{same_Some}
use Rattle.ipc_ids.specs.declared.numbers.TaskNo.{TaskNo}
use Rattle.ipc_ids.specs.declared.numbers.Label.{Label}
use Rattle.ipc_ids.specs.declared.numbers.Code.{Code}
use Rattle.ipc_ids.specs.declared.message.Msg.{Msg}
use Rattle.ipc_ids.specs.declared.message.Reply.{Reply}
use Rattle.ipc_ids.specs.declared.message.PhoneState.{PhoneState}
use Rattle.ipc_ids.specs.declared.message.PhoneState.TheVariants.{Free, Connecting, Connected}
use Rattle.ipc_ids.specs.declared.methods.MethodKind.{MethodKind}
use Rattle.ipc_ids.specs.declared.methods.MethodKind.TheVariants.{ConnectToMe, ConnectMeTo, DataWrite}
use Rattle.ipc_ids.specs.Methods.{kind_of}
use Rattle.call_slab.specs.declared.call.Call.{Call}
use Rattle.call_slab.specs.declared.call.Place.{Place}
use Rattle.call_slab.specs.declared.call.Place.TheVariants.{Incoming, Dispatched, Answers}
use Rattle.answerbox.specs.Calls.{CallTable, call_at, enqueue, put_at, without_call, same_place, active_calls, used}
use Rattle.answerbox.proofs.Used.{same_room}
use Rattle.ipc_ids.specs.Tables.{most_buffered}
use Rattle.ipc_ids.proofs.Common.{none_some}
use Rattle.phone_table.specs.Phones.{state_at, is_usable}
use Rattle.switchboard.specs.declared.kept.Keeper.{Keeper}
use Rattle.switchboard.specs.declared.kept.Keeper.TheVariants.{Nobody, Receiver, Caller}
use Rattle.switchboard.specs.State.{Tasks, KernelState, alive_in, is_alive, phone_at, with_calls}
use Rattle.switchboard.specs.Kept.{keeper_of, who_keeps, accepts, phone_of, held_phone, is_accepted, asked_phone, kept_of, kept_phone, lent_of, lent_phone, unless_freed, kept_rows, with_kept, kept_by}
use Rattle.switchboard.specs.Sound.{IsPlaced, IsCaller, IsLentAt, IsReservedAt, IsOpenAt, NeedsPhone, HasSoundPhone, Carries, AreSoundCalls, IsQuiet, AreSoundTasks, IsSound}
use Rattle.switchboard.specs.Joins.{answer_to, declined, accepted_to_me, accepted_me_to, passage}
use Rattle.switchboard.specs.Serving.{as_it_is}
use Rattle.switchboard.specs.Board.{IsPendingAt}
use Rattle.switchboard.proofs.Lookups.{at_insert, at_remove}
use Rattle.switchboard.proofs.Usable.{IsUsable}
use Rattle.switchboard.proofs.Soundness.{carried, carries_none, answer_carries, next_free, sound_enqueue, sound_put, sound_under, sound_without, phone_kept, sound_quieted, sound_wired}
use Rattle.switchboard.proofs.Keepers.{state_here, kept_here, kept_other, kept_of_call, kept_same, keepers_same, all_same, not_waiting, kept_phone_changed, let_go_kept, let_go_unkept, let_go_keepers, taken_kept, taken_keepers}
use Rattle.switchboard.proofs.SoundStates.{keeps_none, no_phone, sound_moved}

-- places

-- a call that waits at a task, or is held by it
pub incoming_pending : (place : Place) (t : TaskNo) → same_place place (Incoming t) ≡ true → IsPendingAt place
incoming_pending (Incoming u) t is = tt
incoming_pending (Dispatched u) t is = tt
incoming_pending (Answers u) t is = false≢true is

pub held_pending : (place : Place) (t : TaskNo) → same_place place (Dispatched t) ≡ true → IsPendingAt place
held_pending (Incoming u) t is = tt
held_pending (Dispatched u) t is = tt
held_pending (Answers u) t is = false≢true is

-- at this place no task holds the call, and this code of its reply does not accept it
abbrev pub IsLeft : Place → Code → Type 0
IsLeft (Incoming t) code = ⊤
IsLeft (Dispatched t) code = ⊥
IsLeft (Answers t) code = accepts code ≡ false

pending_open : (place : Place) (code : Code) → IsPendingAt place → IsOpenAt place code
pending_open (Incoming t) code h = tt
pending_open (Dispatched t) code h = tt
pending_open (Answers t) code h = absurd h

pending_unaccepted : (place : Place) (code : Code) → IsPendingAt place → is_accepted place code ≡ false
pending_unaccepted (Incoming t) code h = refl
pending_unaccepted (Dispatched t) code h = refl
pending_unaccepted (Answers t) code h = absurd h

left_unaccepted : (place : Place) (code : Code) → IsLeft place code → is_accepted place code ≡ false
left_unaccepted (Incoming t) code h = refl
left_unaccepted (Dispatched t) code h = absurd h
left_unaccepted (Answers t) code h = h

-- a phone, where there is one, changes

still_there : (rows : List (List PhoneState)) (kept : Option Label) (x : PhoneState) (t p : ℕ) → IsSome (state_at rows t p) → IsSome (state_at (kept_rows rows kept x) t p)
still_there rows None x t p h = h
still_there rows (Some l) x t p h = phone_kept rows l.task.0 l.phone.0 t p x h

calls_with : (k : KernelState) (q : CallTable) (kept : Option Label) (x : PhoneState) → AreSoundCalls k.tasks q → AreSoundCalls (with_kept k kept x).tasks q
calls_with k q kept x s = sound_under k.tasks (with_kept k kept x).tasks q s (λ a h. h) (λ t p h. still_there k.tasks.phones kept x t p h)

quieted : (k : KernelState) (kept : Option Label) (x : PhoneState) → IsQuiet x → AreSoundTasks k.tasks → AreSoundTasks (with_kept k kept x).tasks
quieted k None x quiet s = record { paired = s.paired; leads = s.leads; quiet = s.quiet }
quieted k (Some l) x quiet s = sound_quieted k.tasks l.task.0 l.phone.0 x quiet s

connected : (k : KernelState) (kept : Option Label) (u : TaskNo) → ((l : Label) → kept ≡ Some l → alive_in k.tasks.alive l.task.0 ≡ true) → alive_in k.tasks.alive u.0 ≡ true → AreSoundTasks k.tasks → AreSoundTasks (with_kept k kept (Connected u)).tasks
connected k None u from to s = record { paired = s.paired; leads = s.leads; quiet = s.quiet }
connected k (Some l) u from to s = sound_wired k.tasks l.task.0 l.phone.0 u s (from l refl) to

-- a call lets its phone go, where it keeps one, and the phone waits no more
let_go : (k : KernelState) (q : CallTable) (n : ℕ) (kept : Option Label) (x : PhoneState) → IsSound k → kept_by k.calls n ≡ kept → kept_by q n ≡ None → ((m : ℕ) → (n ≡ m → ⊥) → kept_by q m ≡ kept_by k.calls m) → AreSoundCalls k.tasks q → AreSoundTasks (with_kept k kept x).tasks → (x ≡ Connecting → ⊥) → IsSound (with_calls (with_kept k kept x) q)
let_go k q n None x s was is others calls tasks not =
    let same : (m : ℕ) → kept_by q m ≡ kept_by k.calls m = all_same k.calls q n (is ∙ sym was) others in
    record { calls = calls_with k q None x calls; tasks = tasks; kept = kept_same q same s.kept; keepers = keepers_same q same s.keepers; memory = s.memory }
let_go k q n (Some l) x s was is others calls tasks not = record {
  calls = calls_with k q (Some l) x calls;
  tasks = tasks;
  kept = kept_phone_changed l.task.0 l.phone.0 x (let_go_kept k.calls q n l was is others s.kept) (let_go_unkept k.calls q n l was is others s.kept);
  keepers = let_go_keepers k.calls q n l was is others x not s.keepers;
  memory = s.memory;
}

-- the call is over, and a phone that it keeps is free
pub sound_gone : (k : KernelState) (c : Call) → IsSound k → call_at k.calls c.number.0 ≡ Some c → IsSound (with_calls (with_kept k (kept_phone c) Free) (without_call k.calls c.number.0))
sound_gone k c s live =
    let at : (m : ℕ) → call_at (without_call k.calls c.number.0) m ≡ (if c.number.0 == m then None else call_at k.calls m) = λ m. at_remove k.calls.records c.number.0 m in
    let_go k (without_call k.calls c.number.0) c.number.0 (kept_phone c) Free s (kept_of_call k.calls c.number.0 c live)
    (kept_here k.calls (without_call k.calls c.number.0) c.number.0 None at)
    (kept_other k.calls (without_call k.calls c.number.0) c.number.0 None at)
    (sound_without k.tasks k.calls c.number.0 s.calls) (quieted k (kept_phone c) Free tt s.tasks) (λ e. cc e)

-- a record that is put to a place

-- the record of the call, with what a join may change in it
abbrev pub changed : Call → Msg → Label → Reply → Option Label → Call
changed c msg label reply reserved = record c { msg = msg; label = label; reply = reply; reserved = reserved }

module _ (k : KernelState) (c : Call) (s : IsSound k) (live : call_at k.calls c.number.0 ≡ Some c) (msg : Msg) (label : Label) (reply : Reply) (reserved : Option Label) (place : Place) where
  abbrev d : Call
  d = changed c msg label reply reserved

  abbrev table : CallTable
  table = put_at k.calls d place

  at : (m : ℕ) → call_at table m ≡ (if c.number.0 == m then Some (record d { place = place; stamp = k.calls.next_stamp }) else call_at k.calls m)
  at m = at_insert k.calls.records c.number.0 m (record d { place = place; stamp = k.calls.next_stamp })

  put_keeps : kept_by table c.number.0 ≡ kept_phone (record d { place = place })
  put_keeps = kept_here k.calls table c.number.0 (Some (record d { place = place; stamp = k.calls.next_stamp })) at

  put_others : (m : ℕ) → (c.number.0 ≡ m → ⊥) → kept_by table m ≡ kept_by k.calls m
  put_others = kept_other k.calls table c.number.0 (Some (record d { place = place; stamp = k.calls.next_stamp })) at

  put_sound : IsPlaced k.tasks c.caller place → HasSoundPhone k.tasks.phones (record d { place = place }) → Carries (kind_of c.request.method) place c.buffer (slice_index c.request.args 1) → AreSoundCalls k.tasks table
  put_sound placed phone carries = sound_put k.tasks k.calls c.number.0 c d place s.calls live refl refl refl refl refl placed phone carries (same_room k.calls c d most_buffered s.calls.bytes refl)

  -- it keeps no phone there
  put_without : (x : PhoneState) → IsPlaced k.tasks c.caller place → HasSoundPhone k.tasks.phones (record d { place = place }) → Carries (kind_of c.request.method) place c.buffer (slice_index c.request.args 1) → kept_phone (record d { place = place }) ≡ None → AreSoundTasks (with_kept k (kept_phone c) x).tasks → (x ≡ Connecting → ⊥) → IsSound (with_calls (with_kept k (kept_phone c) x) table)
  put_without x placed phone carries none tasks not =
      let_go k table c.number.0 (kept_phone c) x s (kept_of_call k.calls c.number.0 c live) (put_keeps ∙ none) put_others (put_sound placed phone carries) tasks not

  -- it keeps there what it kept
  put_alike : IsPlaced k.tasks c.caller place → HasSoundPhone k.tasks.phones (record d { place = place }) → Carries (kind_of c.request.method) place c.buffer (slice_index c.request.args 1) → kept_phone (record d { place = place }) ≡ kept_phone c → IsSound (with_calls (with_kept k None Free) table)
  put_alike placed phone carries same =
      let m = sound_moved k c d place s live refl refl refl refl refl placed phone carries same (same_room k.calls c d most_buffered s.calls.bytes refl) in
      record { calls = calls_with k table None Free m.calls; tasks = quieted k None Free tt m.tasks; kept = m.kept; keepers = m.keepers; memory = m.memory }

-- a call that its holder lets go

-- a phone that the holder keeps is reserved no more
freed_none : (place : Place) (reserved : Option Label) → IsPendingAt place → ((l : Label) → reserved ≡ Some l → IsLentAt place l) → unless_freed (held_phone place reserved) reserved ≡ None
freed_none (Incoming t) None pending lent = refl
freed_none (Incoming t) (Some l) pending lent = absurd (lent l refl)
freed_none (Dispatched t) None pending lent = refl
freed_none (Dispatched t) (Some l) pending lent = rw (eq-eqb l.task.0 t.0 (ap (λ (u : TaskNo). u.0) (lent l refl))) refl
freed_none (Answers t) reserved pending lent = absurd pending

-- what the call keeps, and has reserved, before and after
module _ (from : TaskNo) (old new : Place) (was code : Code) (reserved : Option Label) (pending : IsPendingAt old) (left : IsLeft new code) where
  abbrev freed : Keeper → Option Label
  freed keeper = unless_freed (lent_of keeper old reserved) reserved

  unheld : (place : Place) → IsLeft place code → (o : Option Label) → held_phone place o ≡ None
  unheld (Incoming t) h o = refl
  unheld (Dispatched t) h o = absurd h
  unheld (Answers t) h o = refl

  left_keeps : (keeper : Keeper) → ((lent_of keeper old reserved ≡ kept_of keeper from old was reserved) × (kept_of keeper from new code (freed keeper) ≡ None)) ⊎ ((lent_of keeper old reserved ≡ None) × (kept_of keeper from new code (freed keeper) ≡ kept_of keeper from old was reserved))
  left_keeps Nobody = inl (refl, refl)
  left_keeps Receiver = inl (refl, unheld new left (freed Receiver))
  left_keeps Caller = inr (refl, rw (left_unaccepted new code left, pending_unaccepted old was pending) refl)

  left_owner : (keeper : Keeper) → ((l : Label) → reserved ≡ Some l → IsReservedAt keeper from old l) → (l : Label) → freed keeper ≡ Some l → IsReservedAt keeper from new l
  left_owner Nobody owner l is = owner l is
  left_owner Receiver owner l is = absurd (none_some (freed Receiver) l (freed_none old reserved pending owner) is)
  left_owner Caller owner l is = owner l is

  left_needed : (keeper : Keeper) → (NeedsPhone keeper old was → IsSome reserved) → NeedsPhone keeper new code → IsSome (freed keeper)
  left_needed Nobody needed needs = absurd needs
  left_needed Receiver needed needs = absurd needs
  left_needed Caller needed needs = needed (pending_open old was pending)

pub unfreed : (freed reserved : Option Label) (l : Label) → unless_freed freed reserved ≡ Some l → reserved ≡ Some l
unfreed None reserved l is = is
unfreed (Some x) reserved l is = absurd (none_some None l refl is)

-- the call goes to a place where no task holds it, is not accepted, and a phone that its holder keeps is free
pub sound_left : (k : KernelState) (c : Call) (msg : Msg) (label : Label) (reply : Reply) (place : Place) → IsSound k → call_at k.calls c.number.0 ≡ Some c → IsPendingAt c.place → IsLeft place reply.code → IsPlaced k.tasks c.caller place
    → IsSound (with_calls (with_kept k (lent_phone c) Free) (put_at k.calls (changed c msg label reply (unless_freed (lent_phone c) c.reserved)) place))
sound_left k c msg label reply place s live pending left placed =
    let keeper : Keeper = who_keeps c in
    let was = (s.calls.each c.number.0 c live).reserved in
    let carries = carried (kind_of c.request.method) c.place place c.buffer (slice_index c.request.args 1) pending (s.calls.each c.number.0 c live).carries in
    let freed : Option Label = unless_freed (lent_phone c) c.reserved in
    let phone : HasSoundPhone k.tasks.phones (record c { msg = msg; label = label; reply = reply; reserved = freed; place = place }) = record {
      there = λ l is. was.there l (unfreed (lent_phone c) c.reserved l is);
      owner = left_owner c.from.task c.place place c.reply.code reply.code c.reserved pending left keeper was.owner;
      needed = left_needed c.from.task c.place place c.reply.code reply.code c.reserved pending left keeper was.needed;
    } in
    elim (left_keeps c.from.task c.place place c.reply.code reply.code c.reserved pending left keeper) [
      | inl e ↦
          subst (λ (o : Option Label). IsSound (with_calls (with_kept k o Free) (put_at k.calls (changed c msg label reply freed) place))) (sym e.0)
          (put_without k c s live msg label reply freed place Free placed phone carries e.1 (quieted k (kept_phone c) Free tt s.tasks) (λ e. cc e))
      | inr e ↦
          subst (λ (o : Option Label). IsSound (with_calls (with_kept k o Free) (put_at k.calls (changed c msg label reply freed) place))) (sym e.0)
          (put_alike k c s live msg label reply freed place placed phone carries e.1)
    ]

-- the call is declined, and goes to the answers of its caller
pub sound_declined : (k : KernelState) (c : Call) (reply : Reply) (by : Option TaskNo) (u : TaskNo) → IsSound k → call_at k.calls c.number.0 ≡ Some c → IsPendingAt c.place → accepts reply.code ≡ false → c.caller ≡ Some u → IsSound (answer_to (declined k c reply) by u).state
sound_declined k c reply by u s live pending declines from = sound_left k c c.msg c.label reply (Answers u) s live pending declines from

-- the call goes on to a task that is alive
pub sound_passage : (k : KernelState) (c : Call) (msg : Msg) (label : Label) (by to : TaskNo) → IsSound k → call_at k.calls c.number.0 ≡ Some c → IsPendingAt c.place → is_alive k to ≡ true → IsSound (passage msg label by to k c).state
sound_passage k c msg label by to s live pending alive = sound_left k c msg label c.reply (Incoming to) s live pending tt alive

-- a call that is accepted

-- the call goes to the answers of its caller, and a phone that it keeps leads to a task that is alive
pub sound_connected : (k : KernelState) (c : Call) (reply : Reply) (u to : TaskNo) → IsSound k → call_at k.calls c.number.0 ≡ Some c → c.caller ≡ Some u → kept_phone (record c { reply = reply; place = Answers u }) ≡ None → HasSoundPhone k.tasks.phones (record c { reply = reply; place = Answers u }) → ((l : Label) → kept_phone c ≡ Some l → alive_in k.tasks.alive l.task.0 ≡ true) → is_alive k to ≡ true
    → IsSound (with_calls (with_kept k (kept_phone c) (Connected to)) (put_at k.calls (record c { reply = reply }) (Answers u)))
sound_connected k c reply u to s live from none phone owner alive =
    put_without k c s live c.msg c.label reply c.reserved (Answers u) (Connected to) from phone (answer_carries (kind_of c.request.method) u c.buffer (slice_index c.request.args 1)) none (connected k (kept_phone c) to owner alive s.tasks) (λ e. cc e)

-- the record of an answer, where the phone stays reserved
answered_owner : (keeper : Keeper) (from : TaskNo) (place : Place) (u : TaskNo) (l : Label) → IsReservedAt keeper from place l → IsReservedAt keeper from (Answers u) l
answered_owner Nobody from place u l h = h
answered_owner Receiver from place u l h = tt
answered_owner Caller from place u l h = h

pending_needs : (keeper : Keeper) (old new : Place) (was code : Code) → IsPendingAt old → NeedsPhone keeper new code → NeedsPhone keeper old was
pending_needs Nobody old new was code pending needs = needs
pending_needs Receiver old new was code pending needs = needs
pending_needs Caller old new was code pending needs = pending_open old was pending

answered_sound : (phones : List (List PhoneState)) (c : Call) (reply : Reply) (u : TaskNo) → IsPendingAt c.place → HasSoundPhone phones c → HasSoundPhone phones (record c { reply = reply; place = Answers u })
answered_sound phones c reply u pending was = record {
  there = was.there;
  owner = λ l is. answered_owner (who_keeps c) c.from.task c.place u l (was.owner l is);
  needed = λ needs. was.needed (pending_needs (who_keeps c) c.place (Answers u) c.reply.code reply.code pending needs);
}

-- the task of a phone that a call keeps
task_of_phone : (t : TaskNo) (reserved : Option Label) (l : Label) → phone_of t reserved ≡ Some l → l.task.0 ≡ t.0
task_of_phone t None l is = absurd (none_some None l refl is)
task_of_phone t (Some x) l is = by_test (x.task.0 == t.0) refl is where
  by_test : (b : Bool) → (x.task.0 == t.0) ≡ b → (if b then Some x else None) ≡ Some l → l.task.0 ≡ t.0
  by_test true e h = ap (λ (y : Label). y.task.0) (sym (same_Some x l h)) ∙ eqb-true x.task.0 t.0 e
  by_test false e h = absurd (none_some None l refl h)

holder_alive : (tasks : Tasks) (caller : Option TaskNo) (place : Place) (reserved : Option Label) (l : Label) → IsPlaced tasks caller place → held_phone place reserved ≡ Some l → alive_in tasks.alive l.task.0 ≡ true
holder_alive tasks caller (Incoming t) reserved l placed is = absurd (none_some None l refl is)
holder_alive tasks caller (Dispatched t) reserved l placed is = ap (alive_in tasks.alive) (task_of_phone t reserved l is) ∙ placed
holder_alive tasks caller (Answers t) reserved l placed is = absurd (none_some None l refl is)

asker_alive : (tasks : Tasks) (from : Label) (u : TaskNo) (place : Place) (code : Code) (reserved : Option Label) (l : Label) → IsCaller tasks from (Some u) → asked_phone from.task place code reserved ≡ Some l → alive_in tasks.alive l.task.0 ≡ true
asker_alive tasks from u place code reserved l caller is = by_test (is_accepted place code) is where
  by_test : (b : Bool) → (if b then None else phone_of from.task reserved) ≡ Some l → alive_in tasks.alive l.task.0 ≡ true
  by_test true h = absurd (none_some None l refl h)
  by_test false h = ap (alive_in tasks.alive) (task_of_phone from.task reserved l h ∙ ap (λ (t : TaskNo). t.0) (sym caller.0)) ∙ caller.1

pub caller_alive : (tasks : Tasks) (from : Label) (caller : Option TaskNo) (u : TaskNo) → caller ≡ Some u → IsCaller tasks from caller → IsCaller tasks from (Some u)
caller_alive tasks from caller u is h = subst (IsCaller tasks from) is h

-- a CONNECT_TO_ME is accepted
pub sound_accepted_to_me : (k : KernelState) (c : Call) (reply : Reply) (by : Option TaskNo) (u : TaskNo) → IsSound k → call_at k.calls c.number.0 ≡ Some c → kind_of c.request.method ≡ ConnectToMe → IsPendingAt c.place → c.caller ≡ Some u → IsSound (answer_to (accepted_to_me k c reply u) by u).state
sound_accepted_to_me k c reply by u s live kind pending from =
    let was = s.calls.each c.number.0 c live in
    let given : Reply = record { code = Rattle.switchboard.specs.Joins.code_of (kept_phone c); args = reply.args } in
    sound_connected k c given u u s live from (rw kind refl) (answered_sound k.tasks.phones c given u pending was.reserved)
    (λ l is. holder_alive k.tasks c.caller c.place c.reserved l was.place (rw kind at is)) (caller_alive k.tasks c.from c.caller u from was.caller).1

-- a CONNECT_ME_TO is accepted by task t
pub sound_accepted_me_to : (k : KernelState) (c : Call) (reply : Reply) (t : TaskNo) (by : Option TaskNo) (u : TaskNo) → IsSound k → call_at k.calls c.number.0 ≡ Some c → kind_of c.request.method ≡ ConnectMeTo → IsPendingAt c.place → accepts reply.code ≡ true → is_alive k t ≡ true → c.caller ≡ Some u → IsSound (answer_to (accepted_me_to k c reply t) by u).state
sound_accepted_me_to k c reply t by u s live kind pending accepted alive from =
    let was = s.calls.each c.number.0 c live in
    sound_connected k c reply u t s live from (rw (kind, accepted) refl) (answered_sound k.tasks.phones c reply u pending was.reserved)
    (λ l is. asker_alive k.tasks c.from u c.place c.reply.code c.reserved l (caller_alive k.tasks c.from c.caller u from was.caller) (rw kind at is)) alive

-- a call of this kind keeps no phone
abbrev pub IsPlain : MethodKind → Type 0
IsPlain ConnectToMe = ⊥
IsPlain ConnectMeTo = ⊥
IsPlain _ = ⊤

pub plain_keeps : (kind : MethodKind) (from : TaskNo) (place : Place) (code : Code) (reserved : Option Label) → IsPlain kind → kept_of (keeper_of kind) from place code reserved ≡ None
plain_keeps ConnectToMe from place code reserved plain = absurd plain
plain_keeps ConnectMeTo from place code reserved plain = absurd plain
plain_keeps _ from place code reserved plain = refl

-- another call is answered, with these bytes
pub sound_finished_with : (k : KernelState) (c : Call) (reply : Reply) (bytes : List ℕ) (by : Option TaskNo) (u : TaskNo) → IsSound k → call_at k.calls c.number.0 ≡ Some c → IsPlain (kind_of c.request.method) → IsPendingAt c.place → c.caller ≡ Some u → length bytes + used k.calls ≤ length c.buffer + most_buffered → IsSound (answer_to (as_it_is k (record c { reply = reply; buffer = bytes })) by u).state
sound_finished_with k c reply bytes by u s live plain pending from room =
    let phone = answered_sound k.tasks.phones c reply u pending (s.calls.each c.number.0 c live).reserved in
    sound_moved k c (record c { reply = reply; buffer = bytes }) (Answers u) s live refl refl refl refl refl from (record { there = phone.there; owner = phone.owner; needed = phone.needed }) (answer_carries (kind_of c.request.method) u bytes (slice_index c.request.args 1))
    (plain_keeps (kind_of c.request.method) c.from.task (Answers u) reply.code c.reserved plain ∙ sym (plain_keeps (kind_of c.request.method) c.from.task c.place c.reply.code c.reserved plain)) room

-- or with those that it had
pub sound_finished : (k : KernelState) (c : Call) (reply : Reply) (by : Option TaskNo) (u : TaskNo) → IsSound k → call_at k.calls c.number.0 ≡ Some c → IsPlain (kind_of c.request.method) → IsPendingAt c.place → c.caller ≡ Some u → IsSound (answer_to (as_it_is k (record c { reply = reply })) by u).state
sound_finished k c reply by u s live plain pending from = sound_finished_with k c reply c.buffer by u s live plain pending from (same_room k.calls c c most_buffered s.calls.bytes refl)

-- a call that takes a phone

usable_there : (k : KernelState) (t : TaskNo) (l : Label) → IsUsable k t l → IsSome (phone_at k l.task l.phone.0)
usable_there k t l usable = rw (usable.is) refl

-- a usable phone waits for no connection
usable_idle : (k : KernelState) (t : TaskNo) (l : Label) → IsUsable k t l → phone_at k l.task l.phone.0 ≡ Some Connecting → ⊥
usable_idle k t l usable waits = never usable.state (active_calls k.calls l) usable.usable (sym usable.is ∙ waits) where
  never : (x : PhoneState) (n : ℕ) → is_usable x n ≡ true → Some x ≡ Some Connecting → ⊥
  never x n is e = let same : x ≡ Connecting = cc in false≢true (sym (ap (λ (y : PhoneState). is_usable y n) same) ∙ is)

taken : (k : KernelState) (q : CallTable) (n : ℕ) (t : TaskNo) (l : Label) → IsSound k → IsUsable k t l → kept_by k.calls n ≡ None → kept_by q n ≡ Some l → ((m : ℕ) → (n ≡ m → ⊥) → kept_by q m ≡ kept_by k.calls m) → AreSoundCalls k.tasks q → IsSound (with_calls (with_kept k (Some l) Connecting) q)
taken k q n t l s takes was is others calls =
    let unkept = not_waiting l.task.0 l.phone.0 s.kept (usable_idle k t l takes) in
    record {
      calls = calls_with k q (Some l) Connecting calls;
      tasks = quieted k (Some l) Connecting tt s.tasks;
      kept = taken_kept k.calls q n l is others (kept_phone_changed l.task.0 l.phone.0 Connecting s.kept unkept) (state_here k.tasks.phones l.task.0 l.phone.0 Connecting (usable_there k t l takes)) (λ m has. unkept m l has (refl, refl));
      keepers = taken_keepers k.calls q n l is others was s.keepers;
      memory = s.memory;
    }

pub own_phone : (t : TaskNo) (l : Label) → l.task ≡ t → phone_of t (Some l) ≡ Some l
own_phone t l is = rw (eq-eqb l.task.0 t.0 (ap (λ (u : TaskNo). u.0) is)) refl

-- the record of a call for which this phone is reserved
with_phone_sound : (k : KernelState) (t : TaskNo) (l : Label) (c : Call) → IsUsable k t l → c.reserved ≡ Some l → IsReservedAt (who_keeps c) c.from.task c.place l → HasSoundPhone k.tasks.phones c
with_phone_sound k t l c takes is owner = record {
  there = λ x has. subst (λ (y : Label). IsSome (phone_at k y.task y.phone.0)) (same_Some l x (sym is ∙ has)) (usable_there k t l takes);
  owner = λ x has. subst (IsReservedAt (who_keeps c) c.from.task c.place) (same_Some l x (sym is ∙ has)) owner;
  needed = λ n. rw is refl;
}

unreceived : (place : Place) (t : TaskNo) (reserved : Option Label) → same_place place (Incoming t) ≡ true → held_phone place reserved ≡ None
unreceived (Incoming u) t reserved is = refl
unreceived (Dispatched u) t reserved is = absurd (false≢true is)
unreceived (Answers u) t reserved is = refl

-- a CONNECT_TO_ME is received by a task, which keeps a phone for it, where it has one
pub sound_received_to_me : (k : KernelState) (c : Call) (msg : Msg) (t : TaskNo) (kept : Option Label) → IsSound k → call_at k.calls c.number.0 ≡ Some c → kind_of c.request.method ≡ ConnectToMe → same_place c.place (Incoming t) ≡ true → is_alive k t ≡ true → ((l : Label) → kept ≡ Some l → IsUsable k t l)
    → IsSound (with_calls (with_kept k kept Connecting) (put_at k.calls (record c { msg = msg; reserved = kept }) (Dispatched t)))
sound_received_to_me k c msg t kept s live kind comes alive takes = by_kept kept takes where
  before : kept_phone c ≡ None
  before = rw kind (unreceived c.place t c.reserved comes)

  carries : Carries (kind_of c.request.method) (Dispatched t) c.buffer (slice_index c.request.args 1)
  carries = carries_none (kind_of c.request.method) (Dispatched t) c.buffer (slice_index c.request.args 1) (λ e. let g : ConnectToMe ≡ DataWrite = sym kind ∙ e in cc g)

  by_kept : (kept : Option Label) → ((l : Label) → kept ≡ Some l → IsUsable k t l) → IsSound (with_calls (with_kept k kept Connecting) (put_at k.calls (record c { msg = msg; reserved = kept }) (Dispatched t)))
  by_kept None takes =
      let d : Call = record c { msg = msg; reserved = None; place = Dispatched t } in
      put_alike k c s live msg c.label c.reply None (Dispatched t) alive (no_phone k.tasks.phones d refl (λ n. rw kind at n)) carries (keeps_none d refl ∙ sym before)
  by_kept (Some l) takes =
      let d : Call = record c { msg = msg; reserved = Some l; place = Dispatched t } in
      let usable : IsUsable k t l = takes l refl in
      let phone : HasSoundPhone k.tasks.phones d = with_phone_sound k t l d usable refl (rw kind usable.own) in
      let after : kept_phone d ≡ Some l = rw kind (own_phone t l usable.own) in
      taken k (put_at k.calls (record c { msg = msg; reserved = Some l }) (Dispatched t)) c.number.0 t l s usable (kept_of_call k.calls c.number.0 c live ∙ before)
      (put_keeps k c s live msg c.label c.reply (Some l) (Dispatched t) ∙ after)
      (put_others k c s live msg c.label c.reply (Some l) (Dispatched t))
      (put_sound k c s live msg c.label c.reply (Some l) (Dispatched t) alive phone carries)

received_owner : (kind : MethodKind) (from : TaskNo) (place : Place) (t : TaskNo) (l : Label) → (kind ≡ ConnectToMe → ⊥) → IsReservedAt (keeper_of kind) from place l → IsReservedAt (keeper_of kind) from (Dispatched t) l
received_owner ConnectToMe from place t l not h = absurd (not refl)
received_owner _ from place t l not h = h

received_keeps : (kind : MethodKind) (from : TaskNo) (place : Place) (code : Code) (reserved : Option Label) (t : TaskNo) → (kind ≡ ConnectToMe → ⊥) → IsPendingAt place → kept_of (keeper_of kind) from (Dispatched t) code reserved ≡ kept_of (keeper_of kind) from place code reserved
received_keeps ConnectToMe from place code reserved t not pending = absurd (not refl)
received_keeps ConnectMeTo from place code reserved t not pending = rw (pending_unaccepted place code pending) refl
received_keeps _ from place code reserved t not pending = refl

-- another call is received
pub sound_received : (k : KernelState) (c : Call) (t : TaskNo) → IsSound k → call_at k.calls c.number.0 ≡ Some c → (kind_of c.request.method ≡ ConnectToMe → ⊥) → IsPendingAt c.place → is_alive k t ≡ true → IsSound (with_calls k (put_at k.calls c (Dispatched t)))
sound_received k c t s live not pending alive =
    let was = (s.calls.each c.number.0 c live).reserved in
    let phone : HasSoundPhone k.tasks.phones (record c { place = Dispatched t }) = record {
      there = was.there;
      owner = λ l is. received_owner (kind_of c.request.method) c.from.task c.place t l not (was.owner l is);
      needed = λ needs. was.needed (pending_needs (who_keeps c) c.place (Dispatched t) c.reply.code c.reply.code pending needs);
    } in
    sound_moved k c c (Dispatched t) s live refl refl refl refl refl alive phone (carried (kind_of c.request.method) c.place (Dispatched t) c.buffer (slice_index c.request.args 1) pending (s.calls.each c.number.0 c live).carries) (received_keeps (kind_of c.request.method) c.from.task c.place c.reply.code c.reserved t not pending) (same_room k.calls c c most_buffered s.calls.bytes refl)

-- a new CONNECT_ME_TO is sent, for which its caller keeps this phone
pub sound_sent : (k : KernelState) (c : Call) (l : Label) → IsSound k → IsUsable k c.from.task l → c.number.0 ≡ k.calls.next_number → IsPlaced k.tasks c.caller c.place → IsCaller k.tasks c.from c.caller → IsSome (state_at k.tasks.phones c.from.task.0 c.from.phone.0) → c.discard ≡ (c.request.method == 0) → kind_of c.request.method ≡ ConnectMeTo → IsPendingAt c.place → c.reserved ≡ Some l → used k.calls + length c.buffer ≤ most_buffered
    → IsSound (with_calls (with_kept k (Some l) Connecting) (enqueue k.calls c))
sound_sent k c l s takes number placed caller phone discard kind pending is room =
    let d : Call = record c { stamp = k.calls.next_stamp } in
    let at : (m : ℕ) → call_at (enqueue k.calls c) m ≡ (if c.number.0 == m then Some d else call_at k.calls m) = λ m. at_insert k.calls.records c.number.0 m d in
    let free : call_at k.calls c.number.0 ≡ None = ap (call_at k.calls) number ∙ next_free k.tasks k.calls s.calls in
    let before : kept_by k.calls c.number.0 ≡ None = rw free refl in
    let keeps : kept_phone c ≡ Some l = rw (kind, pending_unaccepted c.place c.reply.code pending, is) (own_phone c.from.task l takes.own) in
    let after : kept_by (enqueue k.calls c) c.number.0 ≡ Some l = kept_here k.calls (enqueue k.calls c) c.number.0 (Some d) at ∙ keeps in
    taken k (enqueue k.calls c) c.number.0 c.from.task l s takes before after (kept_other k.calls (enqueue k.calls c) c.number.0 (Some d) at)
    (sound_enqueue k.tasks k.calls c s.calls number placed caller phone discard (with_phone_sound k c.from.task l c takes is (rw kind takes.own)) (carries_none (kind_of c.request.method) c.place c.buffer (slice_index c.request.args 1) (λ e. let g : ConnectMeTo ≡ DataWrite = sym kind ∙ e in cc g)) room)
