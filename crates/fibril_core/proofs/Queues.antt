-- The queues of the ready fibrils and of those that wait through each call, and the room that they have.
use Rattle.std.proofs.Common.{◌≡◌, ◌≢◌, ℕ, suc, ◌+◌, ◌<◌, ◌≤◌, ◌⊎◌, inl, inr, Bool, true, false, List, [], ◌∷◌, ◌++◌, drop, length, Option, Some, None, refl, ap, sym, ◌∙◌, subst, arith}
use Rattle.std.specs.Prelude.{◌==◌, slice_get, position, IsSome}
use Rattle.std.specs.Option.{option_eq}
use Rattle.std.specs.List.{remove}
use Rattle.std.proofs.lemmas.Bool.{cases_eq, eq-eqb, eqb-true}
use Rattle.ipc_ids.specs.declared.numbers.FibrilNo.{FibrilNo}
use Rattle.ipc_ids.specs.declared.message.Why.{Why}
use Rattle.fibril_core.specs.declared.fibrils.Status.{Status}
use Rattle.fibril_core.specs.declared.fibrils.Status.TheVariants.{Ready, Blocked, Ended}
use Rattle.fibril_core.specs.declared.fibrils.Fibril.{Fibril}
use Rattle.fibril_core.specs.Fibrils.{FibrilOrder, same_why, same_status, fibril_at, why_at, why_in, why_of, current, first_blocked, first_with, with_status, found_with, spawned, next_number, number_of, put_fibril, found_over, end_current, FibrilsState}
use Rattle.fibril_core.specs.FibrilLaws.{status_in, passes, IsSound, IsQueue, IsQueueBut, AreQueued}
use Rattle.fibril_core.specs.LiveFibrils.{goes_on, is_live, is_ready, waits, is_waiting, GoesOn, ended, count, spare_of}
use Rattle.fibril_core.proofs.Firsts.{same_status_is, same_why_is, why_is_same}
use Rattle.fibril_core.proofs.Places.{within}
use Rattle.fibril_core.proofs.Searches.{found_place, none_placed}
use Rattle.fibril_core.proofs.Orders.{Has, has, first_number, sound_status, sound_spawned, sound_ended}
use Rattle.fibril_core.proofs.Rebuilt.{named_over}
use Rattle.fibril_core.proofs.Counts.{count_push}
use Rattle.fibril_core.proofs.InQueue.{stamp_alters, end_alters, spawn_alters, none_next, but_absent, but_removed, left, joined, first_of_queue, none_of_queue, few_queued, less_queued, first_is_found}

-- what a status is

is_ready_so : (x : Fibril) → x.status ≡ Ready → is_ready x ≡ true
is_ready_so x e = rw e refl

is_waiting_so : (w : Why) → waits (Blocked w) ≡ true → (x : Fibril) → x.status ≡ Blocked w → is_waiting x ≡ true
is_waiting_so w waiting x e = rw e waiting

ready_lives : (x : Fibril) → is_ready x ≡ true → is_live x ≡ true
ready_lives x e = by x.status e where
  by : (s : Status) → same_status s Ready ≡ true → goes_on s ≡ true
  by Ready h = refl
  by (Blocked w) h = refl
  by Ended h = absurd (cc h)

waiting_lives : (x : Fibril) → is_waiting x ≡ true → is_live x ≡ true
waiting_lives x e = by x.status e where
  by : (s : Status) → waits s ≡ true → goes_on s ≡ true
  by Ready h = refl
  by (Blocked w) h = refl
  by Ended h = absurd (cc h)

-- a fibril that is blocked
record IsBlocked (q : Option Fibril) : Type 0 where
  pub fibril : Fibril
  pub there : q ≡ Some fibril
  pub lives : is_live fibril ≡ true
  pub rests : is_ready fibril ≡ false

blocked : (q : Option Fibril) → IsSome (why_at q) → IsBlocked q
blocked None h = absurd (cc h)
blocked (Some x) h = record { fibril = x; there = refl; lives = lives_by x.status h; rests = rests_by x.status h } where
  lives_by : (s : Status) → IsSome (why_in s) → goes_on s ≡ true
  lives_by Ready h = absurd (cc h)
  lives_by (Blocked w) h = refl
  lives_by Ended h = absurd (cc h)

  rests_by : (s : Status) → IsSome (why_in s) → same_status s Ready ≡ false
  rests_by Ready h = absurd (cc h)
  rests_by (Blocked w) h = refl
  rests_by Ended h = absurd (cc h)

goes_at : (q : Option Fibril) → GoesOn q → (x : Fibril) × (q ≡ Some x) × (is_live x ≡ true)
goes_at None h = absurd h
goes_at (Some x) h = (x, refl, h)

-- a change of the status of one that has not ended leaves as many
live_status : (o : FibrilOrder) (f : FibrilNo) (s : Status) → GoesOn (fibril_at o f.0) → goes_on s ≡ true → count is_live (with_status o f s).fibrils ≡ count is_live o.fibrils
live_status o f s goes on =
    let x = goes_at (fibril_at o f.0) goes in
    same_by (count is_live (with_status o f s).fibrils) (count is_live o.fibrils) (rw (x.1, x.2, on) at ((stamp_alters o f s x.0 x.1).counts is_live)) where
      same_by : (m k : ℕ) → m + 1 ≡ k + 1 → m ≡ k
      same_by m k e = omega arith

-- the first of the ready ones is the present fibril

ready_at : (q : Option Fibril) → passes is_ready q ≡ true → status_in q ≡ Some Ready
ready_at None h = absurd (cc h)
ready_at (Some x) h = ap Some (same_status_is x.status Ready h)

pub queue_current : (o : FibrilOrder) (q r : List FibrilNo) (room : ℕ) → AreQueued o q r room → current o ≡ slice_get q 0
queue_current o [] r room queued = none_of_queue is_ready o Ready [] queued.sound queued.ready is_ready_so (λ k g e. absurd (cc e))
queue_current o (f ∷ q) r room queued = first_is_found o Ready f refl queued.sound (first_of_queue is_ready o Ready (f ∷ q) 0 f queued.ready is_ready_so refl (ready_at (fibril_at o f.0) (queued.ready.pass 0 f refl)) (λ k g less. absurd (omega arith)))

front : (o : FibrilOrder) (f : FibrilNo) (q r : List FibrilNo) (room : ℕ) → AreQueued o (f ∷ q) r room → Has (fibril_at o f.0) Ready
front o f q r room queued = has (fibril_at o f.0) Ready (ready_at (fibril_at o f.0) (queued.ready.pass 0 f refl))

pub front_goes_on : (o : FibrilOrder) (f : FibrilNo) (q r : List FibrilNo) (room : ℕ) → AreQueued o (f ∷ q) r room → GoesOn (fibril_at o f.0)
front_goes_on o f q r room queued = let x = front o f q r room queued in rw (x.there, x.status) refl

pub none_in_front : (q : List FibrilNo) → (0 < length q → ⊥) → slice_get q 0 ≡ None
none_in_front [] h = refl
none_in_front (f ∷ q) h = absurd (h (omega arith))

-- the first of those that wait that is blocked on one thing is the one to wake

why_status : (q : Option Fibril) (w : Why) → why_at q ≡ Some w → status_in q ≡ Some (Blocked w)
why_status None w h = absurd (cc h)
why_status (Some x) w h = ap Some (by x.status h) where
  by : (s : Status) → why_in s ≡ Some w → s ≡ Blocked w
  by Ready e = absurd (cc e)
  by (Blocked v) e = cc
  by Ended e = absurd (cc e)

status_why : (q : Option Fibril) (w : Why) → status_in q ≡ Some (Blocked w) → why_at q ≡ Some w
status_why q w h = let x = has q (Blocked w) h in rw (x.there, x.status) refl

-- the test of the code, by the equality E of reasons
module _ (E : Why → Why → Bool) (same : (v w : Why) → E v w ≡ same_why v w) where
  pub is_on : (q : Option Why) (w : Why) → option_eq E q (Some w) ≡ true → q ≡ Some w
  is_on None w h = absurd (cc h)
  is_on (Some v) w h = ap Some (same_why_is v w (sym (same v w) ∙ h))

  pub not_on : (q : Option Why) (w : Why) → option_eq E q (Some w) ≡ false → q ≢ Some w
  not_on None w h e = cc e
  not_on (Some v) w h e = let is : v ≡ w = cc e in both (same_why v w) (rw is (why_is_same w)) (sym (same v w) ∙ h) where
    both : (b : Bool) → b ≡ true → b ≡ false → ⊥
    both b d g = cc

-- none of those before a place is blocked on that
pub record NoneBefore (o : FibrilOrder) (w : Why) (q : List FibrilNo) (i : ℕ) : Type 0 where
  pub before : (k : ℕ) (g : FibrilNo) → k < i → slice_get q k ≡ Some g → why_of o g ≢ Some w

pub one_further : (o : FibrilOrder) (w : Why) (q : List FibrilNo) (i : ℕ) (f : FibrilNo) → slice_get q i ≡ Some f → why_of o f ≢ Some w → NoneBefore o w q i → NoneBefore o w q (i + 1)
one_further o w q i f there other none = record { before = λ k g less e. by k g less e (cases_eq k i) } where
  by : (k : ℕ) (g : FibrilNo) → k < i + 1 → slice_get q k ≡ Some g → (k ≡ i) ⊎ (k ≢ i) → why_of o g ≢ Some w
  by k g less e (inl same) = let is : f ≡ g = cc (sym there ∙ ap (slice_get q) (sym same) ∙ e) in rw (← is) other
  by k g less e (inr apart) = none.before k g (omega arith) e

pub queue_first : (o : FibrilOrder) (w : Why) (q : List FibrilNo) (i : ℕ) (f : FibrilNo) → IsSound o → IsQueue is_waiting o q → waits (Blocked w) ≡ true → slice_get q i ≡ Some f → why_of o f ≡ Some w → NoneBefore o w q i → first_blocked o w ≡ Some f
queue_first o w q i f sound queue waiting there here none = first_is_found o (Blocked w) f refl sound (first_of_queue is_waiting o (Blocked w) q i f queue (is_waiting_so w waiting) there (why_status (fibril_at o f.0) w here) (λ k g less e is. none.before k g less e (status_why (fibril_at o g.0) w is)))

pub queue_none : (o : FibrilOrder) (w : Why) (q : List FibrilNo) → IsSound o → IsQueue is_waiting o q → waits (Blocked w) ≡ true → NoneBefore o w q (length q) → first_blocked o w ≡ None
queue_none o w q sound queue waiting none = none_of_queue is_waiting o (Blocked w) q sound queue (is_waiting_so w waiting) (λ k g e is. none.before k g (within q k g e) e (status_why (fibril_at o g.0) w is))

-- what the search for a blocked fibril finds is blocked
pub found_blocked : (o : FibrilOrder) (w : Why) (f : FibrilNo) → IsSound o → first_blocked o w ≡ Some f → IsSome (why_of o f)
found_blocked o w f sound e = rw (status_why (fibril_at o f.0) w (first_number o (Blocked w) f sound e).here) refl

-- a fibril leaves the queue of those that wait

waiting_at : (q : Option Fibril) (w : Why) (b : Bool) → why_at q ≡ Some w → waits (Blocked w) ≡ b → passes is_waiting q ≡ b
waiting_at q w b h e = let x = has q (Blocked w) (why_status q w h) in rw (x.there, x.status) e

-- it stands where the search by its number finds it
pub leaves : (o : FibrilOrder) (f : FibrilNo) (q : List FibrilNo) (i : ℕ) → position (λ g. g.0 == f.0) q ≡ Some i → IsQueue is_waiting o q → (i < length q) × IsQueueBut is_waiting o f.0 (remove q i)
leaves o f q i e queue =
    let found = found_place (λ (g : FibrilNo). g.0 == f.0) q i e in
    let same : found.0 ≡ f = ap (λ (n : ℕ). record { 0 = n }) (eqb-true found.0.0 f.0 found.2) in
    let there : slice_get q i ≡ Some f = found.1 ∙ ap Some same in
    (within q i f there, but_removed is_waiting o f q i there queue)

pub stands : (o : FibrilOrder) (f : FibrilNo) (q : List FibrilNo) (w : Why) → why_of o f ≡ Some w → waits (Blocked w) ≡ true → IsQueue is_waiting o q → position (λ g. g.0 == f.0) q ≢ None
stands o f q w h waiting queue e =
    let at = queue.all f.0 (waiting_at (fibril_at o f.0) w true h waiting) in
    let not = none_placed (λ (g : FibrilNo). g.0 == f.0) q e at.0 f at.1 in
    cc (sym not ∙ eq-eqb f.0 f.0 refl)

-- a call that gives one fibril a new status, by what it makes of the queues
stamped : (o : FibrilOrder) (f : FibrilNo) (s : Status) (x : Fibril) (q r : List FibrilNo) (room : ℕ) → IsSound o → fibril_at o f.0 ≡ Some x → is_live x ≡ true → goes_on s ≡ true → count is_live o.fibrils ≤ room → IsQueue is_ready (with_status o f s) q → IsQueue is_waiting (with_status o f s) r → AreQueued (with_status o f s) q r room
stamped o f s x q r room sound there lives goes fits ready waiting = record {
  sound = sound_status o f s x sound there;
  ready = ready;
  waiting = waiting;
  room = rw (live_status o f s (rw there lives) goes) fits;
}

-- the two queues without the present fibril
record WithoutFront (o : FibrilOrder) (f : FibrilNo) (q r : List FibrilNo) : Type 0 where
  pub fibril : Fibril
  pub there : fibril_at o f.0 ≡ Some fibril
  pub status : fibril.status ≡ Ready
  pub lives : is_live fibril ≡ true
  pub ready : IsQueueBut is_ready o f.0 q
  pub waiting : IsQueueBut is_waiting o f.0 r

without_front : (o : FibrilOrder) (f : FibrilNo) (q r : List FibrilNo) (room : ℕ) → AreQueued o (f ∷ q) r room → WithoutFront o f q r
without_front o f q r room queued = let x = front o f q r room queued in record {
  fibril = x.fibril;
  there = x.there;
  status = x.status;
  lives = rw x.status refl;
  ready = but_removed is_ready o f (f ∷ q) 0 refl queued.ready;
  waiting = but_absent is_waiting o f.0 r (rw (x.there, x.status) refl) queued.waiting;
}

-- the present fibril blocks, and waits for a mutex or a phone
pub queue_wait : (o : FibrilOrder) (f : FibrilNo) (q r : List FibrilNo) (room : ℕ) (w : Why) → waits (Blocked w) ≡ true → AreQueued o (f ∷ q) r room → AreQueued (with_status o f (Blocked w)) q (r ++ f ∷ []) room
queue_wait o f q r room w h queued =
    let x = without_front o f q r room queued in
    let alters = stamp_alters o f (Blocked w) x.fibril x.there in
    let after = with_status o f (Blocked w) in
    stamped o f (Blocked w) x.fibril q (r ++ f ∷ []) room queued.sound x.there x.lives refl queued.room (left is_ready o after f.0 _ q alters refl x.ready) (joined is_waiting o after f _ r queued.sound alters refl h x.waiting)

-- it blocks on something else
pub queue_block : (o : FibrilOrder) (f : FibrilNo) (q r : List FibrilNo) (room : ℕ) (w : Why) → waits (Blocked w) ≡ false → AreQueued o (f ∷ q) r room → AreQueued (with_status o f (Blocked w)) q r room
queue_block o f q r room w h queued =
    let x = without_front o f q r room queued in
    let alters = stamp_alters o f (Blocked w) x.fibril x.there in
    let after = with_status o f (Blocked w) in
    stamped o f (Blocked w) x.fibril q r room queued.sound x.there x.lives refl queued.room (left is_ready o after f.0 _ q alters refl x.ready) (left is_waiting o after f.0 _ r alters h x.waiting)

-- it yields
pub queue_yield : (o : FibrilOrder) (f : FibrilNo) (q r : List FibrilNo) (room : ℕ) → AreQueued o (f ∷ q) r room → AreQueued (with_status o f Ready) (q ++ f ∷ []) r room
queue_yield o f q r room queued =
    let x = without_front o f q r room queued in
    let alters = stamp_alters o f Ready x.fibril x.there in
    let after = with_status o f Ready in
    stamped o f Ready x.fibril (q ++ f ∷ []) r room queued.sound x.there x.lives refl queued.room (joined is_ready o after f _ q queued.sound alters refl refl x.ready) (left is_waiting o after f.0 _ r alters refl x.waiting)

-- it has ended, by the words of the call
pub end_named : (o : FibrilOrder) (f : FibrilNo) (q r : List FibrilNo) (room : ℕ) → AreQueued o (f ∷ q) r room → end_current o ≡ put_fibril o (ended f.0)
end_named o f q r room queued = named_over o (first_with Ready o.fibrils) f (queue_current o (f ∷ q) r room queued)

-- and one less goes on
pub live_ended : (o : FibrilOrder) (f : FibrilNo) (q r : List FibrilNo) (room : ℕ) → AreQueued o (f ∷ q) r room → count is_live (put_fibril o (ended f.0)).fibrils ≤ count is_live o.fibrils
live_ended o f q r room queued =
    let x = without_front o f q r room queued in
    less_by (count is_live (put_fibril o (ended f.0)).fibrils) (count is_live o.fibrils) (rw (x.there, x.lives) at ((end_alters o f.0 x.fibril x.there).counts is_live)) where
      less_by : (m k : ℕ) → m + 1 ≡ k + 0 → m ≤ k
      less_by m k e = omega arith

pub queue_end : (o : FibrilOrder) (f : FibrilNo) (q r : List FibrilNo) (room : ℕ) → AreQueued o (f ∷ q) r room → AreQueued (put_fibril o (ended f.0)) q r room
queue_end o f q r room queued =
    let x = without_front o f q r room queued in
    let alters = end_alters o f.0 x.fibril x.there in
    let after = put_fibril o (ended f.0) in
    let few = live_ended o f q r room queued in
    let held = queued.room in
    record {
      sound = subst (λ (p : FibrilOrder). IsSound p) (end_named o f q r room queued) (sound_ended o queued.sound);
      ready = left is_ready o after f.0 (ended f.0) q alters refl x.ready;
      waiting = left is_waiting o after f.0 (ended f.0) r alters refl x.waiting;
      room = omega arith;
    }

-- a blocked fibril is woken, which waits no more
pub queue_wake : (o : FibrilOrder) (f : FibrilNo) (q r s : List FibrilNo) (room : ℕ) → AreQueued o q r room → IsSome (why_of o f) → IsQueueBut is_waiting o f.0 s → AreQueued (with_status o f Ready) (q ++ f ∷ []) s room
queue_wake o f q r s room queued h but =
    let x = blocked (fibril_at o f.0) h in
    let alters = stamp_alters o f Ready x.fibril x.there in
    let after = with_status o f Ready in
    stamped o f Ready x.fibril (q ++ f ∷ []) s room queued.sound x.there x.lives refl queued.room (joined is_ready o after f _ q queued.sound alters refl refl (but_absent is_ready o f.0 q (rw x.there x.rests) queued.ready)) (left is_waiting o after f.0 _ s alters refl but)

pub live_spawned : (o : FibrilOrder) → count is_live (spawned o).fibrils ≡ count is_live o.fibrils + 1
live_spawned o = count_push is_live o.fibrils (record { number = next_number o; status = Ready; stamp = o.next_stamp })

-- a fibril starts
pub queue_spawn : (o : FibrilOrder) (q r : List FibrilNo) (room : ℕ) → AreQueued o q r room → count is_live o.fibrils < room → AreQueued (spawned o) (q ++ next_number o ∷ []) r room
queue_spawn o q r room queued h =
    let new : Fibril = record { number = next_number o; status = Ready; stamp = o.next_stamp } in
    let more = live_spawned o in
    record {
      sound = sound_spawned o queued.sound;
      ready = joined is_ready o (spawned o) (next_number o) new q queued.sound (spawn_alters o) refl refl (but_absent is_ready o (length o.fibrils + 1) q (ap (passes is_ready) (none_next o)) queued.ready);
      waiting = left is_waiting o (spawned o) (length o.fibrils + 1) new r (spawn_alters o) refl (but_absent is_waiting o (length o.fibrils + 1) r (ap (passes is_waiting) (none_next o)) queued.waiting);
      room = omega arith;
    }

-- the room for one more in a queue

pub ready_few : (o : FibrilOrder) (q r : List FibrilNo) (room : ℕ) → AreQueued o q r room → length q ≤ count is_live o.fibrils
ready_few o q r room queued = few_queued is_ready o q ready_lives queued.ready

pub waiting_few : (o : FibrilOrder) (q r : List FibrilNo) (room : ℕ) → AreQueued o q r room → length r ≤ count is_live o.fibrils
waiting_few o q r room queued = few_queued is_waiting o r waiting_lives queued.waiting

pub wake_room : (o : FibrilOrder) (f : FibrilNo) (q r : List FibrilNo) (room : ℕ) → AreQueued o q r room → IsSome (why_of o f) → length q < room
wake_room o f q r room queued h =
    let x = blocked (fibril_at o f.0) h in
    let less = less_queued is_ready o f.0 x.fibril q ready_lives queued.ready x.there x.rests x.lives in
    let held = queued.room in omega arith

pub wait_room : (o : FibrilOrder) (f : FibrilNo) (q r : List FibrilNo) (room : ℕ) → AreQueued o (f ∷ q) r room → length r < room
wait_room o f q r room queued =
    let x = without_front o f q r room queued in
    let less = less_queued is_waiting o f.0 x.fibril r waiting_lives queued.waiting x.there (rw x.status refl) x.lives in
    let held = queued.room in omega arith

-- what a call does to the queue, by the list before and after

pub at_front : (o : FibrilOrder) (q r : List FibrilNo) (f : FibrilNo) (rest : List FibrilNo) (room : ℕ) → AreQueued o q r room → q ≡ f ∷ rest → AreQueued o (f ∷ rest) r room
at_front o q r f rest room queued e = subst (λ (l : List FibrilNo). AreQueued o l r room) e queued

pub found_front : (o : FibrilOrder) (s : Status) (f : FibrilNo) (q r : List FibrilNo) (room : ℕ) → AreQueued o (f ∷ q) r room → with_status o f s ≡ found_with o s (current o)
found_front o s f q r room queued = sym (ap (found_with o s) (queue_current o (f ∷ q) r room queued))

empty : (q : List FibrilNo) → q ≡ drop 1 q → q ≡ []
empty [] e = refl
empty (f ∷ q) e = absurd (longer (length q) (ap length e)) where
  longer : (n : ℕ) → suc n ≡ n → ⊥
  longer n h = omega arith

pub no_current : (o : FibrilOrder) (q r rest : List FibrilNo) (room : ℕ) → AreQueued o q r room → q ≡ rest → rest ≡ drop 1 q → current o ≡ None
no_current o q r rest room queued e h = queue_current o q r room queued ∙ ap (λ (l : List FibrilNo). slice_get l 0) (empty q (e ∙ h))

pub found_none : (o : FibrilOrder) (s : Status) → current o ≡ None → o ≡ found_with o s (current o)
found_none o s e = sym (ap (found_with o s) e)

pub end_none : (o : FibrilOrder) → current o ≡ None → o ≡ end_current o
end_none o e = by (first_with Ready o.fibrils) e where
  by : (q : Option Fibril) → number_of q ≡ None → o ≡ found_over o q
  by None h = refl
  by (Some x) h = absurd (cc h)

-- the room for more fibrils after a call

pub spare_stamped : (s t : FibrilsState) (f : FibrilNo) (status : Status) (held more : ℕ) → GoesOn (fibril_at s.order f.0) → goes_on status ≡ true → t.order ≡ with_status s.order f status → t.spare ≡ s.spare → more ≡ held → spare_of t more ≡ spare_of s held
spare_stamped s t f status held more goes on e same h = rw (h, same, e, live_status s.order f status goes on) refl

pub spare_ended : (s t : FibrilsState) (f : FibrilNo) (q r : List FibrilNo) (held more : ℕ) → AreQueued s.order (f ∷ q) r held → t.order ≡ put_fibril s.order (ended f.0) → s.spare ≤ t.spare → more ≡ held → spare_of s held ≤ spare_of t more
spare_ended s t f q r held more queued e less h = let few = live_ended s.order f q r held queued in rw (h, e) (omega arith)

pub spare_room : (s : FibrilsState) (held : ℕ) → 0 < spare_of s held → count is_live s.order.fibrils < held
spare_room s held h = omega arith
