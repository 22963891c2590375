-- What a kernel keeps from event to event.
use Rattle.std.proofs.Common.{◌≡◌, refl, ℕ, ◌+◌, ◌-◌, ◌*◌, ◌^◌, ◌<◌, ◌≤◌, Bool, true, false, List, [], ◌∷◌, ◌++◌, length, length-append, arith, subst, sym}
use Rattle.std.proofs.lemmas.List.{length-set}
use Rattle.std.specs.Prelude.{Some, Result, Ok, Err, OnOk, OnErr}
use Rattle.ipc_ids.specs.declared.numbers.TaskNo.{TaskNo}
use Rattle.ipc_ids.specs.declared.message.Request.{Request}
use Rattle.ipc_ids.specs.declared.message.PhoneState.TheVariants.{Free, Connected}
use Rattle.switchboard.specs.State.{KernelState, live_calls, start, is_alive, phone_at, with_task, with_phone, with_event}
use Rattle.switchboard.specs.Sound.{IsSound}
use Rattle.switchboard.proofs.SoundStates.{sound_start, kept_task, kept_wired}
use Rattle.cleanup.proofs.Killing.{sound_kill, kill_marks}
use Rattle.answerbox.proofs.Counts.{active-len}
use Rattle.switchboard.specs.Board.{FewActive}
use Rattle.kernel_core.specs.Kernel.{IsSteady, serve, kill_event}
use Rattle.cleanup.specs.Kill.{kill}
use Rattle.cleanup.specs.KillRoom.{kill_calls, kill_moves}
use Rattle.cleanup.proofs.KillRoom.{few_moves}
use Rattle.kernel_core.specs.Request.{serve_request}
use Rattle.kernel_core.proofs.Serving.{sound_serve}
use Rattle.kernel_core.proofs.Stores.{serve_stores, kill_stores}

pub steady_start : IsSteady start
steady_start = record { sound = sound_start; tasks = omega arith; numbers = omega arith; stamps = omega arith; stores = omega arith }

pub steady_task : (k : KernelState) (limit : ℕ) → length k.tasks.alive < 64 → IsSteady k → IsSteady (with_task k limit)
steady_task k limit few s = record { sound = kept_task k limit s.sound; tasks = one_more k.tasks.alive few; numbers = s.numbers; stamps = s.stamps; stores = s.stores } where
  one_more : (alive : List Bool) → length alive < 64 → length (alive ++ true ∷ []) ≤ 64
  one_more alive less = rw (length-append alive (true ∷ [])) (omega arith)

pub steady_wire : (k : KernelState) (t : TaskNo) (p : ℕ) (u : TaskNo) → IsSteady k → is_alive k t ≡ true → is_alive k u ≡ true → phone_at k t p ≡ Some Free → IsSteady (with_phone k t p (Connected u))
steady_wire k t p u s alive target free = record { sound = kept_wired k t p u s.sound alive target free; tasks = s.tasks; numbers = s.numbers; stamps = s.stamps; stores = s.stores }

pub sound_kill_event : (k : KernelState) (t : TaskNo) → IsSteady k → is_alive k t ≡ true → IsSound (kill_event k t).state
sound_kill_event k t s alive = let after = sound_kill k t s.sound alive in record { calls = after.calls; tasks = after.tasks; kept = after.kept; keepers = after.keepers; memory = after.memory }

-- the state after a system call, from what it gives at most
pub steady_serve : (k j : KernelState) (t : TaskNo) (request : Request) → IsSteady k → is_alive k t ≡ true
    → j ≡ (serve k t request).state → j.tasks.alive ≡ k.tasks.alive
    → j.events ≡ k.events + 1 → j.calls.next_number ≤ 64 * j.events + 1 → j.calls.next_stamp ≤ 2 ^ 32 * j.events + 1 → IsSteady j
steady_serve k j t request s alive is same events numbers stamps =
    record {
      sound = subst IsSound (sym is) (sound_serve k t request s.sound alive);
      tasks = rw same s.tasks;
      numbers = numbers;
      stamps = stamps;
      stores = let more : j.memory.next_store ≤ k.memory.next_store + 1 = rw is (serve_stores k t request) in omega (arith, more, events, s.stores);
    }

-- the state after a kill
pub steady_kill : (k j : KernelState) (t : TaskNo) → IsSteady k → is_alive k t ≡ true
    → j ≡ (kill_event k t).state
    → j.events ≡ k.events + 1 → j.calls.next_number ≤ 64 * j.events + 1 → j.calls.next_stamp ≤ 2 ^ 32 * j.events + 1 → IsSteady j
steady_kill k j t s alive is events numbers stamps =
    record {
      sound = subst IsSound (sym is) (sound_kill_event k t s alive);
      tasks = rw (is, kill_marks k t, length-set k.tasks.alive (t.0 - 1) false) s.tasks;
      numbers = numbers;
      stamps = stamps;
      stores = let same : j.memory.next_store ≡ k.memory.next_store = rw is (kill_stores k t) in omega (arith, same, events, s.stores);
    }

-- what holds of the old state, and of the state that is done, holds of the new one
pub by_answer : {A E : Type 0} (r : Result A E) (P : KernelState → Type 0) (old new done : KernelState)
    → OnOk r (new ≡ done) → OnErr r (new ≡ old) → P old → P done → P new
by_answer (Ok a) P old new done is same before after = subst P (sym is) after
by_answer (Err e) P old new done is same before after = subst P (sym same) before

-- the state after a system call, step by step: there is room, the request is served, the event is counted
pub served_after : (k ready served j : KernelState) (t : TaskNo) (request : Request)
    → ready ≡ k → served ≡ (serve_request ready t request).state → j ≡ with_event served → j ≡ (serve k t request).state
served_after k ready served j t request room does counts = rw (counts, does, room) refl

pub steady_served : (k ready served j : KernelState) (t : TaskNo) (request : Request) → IsSteady k → is_alive k t ≡ true
    → ready ≡ k → served ≡ (serve_request ready t request).state → j ≡ with_event served
    → served.calls.next_number ≤ ready.calls.next_number + 1
    → served.calls.next_stamp ≤ ready.calls.next_stamp + 1
    → served.tasks.alive ≡ ready.tasks.alive
    → served.events ≡ ready.events
    → IsSteady j
steady_served k ready served j t request s alive room does counts numbers stamps marks events =
    let few = rw room at numbers in
    let later = rw room at stamps in
    let kept = rw room at marks in
    let same = rw room at events in
    steady_serve k j t request s alive (served_after k ready served j t request room does counts)
    (rw counts kept)
    (rw counts (omega (arith, same)))
    (rw counts (omega (arith, few, same, s.numbers)))
    (rw counts (omega (arith, later, same, s.stamps)))

-- the state after a kill, step by step
pub killed_after : (k killed j : KernelState) (t : TaskNo) → killed ≡ (kill k t).state → j ≡ with_event killed → j ≡ (kill_event k t).state
killed_after k killed j t does counts = rw (counts, does) refl

pub steady_killed : (k killed j : KernelState) (t : TaskNo) → IsSteady k → is_alive k t ≡ true → k.events < 2 ^ 24
    → live_calls k < k.calls.next_number
    → killed ≡ (kill k t).state → j ≡ with_event killed
    → killed.calls.next_number ≤ k.calls.next_number + kill_calls k t
    → killed.calls.next_stamp ≤ k.calls.next_stamp + kill_moves k t
    → kill_calls k t ≤ 64
    → killed.events ≡ k.events
    → IsSteady j
steady_killed k killed j t s alive few_events live does counts numbers stamps few events =
    let moves = few_moves k t in
    steady_kill k j t s alive (killed_after k killed j t does counts)
    (rw counts (omega (arith, events)))
    (rw counts (omega (arith, numbers, few, events, s.numbers)))
    (rw counts (omega (arith, stamps, moves, few, events, s.numbers, s.stamps, few_events, live)))

-- no phone has more active calls than there are calls
pub few_active : (k : KernelState) → IsSteady k → k.events < 2 ^ 24 → live_calls k < k.calls.next_number → FewActive k
few_active k s few live l = let most = active-len k.calls l in omega (arith, most, live, s.numbers, few)

-- so few stores were made that one more has a number
pub few_stores : (k : KernelState) → IsSteady k → k.events < 2 ^ 24 → k.memory.next_store ≤ 2 ^ 32
few_stores k s few = omega (arith, few, s.stores)
