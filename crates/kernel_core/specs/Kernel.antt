-- The events: a system call of task t, a kill of it, and a task that is made; and what a kernel keeps from event to
-- event.
use Rattle.std.specs.Prelude.{ℕ, ◌+◌, ◌*◌, ◌^◌, ◌≤◌, if◌then◌else◌, length, Option, None, Some, [], ◌∷◌}
use Rattle.ipc_ids.specs.declared.numbers.TaskNo.{TaskNo}
use Rattle.ipc_ids.specs.declared.message.PhoneState.TheVariants.{Connected}
use Rattle.ipc_ids.specs.declared.entry.Entry.TheVariants as entry
use Rattle.ipc_ids.specs.declared.message.Request.{Request}
use Rattle.switchboard.specs.State.{KernelState, Transition, is_alive, label_of, with_task, with_phone, with_event}
use Rattle.switchboard.specs.Sound.{IsSound}
use Rattle.cleanup.specs.Kill.{kill}
use Rattle.switchboard.specs.Serving.{Served}
use Rattle.kernel_core.specs.Request.{serve_request}

-- one event more
abbrev pub and_event : Served → Served
and_event served = record { state = with_event served.state; outcome = served.outcome; entries = served.entries }

abbrev pub serve : KernelState → TaskNo → Request → Served
serve k t request = and_event (serve_request k t request)

-- a task that is alive is killed
abbrev pub kill_event : KernelState → TaskNo → Transition
kill_event k t = record { state = with_event (kill k t).state; entries = (kill k t).entries }

-- the number of the next task
abbrev pub next_task : KernelState → TaskNo
next_task k = record { 0 = length k.tasks.alive + 1 }

-- the task, where it is given and has not ended
abbrev pub named : KernelState → Option TaskNo → Option TaskNo
named k None = None
named k (Some u) = if is_alive k u then Some u else None

-- task t is made, with so many free phones, the first of which leads to a task where one is given
abbrev pub spawning : KernelState → TaskNo → ℕ → Option TaskNo → Transition
spawning k t limit None = record { state = with_task k limit; entries = entry.Spawn t ∷ [] }
spawning k t limit (Some u) =
    record {
      state = with_phone (with_task k limit) t 0 (Connected u);
      entries = entry.Spawn t ∷ entry.PhoneIs (label_of t 0) (Connected u) ∷ [];
    }

abbrev pub spawn : KernelState → ℕ → Option TaskNo → Transition
spawn k limit names = spawning k (next_task k) limit (named k names)

-- the next task is made
abbrev pub spawn_event : KernelState → ℕ → Option TaskNo → Transition
spawn_event k limit names = record { state = with_event (spawn k limit names).state; entries = (spawn k limit names).entries }

-- What a kernel keeps: a sound state, with 64 tasks at most. Each event gives few numbers and stamps: a kill a number
-- for each phone of the task, and two stamps at most for each live call. It makes one store at most.
pub record IsSteady (k : KernelState) : Type 0 where
  pub sound : IsSound k
  pub tasks : length k.tasks.alive ≤ 64
  pub numbers : k.calls.next_number ≤ 64 * k.events + 1
  pub stamps : k.calls.next_stamp ≤ 2 ^ 32 * k.events + 1
  pub stores : k.memory.next_store ≤ k.events + 1
