-- The state of the kernel, and what a step makes of it.
use Rattle.std.specs.Prelude.{ℕ, zero, suc, ◌+◌, ◌-◌, ◌==◌, Bool, true, false, if◌then◌else◌, List, [], ◌∷◌, ◌++◌, Option, refl, slice_get, slice_set, replicate, unwrap_or, length}
use Rattle.std.specs.Option.{option_map_or}
use Rattle.std.specs.Coded.{Coded, code_by, coded×, coded_ℕ, coded_list, coded_bool}
use Rattle.std.specs.FinMap.{len}
use Rattle.ipc_ids.specs.declared.numbers.TaskNo.{TaskNo}
use Rattle.ipc_ids.specs.declared.numbers.Label.{Label}
use Rattle.ipc_ids.specs.declared.message.PhoneState.{PhoneState}
use Rattle.ipc_ids.specs.declared.message.PhoneState.TheVariants.{Free}
use Rattle.ipc_ids.specs.declared.entry.Entry.{Entry}
use Rattle.call_slab.specs.declared.call.Call.{Call}
use Rattle.answerbox.specs.Calls.{CallTable, table_code, no_calls}
use Rattle.phone_table.specs.Phones.{row_at, state_at}
use Rattle.address_space.specs.Memory.{Memory, memory_code, no_memory}
use Rattle.address_space.specs.Memory as spaces

-- for each task, from 1 on, whether it is alive, and the states of its phones
pub record Tasks : Type 0 where
  pub alive : List Bool
  pub phones : List (List PhoneState)

-- The state of the kernel. An event is one system call of one task.
pub record KernelState : Type 0 where
  pub tasks : Tasks
  pub calls : CallTable
  pub memory : Memory
  pub events : ℕ

-- what a switchboard stands for: the state, for how many more calls there is room, and how many
-- tasks have places in the boxes
pub record BoardState : Type 0 where
  pub state : KernelState
  pub spare : ℕ
  pub places : ℕ

-- the state after a step, and the entries that tell of it
pub record Transition : Type 0 where
  pub state : KernelState
  pub entries : List Entry

-- no task, no call, no area and no event
abbrev pub start : KernelState
start = record { tasks = record { alive = []; phones = [] }; calls = no_calls; memory = no_memory; events = 0 }

-- the state of these parts
abbrev pub state_from : List Bool → List (List PhoneState) → CallTable → Memory → ℕ → KernelState
state_from alive phones calls memory events = record { tasks = record { alive = alive; phones = phones }; calls = calls; memory = memory; events = events }

-- whether this is the number of a task that has not ended; tasks are numbered from 1
abbrev pub alive_in : List Bool → ℕ → Bool
alive_in alive t = if t == 0 then false else unwrap_or (slice_get alive (t - 1)) false

abbrev pub is_alive : KernelState → TaskNo → Bool
is_alive k t = alive_in k.tasks.alive t.0

-- the state of phone p of task t, where t has it
abbrev pub phone_at : KernelState → TaskNo → ℕ → Option PhoneState
phone_at k t p = state_at k.tasks.phones t.0 p

-- how many phones task t has
abbrev pub width : List (List PhoneState) → ℕ → ℕ
width rows t = option_map_or (λ row. length row) (row_at rows t) 0

abbrev pub label_of : TaskNo → ℕ → Label
label_of t p = record { task = t; phone = record { 0 = p } }

-- one task more, with so many free phones and no areas
abbrev pub with_task : KernelState → ℕ → KernelState
with_task k limit =
    record {
      tasks = record { alive = k.tasks.alive ++ true ∷ []; phones = k.tasks.phones ++ replicate limit Free ∷ [] };
      calls = k.calls;
      memory = spaces.with_task k.memory;
      events = k.events;
    }

-- task t has ended
abbrev pub mark_ended : KernelState → TaskNo → KernelState
mark_ended k t =
    record {
      tasks = record { alive = slice_set k.tasks.alive (t.0 - 1) false; phones = k.tasks.phones };
      calls = k.calls;
      memory = k.memory;
      events = k.events;
    }

-- the rows of phones, where phone p of task t is in this state
abbrev pub with_state_at : List (List PhoneState) → ℕ → ℕ → PhoneState → List (List PhoneState)
with_state_at rows t p state = option_map_or (λ row. slice_set rows (t - 1) (slice_set row p state)) (row_at rows t) rows

abbrev pub with_phone : KernelState → TaskNo → ℕ → PhoneState → KernelState
with_phone k t p state =
    record {
      tasks = record { alive = k.tasks.alive; phones = with_state_at k.tasks.phones t.0 p state };
      calls = k.calls;
      memory = k.memory;
      events = k.events;
    }

abbrev pub with_calls : KernelState → CallTable → KernelState
with_calls k calls = record { tasks = k.tasks; calls = calls; memory = k.memory; events = k.events }

abbrev pub with_memory : KernelState → Memory → KernelState
with_memory k memory = record { tasks = k.tasks; calls = k.calls; memory = memory; events = k.events }

-- one event more
abbrev pub with_event : KernelState → KernelState
with_event k = record { tasks = k.tasks; calls = k.calls; memory = k.memory; events = k.events + 1 }

-- how many calls are live
abbrev pub live_calls : KernelState → ℕ
live_calls k = len k.calls.records

-- nothing changes
abbrev pub nothing : KernelState → Transition
nothing k = record { state = k; entries = [] }

-- a step, and then another on what it leaves
abbrev pub then_do : Transition → (KernelState → Transition) → Transition
then_do before next = record { state = (next before.state).state; entries = before.entries ++ (next before.state).entries }

-- a step for each call that is next, so many at most
abbrev pub drain : (KernelState → Option Call) → (KernelState → Call → Transition) → ℕ → KernelState → Transition
drain next step zero k = nothing k
drain next step (suc most) k = option_map_or (λ c. then_do (step k c) (drain next step most)) (next k) (nothing k)

-- a step for each of so many numbers, from i on
abbrev pub each : (KernelState → ℕ → Transition) → ℕ → ℕ → KernelState → Transition
each step zero i k = nothing k
each step (suc most) i k = then_do (step k i) (each step most (i + 1))

-- how states are told apart, by codes of phone states and of records
abbrev pub tasks_code : Coded PhoneState → Coded Tasks
tasks_code phone =
    code_by (List Bool × List (List PhoneState)) (coded× (coded_list coded_bool) (coded_list (coded_list phone))) (λ t. (t.alive, t.phones)) (λ p. record { alive = p.0; phones = p.1 }) (λ _. refl)

abbrev pub state_code : Coded PhoneState → Coded Call → Coded KernelState
state_code phone call =
    code_by (Tasks × (CallTable × (Memory × ℕ))) (coded× (tasks_code phone) (coded× (table_code call) (coded× memory_code coded_ℕ))) (λ k. (k.tasks, (k.calls, (k.memory, k.events)))) (λ p. record { tasks = p.0; calls = p.1.0; memory = p.1.1.0; events = p.1.1.1 }) (λ _. refl)

abbrev pub board_code : Coded PhoneState → Coded Call → Coded BoardState
board_code phone call = code_by (KernelState × (ℕ × ℕ)) (coded× (state_code phone call) (coded× coded_ℕ coded_ℕ)) (λ b. (b.state, (b.spare, b.places))) (λ p. record { state = p.0; spare = p.1.0; places = p.1.1 }) (λ _. refl)
