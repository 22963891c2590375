-- The room that the end of task t takes at most, counted from the phones, the calls and the areas that it can touch.
use Rattle.std.specs.Prelude.{ℕ, zero, suc, ◌+◌, ◌*◌, ◌==◌, ◌&&◌, if◌then◌else◌, List, length}
use Rattle.ipc_ids.specs.declared.numbers.TaskNo.{TaskNo}
use Rattle.ipc_ids.specs.declared.message.PhoneState.{PhoneState}
use Rattle.std.specs.FinMap.{entries}
use Rattle.call_slab.specs.declared.call.Place.{Place}
use Rattle.call_slab.specs.declared.call.Place.TheVariants.{Incoming, Dispatched, Answers}
use Rattle.answerbox.specs.Calls.{CallTable, same_place, count_of, calls_at, calls_by}
use Rattle.phone_table.specs.Phones.{state_at}
use Rattle.address_space.specs.Memory.{count_areas}
use Rattle.switchboard.specs.State.{KernelState, width}
use Rattle.switchboard.specs.Joins.{lives}
use Rattle.switchboard.specs.Rooms.{tells_two, calls_of_hangup, entries_of_hangup, leads_to}

-- the sum of these for so many numbers, from i on
abbrev pub total : (ℕ → ℕ) → ℕ → ℕ → ℕ
total f zero i = 0
total f (suc most) i = f i + total f most (i + 1)

-- how many calls and entries the hangups of the phones of task t make
abbrev pub own_calls : List (List PhoneState) → TaskNo → ℕ
own_calls rows t = total (λ p. calls_of_hangup (state_at rows t.0 p)) (width rows t.0) 0

abbrev pub own_entries : List (List PhoneState) → TaskNo → ℕ
own_entries rows t = total (λ p. entries_of_hangup (state_at rows t.0 p)) (width rows t.0) 0

-- how many phones of the task numbered u lead to task t
abbrev pub leading_of : TaskNo → List (List PhoneState) → ℕ → ℕ
leading_of t rows u = total (λ p. leads_to t (state_at rows u p)) (width rows u) 0

-- likewise of the task numbered i + 1, unless it is itself task t
abbrev pub leading_at : TaskNo → List (List PhoneState) → ℕ → ℕ
leading_at t rows i = if i + 1 == t.0 then 0 else leading_of t rows (i + 1)

-- how many phones of other tasks lead to task t
abbrev pub leading : TaskNo → List (List PhoneState) → ℕ
leading t rows = total (leading_at t rows) (length rows) 0

-- how many calls the end of task t makes: those of its hangups
abbrev pub kill_calls : KernelState → TaskNo → ℕ
kill_calls k t = own_calls k.tasks.phones t

-- how many calls at this place the kernel answers
abbrev pub moves_at : KernelState → Place → ℕ
moves_at k place = count_of (λ c. same_place c.place place && lives k c.caller) (entries k.calls.records)

-- how many entries there are at most as the calls at this place are settled
abbrev pub entries_at : KernelState → Place → ℕ
entries_at k place = calls_at k.calls place + count_of (λ c. same_place c.place place && tells_two k c) (entries k.calls.records)

-- how many times it puts a call at a place: those of its hangups, and the calls that wait at t or that t holds
abbrev pub moves_of : List (List PhoneState) → CallTable → TaskNo → ℕ
moves_of rows calls t = own_calls rows t + calls_at calls (Incoming t) + calls_at calls (Dispatched t)

abbrev pub kill_moves : KernelState → TaskNo → ℕ
kill_moves k t = moves_of k.tasks.phones k.calls t

-- how many entries its phones and calls make: those of its hangups, one for each phone that is slammed, two for each call
-- at t, one for each call of t, and one for each call of a hangup
abbrev pub phone_and_call_entries : KernelState → TaskNo → ℕ
phone_and_call_entries k t = own_entries k.tasks.phones t + leading t k.tasks.phones + 2 * (calls_at k.calls (Incoming t) + calls_at k.calls (Dispatched t) + calls_at k.calls (Answers t)) + calls_by k.calls t + own_calls k.tasks.phones t

-- how many entries it makes: those, and one for each area of t
abbrev pub kill_entries : KernelState → TaskNo → ℕ
kill_entries k t = phone_and_call_entries k t + count_areas k.memory t
