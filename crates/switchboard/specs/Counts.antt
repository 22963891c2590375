-- The counts of active calls at the phones, and what the calls and the counts keep.
use Rattle.std.specs.Prelude.{◌≡◌, ℕ, ◌-◌, ◌<◌, ◌≤◌, List, Option, Some, IsSome, slice_get, slice_set, if◌then◌else◌}
use Rattle.std.specs.Option.{option_map_or}
use Rattle.std.specs.FinMap.{len}
use Rattle.ipc_ids.specs.declared.numbers.TaskNo.{TaskNo}
use Rattle.ipc_ids.specs.declared.numbers.Label.{Label}
use Rattle.ipc_ids.specs.declared.message.PhoneState.{PhoneState}
use Rattle.call_slab.specs.declared.call.Call.{Call}
use Rattle.answerbox.specs.Calls.{CallTable, call_at, active_calls, is_caller, used}
use Rattle.ipc_ids.specs.Tables.{most_buffered}
use Rattle.phone_table.specs.Phones.{row_at, state_at, count_at}

abbrev pub label_at : ℕ → ℕ → Label
label_at t p = record { task = record { 0 = t }; phone = record { 0 = p } }

-- the count at phone p of task t changes, where there is one
abbrev pub count_changed : (ℕ → ℕ) → List ℕ → ℕ → List ℕ
count_changed change row p = option_map_or (λ n. slice_set row p (change n)) (slice_get row p) row

abbrev pub recount : (ℕ → ℕ) → List (List ℕ) → ℕ → ℕ → List (List ℕ)
recount change rows t p = option_map_or (λ row. slice_set rows (t - 1) (count_changed change row p)) (row_at rows t) rows

-- the counts after a call over this phone has left, or has lost its caller
abbrev pub counts_without : List (List ℕ) → Option TaskNo → Label → List (List ℕ)
counts_without counts caller from = if is_caller from.task caller then recount (λ n. n - 1) counts from.task.0 from.phone.0 else counts

-- the count at each phone is that of its active calls
abbrev pub IsCounted : List (List ℕ) → CallTable → Type 0
IsCounted counts calls = (t p n : ℕ) → count_at counts t p ≡ Some n → n ≡ active_calls calls (label_at t p)

-- each call stands under its number
abbrev pub AreNumbered : CallTable → Type 0
AreNumbered calls = (n : ℕ) (c : Call) → call_at calls n ≡ Some c → c.number.0 ≡ n

-- each call has its number and a phone, each phone has a right count, there are fewer calls than numbers given, and
-- they carry few bytes
pub record HasCounts (phones : List (List PhoneState)) (counts : List (List ℕ)) (calls : CallTable) : Type 0 where
  pub numbered : AreNumbered calls
  pub over_phone : (n : ℕ) (c : Call) → call_at calls n ≡ Some c → IsSome (state_at phones c.from.task.0 c.from.phone.0)
  pub shaped : (t p : ℕ) → IsSome (state_at phones t p) → IsSome (count_at counts t p)
  pub counted : IsCounted counts calls
  pub few : len calls.records < calls.next_number
  pub bytes : used calls ≤ most_buffered
