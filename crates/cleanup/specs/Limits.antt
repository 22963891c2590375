-- How many calls are active on each phone at most, the hangups among them told apart.
use Rattle.std.specs.Prelude.{◌≡◌, ℕ, ◌≤◌, ◌&&◌, ⊤, not, Option, None, Some, slice_get}
use Rattle.std.specs.FinMap.{entries}
use Rattle.ipc_ids.specs.declared.numbers.TaskNo.{TaskNo}
use Rattle.ipc_ids.specs.declared.numbers.Label.{Label}
use Rattle.ipc_ids.specs.declared.message.PhoneState.{PhoneState}
use Rattle.ipc_ids.specs.declared.message.PhoneState.TheVariants.{Free, Connecting, Connected, HungUp, Slammed}
use Rattle.answerbox.specs.Calls.{CallTable, is_hangup, count_of, is_active_on, active_calls}
use Rattle.phone_table.specs.Phones.{Row, state_at}
use Rattle.switchboard.specs.State.{KernelState, phone_at, label_of}
use Rattle.switchboard.specs.Counts.{label_at}

-- how many live calls are active on this phone and wait for an answer
abbrev pub awaited_calls : CallTable → Label → ℕ
awaited_calls calls l = count_of (λ c. is_active_on l c && not (is_hangup c)) (entries calls.records)

-- how many live calls are active on this phone and tell of a hangup
abbrev pub hangup_calls : CallTable → Label → ℕ
hangup_calls calls l = count_of (λ c. is_active_on l c && is_hangup c) (entries calls.records)

-- over this phone, if there is one, no call goes out
abbrev pub IsIdle : Option PhoneState → Type 0
IsIdle None = ⊤
IsIdle (Some Free) = ⊤
IsIdle (Some Connecting) = ⊤
IsIdle (Some (Connected u)) = ⊥
IsIdle (Some HungUp) = ⊥
IsIdle (Some Slammed) = ⊥

-- each phone has few active calls
pub record IsWithinLimits (k : KernelState) : Type 0 where
  -- at most 64 that wait for an answer
  pub awaited : (t p : ℕ) → awaited_calls k.calls (label_at t p) ≤ 64
  -- and one more that tells of a hangup, where the phone was hung up
  pub hangups : (t p : ℕ) → hangup_calls k.calls (label_at t p) ≤ 1
  pub hung_up : (t p : ℕ) → 1 ≤ hangup_calls k.calls (label_at t p) →
      state_at k.tasks.phones t p ≡ Some HungUp
  -- and none where no call goes out
  pub idle : (t p : ℕ) → IsIdle (state_at k.tasks.phones t p) →
      active_calls k.calls (label_at t p) ≡ 0

-- the row has the phones of task t, and counts their active calls
pub record IsRowOf (k : KernelState) (t : TaskNo) (row : Row) : Type 0 where
  pub states : (p : ℕ) → slice_get row.states p ≡ phone_at k t p
  pub counts : (p n : ℕ) → slice_get row.counts p ≡ Some n →
      n ≡ active_calls k.calls (label_of t p)
