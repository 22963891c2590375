-- Which phones may be kept for a connect call.
use Rattle.std.specs.Prelude.{◌≡◌, ℕ, ◌⊎◌, Some}
use Rattle.ipc_ids.specs.declared.numbers.TaskNo.{TaskNo}
use Rattle.ipc_ids.specs.declared.message.PhoneState.TheVariants.{Free, HungUp}
use Rattle.answerbox.specs.Calls.{CallTable}
use Rattle.switchboard.specs.State.{KernelState, phone_at}
use Rattle.kernel_laws.specs.ActiveCalls.{IsActive}

-- no call is active over phone p of task t
abbrev pub HasNoActive : CallTable → TaskNo → ℕ → Type 0
HasNoActive calls t p = (n : ℕ) → IsActive calls t p n → ⊥

-- phone p of task t is usable, where these calls are live: it is free, or it was hung up and no call is active over it
abbrev pub IsUsable : KernelState → CallTable → TaskNo → ℕ → Type 0
IsUsable k calls t p = (phone_at k t p ≡ Some Free) ⊎ ((phone_at k t p ≡ Some HungUp) × HasNoActive calls t p)
