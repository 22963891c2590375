-- Which call a task holds, and whether it may be passed on.
use Rattle.std.specs.Prelude.{◌≡◌, ℕ, ◌≤◌, Option, Some}
use Rattle.ipc_ids.specs.declared.numbers.TaskNo.{TaskNo}
use Rattle.ipc_ids.specs.declared.message.Msg.{Msg}
use Rattle.ipc_ids.specs.Methods.{phone_hungup, first_user_method}
use Rattle.call_slab.specs.declared.call.Call.{Call}
use Rattle.call_slab.specs.declared.call.Place.TheVariants.{Dispatched}
use Rattle.answerbox.specs.Calls.{call_at}
use Rattle.switchboard.specs.State.{KernelState}

-- task t holds call n
abbrev pub IsHeld : TaskNo → KernelState → ℕ → Call → Type 0
IsHeld t k n c = (call_at k.calls n ≡ Some c) × (c.place ≡ Dispatched t)

-- the call may be passed on with this change: it tells of no hangup, and a user's call stays one
pub record MayPass (change : Option Msg) (c : Call) : Type 0 where
  pub asks : c.request.method ≡ phone_hungup → ⊥
  pub user : (msg : Msg) → change ≡ Some msg → first_user_method ≤ c.request.method → first_user_method ≤ msg.method
