-- Which answers a task waits for, and which call of some came first.
use Rattle.std.specs.Prelude.{◌≡◌, ℕ, ◌≤◌, Some}
use Rattle.ipc_ids.specs.declared.numbers.TaskNo.{TaskNo}
use Rattle.ipc_ids.specs.Methods.{phone_hungup}
use Rattle.call_slab.specs.declared.call.Call.{Call}
use Rattle.call_slab.specs.declared.call.Place.TheVariants.{Answers}
use Rattle.answerbox.specs.Calls.{CallTable, call_at}

-- the call is an answer at task t that its caller waits for
pub record IsAwaited (t : TaskNo) (c : Call) : Type 0 where
  pub place : c.place ≡ Answers t
  pub wanted : c.request.method ≡ phone_hungup → ⊥

-- the call is the answer of a hangup, at task t
pub record IsHangupAnswer (t : TaskNo) (c : Call) : Type 0 where
  pub place : c.place ≡ Answers t
  pub hangup : c.request.method ≡ phone_hungup

-- of the live calls that are so, this came first
pub record IsFirst (calls : CallTable) (IsSo : Call → Type 0) (c : Call) : Type 0 where
  pub live : call_at calls c.number.0 ≡ Some c
  pub so : IsSo c
  pub least : (n : ℕ) (d : Call) → call_at calls n ≡ Some d → IsSo d → c.stamp ≤ d.stamp

-- no live call is so
abbrev pub HasNone : CallTable → (Call → Type 0) → Type 0
HasNone calls IsSo = (n : ℕ) (c : Call) → call_at calls n ≡ Some c → IsSo c → ⊥
