-- What a forward by task t of call n over its phone p comes to in any state, be it sound or not.
use Rattle.std.specs.Prelude.{◌≡◌, ℕ, true, Option, Some}
use Rattle.ipc_ids.specs.declared.numbers.TaskNo.{TaskNo}
use Rattle.ipc_ids.specs.declared.numbers.Code.{Code}
use Rattle.ipc_ids.specs.declared.message.Msg.{Msg}
use Rattle.ipc_ids.specs.declared.message.Outcome.TheVariants as outcome
use Rattle.ipc_ids.specs.Codes.{enoent, eperm, eforward}
use Rattle.call_slab.specs.declared.call.Call.{Call}
use Rattle.call_slab.specs.declared.call.Place.TheVariants.{Answers}
use Rattle.answerbox.specs.Calls.{call_at}
use Rattle.switchboard.specs.State.{KernelState, is_alive}
use Rattle.switchboard.specs.Serving.{Served}
use Rattle.kernel_laws.specs.CallCodes.{own_reply}
use Rattle.kernel_laws.specs.HeldCalls.{IsHeld, MayPass}
use Rattle.kernel_laws.specs.Routes.{Leads}

-- the request is refused with this code, and no call changes
pub record IsRefused (code : Code) (before : KernelState) (done : Served) : Type 0 where
  pub told : done.outcome ≡ outcome.Refused code
  pub calls : done.state.calls ≡ before.calls

-- the forward of this call is refused with this code: its caller, where it is alive, has the kernel's answer EFORWARD
pub record IsFailed (code : Code) (c : Call) (before : KernelState) (done : Served) : Type 0 where
  pub told : done.outcome ≡ outcome.Refused code
  pub answered : (u : TaskNo) → c.caller ≡ Some u → is_alive before u ≡ true → (d : Call)
      × (call_at done.state.calls c.number.0 ≡ Some d) × (d.place ≡ Answers u) × (d.reply ≡ own_reply eforward)

-- each cause in its order
pub record HasFirstCause (t : TaskNo) (n p : ℕ) (change : Option Msg) (before : KernelState) (done : Served)
    : Type 0 where
  -- without such a call nothing changes
  pub unheld : ((c : Call) → IsHeld t before n c → ⊥) → IsRefused enoent before done
  -- a call that may not be passed on fails, whatever the phone is
  pub forbidden : (c : Call) → IsHeld t before n c → (MayPass change c → ⊥) → IsFailed eperm c before done
  -- and else one over a phone that leads nowhere
  pub dead : (c : Call) → IsHeld t before n c → MayPass change c → ((u : TaskNo) → Leads before t p u → ⊥)
      → IsFailed enoent c before done
  -- every other one is passed on
  pub passed : (c : Call) (u : TaskNo) → IsHeld t before n c → MayPass change c → Leads before t p u
      → done.outcome ≡ outcome.Done
