-- What holds of each sound state by itself.
use Rattle.std.specs.Prelude.{◌≡◌, ℕ, Some}
use Rattle.ipc_ids.specs.declared.numbers.Label.{Label}
use Rattle.ipc_ids.specs.declared.numbers.TaskNo.{TaskNo}
use Rattle.ipc_ids.specs.declared.message.PhoneState.TheVariants.{Connecting}
use Rattle.ipc_ids.specs.Methods.{connect_to_me, connect_me_to}
use Rattle.call_slab.specs.declared.call.Call.{Call}
use Rattle.answerbox.specs.Calls.{call_at}
use Rattle.switchboard.specs.State.{KernelState, phone_at}
use Rattle.kernel_laws.specs.Connecting.{IsUnconnected}
use Rattle.kernel_laws.specs.HeldCalls.{IsHeld}

-- the phones that are kept for connect calls: that of a CONNECT_ME_TO is one of its caller, and waits for its
-- connection until the call is accepted; that of a CONNECT_TO_ME is one of the task that holds it
pub record KeepTheirPhones (k : KernelState) : Type 0 where
  pub caller : (n : ℕ) (c : Call) (u : TaskNo) (l : Label) → call_at k.calls n ≡ Some c
      → c.request.method ≡ connect_me_to → c.caller ≡ Some u → c.reserved ≡ Some l → l.task ≡ u
  pub waits : (n : ℕ) (c : Call) (l : Label) → call_at k.calls n ≡ Some c → IsUnconnected c l
      → phone_at k l.task l.phone.0 ≡ Some Connecting
  pub holder : (t : TaskNo) (n : ℕ) (c : Call) (l : Label) → IsHeld t k n c → c.request.method ≡ connect_to_me
      → c.reserved ≡ Some l → l.task ≡ t
