-- All that a forward does: who holds the call, whether it may be passed on, where it goes, and what the next task sees.
use Rattle.std.specs.Prelude.{◌≡◌, ℕ, ◌<◌, ◌≤◌, ◌⊎◌, List, ◌∷◌, slice_index, Option, None, Some}
use Rattle.ipc_ids.specs.declared.numbers.Code.{Code}
use Rattle.ipc_ids.specs.declared.numbers.Label.{Label}
use Rattle.ipc_ids.specs.declared.numbers.TaskNo.{TaskNo}
use Rattle.ipc_ids.specs.declared.message.Mode.{Mode}
use Rattle.ipc_ids.specs.declared.message.Msg.{Msg}
use Rattle.ipc_ids.specs.declared.message.PhoneState.TheVariants.{Free}
use Rattle.ipc_ids.specs.declared.message.Outcome.TheVariants as outcome
use Rattle.ipc_ids.specs.declared.entry.Entry.{Entry}
use Rattle.ipc_ids.specs.declared.entry.Entry.TheVariants as entry
use Rattle.ipc_ids.specs.Codes.{enoent, eperm, eforward}
use Rattle.ipc_ids.specs.Methods.{connect_to_me, connect_me_to, first_user_method}
use Rattle.call_slab.specs.declared.call.Call.{Call}
use Rattle.call_slab.specs.declared.call.Place.TheVariants.{Incoming}
use Rattle.switchboard.specs.State.{KernelState, label_of}
use Rattle.switchboard.specs.Serving.{Served}
use Rattle.kernel_laws.specs.CallCodes.{own_reply}
use Rattle.kernel_laws.specs.HeldCalls.{IsHeld, MayPass}
use Rattle.kernel_laws.specs.Routes.{Leads, label_by}
use Rattle.kernel_determined.specs.Frames.{HasFifth, MayCome, Moves, IsQuietEvent, IsRefusal}
use Rattle.kernel_determined.specs.SettleLaw.{IsGivenBack, IsSettled}

-- a method of the system that connects nothing
pub record IsOther (method : ℕ) : Type 0 where
  pub to_me : method ≡ connect_to_me → ⊥
  pub me_to : method ≡ connect_me_to → ⊥
  pub system : method < first_user_method

-- what the next task sees of a call that is passed on with this change
pub record IsNewMessage (change : Option Msg) (c : Call) (msg : Msg) : Type 0 where
  pub unchanged : change ≡ None → msg ≡ c.msg
  -- a user's call takes the change
  pub user : (new : Msg) → change ≡ Some new → first_user_method ≤ c.request.method → msg ≡ new
  -- a connect call takes its arguments, but for its own argument 5
  pub connect : (new : Msg) → change ≡ Some new
      → (c.request.method ≡ connect_to_me) ⊎ (c.request.method ≡ connect_me_to)
      → (msg.method ≡ c.msg.method) × HasFifth (slice_index c.msg.args 4) new.args msg.args
  -- every other call stays as it is
  pub others : (new : Msg) → change ≡ Some new → IsOther c.request.method → msg ≡ c.msg

-- the call as it waits at task u: with this message and label, behind all that came before
abbrev pub passed_call : KernelState → Call → Msg → Label → Option Label → TaskNo → Call
passed_call before c msg label rest u =
    record c { msg = msg; label = label; reserved = rest; place = Incoming u; stamp = before.calls.next_stamp }

-- task t passes on call n over its phone p to task u
pub record Passes (t : TaskNo) (n p : ℕ) (mode : Mode) (change : Option Msg) (c : Call) (u : TaskNo)
    (before : KernelState) (done : Served) : Type 0 where
  pub quiet : IsQuietEvent outcome.Done before done
  pub msg : Msg
  pub message : IsNewMessage change c msg
  pub freed : Option Label
  pub rest : Option Label
  pub back : IsGivenBack c freed rest
  pub note : List Entry
  pub phones : MayCome freed Free before done.state note
  pub calls : Moves before.calls done.state.calls n
      (passed_call before c msg (label_by mode c.label (label_of t p)) rest u)
  pub entries : done.entries ≡ entry.Forwarded c.number t u (label_by mode c.label (label_of t p)) ∷ note

-- the forward fails with this code, and the kernel answers the call with EFORWARD
pub record Fails (n : ℕ) (c : Call) (code : Code) (before : KernelState) (done : Served) : Type 0 where
  pub quiet : IsQuietEvent (outcome.Refused code) before done
  pub settled : IsSettled n c (own_reply eforward) None before done.state done.entries

-- task t does not hold the call
pub record IsNotHeld (t : TaskNo) (n : ℕ) (before : KernelState) (done : Served) : Type 0 where
  pub unheld : (c : Call) → IsHeld t before n c → ⊥
  pub refusal : IsRefusal enoent before done

-- it may not be passed on
pub record MayNotForward (t : TaskNo) (n : ℕ) (change : Option Msg) (before : KernelState)
    (done : Served) : Type 0 where
  pub call : Call
  pub held : IsHeld t before n call
  pub forbidden : MayPass change call → ⊥
  pub fails : Fails n call eperm before done

-- the phone leads to no task
pub record ForwardsNowhere (t : TaskNo) (n p : ℕ) (change : Option Msg) (before : KernelState)
    (done : Served) : Type 0 where
  pub call : Call
  pub held : IsHeld t before n call
  pub may : MayPass change call
  pub nowhere : (u : TaskNo) → Leads before t p u → ⊥
  pub fails : Fails n call enoent before done

-- it is passed on
pub record Forwards (t : TaskNo) (n p : ℕ) (mode : Mode) (change : Option Msg) (before : KernelState)
    (done : Served) : Type 0 where
  pub call : Call
  pub held : IsHeld t before n call
  pub may : MayPass change call
  pub to : TaskNo
  pub leads : Leads before t p to
  pub passes : Passes t n p mode change call to before done

-- what a forward by task t of call n over its phone p comes to
abbrev pub IsForward : TaskNo → ℕ → ℕ → Mode → Option Msg → KernelState → Served → Type 0
IsForward t n p mode change before done =
    IsNotHeld t n before done
    ⊎ (MayNotForward t n change before done
    ⊎ (ForwardsNowhere t n p change before done ⊎ Forwards t n p mode change before done))
