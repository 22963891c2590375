-- All that a hangup does, and a request that asks for nothing.
use Rattle.std.specs.Prelude.{◌≡◌, ℕ, true, List, [], ◌∷◌, Option, None, Some}
use Rattle.ipc_ids.specs.declared.numbers.TaskNo.{TaskNo}
use Rattle.ipc_ids.specs.declared.message.Msg.{Msg}
use Rattle.ipc_ids.specs.declared.message.PhoneState.{PhoneState}
use Rattle.ipc_ids.specs.declared.message.PhoneState.TheVariants.{Free, Connecting, Connected, HungUp, Slammed}
use Rattle.ipc_ids.specs.declared.message.Outcome.TheVariants as outcome
use Rattle.ipc_ids.specs.declared.entry.Entry.{Entry}
use Rattle.ipc_ids.specs.declared.entry.Entry.TheVariants as entry
use Rattle.ipc_ids.specs.Codes.{enoent, einval}
use Rattle.ipc_ids.specs.Methods.{phone_hungup}
use Rattle.call_slab.specs.declared.call.Call.{Call}
use Rattle.call_slab.specs.declared.call.Place.TheVariants.{Incoming}
use Rattle.switchboard.specs.State.{KernelState, label_of}
use Rattle.switchboard.specs.Serving.{Served}
use Rattle.kernel_determined.specs.Frames.{PhoneComesTo, CallsStay, OneCallMore, IsMade, IsQuietEvent, NothingHappens, IsRefusal}

-- nothing is asked, and nothing happens
pub record IsNothing (before : KernelState) (done : Served) : Type 0 where
  pub told : done.outcome ≡ outcome.Done
  pub nothing : NothingHappens before done

-- the message that tells of a hangup
abbrev pub farewell : Msg
farewell = record { method = phone_hungup; args = 0 ∷ 0 ∷ 0 ∷ 0 ∷ 0 ∷ [] }

-- phone p of task t, which leads to task u, is hung up: u is told by a new call whose answer nobody waits for
pub record TellsOfHangup (t : TaskNo) (p : ℕ) (u : TaskNo) (before after : KernelState)
    (told : List Entry) : Type 0 where
  pub phone : PhoneComesTo t p HungUp before after
  pub call : Call
  pub made : IsMade before t p farewell true (Incoming u) call
  pub calls : OneCallMore before.calls after.calls call
  pub entries : told ≡ entry.Accepted (record { 0 = before.calls.next_number }) (label_of t p) phone_hungup (Some u)
      ∷ entry.PhoneIs (label_of t p) HungUp ∷ []

-- phone p of task t, which led to a task that has ended, is hung up: nobody is told
pub record TellsNobody (t : TaskNo) (p : ℕ) (before after : KernelState) (told : List Entry) : Type 0 where
  pub phone : PhoneComesTo t p HungUp before after
  pub calls : CallsStay before.calls after.calls
  pub entries : told ≡ entry.PhoneIs (label_of t p) HungUp ∷ []

-- so by a request, which is done
pub record HangsUp (t : TaskNo) (p : ℕ) (u : TaskNo) (before : KernelState) (done : Served) : Type 0 where
  pub quiet : IsQuietEvent outcome.Done before done
  pub hangup : TellsOfHangup t p u before done.state done.entries

-- likewise where nobody is told
pub record HangsUpSilently (t : TaskNo) (p : ℕ) (before : KernelState) (done : Served) : Type 0 where
  pub quiet : IsQuietEvent outcome.Done before done
  pub hangup : TellsNobody t p before done.state done.entries

-- what a hangup by task t of its phone p comes to, where it is in this state, or out of range
abbrev pub IsHangup : Option PhoneState → TaskNo → ℕ → KernelState → Served → Type 0
IsHangup None t p before done = IsRefusal enoent before done
IsHangup (Some Free) t p before done = IsRefusal einval before done
IsHangup (Some Connecting) t p before done = IsRefusal einval before done
IsHangup (Some HungUp) t p before done = IsRefusal einval before done
IsHangup (Some (Connected u)) t p before done = HangsUp t p u before done
IsHangup (Some Slammed) t p before done = HangsUpSilently t p before done
