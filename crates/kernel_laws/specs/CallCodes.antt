-- Over which phones and with which methods no call is made, and with which code a call is answered at once: that of the
-- first check that fails. What is checked of memory is said in `DataLaws`.
use Rattle.std.specs.Prelude.{◌≡◌, ℕ, ◌<◌, ◌≤◌, ◌⊎◌, ◌↔◌, ⊤, List, [], ◌∷◌, Option, None, Some, Result, Ok, Err}
use Rattle.ipc_ids.specs.declared.numbers.Code.{Code}
use Rattle.ipc_ids.specs.declared.numbers.TaskNo.{TaskNo}
use Rattle.ipc_ids.specs.declared.message.Msg.{Msg}
use Rattle.ipc_ids.specs.declared.message.Reply.{Reply}
use Rattle.ipc_ids.specs.declared.message.PhoneState.{PhoneState}
use Rattle.ipc_ids.specs.declared.message.PhoneState.TheVariants.{Free, Connecting, Connected, HungUp, Slammed}
use Rattle.ipc_ids.specs.Codes.{elimit}
use Rattle.ipc_ids.specs.Methods.{phone_hungup, connect_to_me, connect_me_to, data_write, data_read, share_out, share_in, first_user_method}
use Rattle.answerbox.specs.Calls.{active_calls}
use Rattle.address_space.specs.Sound as spaces
use Rattle.switchboard.specs.State.{KernelState, phone_at, label_of}
use Rattle.kernel_laws.specs.PoolLaws.{pool}
use Rattle.kernel_laws.specs.DataLaws.{IsLawfulCopy, IsLawfulAsking, IsLawfulOffer, IsLawfulWish}

-- over a phone in this state, or over one that the task has not, no call is made
abbrev pub IsNoWay : Option PhoneState → Type 0
IsNoWay None = ⊤
IsNoWay (Some Free) = ⊤
IsNoWay (Some Connecting) = ⊤
IsNoWay (Some (Connected u)) = ⊥
IsNoWay (Some HungUp) = ⊥
IsNoWay (Some Slammed) = ⊥

-- a task makes no call with this method: it tells of a hangup, or is none of the system and none of a user
abbrev pub IsNoCall : ℕ → Type 0
IsNoCall method = (method ≡ phone_hungup) ⊎ ((share_in < method) × (method < first_user_method))

-- the code with which something was refused
abbrev pub cause_of : {A : Type 0} → Result A Code → Option Code
cause_of (Ok x) = None
cause_of (Err code) = Some code

-- a phone of task t may be kept for a connection: it is free, or hung up without an active call
abbrev pub HasUsable : KernelState → TaskNo → Type 0
HasUsable k t =
    (p : ℕ) × ((phone_at k t p ≡ Some Free) ⊎ ((phone_at k t p ≡ Some HungUp) × (active_calls k.calls (label_of t p) ≡ 0)))

-- the code that a call is answered with at once, over a phone that leads to a task; with none it is sent. What is
-- checked of memory is said of a sound one
pub record IsCheck (k : KernelState) (t : TaskNo) (msg : Msg) (cause : Option Code) : Type 0 where
  pub write : msg.method ≡ data_write → spaces.IsSound k.memory →
      (told : Result (List ℕ) Code) × IsLawfulCopy k.memory t msg.args (pool k) told × (cause ≡ cause_of told)
  pub read : msg.method ≡ data_read → (told : Result ℕ Code) × IsLawfulAsking msg.args told × (cause ≡ cause_of told)
  pub out : msg.method ≡ share_out → spaces.IsSound k.memory →
      (told : Result Unit Code) × IsLawfulOffer k.memory t msg.args told × (cause ≡ cause_of told)
  pub inward : msg.method ≡ share_in → (told : Result Unit Code) × IsLawfulWish msg.args told × (cause ≡ cause_of told)
  pub connect : msg.method ≡ connect_me_to →
      (cause ≡ None ↔ HasUsable k t) × (cause ≡ Some elimit ↔ (HasUsable k t → ⊥))
  pub others : (msg.method ≡ connect_to_me) ⊎ (first_user_method ≤ msg.method) → cause ≡ None

-- the kernel's own answer
abbrev pub own_reply : Code → Reply
own_reply code = record { code = code; args = 0 ∷ 0 ∷ 0 ∷ 0 ∷ 0 ∷ [] }
