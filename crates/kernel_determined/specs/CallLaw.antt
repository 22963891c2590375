-- All that a call does: whether it is accepted, where it goes, and what it has with it.
use Rattle.std.specs.Prelude.{◌≡◌, ℕ, ◌+◌, ◌*◌, ◌<◌, ◌≤◌, ◌⊎◌, false, List, [], ◌∷◌, length, Option, None, Some, Ok}
use Rattle.ipc_ids.specs.declared.numbers.Code.{Code}
use Rattle.ipc_ids.specs.declared.numbers.Label.{Label}
use Rattle.ipc_ids.specs.declared.numbers.TaskNo.{TaskNo}
use Rattle.ipc_ids.specs.declared.message.Msg.{Msg}
use Rattle.ipc_ids.specs.declared.message.PhoneState.TheVariants.{Connecting, Connected, HungUp, Slammed}
use Rattle.ipc_ids.specs.declared.message.Outcome.TheVariants as outcome
use Rattle.ipc_ids.specs.declared.entry.Entry.{Entry}
use Rattle.ipc_ids.specs.declared.entry.Entry.TheVariants as entry
use Rattle.ipc_ids.specs.Codes.{enoent, eperm, elimit, ehangup}
use Rattle.ipc_ids.specs.Methods.{connect_me_to, data_write, data_read}
use Rattle.call_slab.specs.declared.call.Call.{Call}
use Rattle.call_slab.specs.declared.call.Place.TheVariants.{Incoming, Answers}
use Rattle.address_space.specs.Sound as spaces
use Rattle.kernel_laws.specs.ActiveCalls.{AreTheActive}
use Rattle.switchboard.specs.State.{KernelState, phone_at, label_of}
use Rattle.switchboard.specs.Serving.{Served}
use Rattle.kernel_laws.specs.PoolLaws.{pool}
use Rattle.kernel_laws.specs.CallCodes.{IsNoWay, IsNoCall, IsCheck, own_reply}
use Rattle.kernel_laws.specs.DataLaws.{AreCutDown, IsLawfulCopy}
use Rattle.kernel_laws.specs.UsablePhones.{IsUsable}
use Rattle.kernel_determined.specs.Frames.{IsOneEvent, PhonesStay, OneCallMore, IsMade, IsRefusal, HasFifth, MayCome}

-- the call is accepted, and the kernel answers it at once with this code
pub record IsAnsweredAtOnce (k : KernelState) (t : TaskNo) (p : ℕ) (msg : Msg) (code : Code)
    (done : Served) : Type 0 where
  pub told : done.outcome ≡ outcome.Accepted (record { 0 = k.calls.next_number })
  pub event : IsOneEvent k done.state
  pub phones : PhonesStay k done.state
  pub call : Call
  pub made : IsMade k t p msg false (Answers t) call
  pub calls : OneCallMore k.calls done.state.calls (record call { reply = own_reply code; stamp = k.calls.next_stamp })
  pub memory : done.state.memory ≡ k.memory
  pub entries : done.entries ≡ entry.Accepted (record { 0 = k.calls.next_number }) (label_of t p) msg.method None
      ∷ entry.Answered (record { 0 = k.calls.next_number }) (own_reply code) None ∷ []

-- what a call has that is sent: what it asks for, what the next task sees of it, the bytes that it carries, and the
-- phone that its caller keeps for it
pub record Content : Type 0 where
  pub request : Msg
  pub seen : Msg
  pub bytes : List ℕ
  pub kept : Option Label

-- a CONNECT_ME_TO keeps the usable phone with the least number, and names task and phone in argument 5
pub record KeepsPhone (k : KernelState) (t : TaskNo) (msg : Msg) (c : Content) : Type 0 where
  pub asks : msg.method ≡ connect_me_to
  pub phone : ℕ
  pub usable : IsUsable k k.calls t phone
  pub least : (q : ℕ) → q < phone → IsUsable k k.calls t q → ⊥
  pub kept : c.kept ≡ Some (label_of t phone)
  pub request : c.request ≡ msg
  pub method : c.seen.method ≡ msg.method
  pub names : HasFifth (64 * t.0 + phone) msg.args c.seen.args
  pub bytes : c.bytes ≡ []

-- a DATA_WRITE, which may be cut down, brings the bytes that its caller names, of a sound memory
pub record BringsBytes (k : KernelState) (t : TaskNo) (msg : Msg) (c : Content) : Type 0 where
  pub asks : msg.method ≡ data_write
  pub copied : spaces.IsSound k.memory → IsLawfulCopy k.memory t msg.args (pool k) (Ok c.bytes)
  pub method : c.request.method ≡ msg.method
  pub cut : AreCutDown msg.args c.request.args
  pub seen : c.seen ≡ c.request
  pub kept : c.kept ≡ None

-- a DATA_READ, which may be cut down, has no bytes yet
pub record WantsBytes (k : KernelState) (t : TaskNo) (msg : Msg) (c : Content) : Type 0 where
  pub asks : msg.method ≡ data_read
  pub bytes : c.bytes ≡ []
  pub method : c.request.method ≡ msg.method
  pub cut : AreCutDown msg.args c.request.args
  pub seen : c.seen ≡ c.request
  pub kept : c.kept ≡ None

-- every other call is sent as it was made
pub record IsAsMade (msg : Msg) (c : Content) : Type 0 where
  pub no_phone : msg.method ≡ connect_me_to → ⊥
  pub no_write : msg.method ≡ data_write → ⊥
  pub no_read : msg.method ≡ data_read → ⊥
  pub request : c.request ≡ msg
  pub seen : c.seen ≡ msg
  pub bytes : c.bytes ≡ []
  pub kept : c.kept ≡ None

-- one of these
abbrev pub IsContent : KernelState → TaskNo → Msg → Content → Type 0
IsContent k t msg c = KeepsPhone k t msg c ⊎ (BringsBytes k t msg c ⊎ (WantsBytes k t msg c ⊎ IsAsMade msg c))

-- the call is accepted, and waits at task u
pub record IsSent (k : KernelState) (t : TaskNo) (p : ℕ) (msg : Msg) (u : TaskNo) (done : Served) : Type 0 where
  pub told : done.outcome ≡ outcome.Accepted (record { 0 = k.calls.next_number })
  pub event : IsOneEvent k done.state
  pub call : Call
  pub made : IsMade k t p msg false (Incoming u) call
  pub content : Content
  pub lawful : IsContent k t msg content
  pub note : List Entry
  pub phones : MayCome content.kept Connecting k done.state note
  pub calls : OneCallMore k.calls done.state.calls (record call {
    request = content.request;
    msg = content.seen;
    buffer = content.bytes;
    reserved = content.kept;
    stamp = k.calls.next_stamp;
  })
  pub memory : done.state.memory ≡ k.memory
  pub entries : done.entries ≡ entry.Accepted (record { 0 = k.calls.next_number }) (label_of t p) msg.method (Some u)
      ∷ note

-- ---- a call

-- the phone is out of range, free or connecting: ENOENT, whatever else holds
pub record CallsNowhere (t : TaskNo) (p : ℕ) (k : KernelState) (done : Served) : Type 0 where
  pub nowhere : IsNoWay (phone_at k t p)
  pub refusal : IsRefusal enoent k done

-- a task makes no call with this method: EPERM comes next
pub record MayNotCall (t : TaskNo) (p : ℕ) (msg : Msg) (k : KernelState) (done : Served) : Type 0 where
  pub way : IsNoWay (phone_at k t p) → ⊥
  pub none : IsNoCall msg.method
  pub refusal : IsRefusal eperm k done

-- 64 calls or more are active over the phone: ELIMIT comes last
pub record CallsTooMuch (t : TaskNo) (p : ℕ) (msg : Msg) (k : KernelState) (done : Served) : Type 0 where
  pub way : IsNoWay (phone_at k t p) → ⊥
  pub may : IsNoCall msg.method → ⊥
  pub many : (ns : List ℕ) × AreTheActive k.calls t p ns × (64 ≤ length ns)
  pub refusal : IsRefusal elimit k done

-- a call over a phone that leads to task u is answered at once where the check of its method says so, and else is sent
abbrev pub Goes : KernelState → TaskNo → ℕ → Msg → TaskNo → Option Code → Served → Type 0
Goes k t p msg u None done = IsSent k t p msg u done
Goes k t p msg u (Some code) done = IsAnsweredAtOnce k t p msg code done

-- the cause is the one that the check finds
pub record GoesOver (k : KernelState) (t : TaskNo) (p : ℕ) (msg : Msg) (u : TaskNo) (done : Served) : Type 0 where
  pub cause : Option Code
  pub check : IsCheck k t msg cause
  pub goes : Goes k t p msg u cause done

-- the call is accepted: over a phone that was hung up it is answered with EHANGUP, and over one whose task has ended
-- with ENOENT
pub record IsAccepted (t : TaskNo) (p : ℕ) (msg : Msg) (k : KernelState) (done : Served) : Type 0 where
  pub way : IsNoWay (phone_at k t p) → ⊥
  pub may : IsNoCall msg.method → ⊥
  pub few : (ns : List ℕ) × AreTheActive k.calls t p ns × (length ns < 64)
  pub hung_up : phone_at k t p ≡ Some HungUp → IsAnsweredAtOnce k t p msg ehangup done
  pub slammed : phone_at k t p ≡ Some Slammed → IsAnsweredAtOnce k t p msg enoent done
  pub leads : (u : TaskNo) → phone_at k t p ≡ Some (Connected u) → GoesOver k t p msg u done

-- what a call by task t with this message over its phone p comes to
abbrev pub IsCall : TaskNo → ℕ → Msg → KernelState → Served → Type 0
IsCall t p msg k done =
    CallsNowhere t p k done
    ⊎ (MayNotCall t p msg k done ⊎ (CallsTooMuch t p msg k done ⊎ IsAccepted t p msg k done))
