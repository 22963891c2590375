-- What becomes of a call that comes to its end, at a task or by the kernel: its caller has the answer, or it is over.
-- An answer, a forward that fails, a receive and a kill are made of it.
use Rattle.std.specs.Prelude.{◌≡◌, ℕ, ◌⊎◌, true, List, ◌∷◌, Option, None, Some}
use Rattle.ipc_ids.specs.declared.numbers.Label.{Label}
use Rattle.ipc_ids.specs.declared.numbers.TaskNo.{TaskNo}
use Rattle.ipc_ids.specs.declared.message.Reply.{Reply}
use Rattle.ipc_ids.specs.declared.message.PhoneState.TheVariants.{Free}
use Rattle.ipc_ids.specs.declared.entry.Entry.{Entry}
use Rattle.ipc_ids.specs.declared.entry.Entry.TheVariants as entry
use Rattle.ipc_ids.specs.Methods.{connect_to_me, connect_me_to}
use Rattle.call_slab.specs.declared.call.Call.{Call}
use Rattle.call_slab.specs.declared.call.Place.TheVariants.{Answers}
use Rattle.answerbox.specs.Calls.{call_at}
use Rattle.switchboard.specs.State.{KernelState, is_alive}
use Rattle.kernel_laws.specs.Connecting.{IsUnconnected}
use Rattle.kernel_determined.specs.Frames.{MayCome, Moves, IsOver, IsStep}

-- the phone that the holder of a CONNECT_TO_ME kept for it is given back, and no other
pub record IsGivenBack (c : Call) (freed rest : Option Label) : Type 0 where
  pub to_me : c.request.method ≡ connect_to_me → (freed ≡ c.reserved) × (rest ≡ None)
  pub others : (c.request.method ≡ connect_to_me → ⊥) → (freed ≡ None) × (rest ≡ c.reserved)

-- the phone that is kept for a connect call which was not answered yet
pub record IsKeptFor (c : Call) (kept : Option Label) : Type 0 where
  pub connect : (c.request.method ≡ connect_to_me) ⊎ (c.request.method ≡ connect_me_to) → kept ≡ c.reserved
  pub others : (c.request.method ≡ connect_to_me → ⊥) → (c.request.method ≡ connect_me_to → ⊥) → kept ≡ None

-- a task that is alive waits for the answer
abbrev pub IsWanted : KernelState → Call → Type 0
IsWanted k c = (u : TaskNo) × (c.caller ≡ Some u) × (is_alive k u ≡ true)

-- call n goes with this reply, by a task or by the kernel, to the answers of its caller, behind all that came before;
-- the phone that its holder kept for it is free
pub record IsAnswered (n : ℕ) (c : Call) (reply : Reply) (by : Option TaskNo) (before after : KernelState)
    (told : List Entry) : Type 0 where
  pub to : TaskNo
  pub caller : c.caller ≡ Some to
  pub freed : Option Label
  pub rest : Option Label
  pub back : IsGivenBack c freed rest
  pub note : List Entry
  pub phones : MayCome freed Free before after note
  pub calls : Moves before.calls after.calls n
      (record c { reply = reply; reserved = rest; place = Answers to; stamp = before.calls.next_stamp })
  pub entries : told ≡ entry.Answered c.number reply by ∷ note

-- call n is over without an answer, and the phone that was kept for it is free
pub record IsEnded (n : ℕ) (c : Call) (before after : KernelState) (told : List Entry) : Type 0 where
  pub kept : Option Label
  pub keeps : IsKeptFor c kept
  pub note : List Entry
  pub phones : MayCome kept Free before after note
  pub calls : IsOver before.calls after.calls n
  pub entries : told ≡ entry.Vanished c.number ∷ note

-- the call is answered where its caller waits for it, and else it is over
abbrev pub IsSettled : ℕ → Call → Reply → Option TaskNo → KernelState → KernelState → List Entry → Type 0
IsSettled n c reply by before after told =
    (IsWanted before c × IsAnswered n c reply by before after told)
    ⊎ ((IsWanted before c → ⊥) × IsEnded n c before after told)

-- ---- an answer that nobody receives

-- the phone that was kept for a CONNECT_ME_TO which was not accepted
pub record IsKeptAtAnswer (c : Call) (kept : Option Label) : Type 0 where
  pub waits : (l : Label) → IsUnconnected c l → kept ≡ Some l
  pub others : ((l : Label) → IsUnconnected c l → ⊥) → kept ≡ None

-- the answer of call n is dropped at task t, the call is over, and the phone is free
pub record DropsAnswer (t : TaskNo) (before : KernelState) (n : ℕ) (after : KernelState)
    (told : List Entry) : Type 0 where
  pub call : Call
  pub live : call_at before.calls n ≡ Some call
  pub step : IsStep before after
  pub kept : Option Label
  pub keeps : IsKeptAtAnswer call kept
  pub note : List Entry
  pub phones : MayCome kept Free before after note
  pub calls : IsOver before.calls after.calls n
  pub entries : told ≡ entry.Dropped call.number t ∷ note
