-- All that a kill does: seven parts one after another, each a turn for the things that a law names, in an order that it
-- names.
use Rattle.std.specs.Prelude.{◌≡◌, ℕ, ◌+◌, ◌<◌, ◌≤◌, ◌⊎◌, Ok, List, [], ◌∷◌, length, None, Some}
use Rattle.ipc_ids.specs.declared.numbers.TaskNo.{TaskNo}
use Rattle.ipc_ids.specs.declared.message.PhoneState.TheVariants.{Slammed}
use Rattle.ipc_ids.specs.declared.entry.Entry.{Entry}
use Rattle.ipc_ids.specs.declared.entry.Entry.TheVariants as entry
use Rattle.ipc_ids.specs.Codes.{ehangup}
use Rattle.call_slab.specs.declared.call.Call.{Call}
use Rattle.call_slab.specs.declared.call.Place.{Place}
use Rattle.call_slab.specs.declared.call.Place.TheVariants.{Incoming, Dispatched, Answers}
use Rattle.answerbox.specs.Calls.{call_at}
use Rattle.address_space.specs.Areas.{Area}
use Rattle.address_space.specs.Memory.{Step}
use Rattle.switchboard.specs.State.{KernelState, Transition, phone_at, label_of}
use Rattle.kernel_laws.specs.CallCodes.{own_reply}
use Rattle.kernel_laws.specs.KillLaws.{EndsTask}
use Rattle.kernel_laws.specs.MemoryLaws.{HasAt}
use Rattle.kernel_laws.specs.Routes.{Leads, Stands}
use Rattle.kernel_determined.specs.Frames.{PhonesStay, PhoneComesTo, CameBefore, CallsStay, IsNow, IsStep}
use Rattle.kernel_determined.specs.HangupLaw.{TellsOfHangup, TellsNobody}
use Rattle.kernel_determined.specs.MemoryLaw.{IsWholeDrop}
use Rattle.kernel_determined.specs.SettleLaw.{IsSettled, DropsAnswer}
use Rattle.kernel_determined.specs.Turns.{EachInTurn, Then}

-- the task has ended, and nothing else has changed yet
pub record IsMarked (t : TaskNo) (before after : KernelState) : Type 0 where
  pub ends : EndsTask t before after
  pub many : length after.tasks.alive ≡ length before.tasks.alive
  pub phones : after.tasks.phones ≡ before.tasks.phones
  pub calls : after.calls ≡ before.calls
  pub memory : after.memory ≡ before.memory
  pub events : after.events ≡ before.events

-- ---- the phones of the task are hung up, by number

-- phone p of task t leads to a task, or led to one that has ended
abbrev pub IsToHangUp : TaskNo → KernelState → ℕ → Type 0
IsToHangUp t k p = ((u : TaskNo) × Leads k t p u) ⊎ (phone_at k t p ≡ Some Slammed)

-- it is hung up
pub record HangsUpPhone (t : TaskNo) (before : KernelState) (p : ℕ) (after : KernelState)
    (told : List Entry) : Type 0 where
  pub step : IsStep before after
  pub hangs_up : ((u : TaskNo) × Leads before t p u × TellsOfHangup t p u before after told)
      ⊎ ((phone_at before t p ≡ Some Slammed) × TellsNobody t p before after told)

-- each such phone of it is
abbrev pub HangsUpOwn : TaskNo → KernelState → KernelState → List Entry → Type 0
HangsUpOwn t before after told = EachInTurn (IsToHangUp t before) ◌<◌ (HangsUpPhone t) before after told

-- ---- the phones of other tasks that lead to it are slammed, by task and number

-- phone p of task u, which leads to t, is slammed
pub record SlamsPhone (u : TaskNo) (before : KernelState) (p : ℕ) (after : KernelState)
    (told : List Entry) : Type 0 where
  pub step : IsStep before after
  pub phone : PhoneComesTo u p Slammed before after
  pub calls : CallsStay before.calls after.calls
  pub entries : told ≡ entry.PhoneIs (label_of u p) Slammed ∷ []

-- each such phone of task u is
abbrev pub SlamsOf : TaskNo → KernelState → TaskNo → KernelState → List Entry → Type 0
SlamsOf t before u after told = EachInTurn (λ p. Leads before u p t) ◌<◌ (SlamsPhone u) before after told

-- another task
pub record IsOther (t : TaskNo) (k : KernelState) (u : TaskNo) : Type 0 where
  pub from_one : 1 ≤ u.0
  pub known : u.0 ≤ length k.tasks.phones
  pub other : u.0 ≡ t.0 → ⊥

-- a task was made before another
abbrev pub IsOlder : TaskNo → TaskNo → Type 0
IsOlder u v = u.0 < v.0

-- the phones of each other task are
abbrev pub SlamsOthers : TaskNo → KernelState → KernelState → List Entry → Type 0
SlamsOthers t before after told = EachInTurn (IsOther t before) IsOlder (SlamsOf t) before after told

-- ---- the calls that wait at it, and then those that it holds, are settled, in the order in which they came

-- call n is answered with EHANGUP where its caller waits for it, and else it is over
pub record SettlesCall (before : KernelState) (n : ℕ) (after : KernelState) (told : List Entry) : Type 0 where
  pub call : Call
  pub live : call_at before.calls n ≡ Some call
  pub step : IsStep before after
  pub settled : IsSettled n call (own_reply ehangup) None before after told

-- each call at this place is
abbrev pub SettlesAll : Place → KernelState → KernelState → List Entry → Type 0
SettlesAll place before after told =
    EachInTurn (λ n. Stands before.calls n place) (CameBefore before.calls) SettlesCall before after told

-- ---- the answers that it has not received are dropped, in the order in which they came

-- each of them is
abbrev pub DropsAnswers : TaskNo → KernelState → KernelState → List Entry → Type 0
DropsAnswers t before after told =
    EachInTurn (λ n. Stands before.calls n (Answers t)) (CameBefore before.calls) (DropsAnswer t) before after told

-- ---- its calls that stand elsewhere are forgotten, by number

-- task t made call n, and has not ended for it yet
abbrev pub IsOwn : TaskNo → KernelState → ℕ → Type 0
IsOwn t k n = (c : Call) × (call_at k.calls n ≡ Some c) × (c.caller ≡ Some t)

-- call n goes on without its caller, and stays in all else as it is
pub record ForgetsCall (before : KernelState) (n : ℕ) (after : KernelState) (told : List Entry) : Type 0 where
  pub call : Call
  pub live : call_at before.calls n ≡ Some call
  pub step : IsStep before after
  pub phones : PhonesStay before after
  pub calls : IsNow before.calls after.calls n (record call { caller = None })
  pub entries : told ≡ entry.Forgotten call.number ∷ []

-- each of them is
abbrev pub ForgetsCalls : TaskNo → KernelState → KernelState → List Entry → Type 0
ForgetsCalls t before after told = EachInTurn (IsOwn t before) ◌<◌ ForgetsCall before after told

-- ---- its areas are dropped, by rising base

-- task t has an area with this base
abbrev pub HasBase : TaskNo → KernelState → ℕ → Type 0
HasBase t k base = (a : Area) × HasAt k.memory t base a

-- it is dropped
pub record LosesArea (t : TaskNo) (before : KernelState) (base : ℕ) (after : KernelState)
    (told : List Entry) : Type 0 where
  pub step : Step Unit
  pub drop : IsWholeDrop before.memory t base step
  pub done : step.told ≡ Ok tt
  pub memory : after.memory ≡ step.memory
  pub tasks : after.tasks ≡ before.tasks
  pub calls : after.calls ≡ before.calls
  pub events : after.events ≡ before.events
  pub entries : told ≡ entry.AreaGone t base ∷ []

-- each of them is
abbrev pub LosesAreas : TaskNo → KernelState → KernelState → List Entry → Type 0
LosesAreas t before after told = EachInTurn (HasBase t before) ◌<◌ (LosesArea t) before after told

-- ---- a kill

-- the parts in their order: first the phones
abbrev pub EndsPhones : TaskNo → KernelState → KernelState → List Entry → Type 0
EndsPhones t = Then (HangsUpOwn t) (SlamsOthers t)

-- then the calls at the task are settled
abbrev pub SettlesBoth : TaskNo → KernelState → KernelState → List Entry → Type 0
SettlesBoth t = Then (Then (EndsPhones t) (SettlesAll (Incoming t))) (SettlesAll (Dispatched t))

-- then its answers are dropped, and its calls elsewhere forgotten
abbrev pub EndsCalls : TaskNo → KernelState → KernelState → List Entry → Type 0
EndsCalls t = Then (Then (SettlesBoth t) (DropsAnswers t)) (ForgetsCalls t)

-- and last its areas go
abbrev pub EndsParts : TaskNo → KernelState → KernelState → List Entry → Type 0
EndsParts t = Then (EndsCalls t) (LosesAreas t)

-- one event is counted, and nothing else changes
pub record IsCounted (before after : KernelState) : Type 0 where
  pub tasks : after.tasks ≡ before.tasks
  pub calls : after.calls ≡ before.calls
  pub memory : after.memory ≡ before.memory
  pub events : after.events ≡ before.events + 1

-- task t is killed
pub record IsKill (t : TaskNo) (before : KernelState) (done : Transition) : Type 0 where
  pub marked : KernelState
  pub ended : IsMarked t before marked
  pub last : KernelState
  pub parts : EndsParts t marked last done.entries
  pub counted : IsCounted last done.state
