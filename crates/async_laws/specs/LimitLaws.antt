-- What becomes of a begin whose connect call meets the limit: no fibril is told ELIMIT, and the begin goes on with that
-- in mind.
use Rattle.std.specs.Prelude.{ℕ, ◌≡◌, ◌≢◌, ◌≤◌, ◌-◌, ◌⊎◌, true, List, [], ◌∷◌, Some, None, ⊤}
use Rattle.ipc_ids.specs.declared.numbers.CallNo.{CallNo}
use Rattle.ipc_ids.specs.declared.numbers.FibrilNo.{FibrilNo}
use Rattle.ipc_ids.specs.declared.message.Reply.{Reply}
use Rattle.ipc_ids.specs.declared.message.Why.TheVariants as why
use Rattle.ipc_ids.specs.declared.message.Outcome.{Outcome}
use Rattle.ipc_ids.specs.declared.message.Outcome.TheVariants as outcome
use Rattle.ipc_ids.specs.declared.entry.Entry.{Entry}
use Rattle.ipc_ids.specs.declared.entry.Entry.TheVariants as entry
use Rattle.ipc_ids.specs.declared.op.Op.TheVariants as op
use Rattle.ipc_ids.specs.Codes.{elimit}
use Rattle.fibril_core.specs.declared.fibrils.Status.TheVariants.{Ready}
use Rattle.fibril_core.specs.Fibrils.{why_of}
use Rattle.fibril_core.specs.FibrilLaws.{status_of}
use Rattle.async_sessions.specs.declared.sessions.Begin.TheVariants as begin
use Rattle.async_task.specs.declared.context.Context.{Context}
use Rattle.async_task.specs.Turns as turn
use Rattle.async_task.specs.AsyncState.{AsyncState, context_at, present_op}
use Rattle.async_task.specs.Turns.{turn_now}
use Rattle.async_task.specs.Wanted.{plan_begin}
use Rattle.async_task.specs.Steps.{step}
use Rattle.async_laws.specs.KeptAnswers.{waiting}
use Rattle.async_laws.specs.NoLostWakes.{KeepsWakes}

-- fibril f, which kept t, is ready and stands where it stood: it keeps that it met the limit, and nothing else changes
-- of what it keeps, of what others keep, and of sessions and exchanges
pub record Remembers (f : FibrilNo) (t : Context) (a after : AsyncState) : Type 0 where
  pub here : context_at after f ≡ Some (record t { short = true })
  pub others : (g : FibrilNo) → 1 ≤ g.0 → g.0 ≢ f.0 → context_at after g ≡ context_at a g
  pub ready : status_of after.order f.0 ≡ Some Ready
  pub pool : after.pool ≡ a.pool

-- fibril f, which keeps t, begins an exchange and is to send the connect call for it
pub record IsToConnect (f : FibrilNo) (t : Context) (a : AsyncState) : Type 0 where
  pub handle : ℕ
  pub session : ℕ
  pub phone : ℕ
  pub turn_is : turn_now a ≡ turn.Run f t (Some (op.Begin handle session))
  pub plan : plan_begin a f t handle session ≡ begin.Connect phone

-- fibril f, which keeps t, is blocked in a begin on the answer of its connect call n, and the task receives
pub record IsConnecting (f : FibrilNo) (t : Context) (n : CallNo) (a : AsyncState) : Type 0 where
  pub turn_is : turn_now a ≡ turn.Receive
  pub keeps : context_at a f ≡ Some t
  pub awaits : waiting n.0 a.awaited ≡ Some (record { fibril = f.0; slot = None })
  pub blocked : why_of a.order f ≡ Some (why.Answer n)
  pub handle : ℕ
  pub session : ℕ
  pub begins : present_op a t ≡ Some (op.Begin handle session)

-- where the connect call is refused with ELIMIT, the fibril is not told so but keeps it in mind
abbrev pub RefusalsAreRemembered : Type 0
RefusalsAreRemembered =
    (a : AsyncState) (f : FibrilNo) (t : Context) → KeepsWakes a → IsToConnect f t a →
    Remembers f t a (step a (outcome.Refused elimit)).state

-- likewise where it is answered with ELIMIT
abbrev pub AnswersAreRemembered : Type 0
AnswersAreRemembered =
    (a : AsyncState) (f : FibrilNo) (t : Context) (n : CallNo) (reply : Reply) → KeepsWakes a →
    IsConnecting f t n a → reply.code ≡ elimit →
    Remembers f t a (step a (outcome.Answered n reply)).state

-- a begin that keeps it in mind sends no connect call
abbrev pub TheShortDoNotConnect : Type 0
TheShortDoNotConnect =
    (a : AsyncState) (f : FibrilNo) (t : Context) (x s p : ℕ) → t.short ≡ true → plan_begin a f t x s ≢ begin.Connect p

-- the connect call of fibril f met the limit in this event: it was refused, or answered, with that code
abbrev pub WasRefused : AsyncState → Outcome → FibrilNo → Type 0
WasRefused a o f = (o ≡ outcome.Refused elimit) × ((t : Context) × IsToConnect f t a)

pub record WasAnswered (a : AsyncState) (o : Outcome) (f : FibrilNo) : Type 0 where
  pub call : CallNo
  pub reply : Reply
  pub told : o ≡ outcome.Answered call reply
  pub limited : reply.code ≡ elimit
  pub turn_is : turn_now a ≡ turn.Receive
  -- fibrils are numbered from 1, so the one that awaited it is f
  pub fibril : FibrilNo
  pub own : fibril.0 - 1 ≡ f.0 - 1
  pub awaits : waiting call.0 a.awaited ≡ Some (record { fibril = fibril.0; slot = None })

-- a fibril keeps that only where it kept it before, or where its connect call met the limit in this event
abbrev pub OnlyTheLimitMakesShort : Type 0
OnlyTheLimitMakesShort =
    (a : AsyncState) (o : Outcome) (f : FibrilNo) (u : Context) → KeepsWakes a → 1 ≤ f.0 →
    context_at (step a o).state f ≡ Some u → u.short ≡ true →
    ((t : Context) × (context_at a f ≡ Some t) × (t.short ≡ true)) ⊎ (WasRefused a o f ⊎ WasAnswered a o f)

-- no entry tells that an operation was refused with ELIMIT
abbrev pub TellsNoLimit : List Entry → Type 0
TellsNoLimit [] = ⊤
TellsNoLimit (entry.RefusedOp u f c ∷ es) = (c ≢ elimit) × TellsNoLimit es
TellsNoLimit (e ∷ es) = TellsNoLimit es

-- so it is with each event: the task itself refuses nothing with ELIMIT
abbrev pub NobodyIsToldTheLimit : Type 0
NobodyIsToldTheLimit = (a : AsyncState) (o : Outcome) → TellsNoLimit (step a o).entries
