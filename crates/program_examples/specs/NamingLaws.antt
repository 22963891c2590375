-- What the naming service asks after a call has come, and what it keeps in mind of tasks, in the words of tasks, phones
-- and calls; numbers are numbers.
use Rattle.std.specs.Prelude.{◌≡◌, ℕ, ◌+◌, true, false, List, [], ◌∷◌, ◌++◌, Some, slice_get}
use Rattle.ipc_ids.specs.declared.numbers.CallNo.{CallNo}
use Rattle.ipc_ids.specs.declared.numbers.Label.{Label}
use Rattle.ipc_ids.specs.declared.message.Msg.{Msg}
use Rattle.ipc_ids.specs.declared.message.Reply.{Reply}
use Rattle.ipc_ids.specs.declared.message.Mode.TheVariants.{Plain}
use Rattle.ipc_ids.specs.declared.message.Request.{Request}
use Rattle.ipc_ids.specs.declared.message.Request.TheVariants as ask
use Rattle.ipc_ids.specs.declared.message.Outcome.{Outcome}
use Rattle.ipc_ids.specs.declared.message.Outcome.TheVariants as got
use Rattle.task_ends.specs.declared.introduced.Introduced.{Introduced}
use Rattle.naming_service.specs.declared.received.ReceivedCall.{ReceivedCall}
use Rattle.naming_service.specs.declared.received.Work.{Work}
use Rattle.naming_service.specs.declared.received.Work.TheVariants.{Answer, Forward}
use Rattle.naming_service.specs.Naming.{NamingState, wanted, after}
use Rattle.program_examples.specs.Apart.{five, message, reply}

-- the entry of a task that introduced itself stands at this place
abbrev pub Stands : NamingState → ℕ → Introduced → Type 0
Stands s i x = slice_get s.ends.introduced i ≡ Some x

-- the task with this number never introduced itself
abbrev pub IsUnknown : NamingState → ℕ → Type 0
IsUnknown s task = (i : ℕ) (x : Introduced) → Stands s i x → x.label.task.0 ≡ task → ⊥

-- the service owes nothing, and no task has two entries
pub record IsAtRest (s : NamingState) : Type 0 where
  pub idle : s.work ≡ []
  pub apart : (i j : ℕ) (x y : Introduced) → Stands s i x → Stands s j y → x.label.task.0 ≡ y.label.task.0 → i ≡ j

-- a call with this method comes over a phone of a task, which makes this of the service
pub record Comes (method : ℕ) (s now : NamingState) : Type 0 where
  pub rest : IsAtRest s
  pub call : CallNo
  pub sender : Label
  pub first : ℕ
  pub second : ℕ
  pub third : ℕ
  pub fourth : ℕ
  pub fifth : ℕ
  pub made : now ≡ after s (got.Received call (message method (five first second third fourth fifth)) sender)

-- it asks this, and all stays that it keeps of services and of calls that want one
pub record Asks (request : Request) (s now : NamingState) : Type 0 where
  pub asked : wanted now ≡ request
  pub registry : now.registry ≡ s.registry
  pub pending : now.pending ≡ s.pending

-- it answers with this, and nothing changes of what it keeps of tasks
pub record Answers (call : CallNo) (said : Reply) (s now : NamingState) : Type 0 where
  pub asks : Asks (ask.Answer call.0 said) s now
  pub ends : now.ends ≡ s.ends

-- it answers with a code alone
abbrev pub Refuses : CallNo → ℕ → NamingState → NamingState → Type 0
Refuses call code s now = Answers call (reply code (five 0 0 0 0 0)) s now

-- ---- introductions

-- the task of this phone is the last of those that introduced themselves, without a value, and has not ended
pub record Introduces (call : CallNo) (sender : Label) (s now : NamingState) : Type 0 where
  pub asks : Asks (ask.Answer call.0 (reply 0 (five 0 0 0 0 0))) s now
  pub introduced : now.ends.introduced
      ≡ s.ends.introduced
      ++ record { label = sender; end = record { has = false; value = 0 }; ended = false } ∷ []
  pub waits : now.ends.waits ≡ s.ends.waits

-- a task introduces itself once: a second time it is told EEXIST, over whatever phone, and also once it has ended
pub record TasksIntroduceThemselvesOnce : Type 0 where
  pub first : (s now : NamingState) (c : Comes 512 s now) → IsUnknown s c.sender.task.0 →
      Introduces c.call c.sender s now
  pub again : (s now : NamingState) (c : Comes 512 s now) (i : ℕ) (x : Introduced) → Stands s i x →
      x.label.task.0 ≡ c.sender.task.0 → Refuses c.call 3 s now

-- ---- values that are left

-- the entry at this place has that value now, and no other entry and no wait has changed
pub record Leaves (call : CallNo) (value i : ℕ) (x : Introduced) (s now : NamingState) : Type 0 where
  pub asks : Asks (ask.Answer call.0 (reply 0 (five 0 0 0 0 0))) s now
  pub left : Stands now i (record x { end = record { has = true; value = value } })
  pub others : (j : ℕ) → (j ≡ i → ⊥) → slice_get now.ends.introduced j ≡ slice_get s.ends.introduced j
  pub waits : now.ends.waits ≡ s.ends.waits

-- no task that introduced itself over this phone lives
abbrev pub IsNobodys : NamingState → Label → Type 0
IsNobodys s sender = (i : ℕ) (x : Introduced) → Stands s i x → x.label ≡ sender → x.ended ≡ false → ⊥

-- a value is left by who introduced itself over that phone and has not ended; anyone else is told ENOENT
pub record TasksLeaveTheirValue : Type 0 where
  pub left : (s now : NamingState) (c : Comes 513 s now) (i : ℕ) (x : Introduced) → Stands s i x →
      x.label ≡ c.sender → x.ended ≡ false → Leaves c.call c.first i x s now
  pub refused : (s now : NamingState) (c : Comes 513 s now) → IsNobodys s c.sender → Refuses c.call 1 s now

-- ---- waits for the end of a task

-- nothing is asked but the next call, and the call waits for this task, behind all others
pub record GoesLast (call : CallNo) (task : ℕ) (s now : NamingState) : Type 0 where
  pub asks : Asks ask.Receive s now
  pub waits : now.ends.waits ≡ s.ends.waits ++ record { call = call; task = task } ∷ []
  pub introduced : now.ends.introduced ≡ s.ends.introduced

-- who waits for a task that lives goes last; of one that has ended it is told at once what that left, and of one that
-- never introduced itself ENOENT
pub record WaitsAreForTheKnown : Type 0 where
  pub waits : (s now : NamingState) (c : Comes 514 s now) (i : ℕ) (x : Introduced) → Stands s i x →
      x.label.task.0 ≡ c.first → x.ended ≡ false → GoesLast c.call c.first s now
  pub told : (s now : NamingState) (c : Comes 514 s now) (i : ℕ) (x : Introduced) → Stands s i x →
      x.label.task.0 ≡ c.first → x.ended ≡ true → x.end.has ≡ true →
      Answers c.call (reply 0 (five 1 x.end.value 0 0 0)) s now
  pub told_without : (s now : NamingState) (c : Comes 514 s now) (i : ℕ) (x : Introduced) → Stands s i x →
      x.label.task.0 ≡ c.first → x.ended ≡ true → x.end.has ≡ false →
      Answers c.call (reply 0 (five 0 0 0 0 0)) s now
  pub unknown : (s now : NamingState) (c : Comes 514 s now) → IsUnknown s c.first → Refuses c.call 1 s now

-- ---- calls for a service

-- no phone leads to this service
abbrev pub IsNotThere : NamingState → ℕ → Type 0
IsNotThere s service = (i phone : ℕ) → slice_get s.registry i ≡ Some (service, phone) → ⊥

-- nothing is asked but the next call, and the call is pending, behind all others
pub record IsPendingLast (received : ReceivedCall) (s now : NamingState) : Type 0 where
  pub asked : wanted now ≡ ask.Receive
  pub pending : now.pending ≡ s.pending ++ received ∷ []
  pub registry : now.registry ≡ s.registry
  pub ends : now.ends ≡ s.ends

-- a call for a service that is not there waits where its fourth argument is 1, behind all others; else it is told
-- ENOENT
pub record CallsWaitForServices : Type 0 where
  pub waits : (s now : NamingState) (c : Comes 2 s now) → IsNotThere s c.first → c.fourth ≡ 1 →
      IsPendingLast
      (record {
        number = c.call;
        msg = message 2 (five c.first c.second c.third c.fourth c.fifth);
        label = c.sender;
      }) s now
  pub refused : (s now : NamingState) (c : Comes 2 s now) → IsNotThere s c.first → (c.fourth ≡ 1 → ⊥) →
      Refuses c.call 1 s now

-- ---- what is owed

-- the first of what is owed is asked; whatever comes of it, the rest stays in its order, and so does all else
pub record OwedWorkStays : Type 0 where
  pub answer : (s : NamingState) (call : CallNo) (said : Reply) (rest : List Work) →
      s.work ≡ Answer call said ∷ rest → wanted s ≡ ask.Answer call.0 said
  pub forward : (s : NamingState) (call : CallNo) (phone : ℕ) (msg : Msg) (rest : List Work) →
      s.work ≡ Forward call phone msg ∷ rest → wanted s ≡ ask.Forward call.0 phone Plain (Some msg)
  pub rest : (s : NamingState) (first : Work) (rest : List Work) (o : Outcome) → s.work ≡ first ∷ rest →
      after s o ≡ record s { work = rest; taken = s.taken + 1 }
