-- What the naming service did so far, the newest first, fits its state.
use Rattle.std.specs.Prelude.{ℕ, ◌≡◌, ◌+◌, ◌≤◌, ◌<◌, ◌==◌, ◌⊎◌, Bool, true, false, Option, Some, None, List, [], ◌∷◌}
use Rattle.ipc_ids.specs.declared.message.Reply.{Reply}
use Rattle.ipc_ids.specs.declared.message.Request.TheVariants as request
use Rattle.ipc_ids.specs.declared.message.Outcome.{Outcome}
use Rattle.ipc_ids.specs.Program.{fits, is_done_or_refused}
use Rattle.ipc_ids.specs.Codes.{eok}
use Rattle.ipc_ids.specs.Doings.{Doing, Asks, Told, Came, is_kept, MayBeTold}
use Rattle.task_ends.specs.declared.introduced.Introduced.{Introduced}
use Rattle.task_ends.specs.declared.introduced.Wait.{Wait as Waiter}
use Rattle.task_ends.specs.Ends.{entry_of, AreApart}
use Rattle.task_ends.specs.EndLaw.{wait_for, story, TellsEnd, is_answered, EndsWereLawful, AnswersTellTheEnd}
use Rattle.naming_service.specs.declared.received.ReceivedCall.{ReceivedCall}
use Rattle.naming_service.specs.declared.received.Work.{Work}
use Rattle.naming_service.specs.declared.received.Work.TheVariants.{Answer, Forward}
use Rattle.naming_service.specs.Naming.{NamingState, started, wanted, after}

-- call n waits for the end of task w
abbrev pub IsWaiting : ℕ → ℕ → List Waiter → Type 0
IsWaiting n w [] = ⊥
IsWaiting n w (x ∷ xs) = ((x.call.0 ≡ n) × (x.task ≡ w)) ⊎ IsWaiting n w xs

-- the work is there
abbrev pub IsToDo : Work → List Work → Type 0
IsToDo w [] = ⊥
IsToDo w (x ∷ xs) = (x ≡ w) ⊎ IsToDo w xs

-- the entry is there, and has not ended
abbrev pub IsPresent : Option Introduced → Type 0
IsPresent None = ⊥
IsPresent (Some x) = x.ended ≡ false

abbrev pub one_if : Bool → ℕ
one_if true = 1
one_if false = 0

-- how often call n is pending; waits; is to be passed on; is to be answered
abbrev pub pendings : ℕ → List ReceivedCall → ℕ
pendings n [] = 0
pendings n (r ∷ rs) = one_if (r.number.0 == n) + pendings n rs

abbrev pub waits : ℕ → List Waiter → ℕ
waits n [] = 0
waits n (x ∷ xs) = one_if (x.call.0 == n) + waits n xs

abbrev pub forwards : ℕ → List Work → ℕ
forwards n [] = 0
forwards n (Forward call phone msg ∷ ws) = one_if (call.0 == n) + forwards n ws
forwards n (Answer call reply ∷ ws) = forwards n ws

abbrev pub answers : ℕ → List Work → ℕ
answers n [] = 0
answers n (Forward call phone msg ∷ ws) = answers n ws
answers n (Answer call reply ∷ ws) = one_if (call.0 == n) + answers n ws

-- how often it is yet to be passed on, and how often it is in hand
abbrev pub passing : ℕ → NamingState → ℕ
passing n s = pendings n s.pending + forwards n s.work

abbrev pub in_hand : ℕ → NamingState → ℕ
in_hand n s = passing n s + (waits n s.ends.waits + answers n s.work)

-- the doings fit the state
pub record NamingFits (p : List Doing) (s : NamingState) : Type 0 where
  pub lawful : EndsWereLawful p
  -- the entries of tasks are what the doings tell of them, no two of one task
  pub entries : (w : ℕ) → entry_of w s.ends.introduced ≡ story w p
  pub apart : AreApart s.ends.introduced
  -- who waits asked so, for a task that is there and has not ended
  pub waiting : (n w : ℕ) → IsWaiting n w s.ends.waits →
      Came wait_for n w p × IsPresent (entry_of w s.ends.introduced)
  -- a success that is yet to come for who waits tells of the end
  pub telling : (n w : ℕ) (reply : Reply) → IsToDo (Answer (record { 0 = n }) reply) s.work → reply.code ≡ eok →
      Came wait_for n w p → TellsEnd reply.args (entry_of w s.ends.introduced)
  -- each call is in hand once at most, and one that is has come and was not passed on; so has each
  -- that was answered, and each that waits or waited, for one task
  pub once : (n : ℕ) → in_hand n s ≤ 1
  pub kept : (n : ℕ) → is_kept n p ≡ false → in_hand n s ≡ 0
  pub answered : (n : ℕ) → is_kept n p ≡ false → is_answered n p ≡ false
  pub waited : (n w : ℕ) → is_kept n p ≡ false → Came wait_for n w p → ⊥
  pub one_task : (n v w : ℕ) → Came wait_for n v p → Came wait_for n w p → v ≡ w
  -- one that is yet to be passed on was not answered, and does not wait
  pub passed : (n : ℕ) → 0 < passing n s → is_answered n p ≡ false
  pub unasked : (n w : ℕ) → 0 < passing n s → Came wait_for n w p → ⊥

-- so they do at the start
abbrev pub StartFits : Type 0
StartFits = NamingFits [] started

-- after each step, whatever outcome that fits comes and may be told
abbrev pub StepFits : Type 0
StepFits = (p : List Doing) (s : NamingState) (o : Outcome) → NamingFits p s →
    fits (wanted s) o ≡ true → MayBeTold p (wanted s) o →
    NamingFits (Told o ∷ Asks (wanted s) ∷ p) (after s o)

-- and after a hangup by the schedule
abbrev pub HangupFits : Type 0
HangupFits = (p : List Doing) (s : NamingState) (phone : ℕ) (o : Outcome) → NamingFits p s →
    is_done_or_refused o ≡ true → NamingFits (Told o ∷ Asks (request.Hangup phone) ∷ p) s

-- doings that fit a state keep the law
abbrev pub FittingIsLawful : Type 0
FittingIsLawful = (p : List Doing) (s : NamingState) → NamingFits p s → AnswersTellTheEnd p
