-- The law of ends, over what the naming service did, the newest first; and the form of it that is
-- proved of a list one doing after the other.
use Rattle.std.specs.Prelude.{ℕ, ◌≡◌, ◌==◌, ◌&&◌, ◌++◌, Bool, true, false, if◌then◌else◌, Option, Some, None, List, [], ◌∷◌, slice_index, ⊤}
use Rattle.ipc_ids.specs.declared.numbers.Label.{Label}
use Rattle.ipc_ids.specs.declared.message.Msg.{Msg}
use Rattle.ipc_ids.specs.declared.message.Reply.{Reply}
use Rattle.ipc_ids.specs.declared.message.Request.TheVariants as request
use Rattle.ipc_ids.specs.declared.message.Outcome.TheVariants as outcome
use Rattle.ipc_ids.specs.declared.entry.Entry.{Entry}
use Rattle.ipc_ids.specs.Codes.{eok}
use Rattle.ipc_ids.specs.Methods.{phone_hungup}
use Rattle.ipc_ids.specs.Doings.{Doing, Asks, Told, doings, Came}
use Rattle.task_ends.specs.declared.introduced.End.{End}
use Rattle.task_ends.specs.declared.introduced.Introduced.{Introduced}
use Rattle.ipc_ids.specs.Labels.{same_label}
use Rattle.task_ends.specs.Ends.{no_end, newcomer, leaving, ending}

-- methods of users: a task introduces itself, leaves a value, and waits for the end of another
abbrev pub introduce_self : ℕ
introduce_self = 512

abbrev pub leave_value : ℕ
leave_value = 513

abbrev pub wait_for : ℕ
wait_for = 514

-- the doing is that a call with this method comes from this label
abbrev pub IsCallFrom : (method : ℕ) → Label → Doing → Type 0
IsCallFrom method from (Told (outcome.Received n msg label)) = (msg.method ≡ method) × (label ≡ from)
IsCallFrom method from _ = ⊥

-- that task w introduces itself
abbrev pub IsIntroductionOf : ℕ → Doing → Type 0
IsIntroductionOf w (Told (outcome.Received n msg label)) =
    (msg.method ≡ introduce_self) × (label.task.0 ≡ w)
IsIntroductionOf w _ = ⊥

-- none of the doings is so
abbrev pub HasNone : (Doing → Type 0) → List Doing → Type 0
HasNone P [] = ⊤
HasNone P (x ∷ p) = (P x → ⊥) × HasNone P p

-- the call leaves a value
abbrev pub leaves : Label → Msg → Label → Bool
leaves from msg label = (msg.method == leave_value) && same_label from label

-- the value that was left last from this label, the newest doing first
abbrev pub last_left : Label → List Doing → End
last_left from [] = no_end
last_left from (Told (outcome.Received n msg label) ∷ p) =
    if leaves from msg label then record { has = true; value = slice_index msg.args 0 } else last_left from p
last_left from (x ∷ p) = last_left from p

-- the arguments of an answer that tells of an end
abbrev pub end_arguments : End → List ℕ
end_arguments end = (if end.has then 1 else 0) ∷ (if end.has then end.value else 0) ∷ 0 ∷ 0 ∷ 0 ∷ []

-- before here, task w has introduced itself for the first time, then hung up the same phone for the
-- first time, and between the two left this end
pub record HasLeft (w : ℕ) (p : List Doing) (arguments : List ℕ) : Type 0 where
  pub from : Label
  pub since : List Doing
  pub hangup : Doing
  pub between : List Doing
  pub introduction : Doing
  pub before : List Doing
  pub split : p ≡ since ++ (hangup ∷ (between ++ (introduction ∷ before)))
  pub introduces : IsCallFrom introduce_self from introduction
  pub task : from.task.0 ≡ w
  pub first : HasNone (IsIntroductionOf w) before
  pub hangs_up : IsCallFrom phone_hungup from hangup
  pub no_earlier : HasNone (IsCallFrom phone_hungup from) between
  pub left : arguments ≡ end_arguments (last_left from between)

-- the law: where a call that waits for task w is answered with success, and with such arguments, the
-- task has ended, and left just this
abbrev pub AnswersTellTheEnd : List Doing → Type 0
AnswersTellTheEnd p =
    (later earlier : List Doing) (n w b1 b2 : ℕ) (reply : Reply) →
    p ≡ later ++ (Asks (request.Answer n reply) ∷ earlier) →
    reply ≡ record { code = eok; args = b1 ∷ b2 ∷ 0 ∷ 0 ∷ 0 ∷ [] } →
    Came wait_for n w p → HasLeft w earlier reply.args

-- the law of ends, for naming service t
abbrev pub WaitersGetTheSameEnd : ℕ → List Entry → Type 0
WaitersGetTheSameEnd t h = AnswersTellTheEnd (doings t h)

-- what a call that comes from a label makes of an entry
abbrev pub entry_after : Msg → Label → Introduced → Introduced
entry_after msg label x =
    if msg.method == leave_value then leaving label (slice_index msg.args 0) x
    else if msg.method == phone_hungup then ending label x
    else x

-- the entry of task w after a call, where it had this one before
abbrev pub story_after : ℕ → Msg → Label → Option Introduced → Option Introduced
story_after w msg label None =
    if (msg.method == introduce_self) && (label.task.0 == w) then Some (newcomer label) else None
story_after w msg label (Some x) = Some (entry_after msg label x)

-- what the doings tell of task w: its entry, once it has introduced itself
abbrev pub story : ℕ → List Doing → Option Introduced
story w [] = None
story w (Told (outcome.Received n msg label) ∷ p) = story_after w msg label (story w p)
story w (x ∷ p) = story w p

-- an answer to who waits for this task tells its end
abbrev pub TellsEnd : List ℕ → Option Introduced → Type 0
TellsEnd arguments None = ⊥
TellsEnd arguments (Some x) = (x.ended ≡ true) × (arguments ≡ end_arguments x.end)

-- call n is answered somewhere among these
abbrev pub is_answered : ℕ → List Doing → Bool
is_answered n [] = false
is_answered n (Asks (request.Answer call reply) ∷ p) = if call == n then true else is_answered n p
is_answered n (x ∷ p) = is_answered n p

-- after these doings this one is lawful: a call that comes was not answered yet; and a success for
-- who waits tells of the end of the task
abbrev pub IsLawfulDoing : List Doing → Doing → Type 0
IsLawfulDoing p (Told (outcome.Received n msg label)) = is_answered n.0 p ≡ false
IsLawfulDoing p (Asks (request.Answer n reply)) =
    (w : ℕ) → reply.code ≡ eok → Came wait_for n w p → TellsEnd reply.args (story w p)
IsLawfulDoing p _ = ⊤

-- each doing was lawful as it came
abbrev pub EndsWereLawful : List Doing → Type 0
EndsWereLawful [] = ⊤
EndsWereLawful (x ∷ p) = EndsWereLawful p × IsLawfulDoing p x
