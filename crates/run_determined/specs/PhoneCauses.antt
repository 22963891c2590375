-- The whole life of a phone, in a list of entries: each change of a phone stands right behind the entry that is its
-- cause, and each call goes the way that its phone has. Each entry is read with those before it, the newest first.
use Rattle.std.specs.Prelude.{ℕ, ◌≡◌, ◌<◌, ◌==◌, ◌⊎◌, Bool, false, if◌then◌else◌, Option, None, Some, List, [], ◌∷◌, ⊤}
use Rattle.ipc_ids.specs.declared.numbers.TaskNo.{TaskNo}
use Rattle.ipc_ids.specs.declared.numbers.Label.{Label}
use Rattle.ipc_ids.specs.declared.numbers.Code.{Code}
use Rattle.ipc_ids.specs.declared.message.PhoneState.{PhoneState}
use Rattle.ipc_ids.specs.declared.message.PhoneState.TheVariants.{Free, Connecting, Connected, HungUp, Slammed}
use Rattle.ipc_ids.specs.declared.message.Request.TheVariants as request
use Rattle.ipc_ids.specs.declared.message.Outcome.TheVariants as outcome
use Rattle.ipc_ids.specs.declared.entry.Entry.{Entry}
use Rattle.ipc_ids.specs.declared.entry.Entry.TheVariants as entry
use Rattle.ipc_ids.specs.Codes.{eok, enoent, eperm, elimit, ehangup, enomem}
use Rattle.ipc_ids.specs.Methods.{phone_hungup, connect_to_me, connect_me_to, data_write, data_read, share_out, share_in}
use Rattle.ipc_ids.specs.Tales.{tales}
use Rattle.ipc_ids.specs.Life.{Dispatched, life}
use Rattle.ipc_ids.specs.Holdings.{present, Making, making}
use Rattle.route_laws.specs.Leads.{Beginning, phone_in}
use Rattle.route_laws.specs.PhoneLaw.{phone_of, HangsUp, Kills}

-- ---- the phone that is kept for a call

-- the newest entry says that call n was accepted, and goes to a task
abbrev pub is_sent : ℕ → List Entry → Bool
is_sent n (entry.Accepted m from method (Some u) ∷ q) = m.0 == n
is_sent n _ = false

-- the newest entry says that call n was received
abbrev pub is_received : ℕ → List Entry → Bool
is_received n (entry.Received m t ∷ q) = m.0 == n
is_received n _ = false

-- the phone that the caller of call n kept for it as it was sent
abbrev pub asked_for : ℕ → List Entry → Option Label
asked_for n [] = None
asked_for n (entry.PhoneIs l Connecting ∷ q) = if is_sent n q then Some l else asked_for n q
asked_for n (_ ∷ q) = asked_for n q

-- the phone that the task which holds call n keeps for it since it received the call
abbrev pub lent_for : ℕ → List Entry → Option Label
lent_for n [] = None
lent_for n (entry.PhoneIs l Connecting ∷ q) = if is_received n q then Some l else lent_for n q
lent_for n (entry.Received m t ∷ q) = if m.0 == n then None else lent_for n q
lent_for n (entry.Forwarded m by to label ∷ q) = if m.0 == n then None else lent_for n q
lent_for n (_ ∷ q) = lent_for n q

-- call n was made with this method
abbrev pub IsMadeWith : ℕ → Option Making → Type 0
IsMadeWith method None = ⊥
IsMadeWith method (Some made) = made.method ≡ method

-- ---- the causes of a change

-- phone l is kept: its task has just called with CONNECT_ME_TO, or has just received a call made with CONNECT_TO_ME
abbrev pub IsKept : Label → List Entry → Type 0
IsKept l (entry.Accepted n from method (Some u) ∷ q) = (from.task ≡ l.task) × (method ≡ connect_me_to)
IsKept l (entry.Received n t ∷ q) = (t ≡ l.task) × IsMadeWith connect_to_me (making n.0 q)
IsKept l _ = ⊥

-- task t holds call n, and phone l is the one that is kept for this very call; of a CONNECT_ME_TO it is the caller's,
-- and comes to lead to t; of a CONNECT_TO_ME it is one of t, and comes to lead to the caller
pub record IsConnectedFor (l : Label) (u t : TaskNo) (n : ℕ) (q : List Entry) : Type 0 where
  pub made : Making
  pub how : making n q ≡ Some made
  pub held : life n (tales q) ≡ Dispatched made.caller t.0
  pub phone : ((made.method ≡ connect_me_to) × (asked_for n q ≡ Some l) × (u ≡ t))
      ⊎ ((made.method ≡ connect_to_me) × (lent_for n q ≡ Some l) × (u.0 ≡ made.caller))

-- so as a task has just answered call n with EOK
abbrev pub AnswersFor : Label → TaskNo → TaskNo → ℕ → Code → List Entry → Type 0
AnswersFor l u t n code (entry.Head s (request.Answer m reply) ∷ q) =
    (s ≡ t) × (m ≡ n) × (code ≡ eok) × (reply.code ≡ eok) × IsConnectedFor l u t n q
AnswersFor l u t n code _ = ⊥

abbrev pub IsConnected : Label → TaskNo → List Entry → Type 0
IsConnected l u (entry.Answered n reply (Some t) ∷ q) = AnswersFor l u t n.0 reply.code q
IsConnected l u _ = ⊥

-- phone 0 of a task that has just been made leads to the naming service
abbrev pub IsMadeLeading : Option TaskNo → Label → TaskNo → List Entry → Type 0
IsMadeLeading names l u (entry.Spawn t ∷ q) = (l.task ≡ t) × (l.phone.0 ≡ 0) × (names ≡ Some u)
IsMadeLeading names l u _ = ⊥

-- phone l is let go: the call for which it was kept has just been passed on, declined, delivered or dropped, or has
-- vanished
abbrev pub IsLetGo : Label → List Entry → Type 0
IsLetGo l (entry.Forwarded n by to label ∷ q) = lent_for n.0 q ≡ Some l
IsLetGo l (entry.Answered n reply by ∷ q) = (reply.code ≡ eok → ⊥) × (lent_for n.0 q ≡ Some l)
IsLetGo l (entry.Vanished n ∷ q) = (asked_for n.0 q ≡ Some l) ⊎ (lent_for n.0 q ≡ Some l)
IsLetGo l (entry.Delivered n t ∷ q) = asked_for n.0 q ≡ Some l
IsLetGo l (entry.Dropped n t ∷ q) = asked_for n.0 q ≡ Some l
IsLetGo l _ = ⊥

-- phone l, which leads to task u, is hung up: u has just been told by a call over it, and its task, or a schedule for
-- it, asks for that, or its task is killed
abbrev pub IsHungUp : Label → TaskNo → List Entry → Type 0
IsHungUp l u (entry.Accepted n from method (Some v) ∷ q) =
    (from ≡ l) × (method ≡ phone_hungup) × (v ≡ u) × HangsUp l (present q)
IsHungUp l u _ = ⊥

-- the cause for which phone l comes from one state to another; there is none for any other change
abbrev pub IsCause : Option TaskNo → Label → List Entry → PhoneState → PhoneState → Type 0
IsCause names l q Free Connecting = IsKept l q
IsCause names l q HungUp Connecting = IsKept l q
IsCause names l q Connecting (Connected u) = IsConnected l u q
IsCause names l q Connecting Free = IsLetGo l q
IsCause names l q Free (Connected u) = IsMadeLeading names l u q
IsCause names l q (Connected u) HungUp = IsHungUp l u q
IsCause names l q (Connected u) Slammed = Kills u (present q)
IsCause names l q Slammed HungUp = HangsUp l (present q)
IsCause names l q _ _ = ⊥

-- ---- the laws

-- of the phones of its task none with a lower number than one that is kept is free
abbrev pub IsLowest : Beginning → Label → List Entry → PhoneState → Type 0
IsLowest b l q Connecting = (p : ℕ) → p < l.phone.0 → phone_in b.wires l.task.0 p q ≡ Free → ⊥
IsLowest b l q _ = ⊤

-- a phone changes only for its cause
abbrev pub ChangesForCause : Beginning → List Entry → Entry → Type 0
ChangesForCause b q (entry.PhoneIs l s) =
    IsCause b.names l q (phone_in b.wires l.task.0 l.phone.0 q) s × IsLowest b l q s
ChangesForCause b q _ = ⊤

-- a call that tells of a hangup is followed at once by the entry that its phone is hung up
abbrev pub IsHungUpAtOnce : List Entry → Entry → Type 0
IsHungUpAtOnce (entry.Accepted n from method to ∷ q) e = method ≡ phone_hungup → e ≡ entry.PhoneIs from HungUp
IsHungUpAtOnce _ e = ⊤

-- the newest entry is this one
abbrev pub IsNewest : Entry → List Entry → Type 0
IsNewest e [] = ⊥
IsNewest e (x ∷ q) = x ≡ e

-- where a hangup was asked for, the newest entry says that the phone is hung up
abbrev pub HasHungUp : List Entry → Option Entry → Type 0
HasHungUp q (Some (entry.Head t (request.Hangup p))) = IsNewest (entry.PhoneIs (phone_of t p) HungUp) q
HasHungUp q _ = ⊤

-- a hangup that is told as done has hung up the phone that was named
abbrev pub IsDoneAsTold : List Entry → Entry → Type 0
IsDoneAsTold q (entry.Outcome outcome.Done) = HasHungUp q (present q)
IsDoneAsTold q _ = ⊤

-- a call with this method may be tested before it is sent
abbrev pub MayFail : ℕ → Type 0
MayFail method =
    (method ≡ connect_me_to) ⊎ (method ≡ data_write) ⊎ (method ≡ data_read) ⊎ (method ≡ share_out)
    ⊎ (method ≡ share_in)

-- a call goes to the task to which its phone leads, and else back: over a phone that leads nowhere any more, and over
-- one that leads only where its method may be tested
abbrev pub IsWay : ℕ → Option TaskNo → PhoneState → Type 0
IsWay method (Some v) (Connected u) = v ≡ u
IsWay method None (Connected u) = MayFail method
IsWay method None HungUp = ⊤
IsWay method None Slammed = ⊤
IsWay method to _ = ⊥

abbrev pub GoesItsWay : Beginning → List Entry → Entry → Type 0
GoesItsWay b q (entry.Accepted n from method to) = IsWay method to (phone_in b.wires from.task.0 from.phone.0 q)
GoesItsWay b q _ = ⊤

-- why bytes are not copied: there are too many, or they may not be read, or the pool has no room for them
abbrev pub IsCopyCode : Code → Type 0
IsCopyCode code = (code ≡ elimit) ⊎ ((code ≡ eperm) ⊎ (code ≡ enomem))

-- why an area is not offered: there is none, or it has other pages or not these rights
abbrev pub IsOfferCode : Code → Type 0
IsOfferCode code = (code ≡ enoent) ⊎ (code ≡ eperm)

-- the code with which a call with this method fails that is tested before it is sent
abbrev pub IsTestedCode : ℕ → Code → Type 0
IsTestedCode method code =
    ((method ≡ connect_me_to) × (code ≡ elimit)) ⊎ ((method ≡ data_write) × IsCopyCode code)
    ⊎ ((method ≡ data_read) × (code ≡ elimit)) ⊎ ((method ≡ share_out) × IsOfferCode code)
    ⊎ ((method ≡ share_in) × (code ≡ eperm))

-- the code with which a call goes back over a phone in this state
abbrev pub IsCodeBack : ℕ → Code → PhoneState → Type 0
IsCodeBack method code (Connected u) = IsTestedCode method code
IsCodeBack method code HungUp = code ≡ ehangup
IsCodeBack method code Slammed = code ≡ enoent
IsCodeBack method code _ = ⊥

-- this is the code of a call that goes back, where one has just been accepted so
abbrev pub TellsBack : Beginning → Code → List Entry → Type 0
TellsBack b code (entry.Accepted n from method None ∷ q) =
    IsCodeBack method code (phone_in b.wires from.task.0 from.phone.0 q)
TellsBack b code _ = ⊤

-- a call that goes back is answered with the code of its phone's state
abbrev pub GoesBackWithCode : Beginning → List Entry → Entry → Type 0
GoesBackWithCode b q (entry.Answered n reply by) = TellsBack b reply.code q
GoesBackWithCode b q _ = ⊤

-- a task that is told of a call as accepted has just made it, and with no method of a hangup
abbrev pub IsJustMade : Option Entry → Option Making → Type 0
IsJustMade (Some (entry.Head t asked)) (Some made) =
    (made.asked ≡ Some (entry.Head t asked)) × (made.caller ≡ t.0) × (made.method ≡ phone_hungup → ⊥)
IsJustMade _ _ = ⊥

abbrev pub TellsItsCall : List Entry → Entry → Type 0
TellsItsCall q (entry.Outcome (outcome.Accepted n)) = IsJustMade (present q) (making n.0 q)
TellsItsCall q _ = ⊤

-- an answer is dropped where it is that of a hangup, for which nobody waits, or where its task is killed
abbrev pub DropsUnawaited : List Entry → Entry → Type 0
DropsUnawaited q (entry.Dropped n t) = IsMadeWith phone_hungup (making n.0 q) ⊎ (present q ≡ Some (entry.Kill t))
DropsUnawaited q _ = ⊤

-- after these entries this one has its cause
pub record HasItsCause (b : Beginning) (q : List Entry) (e : Entry) : Type 0 where
  pub changes : ChangesForCause b q e
  pub hung_up : IsHungUpAtOnce q e
  pub done : IsDoneAsTold q e
  pub way : GoesItsWay b q e
  pub code : GoesBackWithCode b q e
  pub told : TellsItsCall q e
  pub dropped : DropsUnawaited q e

-- no hangup and no call that goes back is told by half
abbrev pub IsWhole : List Entry → Type 0
IsWhole (entry.Accepted n from method None ∷ q) = ⊥
IsWhole (entry.Accepted n from method (Some u) ∷ q) = method ≡ phone_hungup → ⊥
IsWhole _ = ⊤

abbrev pub AllHaveCause : Beginning → List Entry → List Entry → Type 0
AllHaveCause b q [] = IsWhole q
AllHaveCause b q (e ∷ es) = HasItsCause b q e × AllHaveCause b (e ∷ q) es

-- the law of causes, in a list of a run that began so
abbrev pub PhonesChangeForCause : Beginning → List Entry → Type 0
PhonesChangeForCause b h = AllHaveCause b [] h

-- each of the entries, the newest first, had its cause as it came
abbrev pub HadCause : Beginning → List Entry → Type 0
HadCause b [] = ⊤
HadCause b (e ∷ q) = HadCause b q × HasItsCause b q e
