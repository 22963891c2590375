-- The law of phones: calls go where phones lead, and phones lead where they are connected. Each entry of a list is read
-- with those before it, the newest first.
use Rattle.std.specs.Prelude.{ℕ, ◌≡◌, ◌==◌, ◌⊎◌, false, if◌then◌else◌, Option, None, Some, List, [], ◌∷◌, ⊤}
use Rattle.ipc_ids.specs.declared.numbers.TaskNo.{TaskNo}
use Rattle.ipc_ids.specs.declared.numbers.Label.{Label}
use Rattle.ipc_ids.specs.declared.message.Mode.{Mode}
use Rattle.ipc_ids.specs.declared.message.Mode.TheVariants.{Plain, Route}
use Rattle.ipc_ids.specs.declared.message.PhoneState.{PhoneState}
use Rattle.ipc_ids.specs.declared.message.PhoneState.TheVariants.{Free, Connecting, Connected, HungUp, Slammed}
use Rattle.ipc_ids.specs.declared.message.Request.TheVariants as request
use Rattle.ipc_ids.specs.declared.message.Outcome.TheVariants as outcome
use Rattle.ipc_ids.specs.declared.entry.Entry.{Entry}
use Rattle.ipc_ids.specs.declared.entry.Entry.TheVariants as entry
use Rattle.ipc_ids.specs.Codes.{eok}
use Rattle.ipc_ids.specs.Methods.{connect_to_me, connect_me_to}
use Rattle.ipc_ids.specs.Tales.{tales}
use Rattle.ipc_ids.specs.Life.{is_killed}
use Rattle.ipc_ids.specs.Holdings.{present, Making, making}
use Rattle.route_laws.specs.Leads.{Beginning, phone_in, leads}

-- a call that is accepted to a task goes where its phone leads
abbrev pub GoesThere : Beginning → List Entry → Entry → Type 0
GoesThere b q (entry.Accepted n from method (Some u)) = leads b.wires from.task.0 from.phone.0 q ≡ Some u
GoesThere b q _ = ⊤

-- the label of call n, with which it was accepted or passed on last
abbrev pub label_of_call : ℕ → List Entry → Option Label
label_of_call n [] = None
label_of_call n (entry.Accepted m from method to ∷ q) = if m.0 == n then Some from else label_of_call n q
label_of_call n (entry.Forwarded m by to label ∷ q) = if m.0 == n then Some label else label_of_call n q
label_of_call n (_ ∷ q) = label_of_call n q

-- the label of a call that is passed on: with Route the phone that it goes over, and else the one that it had
abbrev pub label_by : Mode → Option Label → Label → Option Label
label_by Plain had over = had
label_by Route had over = Some over

-- phone p of task t
abbrev pub phone_of : TaskNo → ℕ → Label
phone_of t p = record { task = t; phone = record { 0 = p } }

-- in the event with this head task t passes on call n, over a phone of its own that leads to task u, with this label
abbrev pub PassesOn : Beginning → List Entry → ℕ → TaskNo → TaskNo → Label → Option Entry → Type 0
PassesOn b q n t u label (Some (entry.Head s (request.Forward m p mode change))) =
    (s ≡ t) × (m ≡ n) × (leads b.wires t.0 p q ≡ Some u)
    × (label_by mode (label_of_call n q) (phone_of t p) ≡ Some label)
PassesOn b q n t u label _ = ⊥

-- a call that is passed on goes where the phone leads that its holder names
abbrev pub GoesOnThere : Beginning → List Entry → Entry → Type 0
GoesOnThere b q (entry.Forwarded n t u label) = PassesOn b q n.0 t u label (present q)
GoesOnThere b q _ = ⊤

-- a task that receives a call is told its label
abbrev pub TellsLabel : List Entry → Entry → Type 0
TellsLabel q (entry.Outcome (outcome.Received n msg label)) = label_of_call n.0 q ≡ Some label
TellsLabel q _ = ⊤

-- as task t accepts a call that was made so, phone l comes to lead to task u: by CONNECT_ME_TO a phone of the caller to
-- t, and by CONNECT_TO_ME a phone of t to the caller
abbrev pub ConnectsTwo : Label → TaskNo → TaskNo → Option Making → Type 0
ConnectsTwo l u t None = ⊥
ConnectsTwo l u t (Some made) =
    ((made.method ≡ connect_me_to) × (l.task.0 ≡ made.caller) × (u ≡ t))
    ⊎ ((made.method ≡ connect_to_me) × (l.task ≡ t) × (u.0 ≡ made.caller))

-- in the event with this head phone l comes to lead to task u: it waits for a connection, and a task accepts such a
-- call; or it is phone 0 of a task that is made, and u is the naming service
abbrev pub Connects : Beginning → List Entry → Label → TaskNo → Option Entry → Type 0
Connects b q l u (Some (entry.Head t (request.Answer n reply))) =
    (phone_in b.wires l.task.0 l.phone.0 q ≡ Connecting) × (reply.code ≡ eok) × ConnectsTwo l u t (making n q)
Connects b q l u (Some (entry.Spawn t)) = (l.task ≡ t) × (l.phone.0 ≡ 0) × (b.names ≡ Some u)
Connects b q l u _ = ⊥

-- a phone comes to lead to a task only where it is connected to it
abbrev pub ComesToLead : Beginning → List Entry → Entry → Type 0
ComesToLead b q (entry.PhoneIs l (Connected u)) = Connects b q l u (present q)
ComesToLead b q _ = ⊤

-- in the event with this head phone l is hung up: its task, or a schedule for it, asks for that, or its task is killed
abbrev pub HangsUp : Label → Option Entry → Type 0
HangsUp l (Some (entry.Head t (request.Hangup p))) = (t ≡ l.task) × (p ≡ l.phone.0)
HangsUp l (Some (entry.Kill t)) = t ≡ l.task
HangsUp l _ = ⊥

-- in the event with this head task u is killed
abbrev pub Kills : TaskNo → Option Entry → Type 0
Kills u (Some (entry.Kill t)) = t ≡ u
Kills u _ = ⊥

-- in the event with this head phone l, which leads to task u, may get this state
abbrev pub MayCease : Label → TaskNo → PhoneState → Option Entry → Type 0
MayCease l u Free asked = ⊥
MayCease l u Connecting asked = ⊥
MayCease l u (Connected v) asked = ⊥
MayCease l u HungUp asked = HangsUp l asked
MayCease l u Slammed asked = Kills u asked

-- a phone that leads to a task ceases to only where it is hung up, or where that task is killed
abbrev pub CeasesToLead : Beginning → List Entry → Entry → Type 0
CeasesToLead b q (entry.PhoneIs l s) =
    (u : TaskNo) → leads b.wires l.task.0 l.phone.0 q ≡ Some u → MayCease l u s (present q)
CeasesToLead b q _ = ⊤

-- no phone leads to a task that was killed, and none of such a task leads anywhere
abbrev pub AreCutOff : Beginning → List Entry → Type 0
AreCutOff b q =
    (t p : ℕ) (u : TaskNo) → leads b.wires t p q ≡ Some u
    → (is_killed t (tales q) ≡ false) × (is_killed u.0 (tales q) ≡ false)

-- as an event begins, so it is
abbrev pub BeginsCutOff : Beginning → List Entry → Entry → Type 0
BeginsCutOff b q (entry.Head t asked) = AreCutOff b q
BeginsCutOff b q (entry.Kill t) = AreCutOff b q
BeginsCutOff b q (entry.Gone t) = AreCutOff b q
BeginsCutOff b q (entry.Spawn t) = AreCutOff b q
BeginsCutOff b q _ = ⊤

-- after these entries this one is lawful
pub record IsRouted (b : Beginning) (q : List Entry) (e : Entry) : Type 0 where
  -- calls go where phones lead, and are received with the label that is due
  pub goes : GoesThere b q e
  pub passed : GoesOnThere b q e
  pub seen : TellsLabel q e
  -- phones lead where they are connected, until they are hung up or slammed
  pub came : ComesToLead b q e
  pub went : CeasesToLead b q e
  -- and not from a task that was killed, nor to one
  pub cut : BeginsCutOff b q e

abbrev pub AllRouted : Beginning → List Entry → List Entry → Type 0
AllRouted b q [] = AreCutOff b q
AllRouted b q (e ∷ es) = IsRouted b q e × AllRouted b (e ∷ q) es

-- the law of phones, in a list of a run that began so
abbrev pub CallsGoWherePhonesLead : Beginning → List Entry → Type 0
CallsGoWherePhonesLead b h = AllRouted b [] h

-- each of the entries, the newest first, was lawful as it came
abbrev pub WereRouted : Beginning → List Entry → Type 0
WereRouted b [] = ⊤
WereRouted b (e ∷ q) = WereRouted b q × IsRouted b q e
