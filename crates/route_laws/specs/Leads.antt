-- Where phones lead, as a list of entries tells it, the newest first, from the wires on with which the run began.
use Rattle.std.specs.Prelude.{ℕ, ◌==◌, ◌&&◌, Bool, if◌then◌else◌, Option, None, Some, List, [], ◌∷◌}
use Rattle.ipc_ids.specs.declared.numbers.TaskNo.{TaskNo}
use Rattle.ipc_ids.specs.declared.numbers.Label.{Label}
use Rattle.ipc_ids.specs.declared.message.PhoneState.{PhoneState}
use Rattle.ipc_ids.specs.declared.message.PhoneState.TheVariants.{Free, Connecting, Connected, HungUp, Slammed}
use Rattle.ipc_ids.specs.declared.entry.Entry.{Entry}
use Rattle.ipc_ids.specs.declared.entry.Entry.TheVariants as entry

-- a phone that leads to a task before the first event
pub record Lead : Type 0 where
  pub phone : Label
  pub to : TaskNo

-- how a run begins: its wires in the order in which they are laid, and the naming service, where there is one
pub record Beginning : Type 0 where
  pub wires : List Lead
  pub names : Option TaskNo

-- whether this is phone p of task t
abbrev pub is_phone : ℕ → ℕ → Label → Bool
is_phone t p l = (l.task.0 == t) && (l.phone.0 == p)

-- what these wires make of phone p of task t in this state: the last one that begins there decides
abbrev pub wired : List Lead → ℕ → ℕ → PhoneState → PhoneState
wired [] t p s = s
wired (w ∷ wires) t p s = wired wires t p (if is_phone t p w.phone then Connected w.to else s)

-- the state of phone p of task t: what the last entry on it says, and before the first what the wires make of it
abbrev pub phone_in : List Lead → ℕ → ℕ → List Entry → PhoneState
phone_in wires t p [] = wired wires t p Free
phone_in wires t p (entry.PhoneIs l s ∷ q) = if is_phone t p l then s else phone_in wires t p q
phone_in wires t p (_ ∷ q) = phone_in wires t p q

-- the task that a phone in this state leads to
abbrev pub target : PhoneState → Option TaskNo
target Free = None
target Connecting = None
target (Connected u) = Some u
target HungUp = None
target Slammed = None

-- the task that phone p of task t leads to
abbrev pub leads : List Lead → ℕ → ℕ → List Entry → Option TaskNo
leads wires t p q = target (phone_in wires t p q)
