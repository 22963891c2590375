-- The wires of a script's tasks: those to the naming service, what laying one does, and when it can be laid.
use Rattle.std.specs.Prelude.{ℕ, zero, suc, ◌≡◌, ◌+◌, ◌-◌, if◌then◌else◌, ⊤, true, List, [], ◌∷◌, length, Some}
use Rattle.ipc_ids.specs.declared.message.PhoneState.TheVariants.{Free, Connected}
use Rattle.script_lines.specs.declared.plan.TaskPlan.{TaskPlan}
use Rattle.script_lines.specs.declared.plan.Wire.{Wire}
use Rattle.script_lines.specs.Sound.{has_service}
use Rattle.switchboard.specs.State.{KernelState, is_alive, phone_at, with_phone}

-- phone 0 of a task leads to task 1
abbrev pub service_wire : ℕ → Wire
service_wire t = record { from = record { 0 = t }; phone = record { 0 = 0 }; to = record { 0 = 1 } }

-- the same of so many tasks, from task t on
abbrev pub service_wires : ℕ → ℕ → List Wire
service_wires zero t = []
service_wires (suc n) t = service_wire t ∷ service_wires n (t + 1)

-- where the first task is the naming service, phone 0 of each other task leads to it
abbrev pub wires_to_service : List TaskPlan → List Wire
wires_to_service tasks = if has_service tasks then service_wires (length tasks - 1) 2 else []

-- the wire's phone leads to the task that the wire names
abbrev pub with_wire : KernelState → Wire → KernelState
with_wire k wire = with_phone k wire.from wire.phone.0 (Connected wire.to)

-- each wire in turn
abbrev pub with_wires : KernelState → List Wire → KernelState
with_wires k [] = k
with_wires k (wire ∷ wires) = with_wires (with_wire k wire) wires

-- the wire's tasks have not ended, and its phone is free
pub record IsOpen (k : KernelState) (wire : Wire) : Type 0 where
  pub from : is_alive k wire.from ≡ true
  pub to : is_alive k wire.to ≡ true
  pub free : phone_at k wire.from wire.phone.0 ≡ Some Free

-- each wire is open once those before it are laid
abbrev pub AreOpen : KernelState → List Wire → Type 0
AreOpen k [] = ⊤
AreOpen k (wire ∷ wires) = IsOpen k wire × AreOpen (with_wire k wire) wires
