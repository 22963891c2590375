-- What the end of a task makes of the calls that wait for it, in the words of calls and work.
use Rattle.std.specs.Prelude.{◌≡◌, ◌⊎◌, ℕ, List, [], ◌∷◌, map}
use Rattle.ipc_ids.specs.declared.numbers.CallNo.{CallNo}
use Rattle.ipc_ids.specs.Codes.{eok}
use Rattle.task_ends.specs.declared.introduced.End.{End}
use Rattle.task_ends.specs.declared.introduced.Wait.{Wait as Waiter}
use Rattle.naming_service.specs.declared.received.ReceivedCall.{ReceivedCall}
use Rattle.naming_service.specs.Naming.{NamingState, answering, telling}

-- of these waits, the calls that wait for task w go, and the others stay, each in their order
abbrev pub IsParted : ℕ → List Waiter → List CallNo → List Waiter → Type 0
IsParted w [] go stay = (go ≡ []) × (stay ≡ [])
IsParted w (x ∷ xs) go stay =
    ((rest : List CallNo) × (x.task ≡ w) × (go ≡ x.call ∷ rest) × IsParted w xs rest stay)
    ⊎ ((rest : List Waiter) × (x.task ≡ w → ⊥) × (stay ≡ x ∷ rest) × IsParted w xs go rest)

-- the hangup is answered; behind that each call that waits for the end of its task learns of it, once, in the order of
-- arrival, all with the same arguments; no other wait is touched
pub record AnswersWaits (r : ReceivedCall) (before now : NamingState) (end : End) : Type 0 where
  pub go : List CallNo
  pub parted : IsParted r.label.task.0 before.ends.waits go now.ends.waits
  pub work : now.work ≡ answering r.number eok ∷ map (telling end) go
