-- Two short runs. A hangup from outside is no step of the program, and a task that is not there is told of as ended;
-- phone 0 of a task leads to the naming service, where the script has it.
use Rattle.std.proofs.Common.{◌≡◌, [], ◌∷◌, List, false, Some, None, refl}
use Rattle.ipc_ids.specs.declared.numbers.TaskNo.{TaskNo}
use Rattle.ipc_ids.specs.declared.numbers.Label.{Label}
use Rattle.ipc_ids.specs.declared.message.PhoneState.TheVariants.{HungUp, Connected}
use Rattle.ipc_ids.specs.declared.message.Request.TheVariants as ask
use Rattle.ipc_ids.specs.declared.message.Outcome.TheVariants as got
use Rattle.ipc_ids.specs.declared.message.Event.TheVariants.{Step, Hangup, Spawn}
use Rattle.ipc_ids.specs.declared.entry.Entry.TheVariants as entry
use Rattle.ipc_ids.specs.declared.op.Value.TheVariants.{Number}
use Rattle.ipc_ids.specs.declared.op.Op.{Op}
use Rattle.ipc_ids.specs.declared.op.Op.TheVariants as op
use Rattle.script_lines.specs.declared.plan.Kind.TheVariants.{Naming, Raw}
use Rattle.script_lines.specs.declared.plan.TaskPlan.{TaskPlan}
use Rattle.script_lines.specs.Plan.{Plan}
use Rattle.task_system.specs.Run.{run}

-- task 1, in the second run the naming service
abbrev first : TaskNo
first = record { 0 = 1 }

abbrev second : TaskNo
second = record { 0 = 2 }

abbrev nobody : TaskNo
nobody = record { 0 = 3 }

abbrev from : Label
from = record { task = first; phone = record { 0 = 0 } }

abbrev task_of : List Op → TaskPlan
task_of ops =
    record { name = []; kind = Raw; limit = 4; bodies = record { connection = false; ops = ops } ∷ []; blocks = 0; service = None }

-- hangup 0 is all that the first task does; its phone 0 leads to the second
abbrev plan : Plan
plan = record {
  tasks = task_of (op.Hangup (Number 0) ∷ []) ∷ task_of [] ∷ [];
  wires = record { from = first; phone = record { 0 = 0 }; to = second } ∷ [];
  templates = [];
}

hangup_from_outside : run plan (Hangup first 0 ∷ Step nobody ∷ Step first ∷ Step first ∷ [])
    ≡ entry.Head first (ask.Hangup 0)
    ∷ entry.Accepted (record { 0 = 1 }) from 0 (Some second)
    ∷ entry.PhoneIs from HungUp
    ∷ entry.Outcome got.Done
    ∷ entry.Gone nobody
    ∷ entry.Head first (ask.Hangup 0)
    ∷ entry.Outcome (got.Refused (record { 0 = 4 }))
    ∷ entry.Head first ask.Nothing
    ∷ entry.Outcome got.Done
    ∷ []
hangup_from_outside = refl

abbrev service : TaskPlan
service = record { name = []; kind = Naming; limit = 64; bodies = []; blocks = 0; service = None }

-- hangup 0 is all that the second task does
abbrev plan_with_service : Plan
plan_with_service = record { tasks = service ∷ task_of (op.Hangup (Number 0) ∷ []) ∷ []; wires = []; templates = [] }

abbrev over : Label
over = record { task = second; phone = record { 0 = 0 } }

service_is_reached : run plan_with_service (Step second ∷ [])
    ≡ entry.Head second (ask.Hangup 0)
    ∷ entry.Accepted (record { 0 = 1 }) over 0 (Some first)
    ∷ entry.PhoneIs over HungUp
    ∷ entry.Outcome got.Done
    ∷ []
service_is_reached = refl

-- hangup 0 is all that a task of the template does, which has two phones
abbrev plan_with_template : Plan
plan_with_template = record {
  tasks = service ∷ task_of [] ∷ [];
  wires = [];
  templates = record { name = []; kind = Raw; limit = 2; bodies = record { connection = false; ops = op.Hangup (Number 0) ∷ [] } ∷ []; blocks = 0; service = None } ∷ [];
}

abbrev third : TaskNo
third = record { 0 = 3 }

abbrev fourth : TaskNo
fourth = record { 0 = 4 }

abbrev zero_of : TaskNo → Label
zero_of t = record { task = t; phone = record { 0 = 0 } }

-- a task that is made reaches the naming service, and a second one likewise
tasks_are_made : run plan_with_template (Spawn 0 ∷ Step third ∷ Spawn 0 ∷ Step fourth ∷ [])
    ≡ entry.Spawn third
    ∷ entry.PhoneIs (zero_of third) (Connected first)
    ∷ entry.Head third (ask.Hangup 0)
    ∷ entry.Accepted (record { 0 = 1 }) (zero_of third) 0 (Some first)
    ∷ entry.PhoneIs (zero_of third) HungUp
    ∷ entry.Outcome got.Done
    ∷ entry.Spawn fourth
    ∷ entry.PhoneIs (zero_of fourth) (Connected first)
    ∷ entry.Head fourth (ask.Hangup 0)
    ∷ entry.Accepted (record { 0 = 2 }) (zero_of fourth) 0 (Some first)
    ∷ entry.PhoneIs (zero_of fourth) HungUp
    ∷ entry.Outcome got.Done
    ∷ []
tasks_are_made = refl
