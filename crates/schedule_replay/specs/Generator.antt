-- The runs that the generator makes of a number: a script of sixteen tasks that call one another, the
-- same for every number, and events, which come from the number.
use Rattle.std.specs.Prelude.{ℕ, zero, suc, ◌+◌, ◌*◌, ◌/◌, ◌%◌, ◌^◌, ◌==◌, if◌then◌else◌, false, List, [], ◌∷◌, ◌++◌, map, codes, None}
use Rattle.std.specs.Fmt.{decimal}
use Rattle.std.specs.List.{range_with_len, flat_map}
use Rattle.ipc_ids.specs.Tables.{most_phones}
use Rattle.ipc_ids.specs.declared.message.Event.{Event}
use Rattle.ipc_ids.specs.declared.message.Event.TheVariants.{Step, Kill}
use Rattle.ipc_ids.specs.declared.op.Op.{Op}
use Rattle.ipc_ids.specs.declared.op.Op.TheVariants.{Call, Receive, Answer, Jump}
use Rattle.ipc_ids.specs.declared.op.Value.TheVariants.{Number, Register}
use Rattle.script_lines.specs.declared.plan.Kind.TheVariants.{Raw}
use Rattle.script_lines.specs.declared.plan.TaskPlan.{TaskPlan}
use Rattle.script_lines.specs.declared.plan.Wire.{Wire}
use Rattle.script_lines.specs.Plan.{Plan}

-- ---- the script

-- the numbers from 0 up to, and without, a limit
abbrev pub below : ℕ → List ℕ
below limit = range_with_len 0 limit

-- the tasks g0 to g15, which have the numbers 1 to 16
abbrev pub generated_count : ℕ
generated_count = 16

-- the phones 0 to 14 of a task are wired, one to each other task
abbrev pub wired_count : ℕ
wired_count = 15

-- the operation `call P 512`
abbrev pub call_over : ℕ → Op
call_over p =
    Call (Number p) (Number 512) (Number 0 ∷ Number 0 ∷ Number 0 ∷ Number 0 ∷ Number 0 ∷ [])

-- `receive`, `answer r2 EOK`, `receive`, `jump 0`
abbrev pub answer_one : List Op
answer_one =
    Receive
    ∷ Answer (Register 2) (Number 0) (Number 0 ∷ Number 0 ∷ Number 0 ∷ Number 0 ∷ Number 0 ∷ [])
    ∷ Receive ∷ Jump 0 ∷ []

-- what each task does: a call over each wired phone, and then it answers one call
unfoldable pub generated_operations : List Op
generated_operations = map call_over (below wired_count) ++ answer_one

-- gK: the letter g, and K in decimal
unfoldable pub generated_name : ℕ → List ℕ
generated_name k = codes "g" ++ decimal k

-- the task gK, a raw one of 64 phones with one body
abbrev pub generated_task : ℕ → TaskPlan
generated_task k = record {
  name = generated_name k;
  kind = Raw;
  limit = most_phones;
  bodies = record { connection = false; ops = generated_operations } ∷ [];
  blocks = 0;
  service = None;
}

-- phone p of gK leads to the task that stands p + 1 after it, where g0 comes after g15
abbrev pub generated_wire : ℕ → ℕ → Wire
generated_wire k p = record {
  from = record { 0 = k + 1 };
  phone = record { 0 = p };
  to = record { 0 = (k + p + 1) % generated_count + 1 };
}

-- the wires of gK, by phones
abbrev pub wires_of : ℕ → List Wire
wires_of k = map (generated_wire k) (below wired_count)

-- the tasks in their order, and the wires of each in turn
unfoldable pub generated_plan : Plan
generated_plan = record {
  tasks = map generated_task (below generated_count);
  wires = flat_map wires_of (below generated_count);
  templates = [];
}

-- ---- the events

-- each event changes the number, which keeps 64 bits
unfoldable pub next_number : ℕ → ℕ
next_number x = (6364136223846793005 * x + 1442695040888963407) % 2 ^ 64

-- the highest 4 bits of the number say which task it is, and the next 12 say whether it is killed,
-- which is where they are all 0
unfoldable pub event_of : ℕ → Event
event_of x =
    if (x / 2 ^ 48) % 4096 == 0
    then Kill (record { 0 = x / 2 ^ 60 + 1 }) else Step (record { 0 = x / 2 ^ 60 + 1 })

-- from a number on, so many events: each is of the number that it changed
abbrev pub generated_events : ℕ → ℕ → List Event
generated_events x zero = []
generated_events x (suc count) =
    event_of (next_number x) ∷ generated_events (next_number x) count
