-- The end of task t: what a kill does, part by part.
use Rattle.std.specs.Prelude.{ℕ, ◌+◌, ◌==◌, if◌then◌else◌, Option, None, length}
use Rattle.ipc_ids.specs.declared.numbers.TaskNo.{TaskNo}
use Rattle.ipc_ids.specs.Codes.{ehangup}
use Rattle.call_slab.specs.declared.call.Call.{Call}
use Rattle.call_slab.specs.declared.call.Place.{Place}
use Rattle.call_slab.specs.declared.call.Place.TheVariants.{Incoming, Dispatched, Answers}
use Rattle.answerbox.specs.Calls.{front, calls_of, calls_at, calls_by}
use Rattle.address_space.specs.Memory.{first_area, count_areas}
use Rattle.switchboard.specs.State.{KernelState, Transition, nothing, then_do, each, drain, phone_at, width, mark_ended}
use Rattle.switchboard.specs.Joins.{bare_reply, settle, drop_answer, forget_call, hang_up, slam_at}
use Rattle.switchboard.specs.Areas.{lose_first_area}

abbrev pub task_no : ℕ → TaskNo
task_no n = record { 0 = n }

-- first, each phone of t by its number is hung up
abbrev pub hang_up_at : TaskNo → KernelState → ℕ → Transition
hang_up_at t k p = hang_up k t p (phone_at k t p)

abbrev pub hang_up_own_phones : TaskNo → KernelState → Transition
hang_up_own_phones t k = each (hang_up_at t) (width k.tasks.phones t.0) 0 k

-- then the phones of other tasks that lead to t are slammed, by task and number
abbrev pub slam_phones_of : TaskNo → TaskNo → KernelState → Transition
slam_phones_of t u k = each (slam_at t u) (width k.tasks.phones u.0) 0 k

abbrev pub slam_other : TaskNo → KernelState → ℕ → Transition
slam_other t k i = if i + 1 == t.0 then nothing k else slam_phones_of t (task_no (i + 1)) k

abbrev pub slam_phones_to : TaskNo → KernelState → Transition
slam_phones_to t k = each (slam_other t) (length k.tasks.phones) 0 k

-- then the kernel answers the calls that wait at t, from the first on, as many as stand there
abbrev pub first_at : Place → KernelState → Option Call
first_at place k = front k.calls place

abbrev pub settle_call : KernelState → Call → Transition
settle_call k c = settle k c (bare_reply ehangup) None

abbrev pub settle_calls_at : Place → KernelState → Transition
settle_calls_at place k = drain (first_at place) settle_call (calls_at k.calls place) k

abbrev pub settle_incoming : TaskNo → KernelState → Transition
settle_incoming t k = settle_calls_at (Incoming t) k

-- then those that t has received
abbrev pub settle_dispatched : TaskNo → KernelState → Transition
settle_dispatched t k = settle_calls_at (Dispatched t) k

-- then the answers to t are dropped, from the first on
abbrev pub drop_answers : TaskNo → KernelState → Transition
drop_answers t k = drain (first_at (Answers t)) (drop_answer t) (calls_at k.calls (Answers t)) k

-- then the calls of t that stand at other tasks are forgotten, by number
abbrev pub first_call_of : TaskNo → KernelState → Option Call
first_call_of t k = calls_of k.calls t

abbrev pub forget_calls_elsewhere : TaskNo → KernelState → Transition
forget_calls_elsewhere t k = drain (first_call_of t) forget_call (calls_by k.calls t) k

-- these parts in their order
abbrev pub end_phones_and_calls : TaskNo → KernelState → Transition
end_phones_and_calls t k =
    then_do (then_do (then_do (then_do (then_do (hang_up_own_phones t k) (slam_phones_to t)) (settle_incoming t)) (settle_dispatched t)) (drop_answers t)) (forget_calls_elsewhere t)

-- then the areas of t are dropped, by their bases
abbrev pub drop_first_area : TaskNo → KernelState → ℕ → Transition
drop_first_area t k i = lose_first_area t k (first_area k.memory t)

abbrev pub drop_areas : TaskNo → KernelState → Transition
drop_areas t k = each (drop_first_area t) (count_areas k.memory t) 0 k

-- all parts in their order
abbrev pub end_parts : TaskNo → KernelState → Transition
end_parts t k = then_do (end_phones_and_calls t k) (drop_areas t)

-- the end of task t, which is alive
abbrev pub kill : KernelState → TaskNo → Transition
kill k t = end_parts t (mark_ended k t)
