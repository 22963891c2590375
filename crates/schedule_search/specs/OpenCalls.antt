-- When a call is open: it is not answered, and someone waits for its answer.
use Rattle.std.specs.Prelude.{Bool, true, false, not, ◌&&◌, ◌==◌, Option, None, Some}
use Rattle.std.specs.List.{list_any, range_with_len}
use Rattle.ipc_ids.specs.declared.numbers.TaskNo.{TaskNo}
use Rattle.call_slab.specs.declared.call.Call.{Call}
use Rattle.call_slab.specs.declared.call.Place.{Place}
use Rattle.call_slab.specs.declared.call.Place.TheVariants.{Incoming, Dispatched, Answers}
use Rattle.answerbox.specs.Calls.{CallTable, call_at}

-- a call at this place is not answered yet
abbrev pub is_waiting : Place → Bool
is_waiting (Incoming t) = true
is_waiting (Dispatched t) = true
is_waiting (Answers t) = false

-- the caller has not ended, and is the one that is asked for, if one is
abbrev pub is_asked : (asked caller : Option TaskNo) → Bool
is_asked asked None = false
is_asked None (Some u) = true
is_asked (Some t) (Some u) = u.0 == t.0

-- a call that is not over is not answered, someone waits for its answer, and it is of such a caller
abbrev pub is_open : Option TaskNo → Option Call → Bool
is_open asked None = false
is_open asked (Some c) = not c.discard && (is_waiting c.place && is_asked asked c.caller)

-- so is one of the calls so far
abbrev pub has_open_call : Option TaskNo → CallTable → Bool
has_open_call asked calls = list_any (λ n. is_open asked (call_at calls n)) (range_with_len 0 calls.next_number)
