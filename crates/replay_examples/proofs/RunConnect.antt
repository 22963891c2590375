-- A task asks to be connected, and calls over the phone that it got.
--
--     task client raw
--     call 0 CONNECT_ME_TO
--     receive
--     call r15 512 7
--     receive
--     task server raw
--     receive
--     answer r2 EOK
--     receive
--     answer r2 EOK 8
--     wire client 0 server
--
-- under the schedule step client, step server x 2, step client x 2, step server x 2, step client.
use Rattle.std.proofs.Common.{◌≡◌, List, [], ◌∷◌, ◌++◌, true, Some, None, replicate, refl}
use Rattle.ipc_ids.specs.declared.message.PhoneState.TheVariants.{Free, Connecting, Connected}
use Rattle.ipc_ids.specs.declared.message.Request.TheVariants as ask
use Rattle.ipc_ids.specs.declared.message.Outcome.TheVariants as got
use Rattle.ipc_ids.specs.declared.message.Event.{Event}
use Rattle.ipc_ids.specs.declared.message.Event.TheVariants.{Step}
use Rattle.ipc_ids.specs.declared.entry.Entry.TheVariants as entry
use Rattle.ipc_ids.specs.declared.op.Value.TheVariants.{Number, Register}
use Rattle.ipc_ids.specs.declared.op.Op.TheVariants as op
use Rattle.ipc_ids.specs.Codes.{eok}
use Rattle.call_slab.specs.declared.call.Call.{Call}
use Rattle.call_slab.specs.declared.call.Place.TheVariants.{Incoming, Dispatched, Answers}
use Rattle.task_system.specs.declared.any.AnyProgram.{AnyProgram}
use Rattle.script_lines.specs.declared.plan.TaskPlan.{TaskPlan}
use Rattle.script_lines.specs.Plan.{Plan}
use Rattle.task_system.specs.Any.{after}
use Rattle.task_system.specs.Run.{run, start, program_of, RunState}
use Rattle.replay_examples.proofs.KnownMaps.{empty_known, get_known, entries_known, insert_known, remove_known}
use Rattle.replay_examples.proofs.RunWords.{task, call, phone, msg, reply, raw, wire, sent, no_areas, state, of_none, of_next, of_step, from_start, TaskStep, asks, told_of, Steps}

abbrev client_plan : TaskPlan
client_plan =
    raw 64
    (op.Call (Number 0) (Number 2) (Number 0 ∷ Number 0 ∷ Number 0 ∷ Number 0 ∷ Number 0 ∷ [])
    ∷ op.Receive
    ∷ op.Call (Register 15) (Number 512) (Number 7 ∷ Number 0 ∷ Number 0 ∷ Number 0 ∷ Number 0 ∷ [])
    ∷ op.Receive
    ∷ [])

abbrev server_plan : TaskPlan
server_plan =
    raw 64
    (op.Receive
    ∷ op.Answer (Register 2) (Number 0) (Number 0 ∷ Number 0 ∷ Number 0 ∷ Number 0 ∷ Number 0 ∷ [])
    ∷ op.Receive
    ∷ op.Answer (Register 2) (Number 0) (Number 8 ∷ Number 0 ∷ Number 0 ∷ Number 0 ∷ Number 0 ∷ [])
    ∷ [])

abbrev plan : Plan
plan = record {
  tasks = client_plan ∷ server_plan ∷ [];
  wires = wire 1 0 2 ∷ [];
  templates = [];
}

abbrev client_0 : AnyProgram
client_0 = program_of 1 (client_plan)

abbrev server_0 : AnyProgram
server_0 = program_of 2 (server_plan)

abbrev state_0 : RunState
state_0 =
    state (true ∷ true ∷ []) ((Connected (task 2) ∷ replicate 63 Free) ∷ (replicate 64 Free) ∷ [])
    ([]) 1 1 (no_areas 2) 0
    (client_0 ∷ server_0 ∷ []) None

starts : start plan ≡ state_0
starts = rw (empty_known, empty_known)

-- 1. step client
abbrev call_1_sent : Call
call_1_sent = record (sent 1 (phone 1 0) (msg 2 0 0 0 0 0) (Incoming (task 2)) 1) { reserved = Some (phone 1 1); msg = msg 2 0 0 0 0 65 }

abbrev client_1 : AnyProgram
client_1 = after client_0 (got.Accepted (call 1))

abbrev state_1 : RunState
state_1 =
    state (true ∷ true ∷ []) ((Connected (task 2) ∷ Connecting ∷ replicate 62 Free) ∷ (replicate 64 Free) ∷ [])
    ((1, call_1_sent) ∷ []) 2 2 (no_areas 2) 1
    (client_1 ∷ server_0 ∷ []) None

abbrev step_1 : TaskStep
step_1 =
    asks 1 (ask.Call 0 (msg 2 0 0 0 0 0))
    (entry.Accepted (call 1) (phone 1 0) 2 (Some (task 2)) ∷ entry.PhoneIs (phone 1 1) Connecting ∷ [])
    (got.Accepted (call 1)) []

event_1 : Steps state_0 step_1 state_1
event_1 = of_step state_0 step_1 state_1 client_0 refl refl (rw (entries_known, insert_known)) refl refl

-- 2. step server
abbrev call_1_received : Call
call_1_received = record call_1_sent { place = Dispatched (task 2); stamp = 2 }

abbrev server_1 : AnyProgram
server_1 = after server_0 (got.Received (call 1) (msg 2 0 0 0 0 65) (phone 1 0))

abbrev state_2 : RunState
state_2 =
    state (true ∷ true ∷ []) ((Connected (task 2) ∷ Connecting ∷ replicate 62 Free) ∷ (replicate 64 Free) ∷ [])
    ((1, call_1_received) ∷ []) 2 3 (no_areas 2) 2
    (client_1 ∷ server_1 ∷ []) None

abbrev step_2 : TaskStep
step_2 =
    asks 2 ask.Receive
    (entry.Received (call 1) (task 2) ∷ [])
    (got.Received (call 1) (msg 2 0 0 0 0 65) (phone 1 0)) []

event_2 : Steps state_1 step_2 state_2
event_2 = of_step state_1 step_2 state_2 server_0 refl refl (rw (entries_known, entries_known, insert_known)) refl refl

-- 3. step server
abbrev call_1_answered : Call
call_1_answered = record call_1_received { reply = reply eok 0 0 0 0 0; place = Answers (task 1); stamp = 3 }

abbrev server_2 : AnyProgram
server_2 = after server_1 got.Done

abbrev state_3 : RunState
state_3 =
    state (true ∷ true ∷ []) ((Connected (task 2) ∷ Connected (task 2) ∷ replicate 62 Free) ∷ (replicate 64 Free) ∷ [])
    ((1, call_1_answered) ∷ []) 2 4 (no_areas 2) 3
    (client_1 ∷ server_2 ∷ []) None

abbrev step_3 : TaskStep
step_3 =
    asks 2 (ask.Answer 1 (reply eok 0 0 0 0 0))
    (entry.Answered (call 1) (reply eok 0 0 0 0 0) (Some (task 2))
    ∷ entry.PhoneIs (phone 1 1) (Connected (task 2))
    ∷ [])
    got.Done []

event_3 : Steps state_2 step_3 state_3
event_3 = of_step state_2 step_3 state_3 server_1 refl refl (rw (get_known, insert_known)) refl refl

-- 4. step client
abbrev client_2 : AnyProgram
client_2 = after client_1 (got.Answered (call 1) (reply eok 0 0 0 0 1))

abbrev state_4 : RunState
state_4 =
    state (true ∷ true ∷ []) ((Connected (task 2) ∷ Connected (task 2) ∷ replicate 62 Free) ∷ (replicate 64 Free) ∷ [])
    ([]) 2 4 (no_areas 2) 4
    (client_2 ∷ server_2 ∷ []) None

abbrev step_4 : TaskStep
step_4 = asks 1 ask.Receive (entry.Delivered (call 1) (task 1) ∷ []) (got.Answered (call 1) (reply eok 0 0 0 0 1)) []

event_4 : Steps state_3 step_4 state_4
event_4 = of_step state_3 step_4 state_4 client_1 refl refl (rw (entries_known, entries_known, entries_known, remove_known)) refl refl

-- 5. step client
abbrev call_2_sent : Call
call_2_sent = sent 2 (phone 1 1) (msg 512 7 0 0 0 0) (Incoming (task 2)) 4

abbrev client_3 : AnyProgram
client_3 = after client_2 (got.Accepted (call 2))

abbrev state_5 : RunState
state_5 =
    state (true ∷ true ∷ []) ((Connected (task 2) ∷ Connected (task 2) ∷ replicate 62 Free) ∷ (replicate 64 Free) ∷ [])
    ((2, call_2_sent) ∷ []) 3 5 (no_areas 2) 5
    (client_3 ∷ server_2 ∷ []) None

abbrev step_5 : TaskStep
step_5 =
    asks 1 (ask.Call 1 (msg 512 7 0 0 0 0))
    (entry.Accepted (call 2) (phone 1 1) 512 (Some (task 2)) ∷ [])
    (got.Accepted (call 2)) []

event_5 : Steps state_4 step_5 state_5
event_5 = of_step state_4 step_5 state_5 client_2 refl refl (rw (entries_known, insert_known)) refl refl

-- 6. step server
abbrev call_2_received : Call
call_2_received = record call_2_sent { place = Dispatched (task 2); stamp = 5 }

abbrev server_3 : AnyProgram
server_3 = after server_2 (got.Received (call 2) (msg 512 7 0 0 0 0) (phone 1 1))

abbrev state_6 : RunState
state_6 =
    state (true ∷ true ∷ []) ((Connected (task 2) ∷ Connected (task 2) ∷ replicate 62 Free) ∷ (replicate 64 Free) ∷ [])
    ((2, call_2_received) ∷ []) 3 6 (no_areas 2) 6
    (client_3 ∷ server_3 ∷ []) None

abbrev step_6 : TaskStep
step_6 =
    asks 2 ask.Receive
    (entry.Received (call 2) (task 2) ∷ [])
    (got.Received (call 2) (msg 512 7 0 0 0 0) (phone 1 1)) []

event_6 : Steps state_5 step_6 state_6
event_6 = of_step state_5 step_6 state_6 server_2 refl refl (rw (entries_known, entries_known, insert_known)) refl refl

-- 7. step server
abbrev call_2_answered : Call
call_2_answered = record call_2_received { reply = reply eok 8 0 0 0 0; place = Answers (task 1); stamp = 6 }

abbrev server_4 : AnyProgram
server_4 = after server_3 got.Done

abbrev state_7 : RunState
state_7 =
    state (true ∷ true ∷ []) ((Connected (task 2) ∷ Connected (task 2) ∷ replicate 62 Free) ∷ (replicate 64 Free) ∷ [])
    ((2, call_2_answered) ∷ []) 3 7 (no_areas 2) 7
    (client_3 ∷ server_4 ∷ []) None

abbrev step_7 : TaskStep
step_7 =
    asks 2 (ask.Answer 2 (reply eok 8 0 0 0 0))
    (entry.Answered (call 2) (reply eok 8 0 0 0 0) (Some (task 2)) ∷ [])
    got.Done []

event_7 : Steps state_6 step_7 state_7
event_7 = of_step state_6 step_7 state_7 server_3 refl refl (rw (get_known, insert_known)) refl refl

-- 8. step client
abbrev client_4 : AnyProgram
client_4 = after client_3 (got.Answered (call 2) (reply eok 8 0 0 0 0))

abbrev state_8 : RunState
state_8 =
    state (true ∷ true ∷ []) ((Connected (task 2) ∷ Connected (task 2) ∷ replicate 62 Free) ∷ (replicate 64 Free) ∷ [])
    ([]) 3 7 (no_areas 2) 8
    (client_4 ∷ server_4 ∷ []) None

abbrev step_8 : TaskStep
step_8 = asks 1 ask.Receive (entry.Delivered (call 2) (task 1) ∷ []) (got.Answered (call 2) (reply eok 8 0 0 0 0)) []

event_8 : Steps state_7 step_8 state_8
event_8 = of_step state_7 step_8 state_8 client_3 refl refl (rw (entries_known, entries_known, entries_known, remove_known)) refl refl

abbrev schedule : List Event
schedule =
    Step (task 1) ∷ Step (task 2) ∷ Step (task 2) ∷ Step (task 1) ∷ Step (task 1) ∷ Step (task 2) ∷ Step (task 2)
    ∷ Step (task 1) ∷ []

-- the entries of the run
pub connect : run plan schedule
    ≡ told_of step_1 ++ told_of step_2 ++ told_of step_3 ++ told_of step_4 ++ told_of step_5 ++ told_of step_6
    ++ told_of step_7 ++ told_of step_8 ++ []
connect = from_start plan schedule starts (
    of_next event_1 (of_next event_2 (of_next event_3 (of_next event_4 (of_next event_5 (of_next event_6 (
    of_next event_7 (of_next event_8 (of_none)))))))))
