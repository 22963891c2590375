-- An area of the task that is called is shared with the caller, with fewer rights.
--
--     task client raw
--     area 4096 1 RW
--     call 0 SHARE_IN 4096 1 R
--     receive
--     call 0 SHARE_IN 8192 1 R
--     receive
--     peek 8192 2
--     call 0 SHARE_OUT 8192 1 RW
--     receive
--     task server raw
--     area 4096 1 RW
--     receive
--     answer r2 EOK 4096
--     receive
--     answer r2 EOK 4096
--     poke 4096 1122
--     wire client 0 server
--
-- under the schedule step client x 2, step server x 3, step client x 2, step server x 3, step client x 4.
use Rattle.std.proofs.Common.{◌≡◌, List, [], ◌∷◌, ◌++◌, true, Some, None, replicate, refl}
use Rattle.ipc_ids.specs.declared.message.PhoneState.TheVariants.{Free, Connected}
use Rattle.ipc_ids.specs.declared.message.Request.TheVariants as ask
use Rattle.ipc_ids.specs.declared.message.Outcome.TheVariants as got
use Rattle.ipc_ids.specs.declared.message.Event.{Event}
use Rattle.ipc_ids.specs.declared.message.Event.TheVariants.{Step}
use Rattle.ipc_ids.specs.declared.entry.Entry.TheVariants as entry
use Rattle.ipc_ids.specs.declared.op.Value.TheVariants.{Number, Register}
use Rattle.ipc_ids.specs.declared.op.Op.TheVariants as op
use Rattle.ipc_ids.specs.Codes.{eok, eperm, eexist}
use Rattle.call_slab.specs.declared.call.Call.{Call}
use Rattle.call_slab.specs.declared.call.Place.TheVariants.{Incoming, Dispatched, Answers}
use Rattle.task_system.specs.declared.any.AnyProgram.{AnyProgram}
use Rattle.script_lines.specs.declared.plan.TaskPlan.{TaskPlan}
use Rattle.script_lines.specs.Plan.{Plan}
use Rattle.task_system.specs.Any.{after}
use Rattle.task_system.specs.Run.{run, start, program_of, RunState}
use Rattle.replay_examples.proofs.KnownMaps.{empty_known, get_known, entries_known, insert_known, remove_known}
use Rattle.replay_examples.proofs.RunWords.{task, call, store, phone, msg, reply, raw, wire, sent, area, memory, no_areas, state, of_none, of_next, of_step, from_start, TaskStep, asks, told_of, Steps}
use Rattle.address_space.specs.Stores.{written_over}

abbrev client_plan : TaskPlan
client_plan =
    raw 64
    (op.Area (Number 4096) (Number 1) (Number 3)
    ∷ op.Call (Number 0) (Number 6) (Number 4096 ∷ Number 1 ∷ Number 1 ∷ Number 0 ∷ Number 0 ∷ [])
    ∷ op.Receive
    ∷ op.Call (Number 0) (Number 6) (Number 8192 ∷ Number 1 ∷ Number 1 ∷ Number 0 ∷ Number 0 ∷ [])
    ∷ op.Receive
    ∷ op.Peek (Number 8192) (Number 2)
    ∷ op.Call (Number 0) (Number 5) (Number 8192 ∷ Number 1 ∷ Number 3 ∷ Number 0 ∷ Number 0 ∷ [])
    ∷ op.Receive
    ∷ [])

abbrev server_plan : TaskPlan
server_plan =
    raw 64
    (op.Area (Number 4096) (Number 1) (Number 3)
    ∷ op.Receive
    ∷ op.Answer (Register 2) (Number 0) (Number 4096 ∷ Number 0 ∷ Number 0 ∷ Number 0 ∷ Number 0 ∷ [])
    ∷ op.Receive
    ∷ op.Answer (Register 2) (Number 0) (Number 4096 ∷ Number 0 ∷ Number 0 ∷ Number 0 ∷ Number 0 ∷ [])
    ∷ op.Poke (Number 4096) (17 ∷ 34 ∷ [])
    ∷ [])

abbrev plan : Plan
plan = record {
  tasks = client_plan ∷ server_plan ∷ [];
  wires = wire 1 0 2 ∷ [];
  templates = [];
}

abbrev client_0 : AnyProgram
client_0 = program_of 1 (client_plan)

abbrev server_0 : AnyProgram
server_0 = program_of 2 (server_plan)

abbrev state_0 : RunState
state_0 =
    state (true ∷ true ∷ []) ((Connected (task 2) ∷ replicate 63 Free) ∷ (replicate 64 Free) ∷ [])
    ([]) 1 1 (no_areas 2) 0
    (client_0 ∷ server_0 ∷ []) None

starts : start plan ≡ state_0
starts = rw (empty_known, empty_known)

-- 1. step client
abbrev client_1 : AnyProgram
client_1 = after client_0 got.Done

abbrev state_1 : RunState
state_1 =
    state (true ∷ true ∷ []) ((Connected (task 2) ∷ replicate 63 Free) ∷ (replicate 64 Free) ∷ [])
    ([]) 1 1 (memory ((area 4096 1 3 1 ∷ []) ∷ [] ∷ []) ((1, replicate 4096 0) ∷ []) 2) 1
    (client_1 ∷ server_0 ∷ []) None

abbrev step_1 : TaskStep
step_1 = asks 1 (ask.AreaMake 4096 1 3) (entry.AreaMade (task 1) 4096 1 3 (store 1) ∷ []) got.Done []

event_1 : Steps state_0 step_1 state_1
event_1 = of_step state_0 step_1 state_1 client_0 refl refl (rw insert_known) refl refl

-- 2. step client
abbrev call_1_sent : Call
call_1_sent = sent 1 (phone 1 0) (msg 6 4096 1 1 0 0) (Incoming (task 2)) 1

abbrev client_2 : AnyProgram
client_2 = after client_1 (got.Accepted (call 1))

abbrev state_2 : RunState
state_2 =
    state (true ∷ true ∷ []) ((Connected (task 2) ∷ replicate 63 Free) ∷ (replicate 64 Free) ∷ [])
    ((1, call_1_sent) ∷ []) 2 2 (memory ((area 4096 1 3 1 ∷ []) ∷ [] ∷ []) ((1, replicate 4096 0) ∷ []) 2) 2
    (client_2 ∷ server_0 ∷ []) None

abbrev step_2 : TaskStep
step_2 =
    asks 1 (ask.Call 0 (msg 6 4096 1 1 0 0))
    (entry.Accepted (call 1) (phone 1 0) 6 (Some (task 2)) ∷ [])
    (got.Accepted (call 1)) []

event_2 : Steps state_1 step_2 state_2
event_2 = of_step state_1 step_2 state_2 client_1 refl refl (rw (entries_known, insert_known)) refl refl

-- 3. step server
abbrev server_1 : AnyProgram
server_1 = after server_0 got.Done

abbrev state_3 : RunState
state_3 =
    state (true ∷ true ∷ []) ((Connected (task 2) ∷ replicate 63 Free) ∷ (replicate 64 Free) ∷ [])
    ((1, call_1_sent) ∷ []) 2 2 (memory ((area 4096 1 3 1 ∷ []) ∷ (area 4096 1 3 2 ∷ []) ∷ []) ((1, replicate 4096 0) ∷ (2, replicate 4096 0) ∷ []) 3) 3
    (client_2 ∷ server_1 ∷ []) None

abbrev step_3 : TaskStep
step_3 = asks 2 (ask.AreaMake 4096 1 3) (entry.AreaMade (task 2) 4096 1 3 (store 2) ∷ []) got.Done []

event_3 : Steps state_2 step_3 state_3
event_3 = of_step state_2 step_3 state_3 server_0 refl refl (rw insert_known) refl refl

-- 4. step server
abbrev call_1_received : Call
call_1_received = record call_1_sent { place = Dispatched (task 2); stamp = 2 }

abbrev server_2 : AnyProgram
server_2 = after server_1 (got.Received (call 1) (msg 6 4096 1 1 0 0) (phone 1 0))

abbrev state_4 : RunState
state_4 =
    state (true ∷ true ∷ []) ((Connected (task 2) ∷ replicate 63 Free) ∷ (replicate 64 Free) ∷ [])
    ((1, call_1_received) ∷ []) 2 3 (memory ((area 4096 1 3 1 ∷ []) ∷ (area 4096 1 3 2 ∷ []) ∷ []) ((1, replicate 4096 0) ∷ (2, replicate 4096 0) ∷ []) 3) 4
    (client_2 ∷ server_2 ∷ []) None

abbrev step_4 : TaskStep
step_4 =
    asks 2 ask.Receive
    (entry.Received (call 1) (task 2) ∷ [])
    (got.Received (call 1) (msg 6 4096 1 1 0 0) (phone 1 0)) []

event_4 : Steps state_3 step_4 state_4
event_4 = of_step state_3 step_4 state_4 server_1 refl refl (rw (entries_known, entries_known, insert_known)) refl refl

-- 5. step server
abbrev call_1_answered : Call
call_1_answered = record call_1_received { reply = reply eexist 4096 0 0 0 0; place = Answers (task 1); stamp = 3 }

abbrev server_3 : AnyProgram
server_3 = after server_2 got.Done

abbrev state_5 : RunState
state_5 =
    state (true ∷ true ∷ []) ((Connected (task 2) ∷ replicate 63 Free) ∷ (replicate 64 Free) ∷ [])
    ((1, call_1_answered) ∷ []) 2 4 (memory ((area 4096 1 3 1 ∷ []) ∷ (area 4096 1 3 2 ∷ []) ∷ []) ((1, replicate 4096 0) ∷ (2, replicate 4096 0) ∷ []) 3) 5
    (client_2 ∷ server_3 ∷ []) None

abbrev step_5 : TaskStep
step_5 =
    asks 2 (ask.Answer 1 (reply eok 4096 0 0 0 0))
    (entry.Answered (call 1) (reply eexist 4096 0 0 0 0) (Some (task 2)) ∷ [])
    got.Done []

event_5 : Steps state_4 step_5 state_5
event_5 = of_step state_4 step_5 state_5 server_2 refl refl (rw (get_known, insert_known)) refl refl

-- 6. step client
abbrev client_3 : AnyProgram
client_3 = after client_2 (got.Answered (call 1) (reply eexist 4096 0 0 0 0))

abbrev state_6 : RunState
state_6 =
    state (true ∷ true ∷ []) ((Connected (task 2) ∷ replicate 63 Free) ∷ (replicate 64 Free) ∷ [])
    ([]) 2 4 (memory ((area 4096 1 3 1 ∷ []) ∷ (area 4096 1 3 2 ∷ []) ∷ []) ((1, replicate 4096 0) ∷ (2, replicate 4096 0) ∷ []) 3) 6
    (client_3 ∷ server_3 ∷ []) None

abbrev step_6 : TaskStep
step_6 =
    asks 1 ask.Receive
    (entry.Delivered (call 1) (task 1) ∷ [])
    (got.Answered (call 1) (reply eexist 4096 0 0 0 0)) []

event_6 : Steps state_5 step_6 state_6
event_6 = of_step state_5 step_6 state_6 client_2 refl refl (rw (entries_known, entries_known, entries_known, remove_known)) refl refl

-- 7. step client
abbrev call_2_sent : Call
call_2_sent = sent 2 (phone 1 0) (msg 6 8192 1 1 0 0) (Incoming (task 2)) 4

abbrev client_4 : AnyProgram
client_4 = after client_3 (got.Accepted (call 2))

abbrev state_7 : RunState
state_7 =
    state (true ∷ true ∷ []) ((Connected (task 2) ∷ replicate 63 Free) ∷ (replicate 64 Free) ∷ [])
    ((2, call_2_sent) ∷ []) 3 5 (memory ((area 4096 1 3 1 ∷ []) ∷ (area 4096 1 3 2 ∷ []) ∷ []) ((1, replicate 4096 0) ∷ (2, replicate 4096 0) ∷ []) 3) 7
    (client_4 ∷ server_3 ∷ []) None

abbrev step_7 : TaskStep
step_7 =
    asks 1 (ask.Call 0 (msg 6 8192 1 1 0 0))
    (entry.Accepted (call 2) (phone 1 0) 6 (Some (task 2)) ∷ [])
    (got.Accepted (call 2)) []

event_7 : Steps state_6 step_7 state_7
event_7 = of_step state_6 step_7 state_7 client_3 refl refl (rw (entries_known, insert_known)) refl refl

-- 8. step server
abbrev call_2_received : Call
call_2_received = record call_2_sent { place = Dispatched (task 2); stamp = 5 }

abbrev server_4 : AnyProgram
server_4 = after server_3 (got.Received (call 2) (msg 6 8192 1 1 0 0) (phone 1 0))

abbrev state_8 : RunState
state_8 =
    state (true ∷ true ∷ []) ((Connected (task 2) ∷ replicate 63 Free) ∷ (replicate 64 Free) ∷ [])
    ((2, call_2_received) ∷ []) 3 6 (memory ((area 4096 1 3 1 ∷ []) ∷ (area 4096 1 3 2 ∷ []) ∷ []) ((1, replicate 4096 0) ∷ (2, replicate 4096 0) ∷ []) 3) 8
    (client_4 ∷ server_4 ∷ []) None

abbrev step_8 : TaskStep
step_8 =
    asks 2 ask.Receive
    (entry.Received (call 2) (task 2) ∷ [])
    (got.Received (call 2) (msg 6 8192 1 1 0 0) (phone 1 0)) []

event_8 : Steps state_7 step_8 state_8
event_8 = of_step state_7 step_8 state_8 server_3 refl refl (rw (entries_known, entries_known, insert_known)) refl refl

-- 9. step server
abbrev call_2_answered : Call
call_2_answered = record call_2_received { reply = reply eok 4096 0 0 0 0; place = Answers (task 1); stamp = 6 }

abbrev server_5 : AnyProgram
server_5 = after server_4 got.Done

abbrev state_9 : RunState
state_9 =
    state (true ∷ true ∷ []) ((Connected (task 2) ∷ replicate 63 Free) ∷ (replicate 64 Free) ∷ [])
    ((2, call_2_answered) ∷ []) 3 7 (memory ((area 4096 1 3 1 ∷ area 8192 1 1 2 ∷ []) ∷ (area 4096 1 3 2 ∷ []) ∷ []) ((1, replicate 4096 0) ∷ (2, replicate 4096 0) ∷ []) 3) 9
    (client_4 ∷ server_5 ∷ []) None

abbrev step_9 : TaskStep
step_9 =
    asks 2 (ask.Answer 2 (reply eok 4096 0 0 0 0))
    (entry.Answered (call 2) (reply eok 4096 0 0 0 0) (Some (task 2))
    ∷ entry.AreaMade (task 1) 8192 1 1 (store 2)
    ∷ [])
    got.Done []

event_9 : Steps state_8 step_9 state_9
event_9 = of_step state_8 step_9 state_9 server_4 refl refl (rw (get_known, insert_known)) refl refl

-- 10. step server
abbrev server_6 : AnyProgram
server_6 = after server_5 got.Done

abbrev state_10 : RunState
state_10 =
    state (true ∷ true ∷ []) ((Connected (task 2) ∷ replicate 63 Free) ∷ (replicate 64 Free) ∷ [])
    ((2, call_2_answered) ∷ []) 3 7 (memory ((area 4096 1 3 1 ∷ area 8192 1 1 2 ∷ []) ∷ (area 4096 1 3 2 ∷ []) ∷ []) ((1, replicate 4096 0) ∷ (2, written_over (replicate 4096 0) 0 (17 ∷ 34 ∷ [])) ∷ []) 3) 10
    (client_4 ∷ server_6 ∷ []) None

abbrev step_10 : TaskStep
step_10 = asks 2 (ask.Poke 4096 (17 ∷ 34 ∷ [])) (entry.Wrote (task 2) 4096 2 (store 2) ∷ []) got.Done []

event_10 : Steps state_9 step_10 state_10
event_10 = of_step state_9 step_10 state_10 server_5 refl refl (rw (get_known, insert_known)) refl refl

-- 11. step client
abbrev client_5 : AnyProgram
client_5 = after client_4 (got.Answered (call 2) (reply eok 4096 0 0 0 0))

abbrev state_11 : RunState
state_11 =
    state (true ∷ true ∷ []) ((Connected (task 2) ∷ replicate 63 Free) ∷ (replicate 64 Free) ∷ [])
    ([]) 3 7 (memory ((area 4096 1 3 1 ∷ area 8192 1 1 2 ∷ []) ∷ (area 4096 1 3 2 ∷ []) ∷ []) ((1, replicate 4096 0) ∷ (2, written_over (replicate 4096 0) 0 (17 ∷ 34 ∷ [])) ∷ []) 3) 11
    (client_5 ∷ server_6 ∷ []) None

abbrev step_11 : TaskStep
step_11 =
    asks 1 ask.Receive
    (entry.Delivered (call 2) (task 1) ∷ [])
    (got.Answered (call 2) (reply eok 4096 0 0 0 0)) []

event_11 : Steps state_10 step_11 state_11
event_11 = of_step state_10 step_11 state_11 client_4 refl refl (rw (entries_known, entries_known, entries_known, remove_known)) refl refl

-- 12. step client
abbrev client_6 : AnyProgram
client_6 = after client_5 (got.Bytes (17 ∷ 34 ∷ []))

abbrev state_12 : RunState
state_12 =
    state (true ∷ true ∷ []) ((Connected (task 2) ∷ replicate 63 Free) ∷ (replicate 64 Free) ∷ [])
    ([]) 3 7 (memory ((area 4096 1 3 1 ∷ area 8192 1 1 2 ∷ []) ∷ (area 4096 1 3 2 ∷ []) ∷ []) ((1, replicate 4096 0) ∷ (2, written_over (replicate 4096 0) 0 (17 ∷ 34 ∷ [])) ∷ []) 3) 12
    (client_6 ∷ server_6 ∷ []) None

abbrev step_12 : TaskStep
step_12 = asks 1 (ask.Peek 8192 2) [] (got.Bytes (17 ∷ 34 ∷ [])) []

event_12 : Steps state_11 step_12 state_12
event_12 = of_step state_11 step_12 state_12 client_5 refl refl (rw get_known) refl refl

-- 13. step client
abbrev call_3_sent : Call
call_3_sent = record (sent 3 (phone 1 0) (msg 5 8192 1 3 0 0) (Answers (task 1)) 7) { reply = reply eperm 0 0 0 0 0 }

abbrev client_7 : AnyProgram
client_7 = after client_6 (got.Accepted (call 3))

abbrev state_13 : RunState
state_13 =
    state (true ∷ true ∷ []) ((Connected (task 2) ∷ replicate 63 Free) ∷ (replicate 64 Free) ∷ [])
    ((3, call_3_sent) ∷ []) 4 8 (memory ((area 4096 1 3 1 ∷ area 8192 1 1 2 ∷ []) ∷ (area 4096 1 3 2 ∷ []) ∷ []) ((1, replicate 4096 0) ∷ (2, written_over (replicate 4096 0) 0 (17 ∷ 34 ∷ [])) ∷ []) 3) 13
    (client_7 ∷ server_6 ∷ []) None

abbrev step_13 : TaskStep
step_13 =
    asks 1 (ask.Call 0 (msg 5 8192 1 3 0 0))
    (entry.Accepted (call 3) (phone 1 0) 5 None ∷ entry.Answered (call 3) (reply eperm 0 0 0 0 0) None ∷ [])
    (got.Accepted (call 3)) []

event_13 : Steps state_12 step_13 state_13
event_13 = of_step state_12 step_13 state_13 client_6 refl refl (rw (entries_known, insert_known)) refl refl

-- 14. step client
abbrev client_8 : AnyProgram
client_8 = after client_7 (got.Answered (call 3) (reply eperm 0 0 0 0 0))

abbrev state_14 : RunState
state_14 =
    state (true ∷ true ∷ []) ((Connected (task 2) ∷ replicate 63 Free) ∷ (replicate 64 Free) ∷ [])
    ([]) 4 8 (memory ((area 4096 1 3 1 ∷ area 8192 1 1 2 ∷ []) ∷ (area 4096 1 3 2 ∷ []) ∷ []) ((1, replicate 4096 0) ∷ (2, written_over (replicate 4096 0) 0 (17 ∷ 34 ∷ [])) ∷ []) 3) 14
    (client_8 ∷ server_6 ∷ []) None

abbrev step_14 : TaskStep
step_14 =
    asks 1 ask.Receive
    (entry.Delivered (call 3) (task 1) ∷ [])
    (got.Answered (call 3) (reply eperm 0 0 0 0 0)) []

event_14 : Steps state_13 step_14 state_14
event_14 = of_step state_13 step_14 state_14 client_7 refl refl (rw (entries_known, entries_known, entries_known, remove_known)) refl refl

abbrev schedule : List Event
schedule =
    Step (task 1) ∷ Step (task 1) ∷ Step (task 2) ∷ Step (task 2) ∷ Step (task 2) ∷ Step (task 1) ∷ Step (task 1)
    ∷ Step (task 2) ∷ Step (task 2) ∷ Step (task 2) ∷ Step (task 1) ∷ Step (task 1) ∷ Step (task 1) ∷ Step (task 1)
    ∷ []

-- the entries of the run
pub share_in : run plan schedule
    ≡ told_of step_1 ++ told_of step_2 ++ told_of step_3 ++ told_of step_4 ++ told_of step_5 ++ told_of step_6
    ++ told_of step_7 ++ told_of step_8 ++ told_of step_9 ++ told_of step_10 ++ told_of step_11 ++ told_of step_12
    ++ told_of step_13 ++ told_of step_14 ++ []
share_in = from_start plan schedule starts (
    of_next event_1 (of_next event_2 (of_next event_3 (of_next event_4 (of_next event_5 (of_next event_6 (
    of_next event_7 (of_next event_8 (of_next event_9 (of_next event_10 (of_next event_11 (
    of_next event_12 (of_next event_13 (of_next event_14 (of_none)))))))))))))))
