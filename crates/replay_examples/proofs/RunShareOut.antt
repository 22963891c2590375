-- An area is shared with the task that is called.
--
--     task client raw
--     area 4096 1 RW
--     poke 4096 11
--     call 0 SHARE_OUT 4096 1 RW
--     receive
--     peek 4096 2
--     poke 4096 33
--     task server raw
--     receive
--     answer r2 EOK 8192
--     peek 8192 2
--     poke 8193 22
--     peek 8192 2
--     wire client 0 server
--
-- under the schedule step client x 3, step server x 4, step client x 3, step server.
use Rattle.std.proofs.Common.{◌≡◌, List, [], ◌∷◌, ◌++◌, true, Some, None, replicate, refl}
use Rattle.ipc_ids.specs.declared.message.PhoneState.TheVariants.{Free, Connected}
use Rattle.ipc_ids.specs.declared.message.Request.TheVariants as ask
use Rattle.ipc_ids.specs.declared.message.Outcome.TheVariants as got
use Rattle.ipc_ids.specs.declared.message.Event.{Event}
use Rattle.ipc_ids.specs.declared.message.Event.TheVariants.{Step}
use Rattle.ipc_ids.specs.declared.entry.Entry.TheVariants as entry
use Rattle.ipc_ids.specs.declared.op.Value.TheVariants.{Number, Register}
use Rattle.ipc_ids.specs.declared.op.Op.TheVariants as op
use Rattle.ipc_ids.specs.Codes.{eok}
use Rattle.call_slab.specs.declared.call.Call.{Call}
use Rattle.call_slab.specs.declared.call.Place.TheVariants.{Incoming, Dispatched, Answers}
use Rattle.task_system.specs.declared.any.AnyProgram.{AnyProgram}
use Rattle.script_lines.specs.declared.plan.TaskPlan.{TaskPlan}
use Rattle.script_lines.specs.Plan.{Plan}
use Rattle.task_system.specs.Any.{after}
use Rattle.task_system.specs.Run.{run, start, program_of, RunState}
use Rattle.replay_examples.proofs.KnownMaps.{empty_known, get_known, entries_known, insert_known, remove_known}
use Rattle.replay_examples.proofs.RunWords.{task, call, store, phone, msg, reply, raw, wire, sent, area, memory, no_areas, state, of_none, of_next, of_step, from_start, TaskStep, asks, told_of, Steps}
use Rattle.address_space.specs.Stores.{written_over}

abbrev client_plan : TaskPlan
client_plan =
    raw 64
    (op.Area (Number 4096) (Number 1) (Number 3)
    ∷ op.Poke (Number 4096) (17 ∷ [])
    ∷ op.Call (Number 0) (Number 5) (Number 4096 ∷ Number 1 ∷ Number 3 ∷ Number 0 ∷ Number 0 ∷ [])
    ∷ op.Receive
    ∷ op.Peek (Number 4096) (Number 2)
    ∷ op.Poke (Number 4096) (51 ∷ [])
    ∷ [])

abbrev server_plan : TaskPlan
server_plan =
    raw 64
    (op.Receive
    ∷ op.Answer (Register 2) (Number 0) (Number 8192 ∷ Number 0 ∷ Number 0 ∷ Number 0 ∷ Number 0 ∷ [])
    ∷ op.Peek (Number 8192) (Number 2)
    ∷ op.Poke (Number 8193) (34 ∷ [])
    ∷ op.Peek (Number 8192) (Number 2)
    ∷ [])

abbrev plan : Plan
plan = record {
  tasks = client_plan ∷ server_plan ∷ [];
  wires = wire 1 0 2 ∷ [];
  templates = [];
}

abbrev client_0 : AnyProgram
client_0 = program_of 1 (client_plan)

abbrev server_0 : AnyProgram
server_0 = program_of 2 (server_plan)

abbrev state_0 : RunState
state_0 =
    state (true ∷ true ∷ []) ((Connected (task 2) ∷ replicate 63 Free) ∷ (replicate 64 Free) ∷ [])
    ([]) 1 1 (no_areas 2) 0
    (client_0 ∷ server_0 ∷ []) None

starts : start plan ≡ state_0
starts = rw (empty_known, empty_known)

-- 1. step client
abbrev client_1 : AnyProgram
client_1 = after client_0 got.Done

abbrev state_1 : RunState
state_1 =
    state (true ∷ true ∷ []) ((Connected (task 2) ∷ replicate 63 Free) ∷ (replicate 64 Free) ∷ [])
    ([]) 1 1 (memory ((area 4096 1 3 1 ∷ []) ∷ [] ∷ []) ((1, replicate 4096 0) ∷ []) 2) 1
    (client_1 ∷ server_0 ∷ []) None

abbrev step_1 : TaskStep
step_1 = asks 1 (ask.AreaMake 4096 1 3) (entry.AreaMade (task 1) 4096 1 3 (store 1) ∷ []) got.Done []

event_1 : Steps state_0 step_1 state_1
event_1 = of_step state_0 step_1 state_1 client_0 refl refl (rw insert_known) refl refl

-- 2. step client
abbrev client_2 : AnyProgram
client_2 = after client_1 got.Done

abbrev state_2 : RunState
state_2 =
    state (true ∷ true ∷ []) ((Connected (task 2) ∷ replicate 63 Free) ∷ (replicate 64 Free) ∷ [])
    ([]) 1 1 (memory ((area 4096 1 3 1 ∷ []) ∷ [] ∷ []) ((1, written_over (replicate 4096 0) 0 (17 ∷ [])) ∷ []) 2) 2
    (client_2 ∷ server_0 ∷ []) None

abbrev step_2 : TaskStep
step_2 = asks 1 (ask.Poke 4096 (17 ∷ [])) (entry.Wrote (task 1) 4096 1 (store 1) ∷ []) got.Done []

event_2 : Steps state_1 step_2 state_2
event_2 = of_step state_1 step_2 state_2 client_1 refl refl (rw (get_known, insert_known)) refl refl

-- 3. step client
abbrev call_1_sent : Call
call_1_sent = sent 1 (phone 1 0) (msg 5 4096 1 3 0 0) (Incoming (task 2)) 1

abbrev client_3 : AnyProgram
client_3 = after client_2 (got.Accepted (call 1))

abbrev state_3 : RunState
state_3 =
    state (true ∷ true ∷ []) ((Connected (task 2) ∷ replicate 63 Free) ∷ (replicate 64 Free) ∷ [])
    ((1, call_1_sent) ∷ []) 2 2 (memory ((area 4096 1 3 1 ∷ []) ∷ [] ∷ []) ((1, written_over (replicate 4096 0) 0 (17 ∷ [])) ∷ []) 2) 3
    (client_3 ∷ server_0 ∷ []) None

abbrev step_3 : TaskStep
step_3 =
    asks 1 (ask.Call 0 (msg 5 4096 1 3 0 0))
    (entry.Accepted (call 1) (phone 1 0) 5 (Some (task 2)) ∷ [])
    (got.Accepted (call 1)) []

event_3 : Steps state_2 step_3 state_3
event_3 = of_step state_2 step_3 state_3 client_2 refl refl (rw (entries_known, insert_known)) refl refl

-- 4. step server
abbrev call_1_received : Call
call_1_received = record call_1_sent { place = Dispatched (task 2); stamp = 2 }

abbrev server_1 : AnyProgram
server_1 = after server_0 (got.Received (call 1) (msg 5 4096 1 3 0 0) (phone 1 0))

abbrev state_4 : RunState
state_4 =
    state (true ∷ true ∷ []) ((Connected (task 2) ∷ replicate 63 Free) ∷ (replicate 64 Free) ∷ [])
    ((1, call_1_received) ∷ []) 2 3 (memory ((area 4096 1 3 1 ∷ []) ∷ [] ∷ []) ((1, written_over (replicate 4096 0) 0 (17 ∷ [])) ∷ []) 2) 4
    (client_3 ∷ server_1 ∷ []) None

abbrev step_4 : TaskStep
step_4 =
    asks 2 ask.Receive
    (entry.Received (call 1) (task 2) ∷ [])
    (got.Received (call 1) (msg 5 4096 1 3 0 0) (phone 1 0)) []

event_4 : Steps state_3 step_4 state_4
event_4 = of_step state_3 step_4 state_4 server_0 refl refl (rw (entries_known, entries_known, insert_known)) refl refl

-- 5. step server
abbrev call_1_answered : Call
call_1_answered = record call_1_received { reply = reply eok 8192 0 0 0 0; place = Answers (task 1); stamp = 3 }

abbrev server_2 : AnyProgram
server_2 = after server_1 got.Done

abbrev state_5 : RunState
state_5 =
    state (true ∷ true ∷ []) ((Connected (task 2) ∷ replicate 63 Free) ∷ (replicate 64 Free) ∷ [])
    ((1, call_1_answered) ∷ []) 2 4 (memory ((area 4096 1 3 1 ∷ []) ∷ (area 8192 1 3 1 ∷ []) ∷ []) ((1, written_over (replicate 4096 0) 0 (17 ∷ [])) ∷ []) 2) 5
    (client_3 ∷ server_2 ∷ []) None

abbrev step_5 : TaskStep
step_5 =
    asks 2 (ask.Answer 1 (reply eok 8192 0 0 0 0))
    (entry.Answered (call 1) (reply eok 8192 0 0 0 0) (Some (task 2))
    ∷ entry.AreaMade (task 2) 8192 1 3 (store 1)
    ∷ [])
    got.Done []

event_5 : Steps state_4 step_5 state_5
event_5 = of_step state_4 step_5 state_5 server_1 refl refl (rw (get_known, insert_known)) refl refl

-- 6. step server
abbrev server_3 : AnyProgram
server_3 = after server_2 (got.Bytes (17 ∷ 0 ∷ []))

abbrev state_6 : RunState
state_6 =
    state (true ∷ true ∷ []) ((Connected (task 2) ∷ replicate 63 Free) ∷ (replicate 64 Free) ∷ [])
    ((1, call_1_answered) ∷ []) 2 4 (memory ((area 4096 1 3 1 ∷ []) ∷ (area 8192 1 3 1 ∷ []) ∷ []) ((1, written_over (replicate 4096 0) 0 (17 ∷ [])) ∷ []) 2) 6
    (client_3 ∷ server_3 ∷ []) None

abbrev step_6 : TaskStep
step_6 = asks 2 (ask.Peek 8192 2) [] (got.Bytes (17 ∷ 0 ∷ [])) []

event_6 : Steps state_5 step_6 state_6
event_6 = of_step state_5 step_6 state_6 server_2 refl refl (rw get_known) refl refl

-- 7. step server
abbrev server_4 : AnyProgram
server_4 = after server_3 got.Done

abbrev state_7 : RunState
state_7 =
    state (true ∷ true ∷ []) ((Connected (task 2) ∷ replicate 63 Free) ∷ (replicate 64 Free) ∷ [])
    ((1, call_1_answered) ∷ []) 2 4 (memory ((area 4096 1 3 1 ∷ []) ∷ (area 8192 1 3 1 ∷ []) ∷ []) ((1, written_over (written_over (replicate 4096 0) 0 (17 ∷ [])) 1 (34 ∷ [])) ∷ []) 2) 7
    (client_3 ∷ server_4 ∷ []) None

abbrev step_7 : TaskStep
step_7 = asks 2 (ask.Poke 8193 (34 ∷ [])) (entry.Wrote (task 2) 8193 1 (store 1) ∷ []) got.Done []

event_7 : Steps state_6 step_7 state_7
event_7 = of_step state_6 step_7 state_7 server_3 refl refl (rw (get_known, insert_known)) refl refl

-- 8. step client
abbrev client_4 : AnyProgram
client_4 = after client_3 (got.Answered (call 1) (reply eok 8192 0 0 0 0))

abbrev state_8 : RunState
state_8 =
    state (true ∷ true ∷ []) ((Connected (task 2) ∷ replicate 63 Free) ∷ (replicate 64 Free) ∷ [])
    ([]) 2 4 (memory ((area 4096 1 3 1 ∷ []) ∷ (area 8192 1 3 1 ∷ []) ∷ []) ((1, written_over (written_over (replicate 4096 0) 0 (17 ∷ [])) 1 (34 ∷ [])) ∷ []) 2) 8
    (client_4 ∷ server_4 ∷ []) None

abbrev step_8 : TaskStep
step_8 =
    asks 1 ask.Receive
    (entry.Delivered (call 1) (task 1) ∷ [])
    (got.Answered (call 1) (reply eok 8192 0 0 0 0)) []

event_8 : Steps state_7 step_8 state_8
event_8 = of_step state_7 step_8 state_8 client_3 refl refl (rw (entries_known, entries_known, entries_known, remove_known)) refl refl

-- 9. step client
abbrev client_5 : AnyProgram
client_5 = after client_4 (got.Bytes (17 ∷ 34 ∷ []))

abbrev state_9 : RunState
state_9 =
    state (true ∷ true ∷ []) ((Connected (task 2) ∷ replicate 63 Free) ∷ (replicate 64 Free) ∷ [])
    ([]) 2 4 (memory ((area 4096 1 3 1 ∷ []) ∷ (area 8192 1 3 1 ∷ []) ∷ []) ((1, written_over (written_over (replicate 4096 0) 0 (17 ∷ [])) 1 (34 ∷ [])) ∷ []) 2) 9
    (client_5 ∷ server_4 ∷ []) None

abbrev step_9 : TaskStep
step_9 = asks 1 (ask.Peek 4096 2) [] (got.Bytes (17 ∷ 34 ∷ [])) []

event_9 : Steps state_8 step_9 state_9
event_9 = of_step state_8 step_9 state_9 client_4 refl refl (rw get_known) refl refl

-- 10. step client
abbrev client_6 : AnyProgram
client_6 = after client_5 got.Done

abbrev state_10 : RunState
state_10 =
    state (true ∷ true ∷ []) ((Connected (task 2) ∷ replicate 63 Free) ∷ (replicate 64 Free) ∷ [])
    ([]) 2 4 (memory ((area 4096 1 3 1 ∷ []) ∷ (area 8192 1 3 1 ∷ []) ∷ []) ((1, written_over (written_over (written_over (replicate 4096 0) 0 (17 ∷ [])) 1 (34 ∷ [])) 0 (51 ∷ [])) ∷ []) 2) 10
    (client_6 ∷ server_4 ∷ []) None

abbrev step_10 : TaskStep
step_10 = asks 1 (ask.Poke 4096 (51 ∷ [])) (entry.Wrote (task 1) 4096 1 (store 1) ∷ []) got.Done []

event_10 : Steps state_9 step_10 state_10
event_10 = of_step state_9 step_10 state_10 client_5 refl refl (rw (get_known, insert_known)) refl refl

-- 11. step server
abbrev server_5 : AnyProgram
server_5 = after server_4 (got.Bytes (51 ∷ 34 ∷ []))

abbrev state_11 : RunState
state_11 =
    state (true ∷ true ∷ []) ((Connected (task 2) ∷ replicate 63 Free) ∷ (replicate 64 Free) ∷ [])
    ([]) 2 4 (memory ((area 4096 1 3 1 ∷ []) ∷ (area 8192 1 3 1 ∷ []) ∷ []) ((1, written_over (written_over (written_over (replicate 4096 0) 0 (17 ∷ [])) 1 (34 ∷ [])) 0 (51 ∷ [])) ∷ []) 2) 11
    (client_6 ∷ server_5 ∷ []) None

abbrev step_11 : TaskStep
step_11 = asks 2 (ask.Peek 8192 2) [] (got.Bytes (51 ∷ 34 ∷ [])) []

event_11 : Steps state_10 step_11 state_11
event_11 = of_step state_10 step_11 state_11 server_4 refl refl (rw get_known) refl refl

abbrev schedule : List Event
schedule =
    Step (task 1) ∷ Step (task 1) ∷ Step (task 1) ∷ Step (task 2) ∷ Step (task 2) ∷ Step (task 2) ∷ Step (task 2)
    ∷ Step (task 1) ∷ Step (task 1) ∷ Step (task 1) ∷ Step (task 2) ∷ []

-- the entries of the run
pub share_out : run plan schedule
    ≡ told_of step_1 ++ told_of step_2 ++ told_of step_3 ++ told_of step_4 ++ told_of step_5 ++ told_of step_6
    ++ told_of step_7 ++ told_of step_8 ++ told_of step_9 ++ told_of step_10 ++ told_of step_11 ++ []
share_out = from_start plan schedule starts (
    of_next event_1 (of_next event_2 (of_next event_3 (of_next event_4 (of_next event_5 (of_next event_6 (
    of_next event_7 (of_next event_8 (of_next event_9 (of_next event_10 (of_next event_11 (
    of_none))))))))))))
