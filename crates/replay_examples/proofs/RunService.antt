-- A service registers at the naming service, and a client is connected to it and calls it.
--
--     ns
--     task server raw
--     call 0 CONNECT_TO_ME 7
--     receive
--     receive
--     answer r2 EOK
--     receive
--     answer r2 EOK 8
--     task client raw
--     call 0 CONNECT_ME_TO 7
--     receive
--     call r15 512 5
--     receive
--
-- under the schedule step server, step ns x 2, step server, step client, step ns x 2, step server x 2, step client x
-- 2, step server x 2, step client.
use Rattle.std.proofs.Common.{◌≡◌, List, [], ◌∷◌, ◌++◌, true, Some, replicate, refl}
use Rattle.ipc_ids.specs.declared.message.Mode.TheVariants.{Plain}
use Rattle.ipc_ids.specs.declared.message.PhoneState.TheVariants.{Free, Connecting, Connected}
use Rattle.ipc_ids.specs.declared.message.Request.TheVariants as ask
use Rattle.ipc_ids.specs.declared.message.Outcome.TheVariants as got
use Rattle.ipc_ids.specs.declared.message.Event.{Event}
use Rattle.ipc_ids.specs.declared.message.Event.TheVariants.{Step}
use Rattle.ipc_ids.specs.declared.entry.Entry.TheVariants as entry
use Rattle.ipc_ids.specs.declared.op.Value.TheVariants.{Number, Register}
use Rattle.ipc_ids.specs.declared.op.Op.TheVariants as op
use Rattle.ipc_ids.specs.Codes.{eok}
use Rattle.call_slab.specs.declared.call.Call.{Call}
use Rattle.call_slab.specs.declared.call.Place.TheVariants.{Incoming, Dispatched, Answers}
use Rattle.task_system.specs.declared.any.AnyProgram.{AnyProgram}
use Rattle.script_lines.specs.declared.plan.TaskPlan.{TaskPlan}
use Rattle.script_lines.specs.Plan.{Plan}
use Rattle.task_system.specs.Any.{after}
use Rattle.task_system.specs.Run.{run, start, program_of, RunState}
use Rattle.replay_examples.proofs.KnownMaps.{empty_known, get_known, entries_known, insert_known, remove_known}
use Rattle.replay_examples.proofs.RunWords.{task, call, phone, msg, reply, raw, naming_service, sent, no_areas, state, of_none, of_next, of_step, from_start, TaskStep, asks, told_of, Steps}

abbrev ns_plan : TaskPlan
ns_plan = naming_service

abbrev server_plan : TaskPlan
server_plan =
    raw 64
    (op.Call (Number 0) (Number 1) (Number 7 ∷ Number 0 ∷ Number 0 ∷ Number 0 ∷ Number 0 ∷ [])
    ∷ op.Receive
    ∷ op.Receive
    ∷ op.Answer (Register 2) (Number 0) (Number 0 ∷ Number 0 ∷ Number 0 ∷ Number 0 ∷ Number 0 ∷ [])
    ∷ op.Receive
    ∷ op.Answer (Register 2) (Number 0) (Number 8 ∷ Number 0 ∷ Number 0 ∷ Number 0 ∷ Number 0 ∷ [])
    ∷ [])

abbrev client_plan : TaskPlan
client_plan =
    raw 64
    (op.Call (Number 0) (Number 2) (Number 7 ∷ Number 0 ∷ Number 0 ∷ Number 0 ∷ Number 0 ∷ [])
    ∷ op.Receive
    ∷ op.Call (Register 15) (Number 512) (Number 5 ∷ Number 0 ∷ Number 0 ∷ Number 0 ∷ Number 0 ∷ [])
    ∷ op.Receive
    ∷ [])

abbrev plan : Plan
plan = record {
  tasks = ns_plan ∷ server_plan ∷ client_plan ∷ [];
  wires = [];
  templates = [];
}

abbrev ns_0 : AnyProgram
ns_0 = program_of 1 (ns_plan)

abbrev server_0 : AnyProgram
server_0 = program_of 2 (server_plan)

abbrev client_0 : AnyProgram
client_0 = program_of 3 (client_plan)

abbrev state_0 : RunState
state_0 =
    state (true ∷ true ∷ true ∷ []) ((replicate 64 Free) ∷ (Connected (task 1) ∷ replicate 63 Free) ∷ (Connected (task 1) ∷ replicate 63 Free) ∷ [])
    ([]) 1 1 (no_areas 3) 0
    (ns_0 ∷ server_0 ∷ client_0 ∷ []) (Some (task 1))

starts : start plan ≡ state_0
starts = rw (empty_known, empty_known)

-- 1. step server
abbrev call_1_sent : Call
call_1_sent = sent 1 (phone 2 0) (msg 1 7 0 0 0 0) (Incoming (task 1)) 1

abbrev server_1 : AnyProgram
server_1 = after server_0 (got.Accepted (call 1))

abbrev state_1 : RunState
state_1 =
    state (true ∷ true ∷ true ∷ []) ((replicate 64 Free) ∷ (Connected (task 1) ∷ replicate 63 Free) ∷ (Connected (task 1) ∷ replicate 63 Free) ∷ [])
    ((1, call_1_sent) ∷ []) 2 2 (no_areas 3) 1
    (ns_0 ∷ server_1 ∷ client_0 ∷ []) (Some (task 1))

abbrev step_1 : TaskStep
step_1 =
    asks 2 (ask.Call 0 (msg 1 7 0 0 0 0))
    (entry.Accepted (call 1) (phone 2 0) 1 (Some (task 1)) ∷ [])
    (got.Accepted (call 1)) []

event_1 : Steps state_0 step_1 state_1
event_1 = of_step state_0 step_1 state_1 server_0 refl refl (rw (entries_known, insert_known)) refl refl

-- 2. step ns
abbrev call_1_received : Call
call_1_received = record call_1_sent { place = Dispatched (task 1); stamp = 2; reserved = Some (phone 1 0) }

abbrev ns_1 : AnyProgram
ns_1 = after ns_0 (got.Received (call 1) (msg 1 7 0 0 0 0) (phone 2 0))

abbrev state_2 : RunState
state_2 =
    state (true ∷ true ∷ true ∷ []) ((Connecting ∷ replicate 63 Free) ∷ (Connected (task 1) ∷ replicate 63 Free) ∷ (Connected (task 1) ∷ replicate 63 Free) ∷ [])
    ((1, call_1_received) ∷ []) 2 3 (no_areas 3) 2
    (ns_1 ∷ server_1 ∷ client_0 ∷ []) (Some (task 1))

abbrev step_2 : TaskStep
step_2 =
    asks 1 ask.Receive
    (entry.Received (call 1) (task 1) ∷ entry.PhoneIs (phone 1 0) Connecting ∷ [])
    (got.Received (call 1) (msg 1 7 0 0 0 0) (phone 2 0)) []

event_2 : Steps state_1 step_2 state_2
event_2 = of_step state_1 step_2 state_2 ns_0 refl refl (rw (entries_known, entries_known, insert_known)) refl refl

-- 3. step ns
abbrev call_1_answered : Call
call_1_answered = record call_1_received { reply = reply eok 0 0 0 0 0; place = Answers (task 2); stamp = 3 }

abbrev ns_2 : AnyProgram
ns_2 = after ns_1 got.Done

abbrev state_3 : RunState
state_3 =
    state (true ∷ true ∷ true ∷ []) ((Connected (task 2) ∷ replicate 63 Free) ∷ (Connected (task 1) ∷ replicate 63 Free) ∷ (Connected (task 1) ∷ replicate 63 Free) ∷ [])
    ((1, call_1_answered) ∷ []) 2 4 (no_areas 3) 3
    (ns_2 ∷ server_1 ∷ client_0 ∷ []) (Some (task 1))

abbrev step_3 : TaskStep
step_3 =
    asks 1 (ask.Answer 1 (reply eok 0 0 0 0 0))
    (entry.Answered (call 1) (reply eok 0 0 0 0 0) (Some (task 1))
    ∷ entry.PhoneIs (phone 1 0) (Connected (task 2))
    ∷ [])
    got.Done []

event_3 : Steps state_2 step_3 state_3
event_3 = of_step state_2 step_3 state_3 ns_1 refl refl (rw (get_known, insert_known)) refl refl

-- 4. step server
abbrev server_2 : AnyProgram
server_2 = after server_1 (got.Answered (call 1) (reply eok 0 0 0 0 0))

abbrev state_4 : RunState
state_4 =
    state (true ∷ true ∷ true ∷ []) ((Connected (task 2) ∷ replicate 63 Free) ∷ (Connected (task 1) ∷ replicate 63 Free) ∷ (Connected (task 1) ∷ replicate 63 Free) ∷ [])
    ([]) 2 4 (no_areas 3) 4
    (ns_2 ∷ server_2 ∷ client_0 ∷ []) (Some (task 1))

abbrev step_4 : TaskStep
step_4 = asks 2 ask.Receive (entry.Delivered (call 1) (task 2) ∷ []) (got.Answered (call 1) (reply eok 0 0 0 0 0)) []

event_4 : Steps state_3 step_4 state_4
event_4 = of_step state_3 step_4 state_4 server_1 refl refl (rw (entries_known, entries_known, entries_known, remove_known)) refl refl

-- 5. step client
abbrev call_2_sent : Call
call_2_sent = record (sent 2 (phone 3 0) (msg 2 7 0 0 0 0) (Incoming (task 1)) 4) { reserved = Some (phone 3 1); msg = msg 2 7 0 0 0 193 }

abbrev client_1 : AnyProgram
client_1 = after client_0 (got.Accepted (call 2))

abbrev state_5 : RunState
state_5 =
    state (true ∷ true ∷ true ∷ []) ((Connected (task 2) ∷ replicate 63 Free) ∷ (Connected (task 1) ∷ replicate 63 Free) ∷ (Connected (task 1) ∷ Connecting ∷ replicate 62 Free) ∷ [])
    ((2, call_2_sent) ∷ []) 3 5 (no_areas 3) 5
    (ns_2 ∷ server_2 ∷ client_1 ∷ []) (Some (task 1))

abbrev step_5 : TaskStep
step_5 =
    asks 3 (ask.Call 0 (msg 2 7 0 0 0 0))
    (entry.Accepted (call 2) (phone 3 0) 2 (Some (task 1)) ∷ entry.PhoneIs (phone 3 1) Connecting ∷ [])
    (got.Accepted (call 2)) []

event_5 : Steps state_4 step_5 state_5
event_5 = of_step state_4 step_5 state_5 client_0 refl refl (rw (entries_known, insert_known)) refl refl

-- 6. step ns
abbrev call_2_received : Call
call_2_received = record call_2_sent { place = Dispatched (task 1); stamp = 5 }

abbrev ns_3 : AnyProgram
ns_3 = after ns_2 (got.Received (call 2) (msg 2 7 0 0 0 193) (phone 3 0))

abbrev state_6 : RunState
state_6 =
    state (true ∷ true ∷ true ∷ []) ((Connected (task 2) ∷ replicate 63 Free) ∷ (Connected (task 1) ∷ replicate 63 Free) ∷ (Connected (task 1) ∷ Connecting ∷ replicate 62 Free) ∷ [])
    ((2, call_2_received) ∷ []) 3 6 (no_areas 3) 6
    (ns_3 ∷ server_2 ∷ client_1 ∷ []) (Some (task 1))

abbrev step_6 : TaskStep
step_6 =
    asks 1 ask.Receive
    (entry.Received (call 2) (task 1) ∷ [])
    (got.Received (call 2) (msg 2 7 0 0 0 193) (phone 3 0)) []

event_6 : Steps state_5 step_6 state_6
event_6 = of_step state_5 step_6 state_6 ns_2 refl refl (rw (entries_known, entries_known, insert_known)) refl refl

-- 7. step ns
abbrev call_2_forwarded : Call
call_2_forwarded = record call_2_received { place = Incoming (task 2); stamp = 6; msg = msg 2 0 0 0 0 193 }

abbrev ns_4 : AnyProgram
ns_4 = after ns_3 got.Done

abbrev state_7 : RunState
state_7 =
    state (true ∷ true ∷ true ∷ []) ((Connected (task 2) ∷ replicate 63 Free) ∷ (Connected (task 1) ∷ replicate 63 Free) ∷ (Connected (task 1) ∷ Connecting ∷ replicate 62 Free) ∷ [])
    ((2, call_2_forwarded) ∷ []) 3 7 (no_areas 3) 7
    (ns_4 ∷ server_2 ∷ client_1 ∷ []) (Some (task 1))

abbrev step_7 : TaskStep
step_7 =
    asks 1 (ask.Forward 2 0 Plain (Some (msg 2 0 0 0 0 0)))
    (entry.Forwarded (call 2) (task 1) (task 2) (phone 3 0) ∷ [])
    got.Done []

event_7 : Steps state_6 step_7 state_7
event_7 = of_step state_6 step_7 state_7 ns_3 refl refl (rw (get_known, insert_known)) refl refl

-- 8. step server
abbrev call_2_received_2 : Call
call_2_received_2 = record call_2_forwarded { place = Dispatched (task 2); stamp = 7 }

abbrev server_3 : AnyProgram
server_3 = after server_2 (got.Received (call 2) (msg 2 0 0 0 0 193) (phone 3 0))

abbrev state_8 : RunState
state_8 =
    state (true ∷ true ∷ true ∷ []) ((Connected (task 2) ∷ replicate 63 Free) ∷ (Connected (task 1) ∷ replicate 63 Free) ∷ (Connected (task 1) ∷ Connecting ∷ replicate 62 Free) ∷ [])
    ((2, call_2_received_2) ∷ []) 3 8 (no_areas 3) 8
    (ns_4 ∷ server_3 ∷ client_1 ∷ []) (Some (task 1))

abbrev step_8 : TaskStep
step_8 =
    asks 2 ask.Receive
    (entry.Received (call 2) (task 2) ∷ [])
    (got.Received (call 2) (msg 2 0 0 0 0 193) (phone 3 0)) []

event_8 : Steps state_7 step_8 state_8
event_8 = of_step state_7 step_8 state_8 server_2 refl refl (rw (entries_known, entries_known, insert_known)) refl refl

-- 9. step server
abbrev call_2_answered : Call
call_2_answered = record call_2_received_2 { reply = reply eok 0 0 0 0 0; place = Answers (task 3); stamp = 8 }

abbrev server_4 : AnyProgram
server_4 = after server_3 got.Done

abbrev state_9 : RunState
state_9 =
    state (true ∷ true ∷ true ∷ []) ((Connected (task 2) ∷ replicate 63 Free) ∷ (Connected (task 1) ∷ replicate 63 Free) ∷ (Connected (task 1) ∷ Connected (task 2) ∷ replicate 62 Free) ∷ [])
    ((2, call_2_answered) ∷ []) 3 9 (no_areas 3) 9
    (ns_4 ∷ server_4 ∷ client_1 ∷ []) (Some (task 1))

abbrev step_9 : TaskStep
step_9 =
    asks 2 (ask.Answer 2 (reply eok 0 0 0 0 0))
    (entry.Answered (call 2) (reply eok 0 0 0 0 0) (Some (task 2))
    ∷ entry.PhoneIs (phone 3 1) (Connected (task 2))
    ∷ [])
    got.Done []

event_9 : Steps state_8 step_9 state_9
event_9 = of_step state_8 step_9 state_9 server_3 refl refl (rw (get_known, insert_known)) refl refl

-- 10. step client
abbrev client_2 : AnyProgram
client_2 = after client_1 (got.Answered (call 2) (reply eok 0 0 0 0 1))

abbrev state_10 : RunState
state_10 =
    state (true ∷ true ∷ true ∷ []) ((Connected (task 2) ∷ replicate 63 Free) ∷ (Connected (task 1) ∷ replicate 63 Free) ∷ (Connected (task 1) ∷ Connected (task 2) ∷ replicate 62 Free) ∷ [])
    ([]) 3 9 (no_areas 3) 10
    (ns_4 ∷ server_4 ∷ client_2 ∷ []) (Some (task 1))

abbrev step_10 : TaskStep
step_10 = asks 3 ask.Receive (entry.Delivered (call 2) (task 3) ∷ []) (got.Answered (call 2) (reply eok 0 0 0 0 1)) []

event_10 : Steps state_9 step_10 state_10
event_10 = of_step state_9 step_10 state_10 client_1 refl refl (rw (entries_known, entries_known, entries_known, remove_known)) refl refl

-- 11. step client
abbrev call_3_sent : Call
call_3_sent = sent 3 (phone 3 1) (msg 512 5 0 0 0 0) (Incoming (task 2)) 9

abbrev client_3 : AnyProgram
client_3 = after client_2 (got.Accepted (call 3))

abbrev state_11 : RunState
state_11 =
    state (true ∷ true ∷ true ∷ []) ((Connected (task 2) ∷ replicate 63 Free) ∷ (Connected (task 1) ∷ replicate 63 Free) ∷ (Connected (task 1) ∷ Connected (task 2) ∷ replicate 62 Free) ∷ [])
    ((3, call_3_sent) ∷ []) 4 10 (no_areas 3) 11
    (ns_4 ∷ server_4 ∷ client_3 ∷ []) (Some (task 1))

abbrev step_11 : TaskStep
step_11 =
    asks 3 (ask.Call 1 (msg 512 5 0 0 0 0))
    (entry.Accepted (call 3) (phone 3 1) 512 (Some (task 2)) ∷ [])
    (got.Accepted (call 3)) []

event_11 : Steps state_10 step_11 state_11
event_11 = of_step state_10 step_11 state_11 client_2 refl refl (rw (entries_known, insert_known)) refl refl

-- 12. step server
abbrev call_3_received : Call
call_3_received = record call_3_sent { place = Dispatched (task 2); stamp = 10 }

abbrev server_5 : AnyProgram
server_5 = after server_4 (got.Received (call 3) (msg 512 5 0 0 0 0) (phone 3 1))

abbrev state_12 : RunState
state_12 =
    state (true ∷ true ∷ true ∷ []) ((Connected (task 2) ∷ replicate 63 Free) ∷ (Connected (task 1) ∷ replicate 63 Free) ∷ (Connected (task 1) ∷ Connected (task 2) ∷ replicate 62 Free) ∷ [])
    ((3, call_3_received) ∷ []) 4 11 (no_areas 3) 12
    (ns_4 ∷ server_5 ∷ client_3 ∷ []) (Some (task 1))

abbrev step_12 : TaskStep
step_12 =
    asks 2 ask.Receive
    (entry.Received (call 3) (task 2) ∷ [])
    (got.Received (call 3) (msg 512 5 0 0 0 0) (phone 3 1)) []

event_12 : Steps state_11 step_12 state_12
event_12 = of_step state_11 step_12 state_12 server_4 refl refl (rw (entries_known, entries_known, insert_known)) refl refl

-- 13. step server
abbrev call_3_answered : Call
call_3_answered = record call_3_received { reply = reply eok 8 0 0 0 0; place = Answers (task 3); stamp = 11 }

abbrev server_6 : AnyProgram
server_6 = after server_5 got.Done

abbrev state_13 : RunState
state_13 =
    state (true ∷ true ∷ true ∷ []) ((Connected (task 2) ∷ replicate 63 Free) ∷ (Connected (task 1) ∷ replicate 63 Free) ∷ (Connected (task 1) ∷ Connected (task 2) ∷ replicate 62 Free) ∷ [])
    ((3, call_3_answered) ∷ []) 4 12 (no_areas 3) 13
    (ns_4 ∷ server_6 ∷ client_3 ∷ []) (Some (task 1))

abbrev step_13 : TaskStep
step_13 =
    asks 2 (ask.Answer 3 (reply eok 8 0 0 0 0))
    (entry.Answered (call 3) (reply eok 8 0 0 0 0) (Some (task 2)) ∷ [])
    got.Done []

event_13 : Steps state_12 step_13 state_13
event_13 = of_step state_12 step_13 state_13 server_5 refl refl (rw (get_known, insert_known)) refl refl

-- 14. step client
abbrev client_4 : AnyProgram
client_4 = after client_3 (got.Answered (call 3) (reply eok 8 0 0 0 0))

abbrev state_14 : RunState
state_14 =
    state (true ∷ true ∷ true ∷ []) ((Connected (task 2) ∷ replicate 63 Free) ∷ (Connected (task 1) ∷ replicate 63 Free) ∷ (Connected (task 1) ∷ Connected (task 2) ∷ replicate 62 Free) ∷ [])
    ([]) 4 12 (no_areas 3) 14
    (ns_4 ∷ server_6 ∷ client_4 ∷ []) (Some (task 1))

abbrev step_14 : TaskStep
step_14 = asks 3 ask.Receive (entry.Delivered (call 3) (task 3) ∷ []) (got.Answered (call 3) (reply eok 8 0 0 0 0)) []

event_14 : Steps state_13 step_14 state_14
event_14 = of_step state_13 step_14 state_14 client_3 refl refl (rw (entries_known, entries_known, entries_known, remove_known)) refl refl

abbrev schedule : List Event
schedule =
    Step (task 2) ∷ Step (task 1) ∷ Step (task 1) ∷ Step (task 2) ∷ Step (task 3) ∷ Step (task 1) ∷ Step (task 1)
    ∷ Step (task 2) ∷ Step (task 2) ∷ Step (task 3) ∷ Step (task 3) ∷ Step (task 2) ∷ Step (task 2) ∷ Step (task 3)
    ∷ []

-- the entries of the run
pub service : run plan schedule
    ≡ told_of step_1 ++ told_of step_2 ++ told_of step_3 ++ told_of step_4 ++ told_of step_5 ++ told_of step_6
    ++ told_of step_7 ++ told_of step_8 ++ told_of step_9 ++ told_of step_10 ++ told_of step_11 ++ told_of step_12
    ++ told_of step_13 ++ told_of step_14 ++ []
service = from_start plan schedule starts (
    of_next event_1 (of_next event_2 (of_next event_3 (of_next event_4 (of_next event_5 (of_next event_6 (
    of_next event_7 (of_next event_8 (of_next event_9 (of_next event_10 (of_next event_11 (
    of_next event_12 (of_next event_13 (of_next event_14 (of_none)))))))))))))))
