-- A fibril has exchanges of one parallel session, each with a phone of its own, and uses the phone of one again.
--
--     task server async
--     connection
--     answer r2 EOK
--     next
--     task client async
--     fibril
--     open 0 0 parallel
--     begin 0 0
--     begin 1 0
--     end 0
--     begin 2 0
--     wire client 0 server
--
-- under the schedule step client x 2, step server x 2, step client x 2, step server x 3, step client x 3.
use Rattle.std.proofs.Common.{◌≡◌, List, [], ◌∷◌, ◌++◌, true, Some, None, replicate, refl}
use Rattle.ipc_ids.specs.declared.message.ExchangeMode.TheVariants.{Parallel}
use Rattle.ipc_ids.specs.declared.message.Why.TheVariants as why
use Rattle.ipc_ids.specs.declared.message.PhoneState.TheVariants.{Free, Connecting, Connected}
use Rattle.ipc_ids.specs.declared.message.Request.TheVariants as ask
use Rattle.ipc_ids.specs.declared.message.Outcome.TheVariants as got
use Rattle.ipc_ids.specs.declared.message.Event.{Event}
use Rattle.ipc_ids.specs.declared.message.Event.TheVariants.{Step}
use Rattle.ipc_ids.specs.declared.entry.Entry.TheVariants as entry
use Rattle.ipc_ids.specs.declared.op.Value.TheVariants.{Number, Register}
use Rattle.ipc_ids.specs.declared.op.Op.TheVariants as op
use Rattle.ipc_ids.specs.Codes.{eok}
use Rattle.call_slab.specs.declared.call.Call.{Call}
use Rattle.call_slab.specs.declared.call.Place.TheVariants.{Incoming, Dispatched, Answers}
use Rattle.task_system.specs.declared.any.AnyProgram.{AnyProgram}
use Rattle.script_lines.specs.declared.plan.TaskPlan.{TaskPlan}
use Rattle.script_lines.specs.Plan.{Plan}
use Rattle.task_system.specs.Any.{after}
use Rattle.task_system.specs.Run.{run, start, program_of, RunState}
use Rattle.replay_examples.proofs.KnownMaps.{empty_known, get_known, entries_known, insert_known, remove_known}
use Rattle.replay_examples.proofs.RunWords.{task, call, fibril, exchange, phone, msg, reply, async, fibril_of, connection_of, wire, sent, no_areas, state, of_none, of_next, of_step, from_start, TaskStep, asks, told_of, Steps}

abbrev server_plan : TaskPlan
server_plan =
    async 64
    (connection_of
    (op.Answer (Register 2) (Number 0) (Number 0 ∷ Number 0 ∷ Number 0 ∷ Number 0 ∷ Number 0 ∷ [])
    ∷ op.Next
    ∷ [])
    ∷ [])

abbrev client_plan : TaskPlan
client_plan =
    async 64
    (fibril_of
    (op.OpenSession 0 (Number 0) Parallel
    ∷ op.Begin 0 0
    ∷ op.Begin 1 0
    ∷ op.End 0
    ∷ op.Begin 2 0
    ∷ [])
    ∷ [])

abbrev plan : Plan
plan = record {
  tasks = server_plan ∷ client_plan ∷ [];
  wires = wire 2 0 1 ∷ [];
  templates = [];
}

abbrev server_0 : AnyProgram
server_0 = program_of 1 (server_plan)

abbrev client_0 : AnyProgram
client_0 = program_of 2 (client_plan)

abbrev state_0 : RunState
state_0 =
    state (true ∷ true ∷ []) ((replicate 64 Free) ∷ (Connected (task 1) ∷ replicate 63 Free) ∷ [])
    ([]) 1 1 (no_areas 2) 0
    (server_0 ∷ client_0 ∷ []) None

starts : start plan ≡ state_0
starts = rw (empty_known, empty_known)

-- 1. step client
abbrev client_1 : AnyProgram
client_1 = after client_0 got.Done

abbrev state_1 : RunState
state_1 =
    state (true ∷ true ∷ []) ((replicate 64 Free) ∷ (Connected (task 1) ∷ replicate 63 Free) ∷ [])
    ([]) 1 1 (no_areas 2) 1
    (server_0 ∷ client_1 ∷ []) None

abbrev step_1 : TaskStep
step_1 = asks 2 ask.Nothing [] got.Done []

event_1 : Steps state_0 step_1 state_1
event_1 = of_step state_0 step_1 state_1 client_0 refl refl refl refl refl

-- 2. step client
abbrev call_1_sent : Call
call_1_sent = record (sent 1 (phone 2 0) (msg 2 0 0 0 0 0) (Incoming (task 1)) 1) { reserved = Some (phone 2 1); msg = msg 2 0 0 0 0 129 }

abbrev client_2 : AnyProgram
client_2 = after client_1 (got.Accepted (call 1))

abbrev state_2 : RunState
state_2 =
    state (true ∷ true ∷ []) ((replicate 64 Free) ∷ (Connected (task 1) ∷ Connecting ∷ replicate 62 Free) ∷ [])
    ((1, call_1_sent) ∷ []) 2 2 (no_areas 2) 2
    (server_0 ∷ client_2 ∷ []) None

abbrev step_2 : TaskStep
step_2 =
    asks 2 (ask.Call 0 (msg 2 0 0 0 0 0))
    (entry.Accepted (call 1) (phone 2 0) 2 (Some (task 1)) ∷ entry.PhoneIs (phone 2 1) Connecting ∷ [])
    (got.Accepted (call 1))
    (entry.Sent (task 2) (fibril 1) (call 1) None ∷ entry.Blocks (task 2) (fibril 1) (why.Answer (call 1)) ∷ [])

event_2 : Steps state_1 step_2 state_2
event_2 = of_step state_1 step_2 state_2 client_1 refl refl (rw (entries_known, insert_known)) refl refl

-- 3. step server
abbrev call_1_received : Call
call_1_received = record call_1_sent { place = Dispatched (task 1); stamp = 2 }

abbrev server_1 : AnyProgram
server_1 = after server_0 (got.Received (call 1) (msg 2 0 0 0 0 129) (phone 2 0))

abbrev state_3 : RunState
state_3 =
    state (true ∷ true ∷ []) ((replicate 64 Free) ∷ (Connected (task 1) ∷ Connecting ∷ replicate 62 Free) ∷ [])
    ((1, call_1_received) ∷ []) 2 3 (no_areas 2) 3
    (server_1 ∷ client_2 ∷ []) None

abbrev step_3 : TaskStep
step_3 =
    asks 1 ask.Receive
    (entry.Received (call 1) (task 1) ∷ [])
    (got.Received (call 1) (msg 2 0 0 0 0 129) (phone 2 0)) (entry.Starts (task 1) (fibril 1) (phone 2 1) ∷ [])

event_3 : Steps state_2 step_3 state_3
event_3 = of_step state_2 step_3 state_3 server_0 refl refl (rw (entries_known, entries_known, insert_known)) refl refl

-- 4. step server
abbrev call_1_answered : Call
call_1_answered = record call_1_received { reply = reply eok 0 0 0 0 0; place = Answers (task 2); stamp = 3 }

abbrev server_2 : AnyProgram
server_2 = after server_1 got.Done

abbrev state_4 : RunState
state_4 =
    state (true ∷ true ∷ []) ((replicate 64 Free) ∷ (Connected (task 1) ∷ Connected (task 1) ∷ replicate 62 Free) ∷ [])
    ((1, call_1_answered) ∷ []) 2 4 (no_areas 2) 4
    (server_2 ∷ client_2 ∷ []) None

abbrev step_4 : TaskStep
step_4 =
    asks 1 (ask.Answer 1 (reply eok 0 0 0 0 0))
    (entry.Answered (call 1) (reply eok 0 0 0 0 0) (Some (task 1))
    ∷ entry.PhoneIs (phone 2 1) (Connected (task 1))
    ∷ [])
    got.Done []

event_4 : Steps state_3 step_4 state_4
event_4 = of_step state_3 step_4 state_4 server_1 refl refl (rw (get_known, insert_known)) refl refl

-- 5. step client
abbrev client_3 : AnyProgram
client_3 = after client_2 (got.Answered (call 1) (reply eok 0 0 0 0 1))

abbrev state_5 : RunState
state_5 =
    state (true ∷ true ∷ []) ((replicate 64 Free) ∷ (Connected (task 1) ∷ Connected (task 1) ∷ replicate 62 Free) ∷ [])
    ([]) 2 4 (no_areas 2) 5
    (server_2 ∷ client_3 ∷ []) None

abbrev step_5 : TaskStep
step_5 =
    asks 2 ask.Receive
    (entry.Delivered (call 1) (task 2) ∷ [])
    (got.Answered (call 1) (reply eok 0 0 0 0 1))
    (entry.Gets (task 2) (fibril 1) (call 1) None (reply eok 0 0 0 0 1)
    ∷ entry.Begins (task 2) (fibril 1) (exchange 1) Parallel 0 1
    ∷ [])

event_5 : Steps state_4 step_5 state_5
event_5 = of_step state_4 step_5 state_5 client_2 refl refl (rw (entries_known, entries_known, entries_known, remove_known)) refl refl

-- 6. step client
abbrev call_2_sent : Call
call_2_sent = record (sent 2 (phone 2 0) (msg 2 0 0 0 0 0) (Incoming (task 1)) 4) { reserved = Some (phone 2 2); msg = msg 2 0 0 0 0 130 }

abbrev client_4 : AnyProgram
client_4 = after client_3 (got.Accepted (call 2))

abbrev state_6 : RunState
state_6 =
    state (true ∷ true ∷ []) ((replicate 64 Free) ∷ (Connected (task 1) ∷ Connected (task 1) ∷ Connecting ∷ replicate 61 Free) ∷ [])
    ((2, call_2_sent) ∷ []) 3 5 (no_areas 2) 6
    (server_2 ∷ client_4 ∷ []) None

abbrev step_6 : TaskStep
step_6 =
    asks 2 (ask.Call 0 (msg 2 0 0 0 0 0))
    (entry.Accepted (call 2) (phone 2 0) 2 (Some (task 1)) ∷ entry.PhoneIs (phone 2 2) Connecting ∷ [])
    (got.Accepted (call 2))
    (entry.Sent (task 2) (fibril 1) (call 2) None ∷ entry.Blocks (task 2) (fibril 1) (why.Answer (call 2)) ∷ [])

event_6 : Steps state_5 step_6 state_6
event_6 = of_step state_5 step_6 state_6 client_3 refl refl (rw (entries_known, insert_known)) refl refl

-- 7. step server
abbrev server_3 : AnyProgram
server_3 = after server_2 got.Done

abbrev state_7 : RunState
state_7 =
    state (true ∷ true ∷ []) ((replicate 64 Free) ∷ (Connected (task 1) ∷ Connected (task 1) ∷ Connecting ∷ replicate 61 Free) ∷ [])
    ((2, call_2_sent) ∷ []) 3 5 (no_areas 2) 7
    (server_3 ∷ client_4 ∷ []) None

abbrev step_7 : TaskStep
step_7 = asks 1 ask.Nothing [] got.Done (entry.Blocks (task 1) (fibril 1) why.Message ∷ [])

event_7 : Steps state_6 step_7 state_7
event_7 = of_step state_6 step_7 state_7 server_2 refl refl refl refl refl

-- 8. step server
abbrev call_2_received : Call
call_2_received = record call_2_sent { place = Dispatched (task 1); stamp = 5 }

abbrev server_4 : AnyProgram
server_4 = after server_3 (got.Received (call 2) (msg 2 0 0 0 0 130) (phone 2 0))

abbrev state_8 : RunState
state_8 =
    state (true ∷ true ∷ []) ((replicate 64 Free) ∷ (Connected (task 1) ∷ Connected (task 1) ∷ Connecting ∷ replicate 61 Free) ∷ [])
    ((2, call_2_received) ∷ []) 3 6 (no_areas 2) 8
    (server_4 ∷ client_4 ∷ []) None

abbrev step_8 : TaskStep
step_8 =
    asks 1 ask.Receive
    (entry.Received (call 2) (task 1) ∷ [])
    (got.Received (call 2) (msg 2 0 0 0 0 130) (phone 2 0)) (entry.Starts (task 1) (fibril 2) (phone 2 2) ∷ [])

event_8 : Steps state_7 step_8 state_8
event_8 = of_step state_7 step_8 state_8 server_3 refl refl (rw (entries_known, entries_known, insert_known)) refl refl

-- 9. step server
abbrev call_2_answered : Call
call_2_answered = record call_2_received { reply = reply eok 0 0 0 0 0; place = Answers (task 2); stamp = 6 }

abbrev server_5 : AnyProgram
server_5 = after server_4 got.Done

abbrev state_9 : RunState
state_9 =
    state (true ∷ true ∷ []) ((replicate 64 Free) ∷ (Connected (task 1) ∷ Connected (task 1) ∷ Connected (task 1) ∷ replicate 61 Free) ∷ [])
    ((2, call_2_answered) ∷ []) 3 7 (no_areas 2) 9
    (server_5 ∷ client_4 ∷ []) None

abbrev step_9 : TaskStep
step_9 =
    asks 1 (ask.Answer 2 (reply eok 0 0 0 0 0))
    (entry.Answered (call 2) (reply eok 0 0 0 0 0) (Some (task 1))
    ∷ entry.PhoneIs (phone 2 2) (Connected (task 1))
    ∷ [])
    got.Done []

event_9 : Steps state_8 step_9 state_9
event_9 = of_step state_8 step_9 state_9 server_4 refl refl (rw (get_known, insert_known)) refl refl

-- 10. step client
abbrev client_5 : AnyProgram
client_5 = after client_4 (got.Answered (call 2) (reply eok 0 0 0 0 2))

abbrev state_10 : RunState
state_10 =
    state (true ∷ true ∷ []) ((replicate 64 Free) ∷ (Connected (task 1) ∷ Connected (task 1) ∷ Connected (task 1) ∷ replicate 61 Free) ∷ [])
    ([]) 3 7 (no_areas 2) 10
    (server_5 ∷ client_5 ∷ []) None

abbrev step_10 : TaskStep
step_10 =
    asks 2 ask.Receive
    (entry.Delivered (call 2) (task 2) ∷ [])
    (got.Answered (call 2) (reply eok 0 0 0 0 2))
    (entry.Gets (task 2) (fibril 1) (call 2) None (reply eok 0 0 0 0 2)
    ∷ entry.Begins (task 2) (fibril 1) (exchange 2) Parallel 0 2
    ∷ [])

event_10 : Steps state_9 step_10 state_10
event_10 = of_step state_9 step_10 state_10 client_4 refl refl (rw (entries_known, entries_known, entries_known, remove_known)) refl refl

-- 11. step client
abbrev client_6 : AnyProgram
client_6 = after client_5 got.Done

abbrev state_11 : RunState
state_11 =
    state (true ∷ true ∷ []) ((replicate 64 Free) ∷ (Connected (task 1) ∷ Connected (task 1) ∷ Connected (task 1) ∷ replicate 61 Free) ∷ [])
    ([]) 3 7 (no_areas 2) 11
    (server_5 ∷ client_6 ∷ []) None

abbrev step_11 : TaskStep
step_11 = asks 2 ask.Nothing [] got.Done (entry.ExchangeEnds (task 2) (fibril 1) (exchange 1) ∷ [])

event_11 : Steps state_10 step_11 state_11
event_11 = of_step state_10 step_11 state_11 client_5 refl refl refl refl refl

-- 12. step client
abbrev client_7 : AnyProgram
client_7 = after client_6 got.Done

abbrev state_12 : RunState
state_12 =
    state (true ∷ true ∷ []) ((replicate 64 Free) ∷ (Connected (task 1) ∷ Connected (task 1) ∷ Connected (task 1) ∷ replicate 61 Free) ∷ [])
    ([]) 3 7 (no_areas 2) 12
    (server_5 ∷ client_7 ∷ []) None

abbrev step_12 : TaskStep
step_12 = asks 2 ask.Nothing [] got.Done (entry.Begins (task 2) (fibril 1) (exchange 1) Parallel 0 1 ∷ [])

event_12 : Steps state_11 step_12 state_12
event_12 = of_step state_11 step_12 state_12 client_6 refl refl refl refl refl

abbrev schedule : List Event
schedule =
    Step (task 2) ∷ Step (task 2) ∷ Step (task 1) ∷ Step (task 1) ∷ Step (task 2) ∷ Step (task 2) ∷ Step (task 1)
    ∷ Step (task 1) ∷ Step (task 1) ∷ Step (task 2) ∷ Step (task 2) ∷ Step (task 2) ∷ []

-- the entries of the run
pub parallel : run plan schedule
    ≡ told_of step_1 ++ told_of step_2 ++ told_of step_3 ++ told_of step_4 ++ told_of step_5 ++ told_of step_6
    ++ told_of step_7 ++ told_of step_8 ++ told_of step_9 ++ told_of step_10 ++ told_of step_11 ++ told_of step_12
    ++ []
parallel = from_start plan schedule starts (
    of_next event_1 (of_next event_2 (of_next event_3 (of_next event_4 (of_next event_5 (of_next event_6 (
    of_next event_7 (of_next event_8 (of_next event_9 (of_next event_10 (of_next event_11 (
    of_next event_12 (of_none)))))))))))))
