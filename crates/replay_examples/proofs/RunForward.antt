-- Two calls that are forwarded, one in each mode: who calls stays who it is, or the forwarder is shown.
--
--     task client raw
--     call 0 512 7
--     call 0 512 8
--     receive
--     receive
--     task desk raw
--     receive
--     forward r2 0 plain
--     receive
--     forward r2 0 route 600 r4
--     task expert raw
--     receive
--     answer r2 EOK r16 r17
--     receive
--     answer r2 EOK r16 r17
--     wire client 0 desk
--     wire desk 0 expert
--
-- under the schedule step client x 2, step desk x 4, step expert x 4, step client x 2.
use Rattle.std.proofs.Common.{◌≡◌, List, [], ◌∷◌, ◌++◌, true, Some, None, replicate, refl}
use Rattle.ipc_ids.specs.declared.message.Mode.TheVariants.{Plain, Route}
use Rattle.ipc_ids.specs.declared.message.PhoneState.TheVariants.{Free, Connected}
use Rattle.ipc_ids.specs.declared.message.Request.TheVariants as ask
use Rattle.ipc_ids.specs.declared.message.Outcome.TheVariants as got
use Rattle.ipc_ids.specs.declared.message.Event.{Event}
use Rattle.ipc_ids.specs.declared.message.Event.TheVariants.{Step}
use Rattle.ipc_ids.specs.declared.entry.Entry.TheVariants as entry
use Rattle.ipc_ids.specs.declared.op.Value.TheVariants.{Number, Register}
use Rattle.ipc_ids.specs.declared.op.Op.TheVariants as op
use Rattle.ipc_ids.specs.Codes.{eok}
use Rattle.call_slab.specs.declared.call.Call.{Call}
use Rattle.call_slab.specs.declared.call.Place.TheVariants.{Incoming, Dispatched, Answers}
use Rattle.task_system.specs.declared.any.AnyProgram.{AnyProgram}
use Rattle.script_lines.specs.declared.plan.TaskPlan.{TaskPlan}
use Rattle.script_lines.specs.Plan.{Plan}
use Rattle.task_system.specs.Any.{after}
use Rattle.task_system.specs.Run.{run, start, program_of, RunState}
use Rattle.replay_examples.proofs.KnownMaps.{empty_known, get_known, entries_known, insert_known, remove_known}
use Rattle.replay_examples.proofs.RunWords.{task, call, phone, msg, reply, raw, wire, sent, no_areas, state, of_none, of_next, of_step, from_start, TaskStep, asks, told_of, Steps}

abbrev client_plan : TaskPlan
client_plan =
    raw 64
    (op.Call (Number 0) (Number 512) (Number 7 ∷ Number 0 ∷ Number 0 ∷ Number 0 ∷ Number 0 ∷ [])
    ∷ op.Call (Number 0) (Number 512) (Number 8 ∷ Number 0 ∷ Number 0 ∷ Number 0 ∷ Number 0 ∷ [])
    ∷ op.Receive
    ∷ op.Receive
    ∷ [])

abbrev desk_plan : TaskPlan
desk_plan =
    raw 64
    (op.Receive
    ∷ op.Forward (Register 2) (Number 0) Plain
    ∷ op.Receive
    ∷ op.ForwardWith (Register 2) (Number 0) Route (Number 600) (Register 4 ∷ Number 0 ∷ Number 0 ∷ Number 0 ∷ Number 0 ∷ [])
    ∷ [])

abbrev expert_plan : TaskPlan
expert_plan =
    raw 64
    (op.Receive
    ∷ op.Answer (Register 2) (Number 0) (Register 16 ∷ Register 17 ∷ Number 0 ∷ Number 0 ∷ Number 0 ∷ [])
    ∷ op.Receive
    ∷ op.Answer (Register 2) (Number 0) (Register 16 ∷ Register 17 ∷ Number 0 ∷ Number 0 ∷ Number 0 ∷ [])
    ∷ [])

abbrev plan : Plan
plan = record {
  tasks = client_plan ∷ desk_plan ∷ expert_plan ∷ [];
  wires = wire 1 0 2 ∷ wire 2 0 3 ∷ [];
  templates = [];
}

abbrev client_0 : AnyProgram
client_0 = program_of 1 (client_plan)

abbrev desk_0 : AnyProgram
desk_0 = program_of 2 (desk_plan)

abbrev expert_0 : AnyProgram
expert_0 = program_of 3 (expert_plan)

abbrev state_0 : RunState
state_0 =
    state (true ∷ true ∷ true ∷ []) ((Connected (task 2) ∷ replicate 63 Free) ∷ (Connected (task 3) ∷ replicate 63 Free) ∷ (replicate 64 Free) ∷ [])
    ([]) 1 1 (no_areas 3) 0
    (client_0 ∷ desk_0 ∷ expert_0 ∷ []) None

starts : start plan ≡ state_0
starts = rw (empty_known, empty_known)

-- 1. step client
abbrev call_1_sent : Call
call_1_sent = sent 1 (phone 1 0) (msg 512 7 0 0 0 0) (Incoming (task 2)) 1

abbrev client_1 : AnyProgram
client_1 = after client_0 (got.Accepted (call 1))

abbrev state_1 : RunState
state_1 =
    state (true ∷ true ∷ true ∷ []) ((Connected (task 2) ∷ replicate 63 Free) ∷ (Connected (task 3) ∷ replicate 63 Free) ∷ (replicate 64 Free) ∷ [])
    ((1, call_1_sent) ∷ []) 2 2 (no_areas 3) 1
    (client_1 ∷ desk_0 ∷ expert_0 ∷ []) None

abbrev step_1 : TaskStep
step_1 =
    asks 1 (ask.Call 0 (msg 512 7 0 0 0 0))
    (entry.Accepted (call 1) (phone 1 0) 512 (Some (task 2)) ∷ [])
    (got.Accepted (call 1)) []

event_1 : Steps state_0 step_1 state_1
event_1 = of_step state_0 step_1 state_1 client_0 refl refl (rw (entries_known, insert_known)) refl refl

-- 2. step client
abbrev call_2_sent : Call
call_2_sent = sent 2 (phone 1 0) (msg 512 8 0 0 0 0) (Incoming (task 2)) 2

abbrev client_2 : AnyProgram
client_2 = after client_1 (got.Accepted (call 2))

abbrev state_2 : RunState
state_2 =
    state (true ∷ true ∷ true ∷ []) ((Connected (task 2) ∷ replicate 63 Free) ∷ (Connected (task 3) ∷ replicate 63 Free) ∷ (replicate 64 Free) ∷ [])
    ((1, call_1_sent) ∷ (2, call_2_sent) ∷ []) 3 3 (no_areas 3) 2
    (client_2 ∷ desk_0 ∷ expert_0 ∷ []) None

abbrev step_2 : TaskStep
step_2 =
    asks 1 (ask.Call 0 (msg 512 8 0 0 0 0))
    (entry.Accepted (call 2) (phone 1 0) 512 (Some (task 2)) ∷ [])
    (got.Accepted (call 2)) []

event_2 : Steps state_1 step_2 state_2
event_2 = of_step state_1 step_2 state_2 client_1 refl refl (rw (entries_known, insert_known)) refl refl

-- 3. step desk
abbrev call_1_received : Call
call_1_received = record call_1_sent { place = Dispatched (task 2); stamp = 3 }

abbrev desk_1 : AnyProgram
desk_1 = after desk_0 (got.Received (call 1) (msg 512 7 0 0 0 0) (phone 1 0))

abbrev state_3 : RunState
state_3 =
    state (true ∷ true ∷ true ∷ []) ((Connected (task 2) ∷ replicate 63 Free) ∷ (Connected (task 3) ∷ replicate 63 Free) ∷ (replicate 64 Free) ∷ [])
    ((1, call_1_received) ∷ (2, call_2_sent) ∷ []) 3 4 (no_areas 3) 3
    (client_2 ∷ desk_1 ∷ expert_0 ∷ []) None

abbrev step_3 : TaskStep
step_3 =
    asks 2 ask.Receive
    (entry.Received (call 1) (task 2) ∷ [])
    (got.Received (call 1) (msg 512 7 0 0 0 0) (phone 1 0)) []

event_3 : Steps state_2 step_3 state_3
event_3 = of_step state_2 step_3 state_3 desk_0 refl refl (rw (entries_known, entries_known, insert_known)) refl refl

-- 4. step desk
abbrev call_1_forwarded : Call
call_1_forwarded = record call_1_received { place = Incoming (task 3); stamp = 4 }

abbrev desk_2 : AnyProgram
desk_2 = after desk_1 got.Done

abbrev state_4 : RunState
state_4 =
    state (true ∷ true ∷ true ∷ []) ((Connected (task 2) ∷ replicate 63 Free) ∷ (Connected (task 3) ∷ replicate 63 Free) ∷ (replicate 64 Free) ∷ [])
    ((1, call_1_forwarded) ∷ (2, call_2_sent) ∷ []) 3 5 (no_areas 3) 4
    (client_2 ∷ desk_2 ∷ expert_0 ∷ []) None

abbrev step_4 : TaskStep
step_4 = asks 2 (ask.Forward 1 0 Plain None) (entry.Forwarded (call 1) (task 2) (task 3) (phone 1 0) ∷ []) got.Done []

event_4 : Steps state_3 step_4 state_4
event_4 = of_step state_3 step_4 state_4 desk_1 refl refl (rw (get_known, insert_known)) refl refl

-- 5. step desk
abbrev call_2_received : Call
call_2_received = record call_2_sent { place = Dispatched (task 2); stamp = 5 }

abbrev desk_3 : AnyProgram
desk_3 = after desk_2 (got.Received (call 2) (msg 512 8 0 0 0 0) (phone 1 0))

abbrev state_5 : RunState
state_5 =
    state (true ∷ true ∷ true ∷ []) ((Connected (task 2) ∷ replicate 63 Free) ∷ (Connected (task 3) ∷ replicate 63 Free) ∷ (replicate 64 Free) ∷ [])
    ((1, call_1_forwarded) ∷ (2, call_2_received) ∷ []) 3 6 (no_areas 3) 5
    (client_2 ∷ desk_3 ∷ expert_0 ∷ []) None

abbrev step_5 : TaskStep
step_5 =
    asks 2 ask.Receive
    (entry.Received (call 2) (task 2) ∷ [])
    (got.Received (call 2) (msg 512 8 0 0 0 0) (phone 1 0)) []

event_5 : Steps state_4 step_5 state_5
event_5 = of_step state_4 step_5 state_5 desk_2 refl refl (rw (entries_known, entries_known, insert_known)) refl refl

-- 6. step desk
abbrev call_2_forwarded : Call
call_2_forwarded = record call_2_received { place = Incoming (task 3); stamp = 6; label = phone 2 0; msg = msg 600 8 0 0 0 0 }

abbrev desk_4 : AnyProgram
desk_4 = after desk_3 got.Done

abbrev state_6 : RunState
state_6 =
    state (true ∷ true ∷ true ∷ []) ((Connected (task 2) ∷ replicate 63 Free) ∷ (Connected (task 3) ∷ replicate 63 Free) ∷ (replicate 64 Free) ∷ [])
    ((1, call_1_forwarded) ∷ (2, call_2_forwarded) ∷ []) 3 7 (no_areas 3) 6
    (client_2 ∷ desk_4 ∷ expert_0 ∷ []) None

abbrev step_6 : TaskStep
step_6 =
    asks 2 (ask.Forward 2 0 Route (Some (msg 600 8 0 0 0 0)))
    (entry.Forwarded (call 2) (task 2) (task 3) (phone 2 0) ∷ [])
    got.Done []

event_6 : Steps state_5 step_6 state_6
event_6 = of_step state_5 step_6 state_6 desk_3 refl refl (rw (get_known, insert_known)) refl refl

-- 7. step expert
abbrev call_1_received_2 : Call
call_1_received_2 = record call_1_forwarded { place = Dispatched (task 3); stamp = 7 }

abbrev expert_1 : AnyProgram
expert_1 = after expert_0 (got.Received (call 1) (msg 512 7 0 0 0 0) (phone 1 0))

abbrev state_7 : RunState
state_7 =
    state (true ∷ true ∷ true ∷ []) ((Connected (task 2) ∷ replicate 63 Free) ∷ (Connected (task 3) ∷ replicate 63 Free) ∷ (replicate 64 Free) ∷ [])
    ((1, call_1_received_2) ∷ (2, call_2_forwarded) ∷ []) 3 8 (no_areas 3) 7
    (client_2 ∷ desk_4 ∷ expert_1 ∷ []) None

abbrev step_7 : TaskStep
step_7 =
    asks 3 ask.Receive
    (entry.Received (call 1) (task 3) ∷ [])
    (got.Received (call 1) (msg 512 7 0 0 0 0) (phone 1 0)) []

event_7 : Steps state_6 step_7 state_7
event_7 = of_step state_6 step_7 state_7 expert_0 refl refl (rw (entries_known, entries_known, insert_known)) refl refl

-- 8. step expert
abbrev call_1_answered : Call
call_1_answered = record call_1_received_2 { reply = reply eok 1 0 0 0 0; place = Answers (task 1); stamp = 8 }

abbrev expert_2 : AnyProgram
expert_2 = after expert_1 got.Done

abbrev state_8 : RunState
state_8 =
    state (true ∷ true ∷ true ∷ []) ((Connected (task 2) ∷ replicate 63 Free) ∷ (Connected (task 3) ∷ replicate 63 Free) ∷ (replicate 64 Free) ∷ [])
    ((1, call_1_answered) ∷ (2, call_2_forwarded) ∷ []) 3 9 (no_areas 3) 8
    (client_2 ∷ desk_4 ∷ expert_2 ∷ []) None

abbrev step_8 : TaskStep
step_8 =
    asks 3 (ask.Answer 1 (reply eok 1 0 0 0 0))
    (entry.Answered (call 1) (reply eok 1 0 0 0 0) (Some (task 3)) ∷ [])
    got.Done []

event_8 : Steps state_7 step_8 state_8
event_8 = of_step state_7 step_8 state_8 expert_1 refl refl (rw (get_known, insert_known)) refl refl

-- 9. step expert
abbrev call_2_received_2 : Call
call_2_received_2 = record call_2_forwarded { place = Dispatched (task 3); stamp = 9 }

abbrev expert_3 : AnyProgram
expert_3 = after expert_2 (got.Received (call 2) (msg 600 8 0 0 0 0) (phone 2 0))

abbrev state_9 : RunState
state_9 =
    state (true ∷ true ∷ true ∷ []) ((Connected (task 2) ∷ replicate 63 Free) ∷ (Connected (task 3) ∷ replicate 63 Free) ∷ (replicate 64 Free) ∷ [])
    ((1, call_1_answered) ∷ (2, call_2_received_2) ∷ []) 3 10 (no_areas 3) 9
    (client_2 ∷ desk_4 ∷ expert_3 ∷ []) None

abbrev step_9 : TaskStep
step_9 =
    asks 3 ask.Receive
    (entry.Received (call 2) (task 3) ∷ [])
    (got.Received (call 2) (msg 600 8 0 0 0 0) (phone 2 0)) []

event_9 : Steps state_8 step_9 state_9
event_9 = of_step state_8 step_9 state_9 expert_2 refl refl (rw (entries_known, entries_known, insert_known)) refl refl

-- 10. step expert
abbrev call_2_answered : Call
call_2_answered = record call_2_received_2 { reply = reply eok 2 0 0 0 0; place = Answers (task 1); stamp = 10 }

abbrev expert_4 : AnyProgram
expert_4 = after expert_3 got.Done

abbrev state_10 : RunState
state_10 =
    state (true ∷ true ∷ true ∷ []) ((Connected (task 2) ∷ replicate 63 Free) ∷ (Connected (task 3) ∷ replicate 63 Free) ∷ (replicate 64 Free) ∷ [])
    ((1, call_1_answered) ∷ (2, call_2_answered) ∷ []) 3 11 (no_areas 3) 10
    (client_2 ∷ desk_4 ∷ expert_4 ∷ []) None

abbrev step_10 : TaskStep
step_10 =
    asks 3 (ask.Answer 2 (reply eok 2 0 0 0 0))
    (entry.Answered (call 2) (reply eok 2 0 0 0 0) (Some (task 3)) ∷ [])
    got.Done []

event_10 : Steps state_9 step_10 state_10
event_10 = of_step state_9 step_10 state_10 expert_3 refl refl (rw (get_known, insert_known)) refl refl

-- 11. step client
abbrev client_3 : AnyProgram
client_3 = after client_2 (got.Answered (call 1) (reply eok 1 0 0 0 0))

abbrev state_11 : RunState
state_11 =
    state (true ∷ true ∷ true ∷ []) ((Connected (task 2) ∷ replicate 63 Free) ∷ (Connected (task 3) ∷ replicate 63 Free) ∷ (replicate 64 Free) ∷ [])
    ((2, call_2_answered) ∷ []) 3 11 (no_areas 3) 11
    (client_3 ∷ desk_4 ∷ expert_4 ∷ []) None

abbrev step_11 : TaskStep
step_11 = asks 1 ask.Receive (entry.Delivered (call 1) (task 1) ∷ []) (got.Answered (call 1) (reply eok 1 0 0 0 0)) []

event_11 : Steps state_10 step_11 state_11
event_11 = of_step state_10 step_11 state_11 client_2 refl refl (rw (entries_known, entries_known, entries_known, remove_known)) refl refl

-- 12. step client
abbrev client_4 : AnyProgram
client_4 = after client_3 (got.Answered (call 2) (reply eok 2 0 0 0 0))

abbrev state_12 : RunState
state_12 =
    state (true ∷ true ∷ true ∷ []) ((Connected (task 2) ∷ replicate 63 Free) ∷ (Connected (task 3) ∷ replicate 63 Free) ∷ (replicate 64 Free) ∷ [])
    ([]) 3 11 (no_areas 3) 12
    (client_4 ∷ desk_4 ∷ expert_4 ∷ []) None

abbrev step_12 : TaskStep
step_12 = asks 1 ask.Receive (entry.Delivered (call 2) (task 1) ∷ []) (got.Answered (call 2) (reply eok 2 0 0 0 0)) []

event_12 : Steps state_11 step_12 state_12
event_12 = of_step state_11 step_12 state_12 client_3 refl refl (rw (entries_known, entries_known, entries_known, remove_known)) refl refl

abbrev schedule : List Event
schedule =
    Step (task 1) ∷ Step (task 1) ∷ Step (task 2) ∷ Step (task 2) ∷ Step (task 2) ∷ Step (task 2) ∷ Step (task 3)
    ∷ Step (task 3) ∷ Step (task 3) ∷ Step (task 3) ∷ Step (task 1) ∷ Step (task 1) ∷ []

-- the entries of the run
pub forwarding : run plan schedule
    ≡ told_of step_1 ++ told_of step_2 ++ told_of step_3 ++ told_of step_4 ++ told_of step_5 ++ told_of step_6
    ++ told_of step_7 ++ told_of step_8 ++ told_of step_9 ++ told_of step_10 ++ told_of step_11 ++ told_of step_12
    ++ []
forwarding = from_start plan schedule starts (
    of_next event_1 (of_next event_2 (of_next event_3 (of_next event_4 (of_next event_5 (of_next event_6 (
    of_next event_7 (of_next event_8 (of_next event_9 (of_next event_10 (of_next event_11 (
    of_next event_12 (of_none)))))))))))))
