-- Forwards that are refused, and calls whose caller has hung up.
--
--     task client raw
--     call 0 512
--     call 0 513
--     hangup 0
--     receive
--     receive
--     receive
--     task desk raw
--     receive
--     forward r2 0 plain
--     receive
--     forward r2 1 plain 511
--     receive
--     forward r2 1 plain
--     forward r2 1 plain
--     task expert raw
--     receive
--     wire client 0 desk
--     wire desk 1 expert
--
-- under the schedule step client x 3, step desk x 7, step client x 3, step expert.
use Rattle.std.proofs.Common.{◌≡◌, List, [], ◌∷◌, ◌++◌, true, Some, None, replicate, refl}
use Rattle.ipc_ids.specs.declared.message.Mode.TheVariants.{Plain}
use Rattle.ipc_ids.specs.declared.message.PhoneState.TheVariants.{Free, Connected, HungUp}
use Rattle.ipc_ids.specs.declared.message.Request.TheVariants as ask
use Rattle.ipc_ids.specs.declared.message.Outcome.TheVariants as got
use Rattle.ipc_ids.specs.declared.message.Event.{Event}
use Rattle.ipc_ids.specs.declared.message.Event.TheVariants.{Step}
use Rattle.ipc_ids.specs.declared.entry.Entry.TheVariants as entry
use Rattle.ipc_ids.specs.declared.op.Value.TheVariants.{Number, Register}
use Rattle.ipc_ids.specs.declared.op.Op.TheVariants as op
use Rattle.ipc_ids.specs.Codes.{enoent, eperm, eforward}
use Rattle.call_slab.specs.declared.call.Call.{Call}
use Rattle.call_slab.specs.declared.call.Place.TheVariants.{Incoming, Dispatched, Answers}
use Rattle.task_system.specs.declared.any.AnyProgram.{AnyProgram}
use Rattle.script_lines.specs.declared.plan.TaskPlan.{TaskPlan}
use Rattle.script_lines.specs.Plan.{Plan}
use Rattle.task_system.specs.Any.{after}
use Rattle.task_system.specs.Run.{run, start, program_of, RunState}
use Rattle.replay_examples.proofs.KnownMaps.{empty_known, get_known, entries_known, insert_known, remove_known}
use Rattle.replay_examples.proofs.RunWords.{task, call, phone, msg, reply, raw, wire, sent, no_areas, state, of_none, of_next, of_step, from_start, TaskStep, asks, told_of, Steps}

abbrev client_plan : TaskPlan
client_plan =
    raw 64
    (op.Call (Number 0) (Number 512) (Number 0 ∷ Number 0 ∷ Number 0 ∷ Number 0 ∷ Number 0 ∷ [])
    ∷ op.Call (Number 0) (Number 513) (Number 0 ∷ Number 0 ∷ Number 0 ∷ Number 0 ∷ Number 0 ∷ [])
    ∷ op.Hangup (Number 0)
    ∷ op.Receive
    ∷ op.Receive
    ∷ op.Receive
    ∷ [])

abbrev desk_plan : TaskPlan
desk_plan =
    raw 64
    (op.Receive
    ∷ op.Forward (Register 2) (Number 0) Plain
    ∷ op.Receive
    ∷ op.ForwardWith (Register 2) (Number 1) Plain (Number 511) (Number 0 ∷ Number 0 ∷ Number 0 ∷ Number 0 ∷ Number 0 ∷ [])
    ∷ op.Receive
    ∷ op.Forward (Register 2) (Number 1) Plain
    ∷ op.Forward (Register 2) (Number 1) Plain
    ∷ [])

abbrev expert_plan : TaskPlan
expert_plan =
    raw 64
    (op.Receive
    ∷ [])

abbrev plan : Plan
plan = record {
  tasks = client_plan ∷ desk_plan ∷ expert_plan ∷ [];
  wires = wire 1 0 2 ∷ wire 2 1 3 ∷ [];
  templates = [];
}

abbrev client_0 : AnyProgram
client_0 = program_of 1 (client_plan)

abbrev desk_0 : AnyProgram
desk_0 = program_of 2 (desk_plan)

abbrev expert_0 : AnyProgram
expert_0 = program_of 3 (expert_plan)

abbrev state_0 : RunState
state_0 =
    state (true ∷ true ∷ true ∷ []) ((Connected (task 2) ∷ replicate 63 Free) ∷ (Free ∷ Connected (task 3) ∷ replicate 62 Free) ∷ (replicate 64 Free) ∷ [])
    ([]) 1 1 (no_areas 3) 0
    (client_0 ∷ desk_0 ∷ expert_0 ∷ []) None

starts : start plan ≡ state_0
starts = rw (empty_known, empty_known)

-- 1. step client
abbrev call_1_sent : Call
call_1_sent = sent 1 (phone 1 0) (msg 512 0 0 0 0 0) (Incoming (task 2)) 1

abbrev client_1 : AnyProgram
client_1 = after client_0 (got.Accepted (call 1))

abbrev state_1 : RunState
state_1 =
    state (true ∷ true ∷ true ∷ []) ((Connected (task 2) ∷ replicate 63 Free) ∷ (Free ∷ Connected (task 3) ∷ replicate 62 Free) ∷ (replicate 64 Free) ∷ [])
    ((1, call_1_sent) ∷ []) 2 2 (no_areas 3) 1
    (client_1 ∷ desk_0 ∷ expert_0 ∷ []) None

abbrev step_1 : TaskStep
step_1 =
    asks 1 (ask.Call 0 (msg 512 0 0 0 0 0))
    (entry.Accepted (call 1) (phone 1 0) 512 (Some (task 2)) ∷ [])
    (got.Accepted (call 1)) []

event_1 : Steps state_0 step_1 state_1
event_1 = of_step state_0 step_1 state_1 client_0 refl refl (rw (entries_known, insert_known)) refl refl

-- 2. step client
abbrev call_2_sent : Call
call_2_sent = sent 2 (phone 1 0) (msg 513 0 0 0 0 0) (Incoming (task 2)) 2

abbrev client_2 : AnyProgram
client_2 = after client_1 (got.Accepted (call 2))

abbrev state_2 : RunState
state_2 =
    state (true ∷ true ∷ true ∷ []) ((Connected (task 2) ∷ replicate 63 Free) ∷ (Free ∷ Connected (task 3) ∷ replicate 62 Free) ∷ (replicate 64 Free) ∷ [])
    ((1, call_1_sent) ∷ (2, call_2_sent) ∷ []) 3 3 (no_areas 3) 2
    (client_2 ∷ desk_0 ∷ expert_0 ∷ []) None

abbrev step_2 : TaskStep
step_2 =
    asks 1 (ask.Call 0 (msg 513 0 0 0 0 0))
    (entry.Accepted (call 2) (phone 1 0) 513 (Some (task 2)) ∷ [])
    (got.Accepted (call 2)) []

event_2 : Steps state_1 step_2 state_2
event_2 = of_step state_1 step_2 state_2 client_1 refl refl (rw (entries_known, insert_known)) refl refl

-- 3. step client
abbrev call_3_sent : Call
call_3_sent = record (sent 3 (phone 1 0) (msg 0 0 0 0 0 0) (Incoming (task 2)) 3) { discard = true }

abbrev client_3 : AnyProgram
client_3 = after client_2 got.Done

abbrev state_3 : RunState
state_3 =
    state (true ∷ true ∷ true ∷ []) ((HungUp ∷ replicate 63 Free) ∷ (Free ∷ Connected (task 3) ∷ replicate 62 Free) ∷ (replicate 64 Free) ∷ [])
    ((1, call_1_sent) ∷ (2, call_2_sent) ∷ (3, call_3_sent) ∷ []) 4 4 (no_areas 3) 3
    (client_3 ∷ desk_0 ∷ expert_0 ∷ []) None

abbrev step_3 : TaskStep
step_3 =
    asks 1 (ask.Hangup 0)
    (entry.Accepted (call 3) (phone 1 0) 0 (Some (task 2)) ∷ entry.PhoneIs (phone 1 0) HungUp ∷ [])
    got.Done []

event_3 : Steps state_2 step_3 state_3
event_3 = of_step state_2 step_3 state_3 client_2 refl refl (rw insert_known) refl refl

-- 4. step desk
abbrev call_1_received : Call
call_1_received = record call_1_sent { place = Dispatched (task 2); stamp = 4 }

abbrev desk_1 : AnyProgram
desk_1 = after desk_0 (got.Received (call 1) (msg 512 0 0 0 0 0) (phone 1 0))

abbrev state_4 : RunState
state_4 =
    state (true ∷ true ∷ true ∷ []) ((HungUp ∷ replicate 63 Free) ∷ (Free ∷ Connected (task 3) ∷ replicate 62 Free) ∷ (replicate 64 Free) ∷ [])
    ((1, call_1_received) ∷ (2, call_2_sent) ∷ (3, call_3_sent) ∷ []) 4 5 (no_areas 3) 4
    (client_3 ∷ desk_1 ∷ expert_0 ∷ []) None

abbrev step_4 : TaskStep
step_4 =
    asks 2 ask.Receive
    (entry.Received (call 1) (task 2) ∷ [])
    (got.Received (call 1) (msg 512 0 0 0 0 0) (phone 1 0)) []

event_4 : Steps state_3 step_4 state_4
event_4 = of_step state_3 step_4 state_4 desk_0 refl refl (rw (entries_known, entries_known, insert_known)) refl refl

-- 5. step desk
abbrev call_1_answered : Call
call_1_answered = record call_1_received { reply = reply eforward 0 0 0 0 0; place = Answers (task 1); stamp = 5 }

abbrev desk_2 : AnyProgram
desk_2 = after desk_1 (got.Refused enoent)

abbrev state_5 : RunState
state_5 =
    state (true ∷ true ∷ true ∷ []) ((HungUp ∷ replicate 63 Free) ∷ (Free ∷ Connected (task 3) ∷ replicate 62 Free) ∷ (replicate 64 Free) ∷ [])
    ((1, call_1_answered) ∷ (2, call_2_sent) ∷ (3, call_3_sent) ∷ []) 4 6 (no_areas 3) 5
    (client_3 ∷ desk_2 ∷ expert_0 ∷ []) None

abbrev step_5 : TaskStep
step_5 =
    asks 2 (ask.Forward 1 0 Plain None)
    (entry.Answered (call 1) (reply eforward 0 0 0 0 0) None ∷ [])
    (got.Refused enoent) []

event_5 : Steps state_4 step_5 state_5
event_5 = of_step state_4 step_5 state_5 desk_1 refl refl (rw (get_known, insert_known)) refl refl

-- 6. step desk
abbrev call_2_received : Call
call_2_received = record call_2_sent { place = Dispatched (task 2); stamp = 6 }

abbrev desk_3 : AnyProgram
desk_3 = after desk_2 (got.Received (call 2) (msg 513 0 0 0 0 0) (phone 1 0))

abbrev state_6 : RunState
state_6 =
    state (true ∷ true ∷ true ∷ []) ((HungUp ∷ replicate 63 Free) ∷ (Free ∷ Connected (task 3) ∷ replicate 62 Free) ∷ (replicate 64 Free) ∷ [])
    ((1, call_1_answered) ∷ (2, call_2_received) ∷ (3, call_3_sent) ∷ []) 4 7 (no_areas 3) 6
    (client_3 ∷ desk_3 ∷ expert_0 ∷ []) None

abbrev step_6 : TaskStep
step_6 =
    asks 2 ask.Receive
    (entry.Received (call 2) (task 2) ∷ [])
    (got.Received (call 2) (msg 513 0 0 0 0 0) (phone 1 0)) []

event_6 : Steps state_5 step_6 state_6
event_6 = of_step state_5 step_6 state_6 desk_2 refl refl (rw (entries_known, entries_known, insert_known)) refl refl

-- 7. step desk
abbrev call_2_answered : Call
call_2_answered = record call_2_received { reply = reply eforward 0 0 0 0 0; place = Answers (task 1); stamp = 7 }

abbrev desk_4 : AnyProgram
desk_4 = after desk_3 (got.Refused eperm)

abbrev state_7 : RunState
state_7 =
    state (true ∷ true ∷ true ∷ []) ((HungUp ∷ replicate 63 Free) ∷ (Free ∷ Connected (task 3) ∷ replicate 62 Free) ∷ (replicate 64 Free) ∷ [])
    ((1, call_1_answered) ∷ (2, call_2_answered) ∷ (3, call_3_sent) ∷ []) 4 8 (no_areas 3) 7
    (client_3 ∷ desk_4 ∷ expert_0 ∷ []) None

abbrev step_7 : TaskStep
step_7 =
    asks 2 (ask.Forward 2 1 Plain (Some (msg 511 0 0 0 0 0)))
    (entry.Answered (call 2) (reply eforward 0 0 0 0 0) None ∷ [])
    (got.Refused eperm) []

event_7 : Steps state_6 step_7 state_7
event_7 = of_step state_6 step_7 state_7 desk_3 refl refl (rw (get_known, insert_known)) refl refl

-- 8. step desk
abbrev call_3_received : Call
call_3_received = record call_3_sent { place = Dispatched (task 2); stamp = 8 }

abbrev desk_5 : AnyProgram
desk_5 = after desk_4 (got.Received (call 3) (msg 0 0 0 0 0 0) (phone 1 0))

abbrev state_8 : RunState
state_8 =
    state (true ∷ true ∷ true ∷ []) ((HungUp ∷ replicate 63 Free) ∷ (Free ∷ Connected (task 3) ∷ replicate 62 Free) ∷ (replicate 64 Free) ∷ [])
    ((1, call_1_answered) ∷ (2, call_2_answered) ∷ (3, call_3_received) ∷ []) 4 9 (no_areas 3) 8
    (client_3 ∷ desk_5 ∷ expert_0 ∷ []) None

abbrev step_8 : TaskStep
step_8 =
    asks 2 ask.Receive
    (entry.Received (call 3) (task 2) ∷ [])
    (got.Received (call 3) (msg 0 0 0 0 0 0) (phone 1 0)) []

event_8 : Steps state_7 step_8 state_8
event_8 = of_step state_7 step_8 state_8 desk_4 refl refl (rw (entries_known, entries_known, insert_known)) refl refl

-- 9. step desk
abbrev call_3_answered : Call
call_3_answered = record call_3_received { reply = reply eforward 0 0 0 0 0; place = Answers (task 1); stamp = 9 }

abbrev desk_6 : AnyProgram
desk_6 = after desk_5 (got.Refused eperm)

abbrev state_9 : RunState
state_9 =
    state (true ∷ true ∷ true ∷ []) ((HungUp ∷ replicate 63 Free) ∷ (Free ∷ Connected (task 3) ∷ replicate 62 Free) ∷ (replicate 64 Free) ∷ [])
    ((1, call_1_answered) ∷ (2, call_2_answered) ∷ (3, call_3_answered) ∷ []) 4 10 (no_areas 3) 9
    (client_3 ∷ desk_6 ∷ expert_0 ∷ []) None

abbrev step_9 : TaskStep
step_9 =
    asks 2 (ask.Forward 3 1 Plain None)
    (entry.Answered (call 3) (reply eforward 0 0 0 0 0) None ∷ [])
    (got.Refused eperm) []

event_9 : Steps state_8 step_9 state_9
event_9 = of_step state_8 step_9 state_9 desk_5 refl refl (rw (get_known, insert_known)) refl refl

-- 10. step desk
abbrev desk_7 : AnyProgram
desk_7 = after desk_6 (got.Refused enoent)

abbrev state_10 : RunState
state_10 =
    state (true ∷ true ∷ true ∷ []) ((HungUp ∷ replicate 63 Free) ∷ (Free ∷ Connected (task 3) ∷ replicate 62 Free) ∷ (replicate 64 Free) ∷ [])
    ((1, call_1_answered) ∷ (2, call_2_answered) ∷ (3, call_3_answered) ∷ []) 4 10 (no_areas 3) 10
    (client_3 ∷ desk_7 ∷ expert_0 ∷ []) None

abbrev step_10 : TaskStep
step_10 = asks 2 (ask.Forward 3 1 Plain None) [] (got.Refused enoent) []

event_10 : Steps state_9 step_10 state_10
event_10 = of_step state_9 step_10 state_10 desk_6 refl refl (rw get_known) refl refl

-- 11. step client
abbrev client_4 : AnyProgram
client_4 = after client_3 (got.Answered (call 1) (reply eforward 0 0 0 0 0))

abbrev state_11 : RunState
state_11 =
    state (true ∷ true ∷ true ∷ []) ((HungUp ∷ replicate 63 Free) ∷ (Free ∷ Connected (task 3) ∷ replicate 62 Free) ∷ (replicate 64 Free) ∷ [])
    ((2, call_2_answered) ∷ (3, call_3_answered) ∷ []) 4 10 (no_areas 3) 11
    (client_4 ∷ desk_7 ∷ expert_0 ∷ []) None

abbrev step_11 : TaskStep
step_11 =
    asks 1 ask.Receive
    (entry.Delivered (call 1) (task 1) ∷ [])
    (got.Answered (call 1) (reply eforward 0 0 0 0 0)) []

event_11 : Steps state_10 step_11 state_11
event_11 = of_step state_10 step_11 state_11 client_3 refl refl (rw (entries_known, entries_known, entries_known, remove_known)) refl refl

-- 12. step client
abbrev client_5 : AnyProgram
client_5 = after client_4 (got.Answered (call 2) (reply eforward 0 0 0 0 0))

abbrev state_12 : RunState
state_12 =
    state (true ∷ true ∷ true ∷ []) ((HungUp ∷ replicate 63 Free) ∷ (Free ∷ Connected (task 3) ∷ replicate 62 Free) ∷ (replicate 64 Free) ∷ [])
    ((3, call_3_answered) ∷ []) 4 10 (no_areas 3) 12
    (client_5 ∷ desk_7 ∷ expert_0 ∷ []) None

abbrev step_12 : TaskStep
step_12 =
    asks 1 ask.Receive
    (entry.Delivered (call 2) (task 1) ∷ [])
    (got.Answered (call 2) (reply eforward 0 0 0 0 0)) []

event_12 : Steps state_11 step_12 state_12
event_12 = of_step state_11 step_12 state_12 client_4 refl refl (rw (entries_known, entries_known, entries_known, remove_known)) refl refl

-- 13. step client
abbrev client_6 : AnyProgram
client_6 = after client_5 got.Empty

abbrev state_13 : RunState
state_13 =
    state (true ∷ true ∷ true ∷ []) ((HungUp ∷ replicate 63 Free) ∷ (Free ∷ Connected (task 3) ∷ replicate 62 Free) ∷ (replicate 64 Free) ∷ [])
    ([]) 4 10 (no_areas 3) 13
    (client_6 ∷ desk_7 ∷ expert_0 ∷ []) None

abbrev step_13 : TaskStep
step_13 = asks 1 ask.Receive (entry.Dropped (call 3) (task 1) ∷ []) got.Empty []

event_13 : Steps state_12 step_13 state_13
event_13 = of_step state_12 step_13 state_13 client_5 refl refl (rw (entries_known, entries_known, remove_known, entries_known)) refl refl

-- 14. step expert
abbrev expert_1 : AnyProgram
expert_1 = after expert_0 got.Empty

abbrev state_14 : RunState
state_14 =
    state (true ∷ true ∷ true ∷ []) ((HungUp ∷ replicate 63 Free) ∷ (Free ∷ Connected (task 3) ∷ replicate 62 Free) ∷ (replicate 64 Free) ∷ [])
    ([]) 4 10 (no_areas 3) 14
    (client_6 ∷ desk_7 ∷ expert_1 ∷ []) None

abbrev step_14 : TaskStep
step_14 = asks 3 ask.Receive [] got.Empty []

event_14 : Steps state_13 step_14 state_14
event_14 = of_step state_13 step_14 state_14 expert_0 refl refl (rw (entries_known, entries_known)) refl refl

abbrev schedule : List Event
schedule =
    Step (task 1) ∷ Step (task 1) ∷ Step (task 1) ∷ Step (task 2) ∷ Step (task 2) ∷ Step (task 2) ∷ Step (task 2)
    ∷ Step (task 2) ∷ Step (task 2) ∷ Step (task 2) ∷ Step (task 1) ∷ Step (task 1) ∷ Step (task 1) ∷ Step (task 3)
    ∷ []

-- the entries of the run
pub refused_forward : run plan schedule
    ≡ told_of step_1 ++ told_of step_2 ++ told_of step_3 ++ told_of step_4 ++ told_of step_5 ++ told_of step_6
    ++ told_of step_7 ++ told_of step_8 ++ told_of step_9 ++ told_of step_10 ++ told_of step_11 ++ told_of step_12
    ++ told_of step_13 ++ told_of step_14 ++ []
refused_forward = from_start plan schedule starts (
    of_next event_1 (of_next event_2 (of_next event_3 (of_next event_4 (of_next event_5 (of_next event_6 (
    of_next event_7 (of_next event_8 (of_next event_9 (of_next event_10 (of_next event_11 (
    of_next event_12 (of_next event_13 (of_next event_14 (of_none)))))))))))))))
