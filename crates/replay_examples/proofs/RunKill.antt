-- A task is killed that holds a call, for which calls wait, and for which an answer waits; and one that waits.
--
--     task client raw 2
--     call 0 512
--     receive
--     answer r2 EOK
--     receive
--     receive
--     answer r2 EOK
--     call 0 516
--     receive
--     task server raw 2
--     receive
--     call 0 513
--     task second raw 2
--     call 0 514
--     receive
--     task third raw 2
--     call 0 515
--     wire client 0 server
--     wire server 0 client
--     wire second 0 server
--     wire third 0 server
--
-- under the schedule step client, step server x 2, step client x 2, step second, step third, kill third, kill server,
-- step server, step second, step client x 5.
use Rattle.std.proofs.Common.{◌≡◌, List, [], ◌∷◌, ◌++◌, true, false, Some, None, replicate, refl}
use Rattle.ipc_ids.specs.declared.message.PhoneState.TheVariants.{Free, Connected, HungUp, Slammed}
use Rattle.ipc_ids.specs.declared.message.Request.TheVariants as ask
use Rattle.ipc_ids.specs.declared.message.Outcome.TheVariants as got
use Rattle.ipc_ids.specs.declared.message.Event.{Event}
use Rattle.ipc_ids.specs.declared.message.Event.TheVariants.{Step, Kill}
use Rattle.ipc_ids.specs.declared.entry.Entry.{Entry}
use Rattle.ipc_ids.specs.declared.entry.Entry.TheVariants as entry
use Rattle.ipc_ids.specs.declared.op.Value.TheVariants.{Number, Register}
use Rattle.ipc_ids.specs.declared.op.Op.TheVariants as op
use Rattle.ipc_ids.specs.Codes.{eok, enoent, ehangup}
use Rattle.call_slab.specs.declared.call.Call.{Call}
use Rattle.call_slab.specs.declared.call.Place.TheVariants.{Incoming, Dispatched, Answers}
use Rattle.task_system.specs.declared.any.AnyProgram.{AnyProgram}
use Rattle.script_lines.specs.declared.plan.TaskPlan.{TaskPlan}
use Rattle.script_lines.specs.Plan.{Plan}
use Rattle.task_system.specs.Any.{after}
use Rattle.task_system.specs.Run.{run, start, program_of, RunState}
use Rattle.replay_examples.proofs.KnownMaps.{empty_known, get_known, entries_known, insert_known, remove_known}
use Rattle.replay_examples.proofs.RunWords.{task, call, phone, msg, reply, raw, wire, sent, no_areas, state, Turns, of_none, of_next, of_step, of_kill, of_parts, kernel, from_start, TaskStep, asks, told_of, Steps}
use Rattle.cleanup.specs.Kill.{hang_up_own_phones, slam_phones_to, settle_incoming, settle_dispatched, drop_answers, forget_calls_elsewhere, drop_areas}
use Rattle.switchboard.specs.State.{mark_ended, Transition}
use Rattle.kernel_core.specs.Kernel.{kill_event}

abbrev client_plan : TaskPlan
client_plan =
    raw 2
    (op.Call (Number 0) (Number 512) (Number 0 ∷ Number 0 ∷ Number 0 ∷ Number 0 ∷ Number 0 ∷ [])
    ∷ op.Receive
    ∷ op.Answer (Register 2) (Number 0) (Number 0 ∷ Number 0 ∷ Number 0 ∷ Number 0 ∷ Number 0 ∷ [])
    ∷ op.Receive
    ∷ op.Receive
    ∷ op.Answer (Register 2) (Number 0) (Number 0 ∷ Number 0 ∷ Number 0 ∷ Number 0 ∷ Number 0 ∷ [])
    ∷ op.Call (Number 0) (Number 516) (Number 0 ∷ Number 0 ∷ Number 0 ∷ Number 0 ∷ Number 0 ∷ [])
    ∷ op.Receive
    ∷ [])

abbrev server_plan : TaskPlan
server_plan =
    raw 2
    (op.Receive
    ∷ op.Call (Number 0) (Number 513) (Number 0 ∷ Number 0 ∷ Number 0 ∷ Number 0 ∷ Number 0 ∷ [])
    ∷ [])

abbrev second_plan : TaskPlan
second_plan =
    raw 2
    (op.Call (Number 0) (Number 514) (Number 0 ∷ Number 0 ∷ Number 0 ∷ Number 0 ∷ Number 0 ∷ [])
    ∷ op.Receive
    ∷ [])

abbrev third_plan : TaskPlan
third_plan =
    raw 2
    (op.Call (Number 0) (Number 515) (Number 0 ∷ Number 0 ∷ Number 0 ∷ Number 0 ∷ Number 0 ∷ [])
    ∷ [])

abbrev plan : Plan
plan = record {
  tasks = client_plan ∷ server_plan ∷ second_plan ∷ third_plan ∷ [];
  wires = wire 1 0 2 ∷ wire 2 0 1 ∷ wire 3 0 2 ∷ wire 4 0 2 ∷ [];
  templates = [];
}

abbrev client_0 : AnyProgram
client_0 = program_of 1 (client_plan)

abbrev server_0 : AnyProgram
server_0 = program_of 2 (server_plan)

abbrev second_0 : AnyProgram
second_0 = program_of 3 (second_plan)

abbrev third_0 : AnyProgram
third_0 = program_of 4 (third_plan)

abbrev state_0 : RunState
state_0 =
    state (true ∷ true ∷ true ∷ true ∷ []) ((Connected (task 2) ∷ replicate 1 Free) ∷ (Connected (task 1) ∷ replicate 1 Free) ∷ (Connected (task 2) ∷ replicate 1 Free) ∷ (Connected (task 2) ∷ replicate 1 Free) ∷ [])
    ([]) 1 1 (no_areas 4) 0
    (client_0 ∷ server_0 ∷ second_0 ∷ third_0 ∷ []) None

starts : start plan ≡ state_0
starts = rw (empty_known, empty_known)

-- 1. step client
abbrev call_1_sent : Call
call_1_sent = sent 1 (phone 1 0) (msg 512 0 0 0 0 0) (Incoming (task 2)) 1

abbrev client_1 : AnyProgram
client_1 = after client_0 (got.Accepted (call 1))

abbrev state_1 : RunState
state_1 =
    state (true ∷ true ∷ true ∷ true ∷ []) ((Connected (task 2) ∷ replicate 1 Free) ∷ (Connected (task 1) ∷ replicate 1 Free) ∷ (Connected (task 2) ∷ replicate 1 Free) ∷ (Connected (task 2) ∷ replicate 1 Free) ∷ [])
    ((1, call_1_sent) ∷ []) 2 2 (no_areas 4) 1
    (client_1 ∷ server_0 ∷ second_0 ∷ third_0 ∷ []) None

abbrev step_1 : TaskStep
step_1 =
    asks 1 (ask.Call 0 (msg 512 0 0 0 0 0))
    (entry.Accepted (call 1) (phone 1 0) 512 (Some (task 2)) ∷ [])
    (got.Accepted (call 1)) []

event_1 : Steps state_0 step_1 state_1
event_1 = of_step state_0 step_1 state_1 client_0 refl refl (rw (entries_known, insert_known)) refl refl

-- 2. step server
abbrev call_1_received : Call
call_1_received = record call_1_sent { place = Dispatched (task 2); stamp = 2 }

abbrev server_1 : AnyProgram
server_1 = after server_0 (got.Received (call 1) (msg 512 0 0 0 0 0) (phone 1 0))

abbrev state_2 : RunState
state_2 =
    state (true ∷ true ∷ true ∷ true ∷ []) ((Connected (task 2) ∷ replicate 1 Free) ∷ (Connected (task 1) ∷ replicate 1 Free) ∷ (Connected (task 2) ∷ replicate 1 Free) ∷ (Connected (task 2) ∷ replicate 1 Free) ∷ [])
    ((1, call_1_received) ∷ []) 2 3 (no_areas 4) 2
    (client_1 ∷ server_1 ∷ second_0 ∷ third_0 ∷ []) None

abbrev step_2 : TaskStep
step_2 =
    asks 2 ask.Receive
    (entry.Received (call 1) (task 2) ∷ [])
    (got.Received (call 1) (msg 512 0 0 0 0 0) (phone 1 0)) []

event_2 : Steps state_1 step_2 state_2
event_2 = of_step state_1 step_2 state_2 server_0 refl refl (rw (entries_known, entries_known, insert_known)) refl refl

-- 3. step server
abbrev call_2_sent : Call
call_2_sent = sent 2 (phone 2 0) (msg 513 0 0 0 0 0) (Incoming (task 1)) 3

abbrev server_2 : AnyProgram
server_2 = after server_1 (got.Accepted (call 2))

abbrev state_3 : RunState
state_3 =
    state (true ∷ true ∷ true ∷ true ∷ []) ((Connected (task 2) ∷ replicate 1 Free) ∷ (Connected (task 1) ∷ replicate 1 Free) ∷ (Connected (task 2) ∷ replicate 1 Free) ∷ (Connected (task 2) ∷ replicate 1 Free) ∷ [])
    ((1, call_1_received) ∷ (2, call_2_sent) ∷ []) 3 4 (no_areas 4) 3
    (client_1 ∷ server_2 ∷ second_0 ∷ third_0 ∷ []) None

abbrev step_3 : TaskStep
step_3 =
    asks 2 (ask.Call 0 (msg 513 0 0 0 0 0))
    (entry.Accepted (call 2) (phone 2 0) 513 (Some (task 1)) ∷ [])
    (got.Accepted (call 2)) []

event_3 : Steps state_2 step_3 state_3
event_3 = of_step state_2 step_3 state_3 server_1 refl refl (rw (entries_known, insert_known)) refl refl

-- 4. step client
abbrev call_2_received : Call
call_2_received = record call_2_sent { place = Dispatched (task 1); stamp = 4 }

abbrev client_2 : AnyProgram
client_2 = after client_1 (got.Received (call 2) (msg 513 0 0 0 0 0) (phone 2 0))

abbrev state_4 : RunState
state_4 =
    state (true ∷ true ∷ true ∷ true ∷ []) ((Connected (task 2) ∷ replicate 1 Free) ∷ (Connected (task 1) ∷ replicate 1 Free) ∷ (Connected (task 2) ∷ replicate 1 Free) ∷ (Connected (task 2) ∷ replicate 1 Free) ∷ [])
    ((1, call_1_received) ∷ (2, call_2_received) ∷ []) 3 5 (no_areas 4) 4
    (client_2 ∷ server_2 ∷ second_0 ∷ third_0 ∷ []) None

abbrev step_4 : TaskStep
step_4 =
    asks 1 ask.Receive
    (entry.Received (call 2) (task 1) ∷ [])
    (got.Received (call 2) (msg 513 0 0 0 0 0) (phone 2 0)) []

event_4 : Steps state_3 step_4 state_4
event_4 = of_step state_3 step_4 state_4 client_1 refl refl (rw (entries_known, entries_known, insert_known)) refl refl

-- 5. step client
abbrev call_2_answered : Call
call_2_answered = record call_2_received { reply = reply eok 0 0 0 0 0; place = Answers (task 2); stamp = 5 }

abbrev client_3 : AnyProgram
client_3 = after client_2 got.Done

abbrev state_5 : RunState
state_5 =
    state (true ∷ true ∷ true ∷ true ∷ []) ((Connected (task 2) ∷ replicate 1 Free) ∷ (Connected (task 1) ∷ replicate 1 Free) ∷ (Connected (task 2) ∷ replicate 1 Free) ∷ (Connected (task 2) ∷ replicate 1 Free) ∷ [])
    ((1, call_1_received) ∷ (2, call_2_answered) ∷ []) 3 6 (no_areas 4) 5
    (client_3 ∷ server_2 ∷ second_0 ∷ third_0 ∷ []) None

abbrev step_5 : TaskStep
step_5 =
    asks 1 (ask.Answer 2 (reply eok 0 0 0 0 0))
    (entry.Answered (call 2) (reply eok 0 0 0 0 0) (Some (task 1)) ∷ [])
    got.Done []

event_5 : Steps state_4 step_5 state_5
event_5 = of_step state_4 step_5 state_5 client_2 refl refl (rw (get_known, insert_known)) refl refl

-- 6. step second
abbrev call_3_sent : Call
call_3_sent = sent 3 (phone 3 0) (msg 514 0 0 0 0 0) (Incoming (task 2)) 6

abbrev second_1 : AnyProgram
second_1 = after second_0 (got.Accepted (call 3))

abbrev state_6 : RunState
state_6 =
    state (true ∷ true ∷ true ∷ true ∷ []) ((Connected (task 2) ∷ replicate 1 Free) ∷ (Connected (task 1) ∷ replicate 1 Free) ∷ (Connected (task 2) ∷ replicate 1 Free) ∷ (Connected (task 2) ∷ replicate 1 Free) ∷ [])
    ((1, call_1_received) ∷ (2, call_2_answered) ∷ (3, call_3_sent) ∷ []) 4 7 (no_areas 4) 6
    (client_3 ∷ server_2 ∷ second_1 ∷ third_0 ∷ []) None

abbrev step_6 : TaskStep
step_6 =
    asks 3 (ask.Call 0 (msg 514 0 0 0 0 0))
    (entry.Accepted (call 3) (phone 3 0) 514 (Some (task 2)) ∷ [])
    (got.Accepted (call 3)) []

event_6 : Steps state_5 step_6 state_6
event_6 = of_step state_5 step_6 state_6 second_0 refl refl (rw (entries_known, insert_known)) refl refl

-- 7. step third
abbrev call_4_sent : Call
call_4_sent = sent 4 (phone 4 0) (msg 515 0 0 0 0 0) (Incoming (task 2)) 7

abbrev third_1 : AnyProgram
third_1 = after third_0 (got.Accepted (call 4))

abbrev state_7 : RunState
state_7 =
    state (true ∷ true ∷ true ∷ true ∷ []) ((Connected (task 2) ∷ replicate 1 Free) ∷ (Connected (task 1) ∷ replicate 1 Free) ∷ (Connected (task 2) ∷ replicate 1 Free) ∷ (Connected (task 2) ∷ replicate 1 Free) ∷ [])
    ((1, call_1_received) ∷ (2, call_2_answered) ∷ (3, call_3_sent) ∷ (4, call_4_sent) ∷ []) 5 8 (no_areas 4) 7
    (client_3 ∷ server_2 ∷ second_1 ∷ third_1 ∷ []) None

abbrev step_7 : TaskStep
step_7 =
    asks 4 (ask.Call 0 (msg 515 0 0 0 0 0))
    (entry.Accepted (call 4) (phone 4 0) 515 (Some (task 2)) ∷ [])
    (got.Accepted (call 4)) []

event_7 : Steps state_6 step_7 state_7
event_7 = of_step state_6 step_7 state_7 third_0 refl refl (rw (entries_known, insert_known)) refl refl

-- 8. kill third
abbrev call_5_sent : Call
call_5_sent = record (sent 5 (phone 4 0) (msg 0 0 0 0 0 0) (Incoming (task 2)) 8) { discard = true }

abbrev call_4_forgotten : Call
call_4_forgotten = record call_4_sent { caller = None }

abbrev call_5_forgotten : Call
call_5_forgotten = record call_5_sent { caller = None }

abbrev state_8 : RunState
state_8 =
    state (true ∷ true ∷ true ∷ false ∷ []) ((Connected (task 2) ∷ replicate 1 Free) ∷ (Connected (task 1) ∷ replicate 1 Free) ∷ (Connected (task 2) ∷ replicate 1 Free) ∷ (HungUp ∷ replicate 1 Free) ∷ [])
    ((1, call_1_received) ∷ (2, call_2_answered) ∷ (3, call_3_sent) ∷ (4, call_4_forgotten) ∷ (5, call_5_forgotten) ∷ []) 6 9 (no_areas 4) 8
    (client_3 ∷ server_2 ∷ second_1 ∷ third_1 ∷ []) None

abbrev done_8 : Transition
done_8 = record {
  state = state_8.kernel;
  entries =
      entry.Accepted (call 5) (phone 4 0) 0 (Some (task 2))
      ∷ entry.PhoneIs (phone 4 0) HungUp
      ∷ entry.Forgotten (call 4)
      ∷ entry.Forgotten (call 5)
      ∷ [];
}

abbrev told_8 : List Entry
told_8 = entry.Kill (task 4) ∷ done_8.entries

abbrev part_8_1 : Transition
part_8_1 = record {
  state = kernel (true ∷ true ∷ true ∷ false ∷ []) ((Connected (task 2) ∷ replicate 1 Free) ∷ (Connected (task 1) ∷ replicate 1 Free) ∷ (Connected (task 2) ∷ replicate 1 Free) ∷ (HungUp ∷ replicate 1 Free) ∷ []) ((1, call_1_received) ∷ (2, call_2_answered) ∷ (3, call_3_sent) ∷ (4, call_4_sent) ∷ (5, call_5_sent) ∷ []) 6 9 (no_areas 4) 7;
  entries = entry.Accepted (call 5) (phone 4 0) 0 (Some (task 2)) ∷ entry.PhoneIs (phone 4 0) HungUp ∷ [];
}

to_part_8_1 : hang_up_own_phones (task 4) (mark_ended state_7.kernel (task 4)) ≡ part_8_1
to_part_8_1 = rw insert_known

abbrev part_8_2 : Transition
part_8_2 = record part_8_1 { entries = [] }

to_part_8_2 : slam_phones_to (task 4) part_8_1.state ≡ part_8_2
to_part_8_2 = refl

abbrev part_8_3 : Transition
part_8_3 = record part_8_2 { entries = [] }

to_part_8_3 : settle_incoming (task 4) part_8_2.state ≡ part_8_3
to_part_8_3 = rw entries_known

abbrev part_8_4 : Transition
part_8_4 = record part_8_3 { entries = [] }

to_part_8_4 : settle_dispatched (task 4) part_8_3.state ≡ part_8_4
to_part_8_4 = rw entries_known

abbrev part_8_5 : Transition
part_8_5 = record part_8_4 { entries = [] }

to_part_8_5 : drop_answers (task 4) part_8_4.state ≡ part_8_5
to_part_8_5 = rw entries_known

abbrev part_8_6 : Transition
part_8_6 = record {
  state = kernel (true ∷ true ∷ true ∷ false ∷ []) ((Connected (task 2) ∷ replicate 1 Free) ∷ (Connected (task 1) ∷ replicate 1 Free) ∷ (Connected (task 2) ∷ replicate 1 Free) ∷ (HungUp ∷ replicate 1 Free) ∷ []) ((1, call_1_received) ∷ (2, call_2_answered) ∷ (3, call_3_sent) ∷ (4, call_4_forgotten) ∷ (5, call_5_forgotten) ∷ []) 6 9 (no_areas 4) 7;
  entries = entry.Forgotten (call 4) ∷ entry.Forgotten (call 5) ∷ [];
}

to_part_8_6 : forget_calls_elsewhere (task 4) part_8_5.state ≡ part_8_6
to_part_8_6 = rw (entries_known, entries_known, get_known, insert_known, entries_known, get_known) (rw insert_known)

abbrev part_8_7 : Transition
part_8_7 = record part_8_6 { entries = [] }

to_part_8_7 : drop_areas (task 4) part_8_6.state ≡ part_8_7
to_part_8_7 = refl

kills_8 : kill_event state_7.kernel (task 4) ≡ done_8
kills_8 = of_parts state_7.kernel (task 4) part_8_1 part_8_2 part_8_3 part_8_4 part_8_5 part_8_6 part_8_7 to_part_8_1 to_part_8_2 to_part_8_3 to_part_8_4 to_part_8_5 to_part_8_6 to_part_8_7

event_8 : Turns state_7 (Kill (task 4)) state_8 told_8
event_8 = of_kill state_7 (task 4) done_8 refl kills_8

-- 9. kill server
abbrev call_6_sent : Call
call_6_sent = record (sent 6 (phone 2 0) (msg 0 0 0 0 0 0) (Incoming (task 1)) 9) { discard = true }

abbrev call_3_answered : Call
call_3_answered = record call_3_sent { reply = reply ehangup 0 0 0 0 0; place = Answers (task 3); stamp = 10 }

abbrev call_1_answered : Call
call_1_answered = record call_1_received { reply = reply ehangup 0 0 0 0 0; place = Answers (task 1); stamp = 11 }

abbrev call_6_forgotten : Call
call_6_forgotten = record call_6_sent { caller = None }

abbrev state_9 : RunState
state_9 =
    state (true ∷ false ∷ true ∷ false ∷ []) ((Slammed ∷ replicate 1 Free) ∷ (HungUp ∷ replicate 1 Free) ∷ (Slammed ∷ replicate 1 Free) ∷ (HungUp ∷ replicate 1 Free) ∷ [])
    ((1, call_1_answered) ∷ (3, call_3_answered) ∷ (6, call_6_forgotten) ∷ []) 7 12 (no_areas 4) 9
    (client_3 ∷ server_2 ∷ second_1 ∷ third_1 ∷ []) None

abbrev done_9 : Transition
done_9 = record {
  state = state_9.kernel;
  entries =
      entry.Accepted (call 6) (phone 2 0) 0 (Some (task 1))
      ∷ entry.PhoneIs (phone 2 0) HungUp
      ∷ entry.PhoneIs (phone 1 0) Slammed
      ∷ entry.PhoneIs (phone 3 0) Slammed
      ∷ entry.Answered (call 3) (reply ehangup 0 0 0 0 0) None
      ∷ entry.Vanished (call 4)
      ∷ entry.Vanished (call 5)
      ∷ entry.Answered (call 1) (reply ehangup 0 0 0 0 0) None
      ∷ entry.Dropped (call 2) (task 2)
      ∷ entry.Forgotten (call 6)
      ∷ [];
}

abbrev told_9 : List Entry
told_9 = entry.Kill (task 2) ∷ done_9.entries

abbrev part_9_1 : Transition
part_9_1 = record {
  state = kernel (true ∷ false ∷ true ∷ false ∷ []) ((Connected (task 2) ∷ replicate 1 Free) ∷ (HungUp ∷ replicate 1 Free) ∷ (Connected (task 2) ∷ replicate 1 Free) ∷ (HungUp ∷ replicate 1 Free) ∷ []) ((1, call_1_received) ∷ (2, call_2_answered) ∷ (3, call_3_sent) ∷ (4, call_4_forgotten) ∷ (5, call_5_forgotten) ∷ (6, call_6_sent) ∷ []) 7 10 (no_areas 4) 8;
  entries = entry.Accepted (call 6) (phone 2 0) 0 (Some (task 1)) ∷ entry.PhoneIs (phone 2 0) HungUp ∷ [];
}

to_part_9_1 : hang_up_own_phones (task 2) (mark_ended state_8.kernel (task 2)) ≡ part_9_1
to_part_9_1 = rw insert_known

abbrev part_9_2 : Transition
part_9_2 = record {
  state = kernel (true ∷ false ∷ true ∷ false ∷ []) ((Slammed ∷ replicate 1 Free) ∷ (HungUp ∷ replicate 1 Free) ∷ (Slammed ∷ replicate 1 Free) ∷ (HungUp ∷ replicate 1 Free) ∷ []) ((1, call_1_received) ∷ (2, call_2_answered) ∷ (3, call_3_sent) ∷ (4, call_4_forgotten) ∷ (5, call_5_forgotten) ∷ (6, call_6_sent) ∷ []) 7 10 (no_areas 4) 8;
  entries = entry.PhoneIs (phone 1 0) Slammed ∷ entry.PhoneIs (phone 3 0) Slammed ∷ [];
}

to_part_9_2 : slam_phones_to (task 2) part_9_1.state ≡ part_9_2
to_part_9_2 = refl

abbrev part_9_3 : Transition
part_9_3 = record {
  state = kernel (true ∷ false ∷ true ∷ false ∷ []) ((Slammed ∷ replicate 1 Free) ∷ (HungUp ∷ replicate 1 Free) ∷ (Slammed ∷ replicate 1 Free) ∷ (HungUp ∷ replicate 1 Free) ∷ []) ((1, call_1_received) ∷ (2, call_2_answered) ∷ (3, call_3_answered) ∷ (6, call_6_sent) ∷ []) 7 11 (no_areas 4) 8;
  entries = entry.Answered (call 3) (reply ehangup 0 0 0 0 0) None ∷ entry.Vanished (call 4) ∷ entry.Vanished (call 5) ∷ [];
}

to_part_9_3 : settle_incoming (task 2) part_9_2.state ≡ part_9_3
to_part_9_3 = rw (entries_known, entries_known, insert_known, entries_known, remove_known, entries_known) (rw remove_known)

abbrev part_9_4 : Transition
part_9_4 = record {
  state = kernel (true ∷ false ∷ true ∷ false ∷ []) ((Slammed ∷ replicate 1 Free) ∷ (HungUp ∷ replicate 1 Free) ∷ (Slammed ∷ replicate 1 Free) ∷ (HungUp ∷ replicate 1 Free) ∷ []) ((1, call_1_answered) ∷ (2, call_2_answered) ∷ (3, call_3_answered) ∷ (6, call_6_sent) ∷ []) 7 12 (no_areas 4) 8;
  entries = entry.Answered (call 1) (reply ehangup 0 0 0 0 0) None ∷ [];
}

to_part_9_4 : settle_dispatched (task 2) part_9_3.state ≡ part_9_4
to_part_9_4 = rw (entries_known, entries_known, insert_known)

abbrev part_9_5 : Transition
part_9_5 = record {
  state = kernel (true ∷ false ∷ true ∷ false ∷ []) ((Slammed ∷ replicate 1 Free) ∷ (HungUp ∷ replicate 1 Free) ∷ (Slammed ∷ replicate 1 Free) ∷ (HungUp ∷ replicate 1 Free) ∷ []) ((1, call_1_answered) ∷ (3, call_3_answered) ∷ (6, call_6_sent) ∷ []) 7 12 (no_areas 4) 8;
  entries = entry.Dropped (call 2) (task 2) ∷ [];
}

to_part_9_5 : drop_answers (task 2) part_9_4.state ≡ part_9_5
to_part_9_5 = rw (entries_known, entries_known, remove_known)

abbrev part_9_6 : Transition
part_9_6 = record {
  state = kernel (true ∷ false ∷ true ∷ false ∷ []) ((Slammed ∷ replicate 1 Free) ∷ (HungUp ∷ replicate 1 Free) ∷ (Slammed ∷ replicate 1 Free) ∷ (HungUp ∷ replicate 1 Free) ∷ []) ((1, call_1_answered) ∷ (3, call_3_answered) ∷ (6, call_6_forgotten) ∷ []) 7 12 (no_areas 4) 8;
  entries = entry.Forgotten (call 6) ∷ [];
}

to_part_9_6 : forget_calls_elsewhere (task 2) part_9_5.state ≡ part_9_6
to_part_9_6 = rw (entries_known, entries_known, get_known, insert_known)

abbrev part_9_7 : Transition
part_9_7 = record part_9_6 { entries = [] }

to_part_9_7 : drop_areas (task 2) part_9_6.state ≡ part_9_7
to_part_9_7 = refl

kills_9 : kill_event state_8.kernel (task 2) ≡ done_9
kills_9 = of_parts state_8.kernel (task 2) part_9_1 part_9_2 part_9_3 part_9_4 part_9_5 part_9_6 part_9_7 to_part_9_1 to_part_9_2 to_part_9_3 to_part_9_4 to_part_9_5 to_part_9_6 to_part_9_7

event_9 : Turns state_8 (Kill (task 2)) state_9 told_9
event_9 = of_kill state_8 (task 2) done_9 refl kills_9

-- 10. step server
abbrev told_10 : List Entry
told_10 =
    entry.Gone (task 2)
    ∷ []

abbrev state_10 : RunState
state_10 =
    state (true ∷ false ∷ true ∷ false ∷ []) ((Slammed ∷ replicate 1 Free) ∷ (HungUp ∷ replicate 1 Free) ∷ (Slammed ∷ replicate 1 Free) ∷ (HungUp ∷ replicate 1 Free) ∷ [])
    ((1, call_1_answered) ∷ (3, call_3_answered) ∷ (6, call_6_forgotten) ∷ []) 7 12 (no_areas 4) 9
    (client_3 ∷ server_2 ∷ second_1 ∷ third_1 ∷ []) None

event_10 : Turns state_9 (Step (task 2)) state_10 told_10
event_10 = record { is = refl }

-- 11. step second
abbrev second_2 : AnyProgram
second_2 = after second_1 (got.Answered (call 3) (reply ehangup 0 0 0 0 0))

abbrev state_11 : RunState
state_11 =
    state (true ∷ false ∷ true ∷ false ∷ []) ((Slammed ∷ replicate 1 Free) ∷ (HungUp ∷ replicate 1 Free) ∷ (Slammed ∷ replicate 1 Free) ∷ (HungUp ∷ replicate 1 Free) ∷ [])
    ((1, call_1_answered) ∷ (6, call_6_forgotten) ∷ []) 7 12 (no_areas 4) 10
    (client_3 ∷ server_2 ∷ second_2 ∷ third_1 ∷ []) None

abbrev step_11 : TaskStep
step_11 =
    asks 3 ask.Receive
    (entry.Delivered (call 3) (task 3) ∷ [])
    (got.Answered (call 3) (reply ehangup 0 0 0 0 0)) []

event_11 : Steps state_10 step_11 state_11
event_11 = of_step state_10 step_11 state_11 second_1 refl refl (rw (entries_known, entries_known, entries_known, remove_known)) refl refl

-- 12. step client
abbrev client_4 : AnyProgram
client_4 = after client_3 (got.Answered (call 1) (reply ehangup 0 0 0 0 0))

abbrev state_12 : RunState
state_12 =
    state (true ∷ false ∷ true ∷ false ∷ []) ((Slammed ∷ replicate 1 Free) ∷ (HungUp ∷ replicate 1 Free) ∷ (Slammed ∷ replicate 1 Free) ∷ (HungUp ∷ replicate 1 Free) ∷ [])
    ((6, call_6_forgotten) ∷ []) 7 12 (no_areas 4) 11
    (client_4 ∷ server_2 ∷ second_2 ∷ third_1 ∷ []) None

abbrev step_12 : TaskStep
step_12 =
    asks 1 ask.Receive
    (entry.Delivered (call 1) (task 1) ∷ [])
    (got.Answered (call 1) (reply ehangup 0 0 0 0 0)) []

event_12 : Steps state_11 step_12 state_12
event_12 = of_step state_11 step_12 state_12 client_3 refl refl (rw (entries_known, entries_known, entries_known, remove_known)) refl refl

-- 13. step client
abbrev call_6_received : Call
call_6_received = record call_6_forgotten { place = Dispatched (task 1); stamp = 12 }

abbrev client_5 : AnyProgram
client_5 = after client_4 (got.Received (call 6) (msg 0 0 0 0 0 0) (phone 2 0))

abbrev state_13 : RunState
state_13 =
    state (true ∷ false ∷ true ∷ false ∷ []) ((Slammed ∷ replicate 1 Free) ∷ (HungUp ∷ replicate 1 Free) ∷ (Slammed ∷ replicate 1 Free) ∷ (HungUp ∷ replicate 1 Free) ∷ [])
    ((6, call_6_received) ∷ []) 7 13 (no_areas 4) 12
    (client_5 ∷ server_2 ∷ second_2 ∷ third_1 ∷ []) None

abbrev step_13 : TaskStep
step_13 =
    asks 1 ask.Receive
    (entry.Received (call 6) (task 1) ∷ [])
    (got.Received (call 6) (msg 0 0 0 0 0 0) (phone 2 0)) []

event_13 : Steps state_12 step_13 state_13
event_13 = of_step state_12 step_13 state_13 client_4 refl refl (rw (entries_known, entries_known, insert_known)) refl refl

-- 14. step client
abbrev client_6 : AnyProgram
client_6 = after client_5 got.Done

abbrev state_14 : RunState
state_14 =
    state (true ∷ false ∷ true ∷ false ∷ []) ((Slammed ∷ replicate 1 Free) ∷ (HungUp ∷ replicate 1 Free) ∷ (Slammed ∷ replicate 1 Free) ∷ (HungUp ∷ replicate 1 Free) ∷ [])
    ([]) 7 13 (no_areas 4) 13
    (client_6 ∷ server_2 ∷ second_2 ∷ third_1 ∷ []) None

abbrev step_14 : TaskStep
step_14 = asks 1 (ask.Answer 6 (reply eok 0 0 0 0 0)) (entry.Vanished (call 6) ∷ []) got.Done []

event_14 : Steps state_13 step_14 state_14
event_14 = of_step state_13 step_14 state_14 client_5 refl refl (rw (get_known, remove_known)) refl refl

-- 15. step client
abbrev call_7_sent : Call
call_7_sent = record (sent 7 (phone 1 0) (msg 516 0 0 0 0 0) (Answers (task 1)) 13) { reply = reply enoent 0 0 0 0 0 }

abbrev client_7 : AnyProgram
client_7 = after client_6 (got.Accepted (call 7))

abbrev state_15 : RunState
state_15 =
    state (true ∷ false ∷ true ∷ false ∷ []) ((Slammed ∷ replicate 1 Free) ∷ (HungUp ∷ replicate 1 Free) ∷ (Slammed ∷ replicate 1 Free) ∷ (HungUp ∷ replicate 1 Free) ∷ [])
    ((7, call_7_sent) ∷ []) 8 14 (no_areas 4) 14
    (client_7 ∷ server_2 ∷ second_2 ∷ third_1 ∷ []) None

abbrev step_15 : TaskStep
step_15 =
    asks 1 (ask.Call 0 (msg 516 0 0 0 0 0))
    (entry.Accepted (call 7) (phone 1 0) 516 None ∷ entry.Answered (call 7) (reply enoent 0 0 0 0 0) None ∷ [])
    (got.Accepted (call 7)) []

event_15 : Steps state_14 step_15 state_15
event_15 = of_step state_14 step_15 state_15 client_6 refl refl (rw (entries_known, insert_known)) refl refl

-- 16. step client
abbrev client_8 : AnyProgram
client_8 = after client_7 (got.Answered (call 7) (reply enoent 0 0 0 0 0))

abbrev state_16 : RunState
state_16 =
    state (true ∷ false ∷ true ∷ false ∷ []) ((Slammed ∷ replicate 1 Free) ∷ (HungUp ∷ replicate 1 Free) ∷ (Slammed ∷ replicate 1 Free) ∷ (HungUp ∷ replicate 1 Free) ∷ [])
    ([]) 8 14 (no_areas 4) 15
    (client_8 ∷ server_2 ∷ second_2 ∷ third_1 ∷ []) None

abbrev step_16 : TaskStep
step_16 =
    asks 1 ask.Receive
    (entry.Delivered (call 7) (task 1) ∷ [])
    (got.Answered (call 7) (reply enoent 0 0 0 0 0)) []

event_16 : Steps state_15 step_16 state_16
event_16 = of_step state_15 step_16 state_16 client_7 refl refl (rw (entries_known, entries_known, entries_known, remove_known)) refl refl

abbrev schedule : List Event
schedule =
    Step (task 1) ∷ Step (task 2) ∷ Step (task 2) ∷ Step (task 1) ∷ Step (task 1) ∷ Step (task 3) ∷ Step (task 4)
    ∷ Kill (task 4) ∷ Kill (task 2) ∷ Step (task 2) ∷ Step (task 3) ∷ Step (task 1) ∷ Step (task 1) ∷ Step (task 1)
    ∷ Step (task 1) ∷ Step (task 1) ∷ []

-- the entries of the run
pub kill : run plan schedule
    ≡ told_of step_1 ++ told_of step_2 ++ told_of step_3 ++ told_of step_4 ++ told_of step_5 ++ told_of step_6
    ++ told_of step_7 ++ told_8 ++ told_9 ++ told_10 ++ told_of step_11 ++ told_of step_12 ++ told_of step_13
    ++ told_of step_14 ++ told_of step_15 ++ told_of step_16 ++ []
kill = from_start plan schedule starts (
    of_next event_1 (of_next event_2 (of_next event_3 (of_next event_4 (of_next event_5 (of_next event_6 (
    of_next event_7 (of_next event_8 (of_next event_9 (of_next event_10 (of_next event_11 (
    of_next event_12 (of_next event_13 (of_next event_14 (of_next event_15 (of_next event_16 (
    of_none)))))))))))))))))
