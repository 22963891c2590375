-- Calls over phones that were hung up, slammed, free, or out of range.
--
--     task a raw 4
--     hangup 0
--     call 0 512
--     call 1 512
--     call 2 512
--     call 9 512
--     receive
--     receive
--     task b raw 2
--     task c raw 2
--     wire a 0 b
--     wire a 1 c
--
-- under the schedule step a, kill c, step a x 6.
use Rattle.std.proofs.Common.{◌≡◌, List, [], ◌∷◌, ◌++◌, true, false, Some, None, replicate, refl}
use Rattle.ipc_ids.specs.declared.message.PhoneState.TheVariants.{Free, Connected, HungUp, Slammed}
use Rattle.ipc_ids.specs.declared.message.Request.TheVariants as ask
use Rattle.ipc_ids.specs.declared.message.Outcome.TheVariants as got
use Rattle.ipc_ids.specs.declared.message.Event.{Event}
use Rattle.ipc_ids.specs.declared.message.Event.TheVariants.{Step, Kill}
use Rattle.ipc_ids.specs.declared.entry.Entry.{Entry}
use Rattle.ipc_ids.specs.declared.entry.Entry.TheVariants as entry
use Rattle.ipc_ids.specs.declared.op.Value.TheVariants.{Number}
use Rattle.ipc_ids.specs.declared.op.Op.TheVariants as op
use Rattle.ipc_ids.specs.Codes.{enoent, ehangup}
use Rattle.call_slab.specs.declared.call.Call.{Call}
use Rattle.call_slab.specs.declared.call.Place.TheVariants.{Incoming, Answers}
use Rattle.task_system.specs.declared.any.AnyProgram.{AnyProgram}
use Rattle.script_lines.specs.declared.plan.TaskPlan.{TaskPlan}
use Rattle.script_lines.specs.Plan.{Plan}
use Rattle.task_system.specs.Any.{after}
use Rattle.task_system.specs.Run.{run, start, program_of, RunState}
use Rattle.replay_examples.proofs.KnownMaps.{empty_known, entries_known, insert_known, remove_known}
use Rattle.replay_examples.proofs.RunWords.{task, call, phone, msg, reply, raw, wire, sent, no_areas, state, Turns, of_none, of_next, of_step, of_kill, of_parts, kernel, from_start, TaskStep, asks, told_of, Steps}
use Rattle.cleanup.specs.Kill.{hang_up_own_phones, slam_phones_to, settle_incoming, settle_dispatched, drop_answers, forget_calls_elsewhere, drop_areas}
use Rattle.switchboard.specs.State.{mark_ended, Transition}
use Rattle.kernel_core.specs.Kernel.{kill_event}

abbrev a_plan : TaskPlan
a_plan =
    raw 4
    (op.Hangup (Number 0)
    ∷ op.Call (Number 0) (Number 512) (Number 0 ∷ Number 0 ∷ Number 0 ∷ Number 0 ∷ Number 0 ∷ [])
    ∷ op.Call (Number 1) (Number 512) (Number 0 ∷ Number 0 ∷ Number 0 ∷ Number 0 ∷ Number 0 ∷ [])
    ∷ op.Call (Number 2) (Number 512) (Number 0 ∷ Number 0 ∷ Number 0 ∷ Number 0 ∷ Number 0 ∷ [])
    ∷ op.Call (Number 9) (Number 512) (Number 0 ∷ Number 0 ∷ Number 0 ∷ Number 0 ∷ Number 0 ∷ [])
    ∷ op.Receive
    ∷ op.Receive
    ∷ [])

abbrev b_plan : TaskPlan
b_plan =
    raw 2
    []

abbrev c_plan : TaskPlan
c_plan =
    raw 2
    []

abbrev plan : Plan
plan = record {
  tasks = a_plan ∷ b_plan ∷ c_plan ∷ [];
  wires = wire 1 0 2 ∷ wire 1 1 3 ∷ [];
  templates = [];
}

abbrev a_0 : AnyProgram
a_0 = program_of 1 (a_plan)

abbrev b_0 : AnyProgram
b_0 = program_of 2 (b_plan)

abbrev c_0 : AnyProgram
c_0 = program_of 3 (c_plan)

abbrev state_0 : RunState
state_0 =
    state (true ∷ true ∷ true ∷ []) ((Connected (task 2) ∷ Connected (task 3) ∷ replicate 2 Free) ∷ (replicate 2 Free) ∷ (replicate 2 Free) ∷ [])
    ([]) 1 1 (no_areas 3) 0
    (a_0 ∷ b_0 ∷ c_0 ∷ []) None

starts : start plan ≡ state_0
starts = rw (empty_known, empty_known)

-- 1. step a
abbrev call_1_sent : Call
call_1_sent = record (sent 1 (phone 1 0) (msg 0 0 0 0 0 0) (Incoming (task 2)) 1) { discard = true }

abbrev a_1 : AnyProgram
a_1 = after a_0 got.Done

abbrev state_1 : RunState
state_1 =
    state (true ∷ true ∷ true ∷ []) ((HungUp ∷ Connected (task 3) ∷ replicate 2 Free) ∷ (replicate 2 Free) ∷ (replicate 2 Free) ∷ [])
    ((1, call_1_sent) ∷ []) 2 2 (no_areas 3) 1
    (a_1 ∷ b_0 ∷ c_0 ∷ []) None

abbrev step_1 : TaskStep
step_1 =
    asks 1 (ask.Hangup 0)
    (entry.Accepted (call 1) (phone 1 0) 0 (Some (task 2)) ∷ entry.PhoneIs (phone 1 0) HungUp ∷ [])
    got.Done []

event_1 : Steps state_0 step_1 state_1
event_1 = of_step state_0 step_1 state_1 a_0 refl refl (rw insert_known) refl refl

-- 2. kill c
abbrev state_2 : RunState
state_2 =
    state (true ∷ true ∷ false ∷ []) ((HungUp ∷ Slammed ∷ replicate 2 Free) ∷ (replicate 2 Free) ∷ (replicate 2 Free) ∷ [])
    ((1, call_1_sent) ∷ []) 2 2 (no_areas 3) 2
    (a_1 ∷ b_0 ∷ c_0 ∷ []) None

abbrev done_2 : Transition
done_2 = record {
  state = state_2.kernel;
  entries =
      entry.PhoneIs (phone 1 1) Slammed
      ∷ [];
}

abbrev told_2 : List Entry
told_2 = entry.Kill (task 3) ∷ done_2.entries

abbrev part_2_1 : Transition
part_2_1 = record {
  state = kernel (true ∷ true ∷ false ∷ []) ((HungUp ∷ Connected (task 3) ∷ replicate 2 Free) ∷ (replicate 2 Free) ∷ (replicate 2 Free) ∷ []) ((1, call_1_sent) ∷ []) 2 2 (no_areas 3) 1;
  entries = [];
}

to_part_2_1 : hang_up_own_phones (task 3) (mark_ended state_1.kernel (task 3)) ≡ part_2_1
to_part_2_1 = refl

abbrev part_2_2 : Transition
part_2_2 = record {
  state = kernel (true ∷ true ∷ false ∷ []) ((HungUp ∷ Slammed ∷ replicate 2 Free) ∷ (replicate 2 Free) ∷ (replicate 2 Free) ∷ []) ((1, call_1_sent) ∷ []) 2 2 (no_areas 3) 1;
  entries = entry.PhoneIs (phone 1 1) Slammed ∷ [];
}

to_part_2_2 : slam_phones_to (task 3) part_2_1.state ≡ part_2_2
to_part_2_2 = refl

abbrev part_2_3 : Transition
part_2_3 = record part_2_2 { entries = [] }

to_part_2_3 : settle_incoming (task 3) part_2_2.state ≡ part_2_3
to_part_2_3 = rw entries_known

abbrev part_2_4 : Transition
part_2_4 = record part_2_3 { entries = [] }

to_part_2_4 : settle_dispatched (task 3) part_2_3.state ≡ part_2_4
to_part_2_4 = rw entries_known

abbrev part_2_5 : Transition
part_2_5 = record part_2_4 { entries = [] }

to_part_2_5 : drop_answers (task 3) part_2_4.state ≡ part_2_5
to_part_2_5 = rw entries_known

abbrev part_2_6 : Transition
part_2_6 = record part_2_5 { entries = [] }

to_part_2_6 : forget_calls_elsewhere (task 3) part_2_5.state ≡ part_2_6
to_part_2_6 = rw entries_known

abbrev part_2_7 : Transition
part_2_7 = record part_2_6 { entries = [] }

to_part_2_7 : drop_areas (task 3) part_2_6.state ≡ part_2_7
to_part_2_7 = refl

kills_2 : kill_event state_1.kernel (task 3) ≡ done_2
kills_2 = of_parts state_1.kernel (task 3) part_2_1 part_2_2 part_2_3 part_2_4 part_2_5 part_2_6 part_2_7 to_part_2_1 to_part_2_2 to_part_2_3 to_part_2_4 to_part_2_5 to_part_2_6 to_part_2_7

event_2 : Turns state_1 (Kill (task 3)) state_2 told_2
event_2 = of_kill state_1 (task 3) done_2 refl kills_2

-- 3. step a
abbrev call_2_sent : Call
call_2_sent = record (sent 2 (phone 1 0) (msg 512 0 0 0 0 0) (Answers (task 1)) 2) { reply = reply ehangup 0 0 0 0 0 }

abbrev a_2 : AnyProgram
a_2 = after a_1 (got.Accepted (call 2))

abbrev state_3 : RunState
state_3 =
    state (true ∷ true ∷ false ∷ []) ((HungUp ∷ Slammed ∷ replicate 2 Free) ∷ (replicate 2 Free) ∷ (replicate 2 Free) ∷ [])
    ((1, call_1_sent) ∷ (2, call_2_sent) ∷ []) 3 3 (no_areas 3) 3
    (a_2 ∷ b_0 ∷ c_0 ∷ []) None

abbrev step_3 : TaskStep
step_3 =
    asks 1 (ask.Call 0 (msg 512 0 0 0 0 0))
    (entry.Accepted (call 2) (phone 1 0) 512 None ∷ entry.Answered (call 2) (reply ehangup 0 0 0 0 0) None ∷ [])
    (got.Accepted (call 2)) []

event_3 : Steps state_2 step_3 state_3
event_3 = of_step state_2 step_3 state_3 a_1 refl refl (rw (entries_known, insert_known)) refl refl

-- 4. step a
abbrev call_3_sent : Call
call_3_sent = record (sent 3 (phone 1 1) (msg 512 0 0 0 0 0) (Answers (task 1)) 3) { reply = reply enoent 0 0 0 0 0 }

abbrev a_3 : AnyProgram
a_3 = after a_2 (got.Accepted (call 3))

abbrev state_4 : RunState
state_4 =
    state (true ∷ true ∷ false ∷ []) ((HungUp ∷ Slammed ∷ replicate 2 Free) ∷ (replicate 2 Free) ∷ (replicate 2 Free) ∷ [])
    ((1, call_1_sent) ∷ (2, call_2_sent) ∷ (3, call_3_sent) ∷ []) 4 4 (no_areas 3) 4
    (a_3 ∷ b_0 ∷ c_0 ∷ []) None

abbrev step_4 : TaskStep
step_4 =
    asks 1 (ask.Call 1 (msg 512 0 0 0 0 0))
    (entry.Accepted (call 3) (phone 1 1) 512 None ∷ entry.Answered (call 3) (reply enoent 0 0 0 0 0) None ∷ [])
    (got.Accepted (call 3)) []

event_4 : Steps state_3 step_4 state_4
event_4 = of_step state_3 step_4 state_4 a_2 refl refl (rw (entries_known, insert_known)) refl refl

-- 5. step a
abbrev a_4 : AnyProgram
a_4 = after a_3 (got.Refused enoent)

abbrev state_5 : RunState
state_5 =
    state (true ∷ true ∷ false ∷ []) ((HungUp ∷ Slammed ∷ replicate 2 Free) ∷ (replicate 2 Free) ∷ (replicate 2 Free) ∷ [])
    ((1, call_1_sent) ∷ (2, call_2_sent) ∷ (3, call_3_sent) ∷ []) 4 4 (no_areas 3) 5
    (a_4 ∷ b_0 ∷ c_0 ∷ []) None

abbrev step_5 : TaskStep
step_5 = asks 1 (ask.Call 2 (msg 512 0 0 0 0 0)) [] (got.Refused enoent) []

event_5 : Steps state_4 step_5 state_5
event_5 = of_step state_4 step_5 state_5 a_3 refl refl refl refl refl

-- 6. step a
abbrev a_5 : AnyProgram
a_5 = after a_4 (got.Refused enoent)

abbrev state_6 : RunState
state_6 =
    state (true ∷ true ∷ false ∷ []) ((HungUp ∷ Slammed ∷ replicate 2 Free) ∷ (replicate 2 Free) ∷ (replicate 2 Free) ∷ [])
    ((1, call_1_sent) ∷ (2, call_2_sent) ∷ (3, call_3_sent) ∷ []) 4 4 (no_areas 3) 6
    (a_5 ∷ b_0 ∷ c_0 ∷ []) None

abbrev step_6 : TaskStep
step_6 = asks 1 (ask.Call 9 (msg 512 0 0 0 0 0)) [] (got.Refused enoent) []

event_6 : Steps state_5 step_6 state_6
event_6 = of_step state_5 step_6 state_6 a_4 refl refl refl refl refl

-- 7. step a
abbrev a_6 : AnyProgram
a_6 = after a_5 (got.Answered (call 2) (reply ehangup 0 0 0 0 0))

abbrev state_7 : RunState
state_7 =
    state (true ∷ true ∷ false ∷ []) ((HungUp ∷ Slammed ∷ replicate 2 Free) ∷ (replicate 2 Free) ∷ (replicate 2 Free) ∷ [])
    ((1, call_1_sent) ∷ (3, call_3_sent) ∷ []) 4 4 (no_areas 3) 7
    (a_6 ∷ b_0 ∷ c_0 ∷ []) None

abbrev step_7 : TaskStep
step_7 =
    asks 1 ask.Receive
    (entry.Delivered (call 2) (task 1) ∷ [])
    (got.Answered (call 2) (reply ehangup 0 0 0 0 0)) []

event_7 : Steps state_6 step_7 state_7
event_7 = of_step state_6 step_7 state_7 a_5 refl refl (rw (entries_known, entries_known, entries_known, remove_known)) refl refl

-- 8. step a
abbrev a_7 : AnyProgram
a_7 = after a_6 (got.Answered (call 3) (reply enoent 0 0 0 0 0))

abbrev state_8 : RunState
state_8 =
    state (true ∷ true ∷ false ∷ []) ((HungUp ∷ Slammed ∷ replicate 2 Free) ∷ (replicate 2 Free) ∷ (replicate 2 Free) ∷ [])
    ((1, call_1_sent) ∷ []) 4 4 (no_areas 3) 8
    (a_7 ∷ b_0 ∷ c_0 ∷ []) None

abbrev step_8 : TaskStep
step_8 =
    asks 1 ask.Receive
    (entry.Delivered (call 3) (task 1) ∷ [])
    (got.Answered (call 3) (reply enoent 0 0 0 0 0)) []

event_8 : Steps state_7 step_8 state_8
event_8 = of_step state_7 step_8 state_8 a_6 refl refl (rw (entries_known, entries_known, entries_known, remove_known)) refl refl

abbrev schedule : List Event
schedule =
    Step (task 1) ∷ Kill (task 3) ∷ Step (task 1) ∷ Step (task 1) ∷ Step (task 1) ∷ Step (task 1) ∷ Step (task 1)
    ∷ Step (task 1) ∷ []

-- the entries of the run
pub row6 : run plan schedule
    ≡ told_of step_1 ++ told_2 ++ told_of step_3 ++ told_of step_4 ++ told_of step_5 ++ told_of step_6 ++ told_of step_7
    ++ told_of step_8 ++ []
row6 = from_start plan schedule starts (
    of_next event_1 (of_next event_2 (of_next event_3 (of_next event_4 (of_next event_5 (of_next event_6 (
    of_next event_7 (of_next event_8 (of_none)))))))))
